-- A turn puts in coordinate j what the call makes of it, which is what f does.
use Rattle.std.proofs.Common.{refl}
use Rattle.laws.specs.Turns.{turns}
use Rattle.laws.proofs.Turns.{turns_next}
use Rattle.filter.specs.Block.{turn}
use Rattle.filter.proofs.change_each.Goals as goal

pub loop-j-init : goal.loop-j-init
unfolding turns
loop-j-init g c f agrees = refl

pub loop-j-preserved : goal.loop-j-preserved
loop-j-preserved g c f agrees =
    let loop = c.loop-j in
    let made = agrees loop.j c.read.result c.step.result c.loop-j-test.true c.step.ensures in
    turns_next (turn f c.args.n) loop.j c.args.block.now (cc) (loop.invariant f agrees)
