-- One turn: a record that stays goes behind those kept so far, and its block behind theirs.
use Rattle.std.proofs.Common.{ap, ◌∙◌, arith}
use Rattle.laws.proofs.Elements.{get_or-any}
use Rattle.parts.specs.declared.block.Layout.{Layout}
use Rattle.table.proofs.Moving.{none_moved, moves_down, block_fits_in, long, unmoved, leaves, stays}
use Rattle.table.proofs.staying.move_staying.Goals as goal
use Rattle.table.proofs.staying.move_staying.Goals.{then-stays-i, else-stays-i}

pub loop-i-init : goal.loop-i-init
loop-i-init c = none_moved _ _ _ _

pub move_down-requires : goal.move_down-requires
move_down-requires c =
    let down = moves_down c.loop-i.invariant (ap (λ (r : Layout). r.size) c.layout_of-size.ensures) c.requires.1 c.loop-i-test.true in
    (down.0, omega (arith, down.1))

pub loop-i-preserved : goal.loop-i-preserved
loop-i-preserved c =
    let m = c.loop-i.invariant in
    let i = c.loop-i.i in
    let fits = block_fits_in c.args.s.now i (ap (λ (r : Layout). r.size) c.layout_of-size.ensures) c.requires.1 c.loop-i-test.true in
    elim c.if-stays-i.branch [
      | then-stays-i w ↦
          rw (w.kept-is, w.s-is) (stays m w.if-stays-i.true fits (omega arith) (get_or-any c.loop-i.kept.records i _ _ (omega (arith, long m (omega arith))) ∙ unmoved m) w.move_down.ensures)
      | else-stays-i w ↦ rw (w.kept-is, w.s-is) (leaves m w.if-stays-i.false)
    ]
