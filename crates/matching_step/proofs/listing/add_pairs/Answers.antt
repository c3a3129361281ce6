-- The pair that is put is that of pick i, whose record is read out of the table.
use Rattle.std.proofs.Common.{◌∙◌, sym, ap, take, arith}
use mathlib.Core.List.{append-nil}
use lib.ListN.{get_or}
use lib.Seq.{length-take-le}
use Rattle.laws.specs.Lists.{below, filled}
use Rattle.table.proofs.Reading.{read}
use Rattle.passes.specs.Checks.{lent_frame}
use Rattle.matching_step.specs.Step.{pair_of, no_pair}
use Rattle.matching_step.proofs.Pairing.{pair_put}
use Rattle.matching_step.proofs.listing.add_pairs.Goals as goal

pub loop-i-init : goal.loop-i-init
unfolding below
loop-i-init c = c.requires.6 ∙ ap (filled 32 no_pair) (sym (append-nil (take c.args.start c.args.pairs)))

pub loop-i-preserved : goal.loop-i-preserved
loop-i-preserved c =
    let a = c.args in
    let i = c.loop-i.i in
    let picks = a.picks.now in
    let front = length-take-le a.start a.pairs (omega arith) in
    let col = c.requires.5 i c.loop-i-test.true in
    let object = read a.records.now (get_or picks.cols i 0) (omega arith) in
    pair_put (take a.start a.pairs) (pair_of a.records.now (lent_frame a.f) a.n a.pass) picks i 32 no_pair (omega arith) (omega arith) c.loop-i.invariant
    (rw object)
