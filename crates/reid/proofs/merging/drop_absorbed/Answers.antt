use Rattle.std.proofs.Common.{Bool, not, ap, ◌∙◌, take, eqb, arith}
use Rattle.std.proofs.Math.ListN.{length-set}
use Rattle.laws.proofs.Search.{any_is_list_any}
use Rattle.parts.specs.Layout.{block_size}
use Rattle.laws.proofs.Standing.{flagged_next}
use Rattle.reid.proofs.Dropping.{stays, as_staying}
use Rattle.reid.proofs.merging.drop_absorbed.Goals as goal

pub loop-i-preserved : goal.loop-i-preserved
loop-i-preserved c =
    let i = c.loop-i.i-counter in
    let leaving = take c.args.places.now.count c.args.places.now.rows in
    let told = ap not (c.contains.ensures.value ∙ any_is_list_any (λ y. eqb y i) leaving) in
    (omega (arith, length-set {A = Bool}), flagged_next (stays leaving) c.loop-i.stays i (omega arith) told c.loop-i.invariant.1)

pub returns : goal.returns
returns c =
    let a = c.args in
    let leaving = take a.places.now.count a.places.now.rows in
    let same = as_staying leaving c.loop-i.stays (block_size a.settings.config) a.kept.now.records a.s.now a.kept.now.count c.loop-i-test.false c.loop-i.invariant.1 in
    let kept = c.move_staying.ensures in
    record { value = kept.value ∙ rw same; s_after = kept.s_after ∙ rw same }
