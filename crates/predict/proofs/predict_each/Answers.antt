use Rattle.std.proofs.Common.{◌≡◌, ◌∙◌, sym, refl, ap, ◌+◌, ◌-◌, ◌*◌}
use native.Mathlib.Nat.{zero-mul}
use native.Mathlib.Omega.{arith}
use native.Mathlib.Numerals.{add-one}
use borrow.Rule.Slice.PartAt.{part_count}
use Rattle.parts.specs.declared.block.Layout.{Layout}
use Rattle.tracked_object.specs.Object.{object_predicted}
use Rattle.table.specs.Slots.{slots, blocks_of}
use Rattle.table.proofs.Reading.{read}
use Rattle.predict.proofs.Predicting.{records_long, floats_long, block_inside, record_unmoved, record_predicted, block_predicted_lem}
use Rattle.predict.proofs.predict_each.Goals as goal

pub loop-i-init : goal.loop-i-init
unfolding slots blocks_of
loop-i-init c = (refl, rw zero-mul)

-- the block lies in the floats
pub slice_bounds-predict-end : goal.slice_bounds-predict-end
slice_bounds-predict-end c =
    let a = c.args in
    let size = ap (λ (r : Layout). r.size) c.layout_of-size.ensures in
    let inside = block_inside a.settings.config a.records.now a.s.now c.loop-i.i size c.loop-i-test.true c.requires.1 in
    let long = floats_long a.settings.config a.records.now a.s.now c.loop-i.i (omega arith) c.requires.1 c.loop-i.invariant.1 in
    omega (arith, inside, long)

pub predict-requires : goal.predict-requires
predict-requires c =
    let a = c.args in
    let size = ap (λ (r : Layout). r.size) c.layout_of-size.ensures in
    let inside = block_inside a.settings.config a.records.now a.s.now c.loop-i.i size c.loop-i-test.true c.requires.1 in
    let long = floats_long a.settings.config a.records.now a.s.now c.loop-i.i (omega arith) c.requires.1 c.loop-i.invariant.1 in
    let longs = records_long a.settings.config a.records.now a.s.now c.loop-i.i (omega arith) c.loop-i.invariant.0 in
    let start = c.loop-i.i * c.layout_of-size.result.size in
    let part : start + c.layout_of-size.result.size - start ≡ c.layout_of-size.result.size = omega arith in
    let here = read c.loop-i.records c.loop-i.i (omega arith) ∙ record_unmoved a.settings.config a.records.now a.s.now c.loop-i.i c.loop-i.invariant.0 in (
      rw here (c.requires.2 c.loop-i.i c.loop-i-test.true),
      sym (part_count c.loop-i.s start (start + c.layout_of-size.result.size) (omega arith, omega arith)) ∙ part ∙ size,
    )

pub loop-i-preserved : goal.loop-i-preserved
loop-i-preserved c =
    let a = c.args in
    let size = ap (λ (r : Layout). r.size) c.layout_of-size.ensures in
    let inside = block_inside a.settings.config a.records.now a.s.now c.loop-i.i size c.loop-i-test.true c.requires.1 in
    let longs = records_long a.settings.config a.records.now a.s.now c.loop-i.i (omega arith) c.loop-i.invariant.0 in
    let here = read c.loop-i.records c.loop-i.i (omega arith) ∙ record_unmoved a.settings.config a.records.now a.s.now c.loop-i.i c.loop-i.invariant.0 in
    let object = c.predict.ensures.value ∙ ap (object_predicted a.settings.config) here in (
      rw add-one (record_predicted a.settings.config a.records.now a.s.now c.loop-i.i (omega arith) c.loop-i.invariant.0 object),
      rw add-one (block_predicted_lem a.settings.config a.records.now a.s.now c.loop-i.i size inside c.loop-i.invariant.1 c.predict.ensures.s_after refl),
    )
