use Rattle.std.proofs.Common.{◌∙◌, ap, ◌≤◌, length, take}
use native.Mathlib.Omega.{arith}
use Rattle.table.specs.declared.Kept.{Kept}
use Rattle.predict.specs.declared.Sort.TheVariants.{Alive, Initializing, Dead}
use Rattle.predict.specs.Step.{predict_table, predict_floats}
use Rattle.predict.proofs.Composing.{few, front_few, floats_room, kept_ranges, sorted, records_predicted, floats_predicted}
use Rattle.predict.proofs.predict_table.Goals as goal
use Rattle.predict.proofs.predict_table.Goals.{After-drop_gone}

-- the records that stay, as a front of the array
front : (c : After-drop_gone)
    → (c.drop_gone.new.kept.count ≤ 64) × (c.drop_gone.new.kept.count ≤ length c.drop_gone.new.kept.records) × (length (take c.drop_gone.new.kept.count c.drop_gone.new.kept.records) ≤ 64)
front c =
    let t = c.args.t in
    let e = c.drop_gone.ensures in
    front_few t.config t.counts.records t.records c.args.s.now c.requires.room e.value e.s_after c.requires.fit (omega (arith, c.requires.fit))

pub shared_ref_as_front-in_table : goal.shared_ref_as_front-in_table
shared_ref_as_front-in_table c = (front (goal.at.shared_ref_as_front-in_table c).After-drop_gone).0

pub sort_out-requires : goal.sort_out-requires
sort_out-requires c = (front (goal.at.sort_out-requires c).After-drop_gone).2

pub sort_out-requires-2 : goal.sort_out-requires-2
sort_out-requires-2 c = (front (goal.at.sort_out-requires-2 c).After-drop_gone).2

pub sort_out-requires-3 : goal.sort_out-requires-3
sort_out-requires-3 c = (front (goal.at.sort_out-requires-3 c).After-drop_gone).2

pub predict_each-requires : goal.predict_each-requires
predict_each-requires c =
    let t = c.args.t in
    let e = c.drop_gone.ensures in
    let fewer = few t.config t.counts.records t.records c.args.s.now c.requires.room e.value e.s_after in (
      omega (arith, fewer, c.requires.fit),
      floats_room t.config t.counts.records t.records c.args.s.now c.requires.room e.value e.s_after,
      kept_ranges t.config t.counts.records t.records c.args.s.now c.requires.room e.value e.s_after c.requires.ranges,
    )

pub returns-clause-value : goal.returns-clause-value
unfolding predict_table
returns-clause-value c =
    let t = c.args.t in
    let e = c.drop_gone.ensures in
    let places = sorted t.config t.counts.records t.records c.args.s.now c.requires.room e.value e.s_after in
    let inside = (front (goal.at.returns-clause-value c).After-drop_gone).1 in
    rw (
      ap (λ (k : Kept). k.count) e.value,
      c.predict_each.ensures.records_after ∙ records_predicted t.config t.counts.records t.records c.args.s.now c.requires.room e.value e.s_after,
      c.sort_out.ensures ∙ places Alive inside,
      c.sort_out-2.ensures ∙ places Initializing inside,
      c.sort_out-3.ensures ∙ places Dead inside,
      c.no_lists.ensures,
    )

pub returns-clause-s_after : goal.returns-clause-s_after
unfolding predict_floats
returns-clause-s_after c =
    let t = c.args.t in
    let e = c.drop_gone.ensures in
    c.predict_each.ensures.s_after ∙ floats_predicted t.config t.counts.records t.records c.args.s.now c.requires.room e.value e.s_after
