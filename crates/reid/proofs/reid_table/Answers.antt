use Rattle.reid.specs.Step.{reid_table}
use Rattle.reid.proofs.Places.{merges_bounded}
use Rattle.reid.proofs.Composing.{count_after, records_after, floats_after}
use Rattle.reid.proofs.reid_table.Goals as goal

pub merge_each-records-requires : goal.merge_each-records-requires
merge_each-records-requires c =
    let p = c.requires in
    let n = merges_bounded c.args.t c.args.distances.now p.meets c.decide-places.ensures in
    (p.fit, p.room, p.ranges, n.few, n.rows, n.cols)

-- the drop finds the slots that the merges put back
pub returns : goal.returns
unfolding reid_table
returns c =
    let a = c.args in
    let decided = c.decide-places.ensures in
    let merged = c.merge_each-records.ensures in
    let kept = c.drop_absorbed.ensures in
    record {
      value =
          rw (
            records_after a.t a.s.now a.distances.now c.requires decided merged.value merged.s_after kept.value kept.s_after,
            count_after a.t a.s.now a.distances.now c.requires decided merged.value merged.s_after kept.value kept.s_after,
            c.no_lists.ensures,
          );
      s_after = floats_after a.t a.s.now a.distances.now c.requires decided merged.value merged.s_after kept.value kept.s_after;
    }
