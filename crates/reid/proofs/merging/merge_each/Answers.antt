use Rattle.std.proofs.Common.{arith}
use Rattle.laws.specs.Lists.{below}
use Rattle.laws.specs.Turns.{through}
use Rattle.matching.proofs.Picked.{pick_at, picks_next}
use Rattle.parts.specs.Layout.{block_size}
use Rattle.table.specs.Slots.{slots}
use Rattle.table.proofs.Reading.{blank, eights}
use Rattle.reid.specs.Step.{merge_one}
use Rattle.reid.proofs.Absorbing.{put_found, put_range, put_inside, put_merged}
use Rattle.reid.proofs.merging.merge_each.Goals as goal

pub loop-i-init : goal.loop-i-init
unfolding below through
loop-i-init c =
    let a = c.args in
    put_found a.settings.config a.n a.records a.s.now (omega arith) c.requires.1 c.requires.2 (eights 64 a.records _ c.well_formed.1.0)

-- the pick names records of the table
pub merge_at-next-requires : goal.merge_at-next-requires
merge_at-next-requires c =
    let p = c.requires in
    let put = c.loop-i.invariant in
    let row = p.4 c.loop-i.i c.loop-i-test.true in
    let col = p.5 c.loop-i.i c.loop-i-test.true in
    (put_range put _ row blank, put_range put _ col blank, put_inside put _ row p.1, put_inside put _ col p.1)

pub loop-i-preserved : goal.loop-i-preserved
loop-i-preserved c =
    let a = c.args in
    let i = c.loop-i.i in
    let p = c.requires in
    let row = p.4 i c.loop-i-test.true in
    let col = p.5 i c.loop-i-test.true in
    let merged = c.merge_at-next.ensures in
    rw (picks_next (merge_one a.settings.config) a.places.now i (slots (block_size a.settings.config) a.records a.s.now a.n))
    (put_merged c.loop-i.invariant a.settings.sizes (pick_at a.places.now i) blank row col merged.value merged.s_after)
