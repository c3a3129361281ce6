-- Each opening finds room behind the records, and makes the next state.
use Rattle.std.proofs.Common.{◌≡◌, refl, arith, length}
use lib.Seq.{length-take-le}
use Rattle.laws.specs.Turns.{through}
use Rattle.passes.specs.Checks.{lent_frame}
use Rattle.passes.specs.Passes.{numbers}
use Rattle.matching_step.proofs.PutBack.{found, put_found}
use Rattle.matching_step.proofs.Opening.{Openable, openable, turn_counts, turn_long, turn_room, turn_next}
use Rattle.matching_step.proofs.changing.open_each.Goals as goal
use Rattle.matching_step.proofs.changing.open_each.Goals.{In-loop-d}

-- there is room for all
ready : (c : In-loop-d)
    → Openable c.args.settings.config (lent_frame c.args.f) c.args.s.now (found c.args.settings.config c.args.stepped.now.records c.args.s.now c.args.stepped.now.counts) (numbers c.args.left.now)
ready c = openable c.args.s.now c.args.stepped.now.records c.args.stepped.now.counts c.args.left.now c.requires.0 (omega arith) c.requires.3 c.requires.2

count : (c : In-loop-d) → length (numbers c.args.left.now) ≡ c.args.left.now.count
count c = length-take-le c.args.left.now.count c.args.left.now.at (omega arith)

pub loop-d-init : goal.loop-d-init
unfolding through
loop-d-init c = put_found c.args.settings.config c.args.stepped.now.records c.args.s.now c.args.stepped.now.counts (omega arith)

pub open_at-changed-requires : goal.open_at-changed-requires
open_at-changed-requires c =
    let l = (goal.at.open_at-changed-requires c).In-loop-d in
    let i = c.loop-d.d-index in
    let long = turn_long (ready l) i (omega arith) c.loop-d.invariant in
    (c.requires.0, (ready l).few i c.loop-d-test.true, rw long (turn_room (ready l) i (omega arith) c.loop-d.invariant c.loop-d-test.true))

pub offset_bounds-stepped-k : goal.offset_bounds-stepped-k
offset_bounds-stepped-k c =
    let l = (goal.at.offset_bounds-stepped-k c).In-loop-d in
    let so_far = turn_counts (ready l) c.loop-d.d-index (omega arith) c.loop-d.invariant in
    record { fits = omega (arith, count l) }

pub bounds-stepped-k : goal.bounds-stepped-k
bounds-stepped-k c =
    let l = (goal.at.bounds-stepped-k c).In-loop-d in
    let so_far = turn_counts (ready l) c.loop-d.d-index (omega arith) c.loop-d.invariant in
    omega (arith, count l)

pub count_opening-stepped-requires : goal.count_opening-stepped-requires
count_opening-stepped-requires c =
    let l = (goal.at.count_opening-stepped-requires c).In-loop-d in
    let so_far = turn_counts (ready l) c.loop-d.d-index (omega arith) c.loop-d.invariant in
    omega (arith, count l)

pub loop-d-preserved : goal.loop-d-preserved
loop-d-preserved c =
    let l = (goal.at.loop-d-preserved c).In-loop-d in
    let next = turn_next (ready l) c.loop-d.d-index (omega arith) c.loop-d.invariant c.loop-d-test.true (omega (arith, count l)) refl in
    rw c.count_opening-stepped.ensures (next c.open_at-changed.ensures.value c.open_at-changed.ensures.s_after)
