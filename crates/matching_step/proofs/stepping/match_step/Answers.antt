-- Pass 1, pass 2 and the opening, each on what the part before put back.
use Rattle.std.proofs.Common.{arith, length}
use Rattle.matching.proofs.Picked.{picked_of}
use Rattle.passes.specs.Checks.{lent_frame}
use Rattle.matching_step.specs.Step.{second_hits, after_first, after_second, after_opening, match_floats}
use Rattle.matching_step.proofs.Again.{counted_again, holds_again}
use Rattle.matching_step.proofs.Chain.{first_rows, first_cols, second_rows, second_cols, left_below, stands_after_first, stands_after_second, permanent_first, permanent_second, opened_second, global_second, initializing_second, put_first, put_second, put_third, table_is}
use Rattle.matching_step.proofs.Deciding.{few_hits}
use Rattle.matching_step.proofs.PutBack.{Put, put_long}
use Rattle.matching_step.proofs.stepping.match_step.Goals as goal
use Rattle.matching_step.proofs.stepping.match_step.Goals.{After-hit_each, After-hit_each-2, After-open_each}

-- ---- what each part put back

first : (c : After-hit_each)
    → let t = c.args.t.now in
    Put t.config t.records c.args.s.now (after_first t c.args.s.now (length c.args.f.has_scores.now) (lent_frame c.args.f))
    c.hit_each.new.stepped.records c.hit_each.new.stepped.counts c.hit_each.new.s
first c =
    put_first c.args.t.now c.args.s.now (lent_frame c.args.f) c.requires.0 c.requires.1 c.hit_each.ensures.value c.hit_each.ensures.s_after

second : (c : After-hit_each-2)
    → let t = c.args.t.now in
    Put t.config t.records c.args.s.now (after_second t c.args.s.now (length c.args.f.has_scores.now) (lent_frame c.args.f))
    c.hit_each-2.new.stepped.records c.hit_each-2.new.stepped.counts c.hit_each-2.new.s
second c =
    let t = c.args.t.now in
    let s = c.args.s.now in
    let f = lent_frame c.args.f in
    let one = put_first t s f c.requires.0 c.requires.1 c.hit_each.ensures.value c.hit_each.ensures.s_after in
    put_second t s f c.requires.0 c.requires.1 one c.hit_each-2.ensures.value c.hit_each-2.ensures.s_after

third : (c : After-open_each)
    → let t = c.args.t.now in
    Put t.config t.records c.args.s.now (after_opening t c.args.s.now (length c.args.f.has_scores.now) (lent_frame c.args.f))
    c.open_each.new.stepped.records c.open_each.new.stepped.counts c.open_each.new.s
third c =
    let t = c.args.t.now in
    let s = c.args.s.now in
    let f = lent_frame c.args.f in
    let one = put_first t s f c.requires.0 c.requires.1 c.hit_each.ensures.value c.hit_each.ensures.s_after in
    let two = put_second t s f c.requires.0 c.requires.1 one c.hit_each-2.ensures.value c.hit_each-2.ensures.s_after in
    put_third t s f c.requires.0 c.requires.1 two c.open_each.ensures.value c.open_each.ensures.s_after

-- ---- what each part leans on

pub hit_each-requires : goal.hit_each-requires
hit_each-requires c =
    let t = c.args.t.now in
    let r = c.requires.0 in
    let f = lent_frame c.args.f in
    let n = length c.args.f.has_scores.now in (
      r.fits,
      r.holding,
      r.decidable.distances,
      rw c.requires.1 (omega (arith, few_hits t n f, r.decidable.few)),
      rw c.requires.1 (first_rows t n f),
      rw c.requires.1 (first_cols t n f),
      omega (arith, r.permanent),
    )

pub hit_each-requires-2 : goal.hit_each-requires-2
hit_each-requires-2 c =
    let t = c.args.t.now in
    let r = c.requires.0 in
    let f = lent_frame c.args.f in
    let n = length c.args.f.has_scores.now in
    let put = first (goal.at.hit_each-requires-2 c).After-hit_each in
    let stands = stands_after_first t c.args.s.now f r in
    let same = counted_again stands put in (
      r.fits,
      holds_again stands put r.holding,
      rw same r.decidable.distances,
      rw c.requires.1 (omega (arith, few_hits t n f, r.decidable.few)),
      rw c.requires.1 (second_rows t n f),
      rw (same, c.requires.1) (second_cols t n f),
      rw put.counts (omega (arith, r.permanent, r.decidable.few, few_hits t n f, permanent_first t c.args.s.now f r)),
    )

pub open_each-requires : goal.open_each-requires
open_each-requires c =
    let t = c.args.t.now in
    let s = c.args.s.now in
    let r = c.requires.0 in
    let f = lent_frame c.args.f in
    let put = second (goal.at.open_each-requires c).After-hit_each-2 in
    let stands = stands_after_second t s f r in
    let same = counted_again stands put in
    let long = put_long put stands.sized (rw stands.long r.holding.room) in (
      r.fits,
      rw (same, c.requires.1) r.places,
      rw (same, long, c.requires.1) r.room,
      rw c.requires.1 (left_below t (length c.args.f.has_scores.now) f),
      rw (put.counts, opened_second t s f r) (omega (arith, r.opened)),
      rw put.counts (omega (arith, r.permanent, r.decidable.few, permanent_second t s f r)),
      rw (put.counts, global_second t s f r) (omega (arith, r.global)),
      rw (put.counts, initializing_second t s f r) (omega (arith, r.initializing)),
    )

pub lists_after-lists-requires : goal.lists_after-lists-requires
lists_after-lists-requires c =
    let t = c.args.t.now in
    let r = c.requires.0 in
    let f = lent_frame c.args.f in
    let n = length c.args.f.has_scores.now in (
      r.decidable.fit,
      r.decidable.alive.0,
      r.dead.0,
      rw c.requires.1 (omega (arith, few_hits t n f, r.decidable.few)),
      r.dead.1,
      rw (c.requires.1, picked_of (second_hits t n f)),
    )

-- ---- what it leaves

pub returns-clause-value : goal.returns-clause-value
returns-clause-value c =
    let put = third (goal.at.returns-clause-value c).After-open_each in
    table_is c.args.t.now c.args.s.now (lent_frame c.args.f) c.requires.0 c.requires.1 put c.lists_after-lists.ensures

pub returns-clause-s_after : goal.returns-clause-s_after
unfolding match_floats
returns-clause-s_after c = let put = third (goal.at.returns-clause-s_after c).After-open_each in put.floats
