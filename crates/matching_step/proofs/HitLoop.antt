-- Rule 45: the loop of `hit_each`: at turn i the first i picks are hit, and their slots put back.
use mathlib.Core.Path.{◌≡◌, refl, ◌∙◌}
use mathlib.Core.List.{List}
use Prim.Native.Nat.{ℕ, ◌+◌, ◌*◌, ◌<◌, ◌≤◌}
use native.Mathlib.Nat.{le_trans}
use native.Mathlib.Omega.{arith}
use lib.Ieee.{Float}
use lib.ListN.{length, get_or, set, take, drop, length-map}
use lib.Seq.{paste}
use Rattle.laws.specs.Lists.{below, EachBelow}
use Rattle.laws.specs.Turns.{through}
use Rattle.laws.proofs.Growing.{length-below}
use Rattle.matching.specs.declared.Picks.{Picks}
use Rattle.matching.proofs.Picked.{pick_at, first_picks, picks_next, picks_inside}
use Rattle.parts.specs.declared.TrackerConfig.{TrackerConfig}
use Rattle.parts.specs.declared.TrackedObject.{TrackedObject}
use Rattle.parts.specs.declared.Changed.{Changed}
use Rattle.parts.specs.Layout.{block_size}
use Rattle.parts.specs.Ranges.{ObjectInRange}
use Rattle.tracked_object.specs.Object.{changed_by_hit, block_hit}
use Rattle.table.specs.declared.Counts.{Counts}
use Rattle.table.specs.Making.{zero_object}
use Rattle.table.proofs.Reading.{blank, read}
use Rattle.table.proofs.SlotLaws.{block_fits, records_length, floats_length}
use Rattle.passes.specs.Checks.{Frame}
use Rattle.matching_step.specs.Step.{State, lent_detection, distance_of, issuing, hit_one, Fits, Holds}
use Rattle.matching_step.proofs.Hitting.{Standing, stands_first, hits_stand, hits_permanent, in_range, object_held, put_hit}
use Rattle.matching_step.proofs.PutBack.{found, Put, put_found}

abbrev pub passed : TrackerConfig → Frame → Picks → Counts → List TrackedObject → List Float → ℕ → State
passed c f l m records s i = through (hit_one c f m.records) (first_picks l i) (found c records s m)

-- what the loop leans on
pub record Passing (c : TrackerConfig) (f : Frame) (l : Picks) (m : Counts) (records : List TrackedObject) (s : List Float) : Type 0 where
  pub fits : Fits c f
  pub holding : Holds c m.records records (length s)
  pub all : length records ≡ 64
  pub rows : EachBelow (length f.has_scores) l.count l.rows
  pub cols : EachBelow m.records l.count l.cols

module _ {c : TrackerConfig} {f : Frame} {l : Picks} {m : Counts} {records : List TrackedObject} {s : List Float} (pass : Passing c f l m records s) where
  fewer : m.records ≤ length records
  fewer = omega (arith, pass.all, pass.holding.fit)

  pub put_first : Put c records s (passed c f l m records s 0) records m s
  unfolding below through
  put_first = put_found c records s m fewer

  -- ---- at turn i

  module _ (i : ℕ) {rs : List TrackedObject} {g : List Float} {k : Counts} (put : Put c records s (passed c f l m records s i) rs k g) where
    pub permanent_most : k.permanent ≤ m.permanent + i
    permanent_most =
        rw put.counts
        (omega (arith, length-map (below i) (pick_at l), length-below i, hits_permanent c f m.records (first_picks l i) (found c records s m)))

    stands : i ≤ l.count → Standing c m.records (passed c f l m records s i)
    stands h =
        hits_stand pass.fits pass.holding.from pass.holding.most (picks_inside l pass.rows pass.cols i h)
        (stands_first records s m pass.holding refl)

    records_long : i ≤ l.count → length rs ≡ 64
    records_long h =
        rw put.records (records_length (passed c f l m records s i).slots records (rw (stands h).long fewer) ∙ pass.all)

    pub floats_long : i ≤ l.count → length g ≡ length s
    floats_long h = rw put.floats (floats_length (stands h).sized s (rw (stands h).long pass.holding.room))

    -- ---- with a pick to come

    module _ (h : i < l.count) where
      read_here : get_or rs (get_or l.cols i 0) blank ≡ get_or rs (get_or l.cols i 0) zero_object
      read_here = read rs (get_or l.cols i 0) (omega (arith, records_long (omega arith), pass.cols i h, pass.holding.fit))

      pub object_in_range : ObjectInRange c (get_or rs (get_or l.cols i 0) blank)
      object_in_range =
          let st = stands (omega arith) in
          rw (read_here, object_held pass.fits pass.holding.from pass.holding.most (pick_at l i) st (pass.rows i h) (pass.cols i h) put)
          (in_range pass.fits pass.holding.from pass.holding.most (pick_at l i) st (pass.rows i h) (pass.cols i h))

      pub block_inside : get_or l.cols i 0 * block_size c + block_size c ≤ length g
      block_inside = rw (floats_long (omega arith)) (le_trans (block_fits (block_size c) (get_or l.cols i 0) m.records (pass.cols i h)) pass.holding.room)

      pub put_next : {r : Changed} {g' : List Float} {k' : Counts}
          → r ≡ changed_by_hit c (lent_detection c f (get_or l.rows i 0)) f.period (distance_of f m.records (pick_at l i)) k.permanent (get_or rs (get_or l.cols i 0) blank)
          → g' ≡ paste g (get_or l.cols i 0 * block_size c) (block_hit c (lent_detection c f (get_or l.rows i 0)) (get_or rs (get_or l.cols i 0) blank).past_count (take (block_size c) (drop (get_or l.cols i 0 * block_size c) g))) (block_size c)
          → k' ≡ issuing r.issued k
          → Put c records s (passed c f l m records s (i + 1)) (set rs (get_or l.cols i 0) r.object) k' g'
      put_next hit pasted issued =
          rw (picks_next (hit_one c f m.records) l i (found c records s m), issued)
          (put_hit pass.fits pass.holding.from pass.holding.most (pick_at l i) (stands (omega arith)) (pass.rows i h) (pass.cols i h) put read_here hit pasted)
