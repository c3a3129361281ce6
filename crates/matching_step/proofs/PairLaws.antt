-- Rules 43, 44 and 47: each detection hits or opens once; the pairs listed are the hits, in hit order: detection, pass, and the global ID of the record that is named.
use mathlib.Core.Path.{◌≡◌, ap}
use mathlib.Core.List.{List, ◌++◌, map, map-append, map-map}
use Prim.Native.Nat.{ℕ, ◌+◌, ◌<◌, ◌≤◌}
use lib.Ieee.{Float}
use lib.ListN.{length, get_or, replicate, length-append, length-map}
use Rattle.laws.specs.Every.{Every}
use Rattle.laws.specs.Lists.{below, times}
use Rattle.laws.proofs.Counting.{times-append}
use Rattle.matching.specs.Greedy.{rows_of, cols_of}
use Rattle.matching.proofs.Taken.{taken_below}
use Rattle.matching.proofs.Laws.{cols_taken}
use Rattle.parts.specs.declared.TrackedObject.{TrackedObject}
use Rattle.parts.specs.Layout.{block_size}
use Rattle.table.specs.declared.Table.{Table}
use Rattle.table.specs.Making.{zero_object}
use Rattle.table.specs.Slots.{Slot, no_slot, table_slots, name_of}
use Rattle.table.proofs.SlotLaws.{slots_at}
use Rattle.passes.specs.Checks.{Frame}
use Rattle.passes.specs.Passes.{numbers, first_pass, second_pass}
use Rattle.passes.proofs.PassLaws as passes
use Rattle.matching_step.specs.Step.{matrix_of, first_hits, second_hits, to_open, pairs_of}
use Rattle.matching_step.specs.Account.{match_account}
use Rattle.matching_step.proofs.AccountLaws.{opened_detections}
use Rattle.laws.proofs.Mapped.{map_constant}
use Rattle.laws.proofs.Every.{every_append, every_weaker, every_alike, every_map, every_unmap}

-- the record at a place, and the places hit, in hit order
abbrev pub record_at : Table → ℕ → TrackedObject
record_at t i = get_or t.records i zero_object

abbrev pub hit_places : Table → ℕ → Frame → List ℕ
hit_places t d f = cols_of (first_hits t d f) ++ cols_of (second_hits t d f)

module _ (t : Table) (d : ℕ) (f : Frame) where
  -- picks lie in the table
  pub first_below : Every (λ p. p.col < t.counts.records) (first_hits t d f)
  unfolding first_hits first_pass
  first_below = every_unmap (λ p. p.col) _ (taken_below (cols_taken _ _ _))

  pub second_below : Every (λ p. p.col < t.counts.records) (second_hits t d f)
  unfolding second_hits second_pass
  second_below = every_unmap (λ p. p.col) _ (taken_below (cols_taken _ _ _))

  pub places_below : Every (λ i. i < t.counts.records) (hit_places t d f)
  places_below = every_append (every_map (λ p. p.col) first_below) (every_map (λ p. p.col) second_below)

  pub pairs_globals : map (λ q. q.global_id) (pairs_of t d f) ≡ map (λ i. (record_at t i).origin.global_id) (hit_places t d f)
  unfolding pairs_of
  pairs_globals = simp (map-append, map-map)

  placed_once : (x : ℕ) → times x (rows_of (first_hits t d f)) + times x (rows_of (second_hits t d f)) + times x (to_open t d f) ≡ times x (below d)
  unfolding first_hits second_hits to_open
  placed_once = passes.each_detection_once (matrix_of t d f) (numbers t.lists.alive) (numbers t.lists.initializing)

module _ (t : Table) (s : List Float) (d : ℕ) (f : Frame) where
  pub pairs_detections : map (λ q. q.detection) (pairs_of t d f) ≡ map (λ h. h.detection) ((match_account t s d f).first ++ (match_account t s d f).second)
  unfolding pairs_of match_account
  pairs_detections = simp (map-append, map-map)

  pub pairs_length : length (pairs_of t d f) ≡ length (match_account t s d f).first + length (match_account t s d f).second
  unfolding pairs_of match_account
  pairs_length = simp (length-append, length-map)

  pub pairs_passes : map (λ q. q.pass) (pairs_of t d f) ≡ replicate (length (match_account t s d f).first) 1 ++ replicate (length (match_account t s d f).second) 2
  unfolding pairs_of match_account
  pairs_passes = simp (map-append, map-map, length-map) (rw (map_constant {B = ℕ} 1 (first_hits t d f), map_constant {B = ℕ} 2 (second_hits t d f)))

  -- the slot at a place hit is that of the record there
  pub at_place : (i : ℕ) → i < t.counts.records → name_of (get_or (table_slots t s) i no_slot).object ≡ name_of (record_at t i)
  at_place i h = ap (λ (x : Slot). name_of x.object) (slots_at (block_size t.config) t.records s t.counts.records i no_slot h)

  pub named_by_place : map (λ h. h.name) ((match_account t s d f).first ++ (match_account t s d f).second) ≡ map (λ i. name_of (record_at t i)) (hit_places t d f)
  unfolding match_account
  named_by_place =
      rw (← every_alike _ _ (every_weaker at_place (places_below t d f))) (simp (map-append, map-map))

  pub first_detections : map (λ h. h.detection) (match_account t s d f).first ≡ rows_of (first_hits t d f)
  unfolding match_account
  first_detections = simp map-map

  pub second_detections : map (λ h. h.detection) (match_account t s d f).second ≡ rows_of (second_hits t d f)
  unfolding match_account
  second_detections = simp map-map

  -- each detection below the count is hit in pass 1, hit in pass 2 or opened, exactly one
  pub each_detection_once : (x : ℕ)
      → times x (map (λ h. h.detection) (match_account t s d f).first) + times x (map (λ h. h.detection) (match_account t s d f).second)
      + times x (map (λ o. o.detection) (match_account t s d f).opened)
      ≡ times x (below d)
  each_detection_once x = rw (first_detections, second_detections, opened_detections t s d f) (placed_once t d f x)

-- for lists without overlap no record is hit twice; those opened stand behind all that were there (`opened_appended`)
pub no_place_twice : (t : Table) (d : ℕ) (f : Frame) → ((x : ℕ) → times x (numbers t.lists.alive) + times x (numbers t.lists.initializing) ≤ 1)
    → (x : ℕ) → times x (hit_places t d f) ≤ 1
unfolding first_hits second_hits
no_place_twice t d f apart x =
    rw (times-append x (cols_of (first_hits t d f)) (cols_of (second_hits t d f)))
    (passes.no_place_twice (matrix_of t d f) (numbers t.lists.alive) (numbers t.lists.initializing) apart x)
