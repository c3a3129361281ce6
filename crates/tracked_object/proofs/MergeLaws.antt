-- Rules 61 and 62: what a merge keeps of the old record, and what it takes from the candidate.
use Rattle.std.specs.Prelude.{None, Some}
use mathlib.Core.Path.{◌≡◌, refl, sym, ◌∙◌, ap}
use mathlib.Core.Bool.{Bool, true, false, cond, ◌&&◌}
use mathlib.Core.List.{List, [], ◌∷◌}
use Prim.Native.Nat.{ℕ, zero, suc, ◌+◌, ◌*◌, ◌<◌, ◌≤◌}
use native.Mathlib.Nat.{suc-mul, mul-le-mul_right, zero-add, add-zero}
use native.Mathlib.Omega.{arith}
use lib.Dec.{ltb}
use lib.Ieee.{Float}
use lib.IntN.{pos}
use lib.ListN.{length, get_or, take, drop, length-drop}
use lib.Seq.{paste, length-paste, length-take-le, take-take, take_at}
use Rattle.laws.specs.Turns.{turns}
use Rattle.laws.proofs.Turns.{turns_hold}
use Rattle.laws.proofs.Pasting.{paste_front, paste_behind, paste_part}
use Rattle.parts.specs.declared.TrackerConfig.{TrackerConfig}
use Rattle.parts.specs.declared.TrackedObject.{TrackedObject}
use Rattle.parts.specs.declared.PastDetection.{PastDetection}
use Rattle.parts.specs.Layout.{coords, width, last_place, past_place, block_size}
use Rattle.parts.specs.Ranges.{Sizes, ObjectInRange, AgesInRange, unaged}
use Rattle.tracked_object.specs.Object.{History, takes, added, conditionally_added, mark_of, entry_of, history_merged, taken, merging, object_merged, block_merged}
use Rattle.parts.proofs.PastLaws.{length-pushed, history_elsewhere}
use Rattle.tracked_object.proofs.AgeLaws.{ages_kept}

-- ---- whether an entry is taken

-- a history that takes an entry is of some length
pub some_of : (n : ℕ) (b : Bool) → (ltb 0 n && b) ≡ true → 0 < n
some_of zero b h = let z : ◌≡◌ {A = ℕ} 0 1 = cc in absurd (omega arith)
some_of (suc n) b h = omega arith

-- the worked case: length 4, full, the oldest of age 3
module _ (c : TrackerConfig) (four : c.past_detections_length ≡ 4) (has : Bool) (others : List PastDetection) where
  pub taken_at_12 : takes c 12 (record { age = Some (pos 3); has_scores = has } ∷ others) 4 ≡ true
  taken_at_12 = rw four

  pub not_taken_at_11 : takes c 11 (record { age = Some (pos 3); has_scores = has } ∷ others) 4 ≡ false
  not_taken_at_11 = rw four

  pub not_taken_without_age : (age : ℕ) → takes c age (record { age = None; has_scores = has } ∷ others) 4 ≡ false
  not_taken_without_age age = rw four

-- ---- what entries leave as it was

-- entry i lies in the block
pub entry_inside : (c : TrackerConfig) (i : ℕ) → i < c.past_detections_length → past_place c + i * width c + width c ≤ block_size c
entry_inside c i h =
    omega (arith, rw suc-mul at (mul-le-mul_right {m = suc i} {n = c.past_detections_length} (width c) h))

pub length-entry : (c : TrackerConfig) (from : List Float) (i : ℕ) → length from ≡ block_size c → i < c.past_detections_length
    → length (entry_of c from i) ≡ width c
length-entry c from i whole h =
    length-take-le (width c) (drop (past_place c + i * width c) from)
    (omega (arith, length-drop (past_place c + i * width c) from, entry_inside c i h))

-- what each entry keeps: the ranges, the lengths, and in the block all that lies in front of the history
pub record HistoryKept (c : TrackerConfig) (front : List Float) (h : History) : Type 0 where
  pub counted : h.count ≤ c.past_detections_length
  pub eight : length h.marks ≡ 8
  pub aged : AgesInRange h.count h.marks
  pub long : length h.floats ≡ block_size c
  pub kept : take (past_place c) h.floats ≡ front

chosen : {A : Type 0} (P : A → Type 0) (b : Bool) (x y : A) → (b ≡ true → P x) → P y → P (cond b x y)
chosen P true x y p q = p refl
chosen P false x y p q = q

-- the turn of entry i
abbrev pub turn : TrackerConfig → ℕ → List PastDetection → List Float → ℕ → History → History
turn c age entries from i h = conditionally_added c age (get_or entries i unaged).has_scores (entry_of c from i) h

module _ (c : TrackerConfig) (sizes : Sizes c) (age : ℕ) (young : age ≤ 200000000) (front : List Float) where
  pub kept_added : (has : Bool) (entry : List Float) (h : History) → length entry ≡ width c → HistoryKept c front h
      → HistoryKept c front (conditionally_added c age has entry h)
  unfolding conditionally_added
  kept_added has entry h whole k =
      let most = c.past_detections_length in
      let e : PastDetection = record { age = Some (pos age); has_scores = has } in
      let fits : most ≤ length h.marks = omega (arith, sizes.past_most) in
      chosen (HistoryKept c front) (takes c age h.marks h.count) (added c age has entry h) h
      (λ t.
      let some = some_of most _ t in
      record {
        counted = omega arith;
        eight = length-pushed most 1 0 h.count h.marks some k.counted (omega arith) (e ∷ []) refl ∙ k.eight;
        aged = ages_kept most h.count e h.marks some k.counted young k.aged;
        long = length-pushed most (width c) (past_place c) h.count h.floats some k.counted (omega arith) entry whole ∙ k.long;
        kept = (history_elsewhere most (width c) (past_place c) h.count h.floats some k.counted (omega arith) entry whole).0 ∙ k.kept;
      })
      k

  pub kept_turns : (entries : List PastDetection) (from : List Float) (n : ℕ) (h : History) → length from ≡ block_size c
      → n ≤ c.past_detections_length → HistoryKept c front h → HistoryKept c front (turns (turn c age entries from) n h)
  kept_turns entries from n h whole few k =
      turns_hold (turn c age entries from) (HistoryKept c front) n h
      (λ i g hi. kept_added (get_or entries i unaged).has_scores (entry_of c from i) g (length-entry c from i whole (omega arith)))
      k

-- what a merge keeps whatever the marks are: a history no longer than the settings allow, and the length of the block
module _ (c : TrackerConfig) (candidate : TrackedObject) (from : List Float) (o : TrackedObject) (l : List Float) where
  abbrev Long : History → Type 0
  Long h = (h.count ≤ c.past_detections_length) × (length h.floats ≡ block_size c)

  pub merging_long : candidate.past_count ≤ c.past_detections_length → o.past_count ≤ c.past_detections_length
      → length from ≡ block_size c → length l ≡ block_size c → Long (merging c candidate from o l)
  unfolding history_merged conditionally_added
  merging_long few full of on =
      let most = c.past_detections_length in
      let filtered = length-paste l 0 from (5 * coords c) (omega arith) (omega arith) in
      let behind = length-drop (last_place c) from in
      turns_hold (turn c o.life.age candidate.past from) Long candidate.past_count _
      (λ i h lt k.
      let entry = length-entry c from i of (omega arith) in
      chosen Long (takes c o.life.age h.marks h.count) (added c o.life.age (mark_of candidate i) (entry_of c from i) h) h
      (λ t. (omega arith, length-pushed most (width c) (past_place c) h.count h.floats (some_of most _ t) k.0 (omega arith) (entry_of c from i) entry ∙ k.1))
      k)
      (full, length-paste (paste l 0 from (5 * coords c)) (last_place c) (drop (last_place c) from) (width c) (omega arith) (omega arith) ∙ filtered ∙ on)

-- ---- the record: who it is stays, what was seen of it last is the candidate's

module _ (c : TrackerConfig) (candidate : TrackedObject) (from : List Float) (o : TrackedObject) (l : List Float) where
  abbrev pub merged : TrackedObject
  merged = object_merged c candidate from o l

  pub origin_kept : merged.origin ≡ o.origin
  unfolding object_merged
  origin_kept = refl

  pub age_kept : merged.life.age ≡ o.life.age
  unfolding object_merged
  age_kept = refl

  pub id_kept : merged.life.id ≡ o.life.id
  unfolding object_merged
  id_kept = refl

  pub initializing_kept : merged.life.is_initializing ≡ o.life.is_initializing
  unfolding object_merged
  initializing_kept = refl

  pub hit_counter_merged : merged.life.hit_counter ≡ pos (2 * o.origin.initial_period)
  unfolding object_merged
  hit_counter_merged = refl

  pub reid_counter_merged : merged.life.reid_hit_counter ≡ None
  unfolding object_merged
  reid_counter_merged = refl

  pub counters_taken : merged.point_hit_counter ≡ candidate.point_hit_counter
  unfolding object_merged
  counters_taken = refl

  pub flags_taken : merged.detected_at_least_once_points ≡ candidate.detected_at_least_once_points
  unfolding object_merged
  flags_taken = refl

  pub last_taken : merged.last ≡ candidate.last
  unfolding object_merged
  last_taken = refl

-- ---- the block: the shown velocity stays, the filter's five numbers and the last detection are the candidate's

-- a part of what a list starts with
part_of_front : {A : Type 0} (n m k : ℕ) (l : List A) → n + m ≤ k → take m (drop n (take k l)) ≡ take m (drop n l)
part_of_front zero m k l h = take-take m k l (omega arith)
part_of_front (suc n) m zero l h = absurd (omega arith)
part_of_front (suc n) m (suc k) [] h = refl
part_of_front (suc n) m (suc k) (x ∷ l) h = part_of_front n m k l (omega arith)

module _ (c : TrackerConfig) (sizes : Sizes c) (candidate : TrackedObject) (from : List Float) (o : TrackedObject) (l : List Float)
    (old : ObjectInRange c o) (new : ObjectInRange c candidate) (eight : length o.past ≡ 8)
    (of : length from ≡ block_size c) (on : length l ≡ block_size c) where
  abbrev filtered : List Float
  filtered = paste l 0 from (5 * coords c)

  long_filtered : length filtered ≡ block_size c
  long_filtered = length-paste l 0 from (5 * coords c) (omega arith) (omega arith) ∙ on

  pub merging_kept : HistoryKept c (take (past_place c) (taken c from l)) (merging c candidate from o l)
  unfolding history_merged
  merging_kept =
      let e = long_filtered in
      let d = length-drop (last_place c) from in
      kept_turns c sizes o.life.age old.life.age (take (past_place c) (taken c from l)) candidate.past from candidate.past_count _ of new.history
      record {
        counted = old.history;
        eight = eight;
        aged = old.ages;
        long = length-paste filtered (last_place c) (drop (last_place c) from) (width c) (omega arith) (omega arith) ∙ e;
        kept = refl;
      }

  -- a part of the block in front of the history is as taken over
  as_taken : (n m : ℕ) → n + m ≤ past_place c → take m (drop n (block_merged c candidate from o l)) ≡ take m (drop n (taken c from l))
  as_taken n m h =
      sym (part_of_front n m (past_place c) (block_merged c candidate from o l) h)
      ∙ ap (λ (r : List Float). take m (drop n r)) merging_kept.kept
      ∙ part_of_front n m (past_place c) (taken c from l) h

  -- in front of the last detection, as after the filter's numbers
  as_filtered : (n m : ℕ) → n + m ≤ last_place c → take m (drop n (block_merged c candidate from o l)) ≡ take m (drop n filtered)
  as_filtered n m h =
      let e = long_filtered in
      as_taken n m (omega arith)
      ∙ sym (part_of_front n m (last_place c) (taken c from l) h)
      ∙ ap (λ (r : List Float). take m (drop n r)) (paste_front filtered (last_place c) (drop (last_place c) from) (width c) (last_place c) (omega arith) (omega arith))
      ∙ part_of_front n m (last_place c) filtered h

  pub shown_velocity_kept : take (coords c) (drop (5 * coords c) (block_merged c candidate from o l)) ≡ take (coords c) (drop (5 * coords c) l)
  shown_velocity_kept =
      as_filtered (5 * coords c) (coords c) (omega arith)
      ∙ ap (take (coords c)) (paste_behind l 0 from (5 * coords c) (5 * coords c) (omega arith) (omega arith) (omega arith))

  pub filter_taken : take (5 * coords c) (block_merged c candidate from o l) ≡ take (5 * coords c) from
  filter_taken =
      let n = 5 * coords c in
      as_filtered 0 n (omega arith) ∙ take_at (take n from) (drop (0 + n) l) n (length-take-le n from (omega arith))

  pub last_detection_taken : take (width c) (drop (last_place c) (block_merged c candidate from o l)) ≡ take (width c) (drop (last_place c) from)
  last_detection_taken =
      let e = long_filtered in
      let d = length-drop (last_place c) from in
      as_taken (last_place c) (width c) (omega arith)
      ∙ rw (zero-add (width c), add-zero (last_place c)) at (paste_part filtered (last_place c) 0 (drop (last_place c) from) (width c) (omega arith) (omega arith))

  pub length-block_merged : length (block_merged c candidate from o l) ≡ block_size c
  length-block_merged = merging_kept.long

  pub length_past_merged : length (object_merged c candidate from o l).past ≡ 8
  unfolding object_merged
  length_past_merged = merging_kept.eight

  pub merged_in_range : ObjectInRange c (object_merged c candidate from o l)
  unfolding object_merged
  merged_in_range =
      record {
        life = record { age = old.life.age; hit_counter = omega (arith, old.period); reid_hit_counter = tt };
        counters = new.counters;
        history = merging_kept.counted;
        ages = merging_kept.aged;
        period = old.period;
      }
