-- Rules 30 to 33: step 1's account is fair, it touches only the floats of its records, and its lists name each place once.
use mathlib.Core.Path.{◌≡◌, refl, sym, ◌∙◌, ap}
use mathlib.Core.Bool.{Bool, true, false, cond, ◌&&◌}
use mathlib.Core.List.{List, [], ◌∷◌}
use Prim.Native.Nat.{ℕ, ◌+◌, ◌*◌, ◌<◌, ◌≤◌}
use native.Mathlib.Nat.{mul-le-mul_right, le_trans}
use borrow.Author.Tests.{ltb-true}
use lib.Dec.{eqb, ltb}
use lib.Ieee.{Float}
use lib.ListN.{length, get_or, take, drop}
use lib.Seq.{take_at}
use Rattle.laws.specs.Lists.{below, keep, holds, times}
use Rattle.laws.proofs.Counting.{bit_at_most_one, times_kept, holds_kept}
use Rattle.laws.proofs.Growing.{take-filled}
use Rattle.laws.proofs.Weighing.{parted}
use Rattle.matching.specs.declared.Numbers.{Numbers}
use Rattle.parts.specs.declared.TrackerConfig.{TrackerConfig}
use Rattle.parts.specs.Layout.{block_size}
use Rattle.tracked_object.specs.Object.{object_predicted}
use Rattle.table.specs.declared.Table.{Table}
use Rattle.table.specs.declared.Lists.{Lists}
use Rattle.table.specs.Making.{zero_object}
use Rattle.table.specs.Slots.{Slot, objects_of, table_slots, name_of, names, table_names}
use Rattle.table.proofs.SlotLaws.{Sized, objects_length, names_objects, slots_objects, floats_length, floats_behind}
use Rattle.predict.specs.declared.Sort.{Sort}
use Rattle.predict.specs.declared.Sort.TheVariants.{Alive, Initializing, Dead}
use Rattle.predict.specs.Step.{gone, belongs, places_of, each_predicted, slots_kept, slots_after, predict_table, predict_floats, dropped}
use Rattle.predict.proofs.Dropping.{kept_most, kept_sized}
use Rattle.predict.proofs.Predicting.{predicted_length, predicted_sized}

-- ---- the account

-- predicting renames nobody
names_predicted : (c : TrackerConfig) (l : List Slot) → names (each_predicted c l) ≡ names l
unfolding object_predicted
names_predicted c [] = refl
names_predicted c (x ∷ l) = ap (λ (r : List ℕ). name_of x.object ∷ r) (names_predicted c l)

module _ (t : Table) (s : List Float) where
  pub names_kept : table_names (predict_table t s) ≡ names (slots_kept t s)
  unfolding predict_table
  names_kept =
      let after = slots_after t s in
      let long = objects_length after ∙ predicted_length t.config (slots_kept t s) in
      rw (take_at (objects_of after) (drop (length after) t.records) (length (slots_kept t s)) long)
      (names_objects after ∙ names_predicted t.config (slots_kept t s))

  -- who is in the table after, and who was dropped: exactly who was in it before, as often
  pub fair : t.counts.records ≤ length t.records → (x : ℕ)
      → times x (table_names t) ≡ times x (table_names (predict_table t s)) + times x (dropped t s)
  unfolding dropped times
  fair h x =
      rw (names_kept, ← slots_objects (block_size t.config) t.records s t.counts.records h, names_objects (table_slots t s))
      (parted (λ y. cond (eqb y x) 1 0) (times x) refl (λ y l. refl) (λ y. name_of y.object) (λ y. gone t.config y.object) (table_slots t s))

-- ---- the floats

module _ (t : Table) (s : List Float) (room : t.counts.records * block_size t.config ≤ length s) where
  after_sized : Sized (block_size t.config) (slots_after t s)
  after_sized = predicted_sized t.config (kept_sized t.config t.records s t.counts.records room)

  after_most : length (slots_after t s) * block_size t.config ≤ t.counts.records * block_size t.config
  after_most = rw (predicted_length t.config (slots_kept t s)) (mul-le-mul_right (block_size t.config) (kept_most t.config t.records s t.counts.records))

  pub length_kept : length (predict_floats t s) ≡ length s
  unfolding predict_floats
  length_kept = floats_length after_sized s (le_trans after_most room)

  pub rest_untouched : (k : ℕ) → t.counts.records * block_size t.config ≤ k → drop k (predict_floats t s) ≡ drop k s
  unfolding predict_floats
  rest_untouched k h = floats_behind after_sized s k (le_trans after_most h)

-- ---- the lists

abbrev pub list_of : Sort → Lists → Numbers 64
list_of Alive l = l.alive
list_of Initializing l = l.initializing
list_of Dead l = l.dead

-- the numbers of a list, without what pads it
abbrev pub numbers_in : Numbers 64 → List ℕ
numbers_in m = take m.count m.at

first : (a b : Bool) → (a && b) ≡ true → a ≡ true
first true b h = refl
first false b h = h

is_placed : (t : Table) (s : List Float) (sort : Sort)
    → list_of sort (predict_table t s).lists ≡ places_of t.config sort (length (slots_kept t s)) (objects_of (slots_kept t s))
unfolding predict_table
is_placed t s Alive = refl
is_placed t s Initializing = refl
is_placed t s Dead = refl

module _ (t : Table) (s : List Float) (sort : Sort) where
  abbrev pub listed : List ℕ
  listed = numbers_in (list_of sort (predict_table t s).lists)

  -- by the record at the place, before its counters fall
  abbrev pub fitting : ℕ → Bool
  fitting i = belongs t.config sort (get_or (objects_of (slots_kept t s)) i zero_object)

  -- ascending: of 0, 1 and so on below the new count, those that fit
  pub in_order : listed ≡ keep fitting (below (predict_table t s).counts.records)
  unfolding predict_table
  in_order = rw (is_placed t s sort) (take-filled 64 0 (keep fitting (below (length (slots_kept t s)))))

  listed_times : (x : ℕ) → times x listed ≡ cond (ltb x (predict_table t s).counts.records && fitting x) 1 0
  listed_times x = ap (times x) in_order ∙ times_kept fitting x (predict_table t s).counts.records

  pub membership : (i : ℕ) → holds i listed ≡ (ltb i (predict_table t s).counts.records && fitting i)
  membership i = ap (holds i) in_order ∙ holds_kept fitting i (predict_table t s).counts.records

  pub listed_once : (x : ℕ) → times x listed ≤ 1
  listed_once x = rw (listed_times x) (bit_at_most_one (ltb x (predict_table t s).counts.records && fitting x))

  pub listed_below : (i : ℕ) → holds i listed ≡ true → i < (predict_table t s).counts.records
  listed_below i h =
      ltb-true i (predict_table t s).counts.records (first (ltb i (predict_table t s).counts.records) (fitting i) (sym (membership i) ∙ h))

-- ---- the counts

module _ (t : Table) (s : List Float) where
  pub frames_rise : (predict_table t s).counts.frames ≡ t.counts.frames + 1
  unfolding predict_table
  frames_rise = refl

  pub opened_stay : (predict_table t s).counts.opened ≡ t.counts.opened
  unfolding predict_table
  opened_stay = refl

  pub permanent_stay : (predict_table t s).counts.permanent ≡ t.counts.permanent
  unfolding predict_table
  permanent_stay = refl

  pub global_stay : (predict_table t s).counts.global ≡ t.counts.global
  unfolding predict_table
  global_stay = refl

  pub initializing_stay : (predict_table t s).counts.initializing ≡ t.counts.initializing
  unfolding predict_table
  initializing_stay = refl
