-- Rules 60 to 65: step 3 renames nobody, exactly the candidates picked leave, its account is fair, and it touches only the floats of its records.
use Rattle.std.specs.Prelude.{Option}
use mathlib.Core.Path.{◌≡◌, refl, sym, ◌∙◌, ap}
use mathlib.Core.Bool.{Bool, not, not-not, cond, ◌&&◌}
use mathlib.Core.List.{List, map, map-map}
use Prim.Native.Nat.{ℕ, ◌+◌, ◌*◌, ◌<◌, ◌≤◌}
use native.Mathlib.Nat.{mul-le-mul_right, le_trans}
use native.Mathlib.Omega.{arith}
use lib.Dec.{ltb, eqb}
use lib.Ieee.{Float}
use lib.ListN.{length, get_or, drop, length-map, get_or-map}
use lib.Seq.{take_at, map-set_same}
use Rattle.laws.specs.Every.{Every}
use Rattle.laws.specs.Lists.{below, keep, holds, times, weight}
use Rattle.laws.proofs.Counting.{holds_kept}
use Rattle.laws.proofs.Every.{every_alike, every_at, every_keep, every_map, every_unmap, every_below, keep_every}
use Rattle.laws.proofs.Growing.{at_most, length-below, take_each}
use Rattle.laws.proofs.Through.{through_keep}
use Rattle.laws.proofs.Weighing.{keep-map, load_cons, parted}
use Rattle.matching.specs.Greedy.{Pick, rows_of}
use Rattle.matching.specs.Unmatched.{unmatched}
use Rattle.parts.specs.declared.Origin.{Origin}
use Rattle.parts.specs.declared.TrackerConfig.{TrackerConfig}
use Rattle.parts.specs.declared.TrackedObject.{TrackedObject}
use Rattle.parts.specs.Layout.{block_size}
use Rattle.tracked_object.specs.Object.{object_merged}
use Rattle.table.specs.declared.Phase.TheVariants.{Predict}
use Rattle.table.specs.declared.Table.{Table}
use Rattle.table.specs.Making.{zero_object, no_lists}
use Rattle.table.specs.Slots.{Slot, no_slot, objects_of, records_back, floats_back, table_slots, name_of, names, table_objects, table_names, table_initializing}
use Rattle.table.proofs.SlotLaws.{Sized, objects_length, slots_at, floats_length, floats_behind}
use Rattle.reid.specs.Step.{slot_merged, merge_one, merges, slots_merged, slots_staying, reid_table, reid_floats, Absorbed, has_permanent, absorbed_of, absorbed, Ready}
use Rattle.reid.proofs.Composing.{merged_length, merged_sized, merged_floats}
-- the active list is no longer than the table
pub use Rattle.reid.proofs.Listing.{active_few}

-- ---- merging renames nobody

-- what a merge leaves of a record: its IDs, its initial period and its mark
pub record Who : Type 0 where
  pub origin : Origin
  pub id : Option ℕ
  pub initializing : Bool

abbrev pub who : TrackedObject → Who
who o = record { origin = o.origin; id = o.life.id; initializing = o.life.is_initializing }

abbrev pub name_in : Who → ℕ
name_in v = v.origin.initializing_id

module _ {B : Type 0} (g : Who → B) where
  merge_who : (c : TrackerConfig) (p : Pick) (l : List Slot) → map (λ x. g (who x.object)) (merge_one c p l) ≡ map (λ x. g (who x.object)) l
  unfolding object_merged
  merge_who c p l = map-set_same (λ x. g (who x.object)) l p.col (slot_merged c (get_or l p.row no_slot) (get_or l p.col no_slot)) no_slot refl

  -- whatever is read off it: nothing changes
  pub merges_who : (t : Table) (s ds : List Float) → map (λ x. g (who x.object)) (slots_merged t s ds) ≡ map (λ x. g (who x.object)) (table_slots t s)
  unfolding slots_merged
  merges_who t s ds = through_keep (merge_one t.config) (map (λ x. g (who x.object))) (merge_who t.config) (merges t ds) (table_slots t s)

pub merges_names : (t : Table) (s ds : List Float) → names (slots_merged t s ds) ≡ names (table_slots t s)
merges_names = merges_who name_in

-- ---- who leaves, and who stays

module _ (t : Table) (ds : List Float) where
  -- a candidate picked
  abbrev pub leaves : ℕ → Bool
  leaves i = holds i (rows_of (merges t ds))

  -- these, and all others, ascending
  abbrev pub leaving_places : List ℕ
  leaving_places = keep leaves (below t.counts.records)

  abbrev pub staying_places : List ℕ
  staying_places = unmatched t.counts.records (rows_of (merges t ds))

  pub leave_exactly : (i : ℕ) → holds i leaving_places ≡ (ltb i t.counts.records && holds i (rows_of (merges t ds)))
  leave_exactly i = holds_kept leaves i t.counts.records

  pub stay_exactly : (i : ℕ) → holds i staying_places ≡ (ltb i t.counts.records && not (holds i (rows_of (merges t ds))))
  stay_exactly i = holds_kept (λ j. not (leaves j)) i t.counts.records

-- the record at a place
abbrev pub object_at : Table → ℕ → TrackedObject
object_at t i = get_or t.records i zero_object

-- who of those that leave is initializing
abbrev pub absorbed_initializing : Table → List Float → List ℕ
absorbed_initializing t ds = map name_of (keep (λ o. o.life.is_initializing) (map (object_at t) (leaving_places t ds)))

abbrev initializing_in : List Who → List ℕ
initializing_in l = map name_in (keep (λ v. v.initializing) l)

as_who : (l : List TrackedObject) → map name_of (keep (λ o. o.life.is_initializing) l) ≡ initializing_in (map who l)
as_who l = sym (ap (map name_in) (keep-map (λ v. v.initializing) who l) ∙ map-map name_in who (keep (λ o. o.life.is_initializing) l))

abbrev pub absorbed_in : Who → Absorbed
absorbed_in v = record { name = name_in v; had_permanent = has_permanent v.id }

module _ (t : Table) (s ds : List Float) where
  at_place : (i : ℕ) → i < t.counts.records → who (get_or (slots_merged t s ds) i no_slot).object ≡ who (object_at t i)
  at_place i h =
      let read : (l : List Slot) → get_or (map (λ x. who x.object) l) i (who zero_object) ≡ who (get_or l i no_slot).object = λ l. get_or-map (λ x. who x.object) l i no_slot in
      sym (read (slots_merged t s ds))
      ∙ ap (λ (l : List Who). get_or l i (who zero_object)) (merges_who (λ v. v) t s ds)
      ∙ read (table_slots t s)
      ∙ ap (λ (x : Slot). who x.object) (slots_at (block_size t.config) t.records s t.counts.records i no_slot h)

  -- at any places the slots are whom the table had there
  at_places : (p : ℕ → Bool)
      → map (λ i. who (get_or (slots_merged t s ds) i no_slot).object) (keep p (below (length (slots_merged t s ds)))) ≡ map (λ i. who (object_at t i)) (keep p (below t.counts.records))
  at_places p =
      rw (merged_length t s ds)
      (every_alike (λ i. who (get_or (slots_merged t s ds) i no_slot).object) (λ i. who (object_at t i))
      (every_keep p (every_below t.counts.records at_place)))

  objects_after : table_objects (reid_table t s ds) ≡ objects_of (slots_staying t s ds)
  unfolding reid_table
  objects_after =
      let l = slots_staying t s ds in
      take_at (objects_of l) (drop (length l) (records_back (slots_merged t s ds) t.records)) (length l) (objects_length l)

  whos_after : map who (table_objects (reid_table t s ds)) ≡ map (λ i. who (object_at t i)) (staying_places t ds)
  unfolding slots_staying
  whos_after = rw objects_after (simp map-map (at_places (λ i. not (leaves t ds i))))

  -- whatever is read off those that stay, in their order
  pub views_kept : {B : Type 0} (g : Who → B) → map (λ o. g (who o)) (table_objects (reid_table t s ds)) ≡ map (λ i. g (who (object_at t i))) (staying_places t ds)
  views_kept g =
      sym (map-map g who (table_objects (reid_table t s ds))) ∙ ap (map g) whos_after ∙ map-map g (λ i. who (object_at t i)) (staying_places t ds)

  pub order_kept : table_names (reid_table t s ds) ≡ map (λ i. name_of (object_at t i)) (staying_places t ds)
  order_kept = views_kept name_in

  -- the absorbed, as the table had them
  pub absorbed_are : absorbed t s ds ≡ map (λ i. absorbed_in (who (object_at t i))) (leaving_places t ds)
  unfolding absorbed
  absorbed_are =
      let l = slots_merged t s ds in
      let places = keep (leaves t ds) (below (length l)) in
      map-map absorbed_of (λ i. get_or l i no_slot) places
      ∙ sym (map-map absorbed_in (λ i. who (get_or l i no_slot).object) places)
      ∙ ap (map absorbed_in) (at_places (leaves t ds))
      ∙ map-map absorbed_in (λ i. who (object_at t i)) (leaving_places t ds)

  absorbed_names_lem : map (λ a. a.name) (absorbed t s ds) ≡ map (λ i. name_of (object_at t i)) (leaving_places t ds)
  absorbed_names_lem = ap (map (λ a. a.name)) absorbed_are ∙ map-map (λ a. a.name) (λ i. absorbed_in (who (object_at t i))) (leaving_places t ds)

  staying_count : length (slots_staying t s ds) ≡ length (staying_places t ds)
  unfolding slots_staying
  staying_count =
      let l = slots_merged t s ds in
      length-map (unmatched (length l) (rows_of (merges t ds))) (λ i. get_or l i no_slot) ∙ rw (merged_length t s ds)

  -- ---- the account

  pub records_fall : (reid_table t s ds).counts.records + length (absorbed t s ds) ≡ t.counts.records
  unfolding reid_table
  records_fall =
      let all = parted (λ (o : TrackedObject). 1) length refl (λ o l. omega arith) (object_at t) (leaves t ds) (below t.counts.records) in
      rw (staying_count, absorbed_are, length-map (leaving_places t ds) (λ i. absorbed_in (who (object_at t i)))) (sym (simp (length-map, length-below) at all))

  -- of a table that holds as many records as it counts
  module _ (most : t.counts.records ≤ length t.records) where
    objects_before : table_objects t ≡ map (object_at t) (below t.counts.records)
    objects_before = sym (take_each t.records zero_object t.counts.records most)

    whos_before : map who (table_objects t) ≡ map (λ i. who (object_at t i)) (below t.counts.records)
    whos_before = rw objects_before (map-map who (object_at t) (below t.counts.records))

    -- who is in the table after, and who was absorbed: exactly who was in it before, as often
    pub fair : (x : ℕ) → times x (table_names t) ≡ times x (table_names (reid_table t s ds)) + times x (map (λ a. a.name) (absorbed t s ds))
    unfolding times
    fair x =
        rw (order_kept, absorbed_names_lem, objects_before, map-map name_of (object_at t) (below t.counts.records))
        (parted (λ y. cond (eqb y x) 1 0) (times x) refl (λ y l. refl) (λ i. name_of (object_at t i)) (leaves t ds) (below t.counts.records))

    -- of the initializing ones those absorbed are gone
    pub staying_initializing : (w : ℕ → ℕ)
        → weight w (table_initializing t) ≡ weight w (table_initializing (reid_table t s ds)) + weight w (absorbed_initializing t ds)
    unfolding keep weight
    staying_initializing w =
        rw (
          as_who (table_objects t),
          as_who (table_objects (reid_table t s ds)),
          as_who (map (object_at t) (leaving_places t ds)),
          whos_before,
          whos_after,
          map-map who (object_at t) (leaving_places t ds),
        )
        (parted (λ v. cond v.initializing (w (name_in v)) 0) (λ l. weight w (initializing_in l)) refl (load_cons w name_in (λ v. v.initializing))
        (λ i. who (object_at t i)) (leaves t ds) (below t.counts.records))

    -- what is so of everyone, by IDs, initial period and mark, stays so
    pub every_stays : (P : Who → Type 0) → Every (λ o. P (who o)) (table_objects t) → Every (λ o. P (who o)) (table_objects (reid_table t s ds))
    every_stays P all =
        let before : Every P (map (λ i. who (object_at t i)) (below t.counts.records)) = rw whos_before at (every_map {P = P} who all) in
        let after = every_map {P = P} (λ i. who (object_at t i)) (every_keep (λ i. not (leaves t ds i)) (every_unmap (λ i. who (object_at t i)) (below t.counts.records) before)) in
        every_unmap {P = P} who (table_objects (reid_table t s ds)) (rw whos_after after)

  -- where a permanent ID is what an initializing record lacks, the account tells who was initializing
  pub absorbed_unissued : ((i : ℕ) → i < t.counts.records → has_permanent (object_at t i).life.id ≡ not (object_at t i).life.is_initializing)
      → map (λ a. a.name) (keep (λ a. not a.had_permanent) (absorbed t s ds)) ≡ absorbed_initializing t ds
  absorbed_unissued told =
      let same = keep_every (λ i. not (has_permanent (object_at t i).life.id)) (λ i. (object_at t i).life.is_initializing)
      (every_keep (leaves t ds) (every_below t.counts.records (λ i h. ap not (told i h) ∙ not-not (object_at t i).life.is_initializing))) in
      rw (
        absorbed_are,
        keep-map (λ a. not a.had_permanent) (λ i. absorbed_in (who (object_at t i))) (leaving_places t ds),
        keep-map (λ o. o.life.is_initializing) (object_at t) (leaving_places t ds),
        same,
      )
      (simp map-map)

-- ---- the floats, of a table that passed its checks

module _ (t : Table) (s ds : List Float) (ready : Ready t (length s) (length ds)) where
  staying_sized : Sized (block_size t.config) (slots_staying t s ds)
  unfolding slots_staying
  staying_sized =
      let l = slots_merged t s ds in
      every_map (λ i. get_or l i no_slot)
      (every_keep (λ i. not (leaves t ds i)) (every_below (length l) (λ i h. every_at i no_slot (merged_sized t s ds ready) h)))

  staying_most : length (slots_staying t s ds) * block_size t.config ≤ t.counts.records * block_size t.config
  staying_most = mul-le-mul_right (block_size t.config) (rw (staying_count t s ds) (at_most (λ i. not (leaves t ds i)) t.counts.records))

  merged_most : length (slots_merged t s ds) * block_size t.config ≤ t.counts.records * block_size t.config
  merged_most = mul-le-mul_right (block_size t.config) (omega (arith, merged_length t s ds))

  pub length_kept : length (reid_floats t s ds) ≡ length s
  unfolding reid_floats
  length_kept =
      let long = merged_floats t s ds ready in
      floats_length staying_sized (floats_back (block_size t.config) (slots_merged t s ds) s) (omega (arith, staying_most, ready.room, long)) ∙ long

  pub rest_untouched : (k : ℕ) → t.counts.records * block_size t.config ≤ k → drop k (reid_floats t s ds) ≡ drop k s
  unfolding reid_floats
  rest_untouched k h =
      floats_behind staying_sized (floats_back (block_size t.config) (slots_merged t s ds) s) k (le_trans staying_most h)
      ∙ floats_behind (merged_sized t s ds ready) s k (le_trans merged_most h)

-- ---- the counts and the lists

module _ (t : Table) (s ds : List Float) where
  pub settings_stay : (reid_table t s ds).config ≡ t.config
  unfolding reid_table
  settings_stay = refl

  pub frames_stay : (reid_table t s ds).counts.frames ≡ t.counts.frames
  unfolding reid_table
  frames_stay = refl

  pub opened_stay : (reid_table t s ds).counts.opened ≡ t.counts.opened
  unfolding reid_table
  opened_stay = refl

  pub permanent_stay : (reid_table t s ds).counts.permanent ≡ t.counts.permanent
  unfolding reid_table
  permanent_stay = refl

  pub global_stay : (reid_table t s ds).counts.global ≡ t.counts.global
  unfolding reid_table
  global_stay = refl

  pub initializing_stay : (reid_table t s ds).counts.initializing ≡ t.counts.initializing
  unfolding reid_table
  initializing_stay = refl

  pub no_list_kept : (reid_table t s ds).lists ≡ no_lists
  unfolding reid_table
  no_list_kept = refl

  pub step_1_next : (reid_table t s ds).phase ≡ Predict
  unfolding reid_table
  step_1_next = refl
