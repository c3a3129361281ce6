-- Step 3's parts one after another: the drop finds the slots that the merges put back.
use mathlib.Core.Path.{◌≡◌, sym, ◌∙◌, ap}
use mathlib.Core.List.{List}
use Prim.Native.Nat.{◌≤◌}
use lib.Ieee.{Float}
use lib.ListN.{length, take}
use Rattle.laws.specs.Every.{Every}
use Rattle.laws.proofs.Every.{every_weaker}
use Rattle.matching.specs.declared.Picks.{Picks}
use Rattle.matching.specs.Lent.{picks_of, picked}
use Rattle.matching.proofs.Picked.{picked_rows, picked_of}
use Rattle.parts.specs.declared.TrackerConfig.{TrackerConfig}
use Rattle.parts.specs.declared.TrackedObject.{TrackedObject}
use Rattle.parts.specs.Layout.{block_size}
use Rattle.tracked_object.specs.Object.{object_merged}
use Rattle.tracked_object.proofs.MergeLaws.{merging_long}
use Rattle.table.specs.declared.Table.{Table}
use Rattle.table.specs.Slots.{kept_back, Slot, slots, records_back, floats_back, table_slots}
use Rattle.table.proofs.SlotLaws.{Sized, block_whole, slots_length, slots_every, slots_back, floats_length}
use Rattle.table.specs.declared.Kept.{Kept}
use Rattle.reid.specs.Step.{slot_merged, merge_all, merges, staying_at, slots_merged, slots_staying, reid_floats, Ready}
use Rattle.reid.proofs.Places.{merges_within}
use Rattle.reid.proofs.Absorbing.{merges_length, merges_keep}

-- ---- the merges keep the sizes of blocks

-- a whole block, and a history that fits it
record Sound (c : TrackerConfig) (x : Slot) : Type 0 where
  sized : length x.block ≡ block_size c
  counted : x.object.past_count ≤ c.past_detections_length

sound_merged : (c : TrackerConfig) (x y : Slot) → Sound c x → Sound c y → Sound c (slot_merged c x y)
unfolding object_merged
sound_merged c x y f g =
    let long = merging_long c x.object x.block y.object y.block f.counted g.counted f.sized g.sized in
    record { sized = long.1; counted = long.0 }

module _ (t : Table) (s ds : List Float) where
  pub merged_length : length (slots_merged t s ds) ≡ t.counts.records
  unfolding slots_merged
  merged_length = merges_length t.config (merges t ds) (table_slots t s) ∙ slots_length (block_size t.config) t.records s t.counts.records

module _ (t : Table) (s ds : List Float) (ready : Ready t (length s) (length ds)) where
  sound : Every (Sound t.config) (table_slots t s)
  sound =
      let b = block_size t.config in
      let n = t.counts.records in
      slots_every b t.records s n (λ i h. record { sized = block_whole b n s ready.room i h; counted = (ready.ranges i h).history })

  pub merged_sized : Sized (block_size t.config) (slots_merged t s ds)
  unfolding slots_merged
  merged_sized =
      let long = slots_length (block_size t.config) t.records s t.counts.records in
      every_weaker (λ x f. f.sized)
      (merges_keep t.config (Sound t.config) (sound_merged t.config) (table_slots t s) (merges_within t ds ready.meets) long sound)

  pub merged_floats : length (floats_back (block_size t.config) (slots_merged t s ds) s) ≡ length s
  merged_floats = floats_length merged_sized s (rw (merged_length t s ds) ready.room)

  -- ---- behind the merges

  module _ {places : Picks} {merged : List TrackedObject} {f : List Float} (decided : places ≡ picks_of (merges t ds))
      (records : merged ≡ records_back (merge_all t.config (picked places) (table_slots t s)) t.records)
      (floats : f ≡ floats_back (block_size t.config) (merge_all t.config (picked places) (table_slots t s)) s) where
    as_merged : merge_all t.config (picked places) (table_slots t s) ≡ slots_merged t s ds
    unfolding slots_merged
    as_merged = rw (decided, picked_of (merges t ds))

    found : staying_at (take places.count places.rows) (slots (block_size t.config) merged f t.counts.records) ≡ slots_staying t s ds
    unfolding slots_staying
    found =
        let b = block_size t.config in
        let l = slots_merged t s ds in
        let back : slots b merged f t.counts.records ≡ l =
        rw (records, floats, as_merged)
        (ap (slots b (records_back l t.records) (floats_back b l s)) (sym (merged_length t s ds)) ∙ slots_back merged_sized t.records s) in
        rw (back, decided, picked_rows (merges t ds))

    -- ---- behind the drop

    module _ {kept : Kept} {g : List Float}
        (dropped : kept ≡ kept_back (staying_at (take places.count places.rows) (slots (block_size t.config) merged f t.counts.records)) merged)
        (moved : g ≡ floats_back (block_size t.config) (staying_at (take places.count places.rows) (slots (block_size t.config) merged f t.counts.records)) f) where
      pub count_after : kept.count ≡ length (slots_staying t s ds)
      count_after = rw (dropped, found)

      pub records_after : kept.records ≡ records_back (slots_staying t s ds) (records_back (slots_merged t s ds) t.records)
      records_after = rw (dropped, found, records, as_merged)

      pub floats_after : g ≡ reid_floats t s ds
      unfolding reid_floats
      floats_after = rw (moved, found, floats, as_merged)
