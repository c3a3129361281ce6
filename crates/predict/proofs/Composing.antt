-- Step 1's parts one after another: what was dropped to is found again by the sort and the prediction.
use mathlib.Core.Path.{◌≡◌}
use mathlib.Core.List.{List, []}
use Prim.Native.Nat.{ℕ, ◌*◌, ◌≤◌}
use native.Mathlib.Nat.{mul-le-mul_right, le_trans}
use native.Mathlib.Omega.{arith}
use lib.Ieee.{Float}
use lib.ListN.{length, get_or, take}
use lib.Seq.{length-take-le, get_or-take}
use Rattle.laws.proofs.Every.{every_at, every_keep}
use Rattle.laws.proofs.Growing.{keep_alike}
use Rattle.parts.specs.declared.TrackerConfig.{TrackerConfig}
use Rattle.parts.specs.declared.TrackedObject.{TrackedObject}
use Rattle.parts.specs.Layout.{block_size}
use Rattle.table.specs.Making.{zero_object}
use Rattle.table.specs.Slots.{Slot, slots, objects_of, records_back, floats_back, AllInRange}
use Rattle.table.proofs.Ranged.{ranged_slots}
use Rattle.table.proofs.SlotLaws.{slots_back, records_length, records_front, records_at, records_again, floats_again}
use Rattle.table.specs.declared.Kept.{Kept}
use Rattle.predict.specs.declared.Sort.{Sort}
use Rattle.predict.specs.Step.{belongs, kept_of, kept_records, kept_floats, places_of, each_predicted}
use Rattle.predict.proofs.Dropping.{stays, kept_most, kept_sized, kept_length}
use Rattle.predict.proofs.Predicting.{predicted_length}

-- ---- behind the drop

module _ (c : TrackerConfig) (n : ℕ) (records : List TrackedObject) (s : List Float) (whole : n * block_size c ≤ length s) {k : Kept} {f : List Float}
    (kept : k ≡ kept_records c n records s) (floats : f ≡ kept_floats c n records s) where
  pub few : k.count ≤ n
  few = rw kept (kept_most c records s n)

  -- they stand in the array, which keeps its length
  pub front_few : n ≤ 64 → n ≤ length records → (k.count ≤ 64) × (k.count ≤ length k.records) × (length (take k.count k.records) ≤ 64)
  front_few most fits =
      let long : length k.records ≡ length records = rw kept (records_length (kept_of c n records s) records (le_trans (kept_most c records s n) fits)) in
      let inside : k.count ≤ length k.records = omega (arith, few, long) in
      (omega (arith, few), inside, rw (length-take-le k.count k.records inside) (omega (arith, few)))

  pub floats_room : k.count * block_size c ≤ length f
  floats_room =
      rw (kept, floats, kept_length c records s n whole) (le_trans (mul-le-mul_right (block_size c) (kept_most c records s n)) whole)

  pub kept_ranges : AllInRange c n records → AllInRange c k.count k.records
  kept_ranges all =
      let l = kept_of c n records s in
      let d : Slot = record { object = zero_object; block = [] } in
      let ranged = every_keep (stays c) (ranged_slots c (block_size c) records s n all) in
      rw kept (λ i h. rw (records_at l records i zero_object d h) (every_at i d ranged h))

  -- as the sort reads them: the front of the array
  pub sorted : (sort : Sort) → k.count ≤ length k.records
      → places_of c sort (length (take k.count k.records)) (take k.count k.records) ≡ places_of c sort (length (kept_of c n records s)) (objects_of (kept_of c n records s))
  sorted sort h =
      let l = kept_of c n records s in
      let front = keep_alike (λ i. belongs c sort (get_or (take k.count k.records) i zero_object)) (λ i. belongs c sort (get_or k.records i zero_object)) k.count
      (λ i h. rw get_or-take) in
      let same = keep_alike (λ i. belongs c sort (get_or (records_back l records) i zero_object)) (λ i. belongs c sort (get_or (objects_of l) i zero_object)) (length l)
      (λ i h. rw (records_front l records i zero_object h)) in
      rw (length-take-le k.count k.records h, front) (rw (kept, same))

  found : slots (block_size c) k.records f k.count ≡ kept_of c n records s
  found = rw (kept, floats) (slots_back (kept_sized c records s n whole) records s)

  pub records_predicted : records_back (each_predicted c (slots (block_size c) k.records f k.count)) k.records
      ≡ records_back (each_predicted c (kept_of c n records s)) records
  records_predicted =
      let l = kept_of c n records s in
      rw (found, kept) (records_again l records (each_predicted c l) (omega (arith, predicted_length c l)))

  pub floats_predicted : floats_back (block_size c) (each_predicted c (slots (block_size c) k.records f k.count)) f
      ≡ floats_back (block_size c) (each_predicted c (kept_of c n records s)) s
  floats_predicted =
      let l = kept_of c n records s in
      rw (found, floats) (floats_again (kept_sized c records s n whole) s (each_predicted c l) (omega (arith, predicted_length c l)))
