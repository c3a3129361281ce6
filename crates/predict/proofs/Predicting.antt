-- Rule 32: record i and its block, predicted, behind those predicted before it.
use mathlib.Core.Path.{◌≡◌, sym, ◌∙◌, ap}
use mathlib.Core.List.{List, [], ◌∷◌, ◌++◌, map-append}
use Prim.Native.Nat.{ℕ, suc, ◌+◌, ◌-◌, ◌*◌, ◌<◌, ◌≤◌}
use native.Mathlib.Nat.{mul-le-mul_right, le_trans}
use native.Mathlib.Omega.{arith}
use lib.Ieee.{Float}
use lib.ListN.{length, get_or, take, drop, set, length-map}
use lib.Seq.{paste}
use Rattle.laws.proofs.Every.{every_weaker, every_map}
use Rattle.laws.proofs.Pasting.{part_same, length_part, part_back}
use Rattle.parts.specs.declared.TrackerConfig.{TrackerConfig}
use Rattle.parts.specs.declared.TrackedObject.{TrackedObject}
use Rattle.parts.specs.Layout.{block_size}
use Rattle.tracked_object.specs.Object.{object_predicted, block_predicted}
use Rattle.tracked_object.proofs.ObjectLaws.{length-predicted}
use Rattle.table.specs.Making.{zero_object}
use Rattle.table.specs.Slots.{Slot, slots, records_back, floats_back}
use Rattle.table.proofs.SlotLaws.{Sized, slots_suc, slots_length, slots_sized, slot_at, block_fits, records_length, records_behind, records_put, floats_length, floats_put, floats_behind}
use Rattle.predict.specs.Step.{slot_predicted, each_predicted}

-- predicting keeps the number of slots and the sizes of blocks
pub predicted_length : (c : TrackerConfig) (l : List Slot) → length (each_predicted c l) ≡ length l
predicted_length c l = length-map l (slot_predicted c)

pub predicted_sized : (c : TrackerConfig) {b : ℕ} {l : List Slot} → Sized b l → Sized b (each_predicted c l)
predicted_sized c sized = every_map (slot_predicted c) (every_weaker (λ x e. length-predicted c x.block ∙ e) sized)

module _ (c : TrackerConfig) (records : List TrackedObject) (s : List Float) (i : ℕ) where
  abbrev pub ahead : List Slot
  ahead = each_predicted c (slots (block_size c) records s i)

  ahead_length : length ahead ≡ i
  ahead_length = predicted_length c (slots (block_size c) records s i) ∙ slots_length (block_size c) records s i

  ahead_sized : i * block_size c ≤ length s → Sized (block_size c) ahead
  ahead_sized h = predicted_sized c (slots_sized (block_size c) records s i h)

  ahead_suc : each_predicted c (slots (block_size c) records s (suc i)) ≡ ahead ++ (slot_predicted c (slot_at (block_size c) records s i) ∷ [])
  ahead_suc =
      rw (slots_suc (block_size c) records s i)
      (map-append (slot_predicted c) (slots (block_size c) records s i) (slot_at (block_size c) records s i ∷ []))

  pub records_long : {rs : List TrackedObject} → i ≤ length records → rs ≡ records_back ahead records → length rs ≡ length records
  records_long h held = rw held (records_length ahead records (omega (arith, ahead_length)))

  pub floats_long : {n : ℕ} {f : List Float} → i ≤ n → n * block_size c ≤ length s → f ≡ floats_back (block_size c) ahead s → length f ≡ length s
  floats_long h whole held =
      let room = le_trans (mul-le-mul_right (block_size c) h) whole in
      rw held (floats_length (ahead_sized room) s (rw ahead_length room))

  pub block_inside : {size n : ℕ} → size ≡ block_size c → i < n → n * block_size c ≤ length s → i * size + size ≤ length s
  block_inside {n = n} e h whole = rw e (le_trans (block_fits (block_size c) i n h) whole)

  -- the record is still as it was
  pub record_unmoved : {rs : List TrackedObject} → rs ≡ records_back ahead records → get_or rs i zero_object ≡ get_or records i zero_object
  record_unmoved held = rw held (records_behind ahead records i zero_object (omega (arith, ahead_length)))

  pub record_predicted : {rs : List TrackedObject} {o : TrackedObject} → i < length records → rs ≡ records_back ahead records
      → o ≡ object_predicted c (get_or records i zero_object)
      → set rs i o ≡ records_back (each_predicted c (slots (block_size c) records s (suc i))) records
  record_predicted h held same =
      let y = slot_predicted c (slot_at (block_size c) records s i) in
      let put = records_put ahead records y (omega (arith, ahead_length)) in
      rw (held, same, ahead_suc) (sym (put ∙ ap (λ (k : ℕ). set (records_back ahead records) k y.object) ahead_length))

  pub block_predicted_lem : {size : ℕ} {f g ys : List Float} → size ≡ block_size c → i * size + size ≤ length s
      → f ≡ floats_back (block_size c) ahead s
      → ys ≡ block_predicted c (take (i * size + size - i * size) (drop (i * size) f))
      → g ≡ take (i * size) f ++ (ys ++ drop (i * size + size - i * size) (drop (i * size) f))
      → g ≡ floats_back (block_size c) (each_predicted c (slots (block_size c) records s (suc i))) s
  block_predicted_lem {size = size} {f = f} {ys = ys} e room held same lent =
      let b = block_size c in
      let fits : i * b + b ≤ length s = rw e at room in
      let sized = ahead_sized (omega (arith, fits)) in
      let y = slot_predicted c (slot_at b records s i) in
      let behind = floats_behind sized s (i * b) (rw ahead_length (omega arith)) in
      let long = length-predicted c (take b (drop (i * b) s)) ∙ length_part s (i * b) b fits in
      let put = floats_put sized s y long ∙ ap (λ (k : ℕ). paste (floats_back b ahead s) (k * b) y.block b) ahead_length in
      let made : ys ≡ y.block = same ∙ rw (part_same f (i * size) size, e, held, behind) in
      lent ∙ part_back f (i * size) size ys (rw (made, e) long) ∙ rw (made, e, held, ahead_suc) (sym put)
