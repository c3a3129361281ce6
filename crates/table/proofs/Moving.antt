-- The slots at the places that pass a test move down in order, each record with its block, behind those kept before it.
use mathlib.Core.Path.{◌≡◌, refl, sym, ◌∙◌}
use mathlib.Core.Bool.{Bool, true, false}
use mathlib.Core.List.{List, [], ◌∷◌, ◌++◌, map-append}
use Prim.Native.Nat.{ℕ, ◌+◌, ◌*◌, ◌<◌, ◌≤◌}
use native.Mathlib.Nat.{zero-mul, mul-le-mul_right, le_trans}
use native.Mathlib.Omega.{arith}
use native.Mathlib.Numerals.{add-one}
use lib.Ieee.{Float}
use lib.ListN.{length, get_or, set, drop, length-map}
use lib.Seq.{paste, take-take}
use Rattle.laws.specs.Lists.{below, keep}
use Rattle.laws.proofs.Every.{every_map, every_keep, every_below}
use Rattle.laws.proofs.Growing.{length_snoc, joins, stays_out, at_most}
use Rattle.laws.proofs.Pasting.{length_part}
use Rattle.parts.specs.declared.TrackedObject.{TrackedObject}
use Rattle.table.specs.declared.Kept.{Kept}
use Rattle.table.specs.Making.{zero_object}
use Rattle.table.specs.Slots.{Slot, slots_where, kept_back, blocks_of, floats_back}
use Rattle.table.proofs.SlotLaws.{Sized, slot_at, block_fits, block_whole, records_length, records_behind, records_put, floats_length, floats_put, floats_behind}

module _ (p : ℕ → Bool) (b : ℕ) (records : List TrackedObject) (s : List Float) (i : ℕ) where
  abbrev pub moved_down : List Slot
  moved_down = slots_where p b records s i

  pub moved_most : length moved_down ≤ i
  moved_most = rw (length-map (keep p (below i)) (slot_at b records s)) (at_most p i)

  pub moved_sized : i * b ≤ length s → Sized b moved_down
  moved_sized h = every_map (slot_at b records s) (every_keep p (every_below i (block_whole b i s h)))

  pub moved_length : i * b ≤ length s → length (floats_back b moved_down s) ≡ length s
  moved_length h = floats_length (moved_sized h) s (le_trans (mul-le-mul_right b moved_most) h)

  none_more : p i ≡ false → slots_where p b records s (i + 1) ≡ moved_down
  unfolding below
  none_more e = rw (add-one i, stays_out p (below i) i e)

  one_more : p i ≡ true → slots_where p b records s (i + 1) ≡ moved_down ++ (slot_at b records s i ∷ [])
  unfolding below
  one_more e = rw (add-one i, joins p (below i) i e) (map-append (slot_at b records s) (keep p (below i)) (i ∷ []))

-- after i turns: in front stand the slots of the first i places that pass, and behind them what was there
pub record Moved (p : ℕ → Bool) (b : ℕ) (records : List TrackedObject) (s : List Float) (i : ℕ) (kept : Kept) (f : List Float) : Type 0 where
  pub few : kept.count ≤ i
  pub objects : kept ≡ kept_back (slots_where p b records s i) records
  pub blocks : f ≡ floats_back b (slots_where p b records s i) s

pub none_moved : (p : ℕ → Bool) (b : ℕ) (records : List TrackedObject) (s : List Float) → Moved p b records s 0 (record { records = records; count = 0 }) s
unfolding below keep blocks_of
none_moved p b records s = record { few = omega arith; objects = refl; blocks = rw zero-mul }

-- by the size that the code computed
pub block_fits_in : (s : List Float) (i : ℕ) {b n size : ℕ} → b ≡ size → n * size ≤ length s → i < n → i * b + b ≤ length s
block_fits_in s i {b} {n} e enough h = le_trans (block_fits b i n h) (rw e enough)

module _ {p : ℕ → Bool} {b : ℕ} {records : List TrackedObject} {s : List Float} {i : ℕ} {kept : Kept} {f : List Float} (m : Moved p b records s i kept f) where
  -- where the block at i goes, and that it lies in the floats
  pub moves_down : {n size : ℕ} → b ≡ size → n * size ≤ length s → i < n → (kept.count * b ≤ i * b) × (i * b + b ≤ length f)
  moves_down e enough h =
      let fits = block_fits_in s i e enough h in
      (mul-le-mul_right b m.few, rw (m.blocks, moved_length p b records s i (omega arith)) fits)

  -- the array keeps its length
  pub long : i ≤ length records → length kept.records ≡ length records
  long h = rw m.objects (records_length (slots_where p b records s i) records (le_trans (moved_most p b records s i) h))

  -- the record at i is still where it was
  pub unmoved : get_or kept.records i zero_object ≡ get_or records i zero_object
  unmoved = rw m.objects (records_behind (slots_where p b records s i) records i zero_object (moved_most p b records s i))

  -- the record at i leaves
  pub leaves : p i ≡ false → Moved p b records s (i + 1) kept f
  leaves e =
      let same = none_more p b records s i e in
      record { few = omega (arith, m.few); objects = rw same m.objects; blocks = rw same m.blocks }

  -- it stays: its block is still where it was, since those before it went no further up
  module _ (e : p i ≡ true) (fits : i * b + b ≤ length s) where
    l : List Slot
    l = slots_where p b records s i

    y : Slot
    y = slot_at b records s i

    record_stays : {o : TrackedObject} → i < length records → o ≡ get_or records i zero_object
        → record { records = set kept.records kept.count o; count = kept.count + 1 } ≡ kept_back (slots_where p b records s (i + 1)) records
    unfolding l y
    record_stays h same =
        rw (m.objects, same, one_more p b records s i e, records_put l records y (omega (arith, moved_most p b records s i)), length_snoc l y, add-one (length l))

    block_stays : {g : List Float} → g ≡ paste f (kept.count * b) (drop (i * b) f) b → g ≡ floats_back b (slots_where p b records s (i + 1)) s
    unfolding l y
    block_stays moved =
        let sized = moved_sized p b records s i (omega arith) in
        let read = floats_behind sized s (i * b) (mul-le-mul_right b (moved_most p b records s i)) in
        moved
        ∙ rw (m.objects, m.blocks, read, one_more p b records s i e)
        (sym (floats_put sized s y (length_part s (i * b) b fits) ∙ rw (take-take b b (drop (i * b) s) (omega arith))))

    pub stays : {o : TrackedObject} {g : List Float} → i < length records → o ≡ get_or records i zero_object
        → g ≡ paste f (kept.count * b) (drop (i * b) f) b
        → Moved p b records s (i + 1) (record { records = set kept.records kept.count o; count = kept.count + 1 }) g
    stays h same moved = record { few = omega (arith, m.few); objects = record_stays h same; blocks = block_stays moved }
