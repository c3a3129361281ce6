-- Rule 61: merges one after another: each changes the slot of an old record, and what every slot fulfils stays so.
use mathlib.Core.Path.{◌≡◌, sym, ◌∙◌}
use mathlib.Core.List.{List}
use Prim.Native.Nat.{ℕ, ◌+◌, ◌*◌, ◌<◌, ◌≤◌}
use native.Mathlib.Nat.{le_trans}
use native.Mathlib.Omega.{arith}
use lib.Ieee.{Float}
use lib.ListN.{length, get_or, set, length-set}
use lib.Seq.{paste}
use Rattle.laws.specs.Every.{Every, none, one}
use Rattle.laws.specs.Turns.{through}
use Rattle.laws.proofs.Every.{every_weaker, every_set, every_at}
use Rattle.laws.proofs.Through.{through_keep}
use Rattle.matching.specs.Greedy.{Pick}
use Rattle.matching.proofs.Picked.{Inside}
use Rattle.parts.specs.declared.TrackerConfig.{TrackerConfig}
use Rattle.parts.specs.declared.TrackedObject.{TrackedObject}
use Rattle.parts.specs.Layout.{block_size}
use Rattle.parts.specs.Ranges.{Sizes, ObjectInRange}
use Rattle.tracked_object.specs.Object.{object_merged, block_merged}
use Rattle.tracked_object.proofs.MergeLaws.{length-block_merged, length_past_merged, merged_in_range}
use Rattle.table.specs.Making.{zero_object}
use Rattle.table.specs.Slots.{Slot, no_slot, slots, records_back, floats_back, AllInRange}
use Rattle.table.proofs.SlotLaws.{Sized, block_fits, block_whole, slots_length, slots_every, records_unmoved, floats_unmoved, records_at, records_swap, floats_length, floats_at, floats_swap}
use Rattle.reid.specs.Step.{slot_merged, merge_one, merge_all}
use Rattle.reid.proofs.Lending.{block_at}

-- ---- what merges keep

pub merges_length : (c : TrackerConfig) (picks : List Pick) (l : List Slot) → length (merge_all c picks l) ≡ length l
merges_length c = through_keep (merge_one c) length (λ p l. length-set l p.col (slot_merged c (get_or l p.row no_slot) (get_or l p.col no_slot)))

-- what a merge keeps true of a slot stays true of all
module _ (c : TrackerConfig) (P : Slot → Type 0) (kept : (x y : Slot) → P x → P y → P (slot_merged c x y)) where
  pub merge_keeps : (p : Pick) (l : List Slot) → p.row < length l → Every P l → Every P (merge_one c p l)
  merge_keeps p l h all =
      let x = get_or l p.row no_slot in
      let y = get_or l p.col no_slot in
      every_set (λ z q. q) p.col (slot_merged c x y) no_slot all (kept x y (every_at p.row no_slot all h))

  pub merges_keep : {n : ℕ} {picks : List Pick} (l : List Slot) → Every (Inside n n) picks → length l ≡ n → Every P l → Every P (merge_all c picks l)
  unfolding through
  merges_keep l none e all = all
  merges_keep l (one {x = p} h r) e all = merges_keep (merge_one c p l) r (length-set l p.col _ ∙ e) (merge_keeps p l (omega (arith, h.0)) all)

-- ---- what a merge leans on: a whole block, ranges, and a history of 8 places

pub record Fit (c : TrackerConfig) (x : Slot) : Type 0 where
  pub sized : length x.block ≡ block_size c
  pub ranged : ObjectInRange c x.object
  pub eight : length x.object.past ≡ 8

fit_merged : (c : TrackerConfig) → Sizes c → (x y : Slot) → Fit c x → Fit c y → Fit c (slot_merged c x y)
fit_merged c sizes x y f g =
    record {
      sized = length-block_merged c sizes x.object x.block y.object y.block g.ranged f.ranged g.eight f.sized g.sized;
      ranged = merged_in_range c sizes x.object x.block y.object y.block g.ranged f.ranged g.eight f.sized g.sized;
      eight = length_past_merged c sizes x.object x.block y.object y.block g.ranged f.ranged g.eight f.sized g.sized;
    }

-- ---- slots that are fit, put back into a table's records and floats

pub record Put (c : TrackerConfig) (n : ℕ) (records₀ : List TrackedObject) (s₀ : List Float) (l : List Slot) (rs : List TrackedObject) (s : List Float) : Type 0 where
  pub count : length l ≡ n
  pub fit : Every (Fit c) l
  pub records : rs ≡ records_back l records₀
  pub floats : s ≡ floats_back (block_size c) l s₀

-- as they are found
pub put_found : (c : TrackerConfig) (n : ℕ) (records : List TrackedObject) (s : List Float) → n ≤ length records → n * block_size c ≤ length s
    → AllInRange c n records → Every (λ o. length o.past ≡ 8) records → Put c n records s (slots (block_size c) records s n) records s
put_found c n records s h room all eights =
    let b = block_size c in
    record {
      count = slots_length b records s n;
      fit =
          slots_every b records s n
          (λ i lt. record { sized = block_whole b n s room i lt; ranged = all i lt; eight = every_at i zero_object eights (omega arith) });
      records = sym (records_unmoved b records s n h);
      floats = sym (floats_unmoved b records s n);
    }

module _ {c : TrackerConfig} {n : ℕ} {records₀ : List TrackedObject} {s₀ : List Float} {l : List Slot} {rs : List TrackedObject} {s : List Float}
    (put : Put c n records₀ s₀ l rs s) where
  sized : Sized (block_size c) l
  sized = every_weaker (λ x f. f.sized) put.fit

  pub put_long : n * block_size c ≤ length s₀ → length s ≡ length s₀
  put_long h = rw put.floats (floats_length sized s₀ (rw put.count h))

  module _ (i : ℕ) (h : i < n) where
    inside : i < length l
    inside = omega (arith, put.count)

    -- what is read is what stands in the slot
    object_read : (z : TrackedObject) → get_or rs i z ≡ (get_or l i no_slot).object
    object_read z = rw put.records (records_at l records₀ i z no_slot inside)

    block_read : block_at c s i ≡ (get_or l i no_slot).block
    block_read = rw put.floats (floats_at sized s₀ i no_slot inside)

    pub put_range : (z : TrackedObject) → ObjectInRange c (get_or rs i z)
    put_range z = rw (object_read z) (every_at i no_slot put.fit inside).ranged

    pub put_inside : n * block_size c ≤ length s₀ → i * block_size c + block_size c ≤ length s
    put_inside room = rw (put_long room) (le_trans (block_fits (block_size c) i n h) room)

  -- one merge more
  pub put_merged : Sizes c → (p : Pick) (z : TrackedObject) {o : TrackedObject} {t : List Float} → p.row < n → p.col < n
      → o ≡ object_merged c (get_or rs p.row z) (block_at c s p.row) (get_or rs p.col z) (block_at c s p.col)
      → t ≡ paste s (p.col * block_size c) (block_merged c (get_or rs p.row z) (block_at c s p.row) (get_or rs p.col z) (block_at c s p.col)) (block_size c)
      → Put c n records₀ s₀ (merge_one c p l) (set rs p.col o) t
  put_merged sizes p z {o} row col merged floats =
      let x = get_or l p.row no_slot in
      let y = get_or l p.col no_slot in
      let from = inside p.row row in
      let on = inside p.col col in
      let whole = fit_merged c sizes x y (every_at p.row no_slot put.fit from) (every_at p.col no_slot put.fit on) in
      let candidate = object_read p.row row z in
      let given = block_read p.row row in
      let old = object_read p.col col z in
      let taking = block_read p.col col in
      let object : o ≡ (slot_merged c x y).object = merged ∙ rw (candidate, given, old, taking) in
      record {
        count = length-set l p.col (slot_merged c x y) ∙ put.count;
        fit = merge_keeps c (Fit c) (fit_merged c sizes) p l from put.fit;
        records = rw (object, put.records) (sym (records_swap l records₀ p.col (slot_merged c x y) on));
        floats = floats ∙ rw (candidate, given, old, taking, put.floats) (sym (floats_swap sized s₀ p.col (slot_merged c x y) on whole.sized));
      }
