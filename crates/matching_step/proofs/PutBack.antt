-- Rules 45 and 46: the slots of a state put back into a table's records and floats, and its counts.
use mathlib.Core.Path.{◌≡◌, refl, sym, ◌∙◌, ap}
use mathlib.Core.List.{List}
use Prim.Native.Nat.{◌*◌, ◌≤◌}
use lib.Ieee.{Float}
use lib.ListN.{length}
use Rattle.parts.specs.declared.TrackerConfig.{TrackerConfig}
use Rattle.parts.specs.declared.TrackedObject.{TrackedObject}
use Rattle.parts.specs.Layout.{block_size}
use Rattle.table.specs.declared.Counts.{Counts}
use Rattle.table.specs.Slots.{slots, records_back, floats_back}
use Rattle.table.proofs.SlotLaws.{Sized, records_unmoved, floats_unmoved, floats_length, slots_back, records_again, floats_again}
use Rattle.matching_step.specs.declared.Stepped.{Stepped}
use Rattle.matching_step.specs.Step.{State, stepped_of}

-- what stands in the table's array, its counts and its floats
abbrev pub found : TrackerConfig → List TrackedObject → List Float → Counts → State
found c records s n = record { slots = slots (block_size c) records s n.records; counts = n }

pub record Put (c : TrackerConfig) (records₀ : List TrackedObject) (s₀ : List Float) (st : State) (rs : List TrackedObject) (n : Counts) (s : List Float) : Type 0 where
  pub records : rs ≡ records_back st.slots records₀
  pub counts : n ≡ st.counts
  pub floats : s ≡ floats_back (block_size c) st.slots s₀

-- as a function returns them
pub put_back : {c : TrackerConfig} {records₀ : List TrackedObject} {s₀ : List Float} {st : State} {r : Stepped} {s : List Float}
    → r ≡ stepped_of st records₀ → s ≡ floats_back (block_size c) st.slots s₀ → Put c records₀ s₀ st r.records r.counts s
put_back stepped floats =
    record { records = ap (λ (x : Stepped). x.records) stepped; counts = ap (λ (x : Stepped). x.counts) stepped; floats = floats }

pub put_found : (c : TrackerConfig) (records : List TrackedObject) (s : List Float) (n : Counts) → n.records ≤ length records
    → Put c records s (found c records s n) records n s
put_found c records s n h =
    record {
      records = sym (records_unmoved (block_size c) records s n.records h);
      counts = refl;
      floats = sym (floats_unmoved (block_size c) records s n.records);
    }

module _ {c : TrackerConfig} {records₀ : List TrackedObject} {s₀ : List Float} {st : State} {rs : List TrackedObject} {n : Counts} {s : List Float}
    (put : Put c records₀ s₀ st rs n s) (sized : Sized (block_size c) st.slots) where
  pub put_long : length st.slots * block_size c ≤ length s₀ → length s ≡ length s₀
  put_long h = rw put.floats (floats_length sized s₀ h)

  -- what was put back is found
  pub found_again : length st.slots ≡ st.counts.records → found c rs s n ≡ st
  found_again count = rw (put.records, put.counts, put.floats, ← count, slots_back sized records₀ s₀)

  -- a further part of the step, called on what was put back, as if the step had gone on from its state
  pub part_again : length st.slots ≡ st.counts.records → (part : State → State) → length st.slots ≤ length (part st).slots
      → {r : Stepped} {t : List Float} → r ≡ stepped_of (part (found c rs s n)) rs → t ≡ floats_back (block_size c) (part (found c rs s n)).slots s
      → Put c records₀ s₀ (part st) r.records r.counts t
  part_again count part more stepped floats =
      put_back
      (stepped ∙ rw (found_again count, put.records, records_again st.slots records₀ (part st).slots more))
      (floats ∙ rw (found_again count, put.floats, floats_again sized s₀ (part st).slots more))
