-- Rule 30: the slots of the records that are not gone are what moves down.
use mathlib.Core.Path.{◌≡◌}
use mathlib.Core.Bool.{Bool, false, not}
use mathlib.Core.List.{List}
use Prim.Native.Nat.{ℕ, ◌*◌, ◌≤◌}
use lib.Ieee.{Float}
use lib.ListN.{length, get_or}
use Rattle.laws.specs.Lists.{below}
use Rattle.laws.proofs.Standing.{Flagged}
use Rattle.laws.proofs.Growing.{keep_alike}
use Rattle.laws.proofs.Weighing.{keep-map}
use Rattle.parts.specs.declared.TrackerConfig.{TrackerConfig}
use Rattle.parts.specs.declared.TrackedObject.{TrackedObject}
use Rattle.parts.specs.Layout.{block_size}
use Rattle.table.specs.Making.{zero_object}
use Rattle.table.specs.Slots.{Slot, floats_back, slots_where}
use Rattle.table.proofs.SlotLaws.{Sized, slot_at, slots_mapped}
use Rattle.table.proofs.Moving.{moved_most, moved_sized, moved_length}
use Rattle.predict.specs.Step.{gone, kept_of}

abbrev pub stays : TrackerConfig → Slot → Bool
stays c x = not (gone c x.object)

-- by the record at a place
abbrev pub stays_at : TrackerConfig → List TrackedObject → ℕ → Bool
stays_at c records i = not (gone c (get_or records i zero_object))

module _ (c : TrackerConfig) (records : List TrackedObject) (s : List Float) (n : ℕ) where
  kept_moved : kept_of c n records s ≡ slots_where (stays_at c records) (block_size c) records s n
  kept_moved = rw (slots_mapped (block_size c) records s n) (keep-map (stays c) (slot_at (block_size c) records s) (below n))

  pub kept_most : length (kept_of c n records s) ≤ n
  kept_most = rw kept_moved (moved_most (stays_at c records) (block_size c) records s n)

  pub kept_sized : n * block_size c ≤ length s → Sized (block_size c) (kept_of c n records s)
  kept_sized h = rw kept_moved (moved_sized (stays_at c records) (block_size c) records s n h)

  pub kept_length : n * block_size c ≤ length s → length (floats_back (block_size c) (kept_of c n records s) s) ≡ length s
  kept_length h = rw kept_moved (moved_length (stays_at c records) (block_size c) records s n h)

  -- where the flags say who stays
  pub flagged : (stays : List Bool) → Flagged (stays_at c records) stays n
      → slots_where (λ i. get_or stays i false) (block_size c) records s n ≡ kept_of c n records s
  flagged stays held = rw (kept_moved, keep_alike (λ i. get_or stays i false) (stays_at c records) n held)
