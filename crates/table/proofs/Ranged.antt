-- Rule 14 of slots: every record in range.
use mathlib.Core.List.{List}
use Prim.Native.Nat.{ℕ}
use lib.Ieee.{Float}
use Rattle.laws.specs.Every.{Every}
use Rattle.parts.specs.declared.TrackerConfig.{TrackerConfig}
use Rattle.parts.specs.declared.TrackedObject.{TrackedObject}
use Rattle.parts.specs.Ranges.{ObjectInRange}
use Rattle.table.specs.Slots.{Slot, slots, AllInRange}
use Rattle.table.proofs.SlotLaws.{slots_every}

abbrev pub Ranged : TrackerConfig → List Slot → Type 0
Ranged c l = Every (λ x. ObjectInRange c x.object) l

pub ranged_slots : (c : TrackerConfig) (b : ℕ) (records : List TrackedObject) (s : List Float) (n : ℕ) → AllInRange c n records → Ranged c (slots b records s n)
ranged_slots c b records s = slots_every b records s
