-- Rule 63: the slots at the places that are not among those leaving are what moves down.
use Rattle.std.proofs.Common.{◌≡◌, sym, Bool, false, not, List, ℕ, ◌≤◌, get_or, arith}
use lib.Ieee.{Float}
use Rattle.laws.specs.Lists.{holds}
use Rattle.laws.proofs.Every.{every_alike, every_keep, every_below}
use Rattle.parts.specs.declared.TrackedObject.{TrackedObject}
use Rattle.table.specs.Slots.{no_slot, slots, slots_where}
use Rattle.table.proofs.SlotLaws.{slot_at, slots_length, slots_at}
use Rattle.laws.proofs.Growing.{keep_alike}
use Rattle.laws.proofs.Standing.{Flagged}
use Rattle.reid.specs.Step.{staying_at}

abbrev pub stays : List ℕ → ℕ → Bool
stays leaving i = not (holds i leaving)

pub as_staying : (leaving : List ℕ) (flags : List Bool) (b : ℕ) (records : List TrackedObject) (s : List Float) (n : ℕ) {i : ℕ} → n ≤ i
    → Flagged (stays leaving) flags i
    → slots_where (λ i. get_or flags i false) b records s n ≡ staying_at leaving (slots b records s n)
as_staying leaving flags b records s n h told =
    rw (slots_length b records s n, keep_alike (λ i. get_or flags i false) (stays leaving) n (λ k lt. told k (omega arith)))
    (every_alike (slot_at b records s) (λ i. get_or (slots b records s n) i no_slot)
    (every_keep (stays leaving) (every_below n (λ i h. sym (slots_at b records s n i no_slot h)))))
