-- Rules 10, 11, 14 and 75: no call on a sound table is refused with 5, so none of any sequence from a fresh tracker is.
use Rattle.std.specs.Prelude.{Some, None, Ok}
use mathlib.Core.Path.{◌≡◌}
use mathlib.Core.Bool.{Bool, true, false, not, cond}
use mathlib.Core.List.{List, [], ◌∷◌}
use Prim.Native.Nat.{◌-◌}
use lib.Ieee.{Float}
use lib.ListN.{length}
use Rattle.parts.specs.declared.TrackerConfig.{TrackerConfig}
use Rattle.table.specs.declared.Table.{Table}
use Rattle.table.specs.declared.refusals.Refusal.TheVariants.{TableNotWhole}
use Rattle.table.specs.Making.{made}
use Rattle.table.specs.Refusals.{Check, check, first_due}
use Rattle.table.specs.Wholeness.{whole_table}
use Rattle.tracker.specs.Calls.{total_answer}
use Rattle.ledger.specs.History.{Call, predict, match, reid, total, current, World, refusal_of, day_of}
use Rattle.ledger.proofs.Sound.{Sound, sound_whole}
use Rattle.ledger.proofs.SoundAfter.{reached_day}

-- no check is of refusal 5
abbrev NoneFive : List Check → Type 0
NoneFive [] = Unit {0}
NoneFive (c ∷ l) = (c.refusal ≡ TableNotWhole → ⊥) × NoneFive l

not_five : (l : List Check) → NoneFive l → first_due l ≡ Some TableNotWhole → ⊥
unfolding first_due
not_five [] p h = cc
not_five (c ∷ l) p h = go c.due (not_five l p.1) h
  where
    go : (b : Bool) → (first_due l ≡ Some TableNotWhole → ⊥) → cond b (Some c.refusal) (first_due l) ≡ Some TableNotWhole → ⊥
    go true later e = p.0 cc
    go false later e = later e

whole_first : (t : Table) (l : List Check) → Sound t → NoneFive l → first_due (check TableNotWhole (not (whole_table t)) ∷ l) ≡ Some TableNotWhole → ⊥
unfolding first_due
whole_first t l sound p h = not_five l p (rw (sound_whole sound) at h)

pub never_five : (call : Call) (w : World) → Sound w.table → refusal_of call w ≡ Some TableNotWhole → ⊥
never_five predict w sound = whole_first w.table _ sound (λ e. cc, (λ e. cc, (λ e. cc, tt)))
never_five (match n f l) w sound =
    whole_first w.table _ sound
    (λ e. cc, (λ e. cc, (λ e. cc, (λ e. cc, (λ e. cc, (λ e. cc, (λ e. cc, (λ e. cc, (λ e. cc, tt)))))))))
never_five (reid ds l) w sound =
    whole_first w.table _ sound (λ e. cc, (λ e. cc, (λ e. cc, (λ e. cc, tt))))
never_five total w sound = whole_first w.table [] sound tt
never_five current w sound = whole_first w.table [] sound tt

pub never_five_day : (c : TrackerConfig) (s : List Float) (calls : List Call) (call : Call) → (made c (length s)).refusal ≡ None
    → refusal_of call (day_of c s calls).world ≡ Some TableNotWhole → ⊥
never_five_day c s calls call none = never_five call (day_of c s calls).world (reached_day c s calls none).sound

-- ---- a count is refused with 5 alone: the total is told

pub total_told : (t : Table) → Sound t → total_answer t ≡ Ok (t.counts.permanent - 1)
unfolding total_answer first_due
total_told t sound = rw (sound_whole sound)
