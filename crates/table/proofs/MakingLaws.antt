-- Rules 12, 20 and 21: a refused making returns the table of zeros, which is not whole, and an accepted one a fresh table, which is.
use Rattle.std.specs.Prelude.{None}
use mathlib.Core.Path.{◌≡◌, refl}
use mathlib.Core.Bool.{true, false}
use Prim.Native.Nat.{ℕ}
use native.Mathlib.Omega.{arith}
use borrow.Author.Tests.{le-leb, not-false}
use Rattle.laws.specs.Lists.{any}
use Rattle.parts.specs.declared.TrackerConfig.{TrackerConfig}
use Rattle.table.specs.Ranges.{settings_in_range, delay_negative, delay_too_long}
use Rattle.table.specs.Refusals.{first_due, making_checks}
use Rattle.table.specs.Wholeness.{counts_whole, records_whole, names_below, lists_whole, whole_table}
use Rattle.table.specs.Making.{settled, zero_table, fresh_table, made}
use Rattle.table.proofs.Due.{none_due, refused_is, accepted_is}

-- settings that pass the checks of making
pub record Accepted (c : TrackerConfig) : Type 0 where
  pub in_range : settings_in_range c ≡ true
  pub delay_from : delay_negative c ≡ false
  pub delay_below : delay_too_long c ≡ false

pub accepted : (c : TrackerConfig) (floats : ℕ) → first_due (making_checks c floats) ≡ None → Accepted c
accepted c floats h =
    let d = none_due (making_checks c floats) h in
    record { in_range = not-false _ d.1.1.0; delay_from = d.0; delay_below = d.1.0 }

pub fresh_whole : (c : TrackerConfig) → Accepted c → whole_table (fresh_table c) ≡ true
unfolding whole_table counts_whole records_whole any lists_whole names_below
fresh_whole c h = rw (h.in_range, h.delay_from, h.delay_below, le-leb 0 c.capacity (omega arith))

pub zero_not_whole : whole_table zero_table ≡ false
unfolding whole_table settings_in_range
zero_not_whole = refl

module _ (c : TrackerConfig) (floats : ℕ) where
  pub refused_zero : ((made c floats).refusal ≡ None → ⊥) → (made c floats).table ≡ zero_table
  unfolding made
  refused_zero h = rw (refused_is _ h)

  pub accepted_fresh : (made c floats).refusal ≡ None → (made c floats).table ≡ fresh_table (settled c)
  unfolding made
  accepted_fresh h = rw (accepted_is _ h)

  pub refused_not_whole : ((made c floats).refusal ≡ None → ⊥) → whole_table (made c floats).table ≡ false
  refused_not_whole h = rw (refused_zero h) zero_not_whole

  pub accepted_whole : (made c floats).refusal ≡ None → whole_table (made c floats).table ≡ true
  unfolding made
  accepted_whole h = rw (accepted_fresh h) (fresh_whole (settled c) (accepted (settled c) floats h))
