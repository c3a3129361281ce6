-- Rules 45 and 46: a record takes the next permanent ID exactly where it stops to initialize; and the smaller of two counters is std's.
use Rattle.std.specs.Prelude.{Option}
use mathlib.Core.Path.{◌≡◌, refl}
use mathlib.Core.Bool.{Bool, true, false, cond, not, ◌&&◌}
use Prim.Native.Nat.{ℕ}
use lib.IntN.{ℤ}
use lib.Signed.{lt_z}
use Rattle.std.specs.Int.{int_min}
use Rattle.std.proofs.lemmas.Int.{ints}
use native.Mathlib.Omega.{arith}
use Rattle.parts.specs.declared.Life.{Life}
use Rattle.parts.specs.Life.{life_opened, life_hit, raised, promotes, smaller_of, is_zero}

-- ---- who takes the next permanent ID

stopped : (i d : Bool) (a b : Life) → a.is_initializing ≡ false → b.is_initializing ≡ i
    → (i && not (cond (i && d) a b).is_initializing) ≡ (i && d)
stopped true true a b p q = rw p
stopped true false a b p q = rw q
stopped false d a b p q = refl

-- a record that is hit and was initializing, but is not now
pub issued_hit : (period : ℕ) (maximum delay : ℤ) (reid_max : Option ℤ) (next : ℕ) (l : Life)
    → (l.is_initializing && not (life_hit period maximum delay reid_max next l).is_initializing) ≡ promotes period maximum delay l
unfolding life_hit
issued_hit period maximum delay reid_max next l = stopped l.is_initializing (lt_z delay (raised period maximum l)) _ _ refl refl

settled : (b : Bool) → not (cond b false true) ≡ b
settled true = refl
settled false = refl

-- a new record that is not initializing
pub issued_opened : (period : ℕ) (delay : ℤ) (next : ℕ) → not (life_opened period delay next).is_initializing ≡ is_zero delay
unfolding life_opened
issued_opened period delay next = settled (is_zero delay)

-- ---- the smaller of two counters

pub min_is_smaller : (a b : ℤ) → int_min a b ≡ smaller_of a b
min_is_smaller a b = grind (arith, ints)
