-- The bits of a number as flags: or with 2 ^ i sets bit i and no other.
use mathlib.Core.Path.{◌≡◌, refl, ◌∙◌, ap}
use mathlib.Core.Bool.{Bool, true, false}
use mathlib.Core.Logic.{◌≢◌}
use Prim.Native.Nat.{ℕ, zero, suc, ◌+◌, ◌-◌, ◌/◌, ◌%◌, ◌^◌, ◌<◌}
use native.Mathlib.Nat.{mod-lt, one-mul, div-eq_of_lt}
use native.Mathlib.Omega.{arith}
use borrow.Author.Tests.{ltb-true, ltb-false}
use lib.Bits.{bit_or, or_shr, or_mod, or_zero_r, shifted_even}
use lib.Dec.{ltb}
use lib.Pow.{pow-add, pow-lt, shl-shr}

or_bit : (f g j : ℕ) → bit_or f g / 2 ^ j % 2 ≡ bit_or (f / 2 ^ j % 2) (g / 2 ^ j % 2)
or_bit f g j = ap (λ (n : ℕ). n % 2) (or_shr f g j) ∙ or_mod (f / 2 ^ j) (g / 2 ^ j) 1

or_one : (b : ℕ) → b < 2 → bit_or b 1 ≡ 1
or_one zero h = refl
or_one (suc zero) h = refl
or_one (suc (suc b)) h = absurd (omega arith)

power_here : (i : ℕ) → 2 ^ i / 2 ^ i ≡ 1
power_here i = rw one-mul at (shl-shr 1 i)

power_above : (d j : ℕ) → 2 ^ (suc d + j) / 2 ^ j % 2 ≡ 0
power_above d j = rw (pow-add 2 (suc d) j, shl-shr (2 ^ suc d) j) (rw one-mul at (shifted_even 1 d))

power_there : (i j : ℕ) → i ≢ j → 2 ^ i / 2 ^ j % 2 ≡ 0
power_there i j h = go (ltb i j) refl
  where
    go : (v : Bool) → ltb i j ≡ v → 2 ^ i / 2 ^ j % 2 ≡ 0
    go true q = ap (λ (n : ℕ). n % 2) (div-eq_of_lt (pow-lt (ltb-true i j q)))
    go false q =
        let e : i ≡ suc (i - suc j) + j = omega (arith, ltb-false i j q) in
        rw e (power_above (i - suc j) j)

pub bit_here : (f i : ℕ) → bit_or f (2 ^ i) / 2 ^ i % 2 ≡ 1
bit_here f i = or_bit f (2 ^ i) i ∙ rw (power_here i) (or_one (f / 2 ^ i % 2) (mod-lt (f / 2 ^ i) (omega arith)))

pub bit_there : (f i j : ℕ) → i ≢ j → bit_or f (2 ^ i) / 2 ^ j % 2 ≡ f / 2 ^ j % 2
bit_there f i j h = or_bit f (2 ^ i) j ∙ rw (power_there i j h) (or_zero_r (f / 2 ^ j % 2))
