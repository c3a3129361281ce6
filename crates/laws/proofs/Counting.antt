-- How often a number stands in a list, and whether it does: in two lists, in what a test keeps, below a count; and a list without repetition is short.
use mathlib.Core.Path.{◌≡◌, refl, sym, ◌∙◌, ap}
use mathlib.Core.Logic.{⊎_elim}
use mathlib.Core.Bool.{Bool, true, false, not, ◌&&◌, ◌||◌, cond}
use mathlib.Core.List.{List, [], ◌∷◌, ◌++◌}
use Prim.Native.Nat.{ℕ, zero, suc, ◌+◌, ◌<◌, ◌≤◌, zero-le}
use native.Mathlib.Nat.{le_refl, eq-or-lt_of_le}
use native.Mathlib.Omega.{arith}
use borrow.Author.Tests.{ltb-true, ltb-false, lt-ltb, le-ltb, eqb-true, eqb-false, eq-eqb, ne_eqb}
use lib.Dec.{eqb, ltb}
use lib.ListN.{length}
use Rattle.laws.specs.Lists.{below, keep, any, holds, times}

pub bit_at_most_one : (b : Bool) → cond b 1 0 ≤ 1
bit_at_most_one true = omega arith
bit_at_most_one false = omega arith

-- a sum of which both parts count, or neither
both_or_none : (v : Bool) (a b : ℕ) → cond v a 0 + cond v b 0 ≡ cond v (a + b) 0
both_or_none true a b = refl
both_or_none false a b = refl

nothing : (v : Bool) → ◌≡◌ {A = ℕ} (cond v 0 0) 0
nothing true = refl
nothing false = refl

module _ (x : ℕ) where
  pub times-append : (l m : List ℕ) → times x (l ++ m) ≡ times x l + times x m
  unfolding times
  times-append [] m = omega arith
  times-append (y ∷ l) m = omega (arith, times-append l m)

  times-first : (v : Bool) (y : ℕ) (l : List ℕ) → times x (cond v (y ∷ l) l) ≡ cond v (cond (eqb y x) 1 0) 0 + times x l
  unfolding times
  times-first true y l = refl
  times-first false y l = omega arith

  -- a test keeps all of a number or none of it
  pub times-keep : (p : ℕ → Bool) (l : List ℕ) → times x (keep p l) ≡ cond (p x) (times x l) 0
  unfolding keep times
  times-keep p [] = sym (nothing (p x))
  times-keep p (y ∷ l) =
      times-first (p y) y (keep p l) ∙ rw (times-keep p l, alike (eqb y x) refl) (both_or_none (p x) (cond (eqb y x) 1 0) (times x l))
    where
      alike : (b : Bool) → eqb y x ≡ b → ◌≡◌ {A = ℕ} (cond (p y) (cond b 1 0) 0) (cond (p x) (cond b 1 0) 0)
      alike true e = rw (eqb-true y x e)
      alike false e = nothing (p y) ∙ sym (nothing (p x))

  pub kept_at_most : (p : ℕ → Bool) (l : List ℕ) → times x (keep p l) ≤ times x l
  kept_at_most p l = rw (times-keep p l) (go (p x))
    where
      go : (b : Bool) → cond b (times x l) 0 ≤ times x l
      go true = le_refl (times x l)
      go false = zero-le

  -- of the numbers below a count each stands there once
  pub times_below : (n : ℕ) → times x (below n) ≡ cond (ltb x n) 1 0
  unfolding below times
  times_below zero = rw (le-ltb x 0 (omega arith))
  times_below (suc n) = times-append (below n) (n ∷ []) ∙ rw (times_below n) (next (eqb n x) refl)
    where
      further : eqb n x ≡ false → (b : Bool) → ltb x n ≡ b → ltb x (suc n) ≡ b
      further e true h = lt-ltb x (suc n) (omega (arith, ltb-true x n h))
      further e false h = ⊎_elim (λ (q : n ≡ x). absurd (eqb-false n x e q)) (λ (q : n < x). le-ltb x (suc n) q) (eq-or-lt_of_le (ltb-false x n h))

      next : (b : Bool) → eqb n x ≡ b → cond (ltb x n) 1 0 + (cond b 1 0 + 0) ≡ cond (ltb x (suc n)) 1 0
      next true e = let q : n ≡ x = eqb-true n x e in rw (q, le-ltb x x (omega arith), lt-ltb x (suc x) (omega arith))
      next false e = rw (further e (ltb x n) refl) (omega arith)

  pub below_once : (n : ℕ) → times x (below n) ≤ 1
  below_once n = rw (times_below n) (bit_at_most_one (ltb x n))

  pub holds-times : (l : List ℕ) → holds x l ≡ ltb 0 (times x l)
  unfolding any times
  holds-times [] = refl
  holds-times (y ∷ l) = go (eqb y x) (holds-times l)
    where
      go : (b : Bool) → holds x l ≡ ltb 0 (times x l) → (b || holds x l) ≡ ltb 0 (cond b 1 0 + times x l)
      go true e = sym (lt-ltb 0 (1 + times x l) (omega arith))
      go false e = let n : times x l ≡ 0 + times x l = omega arith in rw n at e

  -- a number that does not stand in a list
  pub not_held : (l : List ℕ) → holds x l ≡ false → times x l ≡ 0
  not_held l h = omega (arith, ltb-false 0 (times x l) (sym (holds-times l) ∙ h))

  pub no_times : (l : List ℕ) → times x l ≡ 0 → holds x l ≡ false
  no_times l h = holds-times l ∙ le-ltb 0 (times x l) (omega arith)

  -- and one that does
  pub held : (l : List ℕ) → holds x l ≡ true → 0 < times x l
  held l h = ltb-true 0 (times x l) (sym (holds-times l) ∙ h)

-- ---- which numbers below a count a test keeps: each that passes, once

in_both : (a b : Bool) → ◌≡◌ {A = ℕ} (cond b (cond a 1 0) 0) (cond (a && b) 1 0)
in_both true true = refl
in_both true false = refl
in_both false true = refl
in_both false false = refl

above_zero : (b : Bool) → ltb 0 (cond b 1 0) ≡ b
above_zero true = refl
above_zero false = refl

module _ (p : ℕ → Bool) (x n : ℕ) where
  pub times_kept : times x (keep p (below n)) ≡ cond (ltb x n && p x) 1 0
  times_kept = times-keep x p (below n) ∙ rw (times_below x n) (in_both (ltb x n) (p x))

  pub holds_kept : holds x (keep p (below n)) ≡ (ltb x n && p x)
  holds_kept = holds-times x (keep p (below n)) ∙ ap (ltb 0) times_kept ∙ above_zero (ltb x n && p x)

-- ---- a list without repetition is at most as long as the numbers that can stand in it are many

-- one number taken out
without : (n : ℕ) (l : List ℕ) → length l ≡ times n l + length (keep (λ y. not (eqb y n)) l)
unfolding keep times
without n [] = refl
without n (y ∷ l) = go (eqb y n) (without n l)
  where
    go : (b : Bool) → length l ≡ times n l + length (keep (λ z. not (eqb z n)) l)
        → suc (length l) ≡ cond b 1 0 + times n l + length (cond (not b) (y ∷ keep (λ z. not (eqb z n)) l) (keep (λ z. not (eqb z n)) l))
    go true e = omega arith
    go false e = omega arith

none_stands : (l : List ℕ) → ((x : ℕ) → times x l ≡ 0) → length l ≡ 0
unfolding times
none_stands [] none = refl
none_stands (y ∷ l) none = absurd (omega (arith, rw (eq-eqb y y refl) at (none y)))

pub few_below : (n : ℕ) (l : List ℕ) → ((x : ℕ) → times x l ≤ times x (below n)) → length l ≤ n
unfolding below times
few_below zero l most = omega (arith, none_stands l (λ x. omega (arith, most x)))
few_below (suc n) l most =
    omega (arith, without n l, most n, below_once n (suc n), few_below n (keep (λ y. not (eqb y n)) l) (λ x. rw (times-keep x (λ y. not (eqb y n)) l) (go x (eqb x n) refl)))
  where
    go : (x : ℕ) (b : Bool) → eqb x n ≡ b → cond (not b) (times x l) 0 ≤ times x (below n)
    go x true e = omega arith
    go x false e = omega (arith, most x, rw (ne_eqb n x (λ q. eqb-false x n e (sym q))) at (times-append x (below n) (n ∷ [])))
