-- Rule 14: the names of a list, one by one.
use mathlib.Core.Path.{◌≡◌, refl, sym, ◌∙◌}
use mathlib.Core.Bool.{Bool, true, false, not, and-false}
use mathlib.Core.List.{List, [], ◌∷◌}
use Prim.Native.Nat.{ℕ, zero, suc, ◌+◌, ◌-◌, ◌<◌, ◌≤◌}
use native.Mathlib.Omega.{arith}
use native.Mathlib.Numerals.{add-one}
use borrow.Author.Tests.{ltb-true, lt-ltb, le-ltb, not-true}
use lib.Dec.{ltb}
use lib.ListN.{length, take, get_or}
use lib.Seq.{length-take-le, get_or-take, take-take}
use Rattle.laws.specs.Lists.{holds}
use Rattle.table.specs.Wholeness.{names_below}
use Rattle.table.proofs.Chain.{parts}

module _ (limit : ℕ) (l : List ℕ) where
  -- a list that fails stays failed however many numbers follow
  fails_on : (i k : ℕ) → names_below limit i l ≡ false → names_below limit (i + k) l ≡ false
  unfolding names_below
  fails_on i zero h =
      let q : i + 0 ≡ i = omega arith in
      rw q h
  fails_on i (suc k) h =
      let q : i + suc k ≡ suc (i + k) = omega arith in
      rw (q, fails_on i k h)

  pub fails : (i n : ℕ) → i ≤ n → names_below limit i l ≡ false → names_below limit n l ≡ false
  fails i n h e =
      let q : i + (n - i) ≡ n = omega arith in
      rw q at (fails_on i (n - i) e)

  begins : (i n : ℕ) → i ≤ n → names_below limit n l ≡ true → names_below limit i l ≡ true
  begins i n h e = go (names_below limit i l) refl
    where
      go : (v : Bool) → names_below limit i l ≡ v → names_below limit i l ≡ true
      go true q = q
      go false q = q ∙ sym (fails i n h q) ∙ e

  -- one name more: too large, not new, or as it should be
  pub too_large : (i n : ℕ) → i < n → limit ≤ get_or l i 0 → names_below limit n l ≡ false
  unfolding names_below
  too_large i n h e = fails (suc i) n h (rw (le-ltb (get_or l i 0) limit e, and-false))

  pub twice : (i n : ℕ) → i < n → holds (get_or l i 0) (take i l) ≡ true → names_below limit n l ≡ false
  unfolding names_below
  twice i n h e = fails (suc i) n h (rw (e, and-false, and-false))

  pub new_name : (i : ℕ) → names_below limit i l ≡ true → get_or l i 0 < limit → holds (get_or l i 0) (take i l) ≡ false
      → names_below limit (i + 1) l ≡ true
  unfolding names_below
  new_name i p h e = rw (add-one i, p, lt-ltb _ _ h, e)

  -- what each name of a list is: below the limit, and none of those before it
  pub name_facts : (n : ℕ) → names_below limit n l ≡ true → (i : ℕ) → i < n
      → (get_or l i 0 < limit) × (holds (get_or l i 0) (take i l) ≡ false)
  unfolding names_below
  name_facts n h i lt =
      let p = parts (names_below limit i l) (ltb (get_or l i 0) limit ∷ not (holds (get_or l i 0) (take i l)) ∷ []) (begins (suc i) n lt h) in
      (ltb-true _ _ p.1.0, not-true _ p.1.1)

-- the front of an array: nothing behind it matters
module _ (limit n : ℕ) (l : List ℕ) where
  among : (m : ℕ) → m ≤ n → names_below limit m (take n l) ≡ names_below limit m l
  unfolding names_below
  among zero h = refl
  among (suc m) h = rw (among m (omega arith), get_or-take n l m 0 h, take-take m n l (omega arith))

  pub named_front : n ≤ length l → names_below limit (length (take n l)) (take n l) ≡ names_below limit n l
  named_front h = rw (length-take-le n l h) (among n (omega arith))
