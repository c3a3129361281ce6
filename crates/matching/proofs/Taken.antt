-- Rule 42: flags that are set one after another, each while it was free: none is set twice, and each leaves one fewer free.
-- Rows and columns are both used up so; the picks are two such lists.
use mathlib.Core.Path.{◌≡◌, refl, sym, ap, ◌∙◌}
use mathlib.Core.Logic.{◌≢◌}
use mathlib.Core.Bool.{Bool, true, false, not, and-false, ◌&&◌, cond}
use mathlib.Core.List.{List, [], ◌∷◌, ◌++◌}
use Prim.Native.Nat.{ℕ, zero, suc, ◌+◌, ◌<◌, ◌≤◌, zero-le}
use native.Mathlib.Decide.{ℕ_discrete}
use native.Mathlib.Nat.{le_refl}
use native.Mathlib.Omega.{arith}
use borrow.Author.Tests.{eqb-true, eqb-false, lt-ltb, le-ltb}
use lib.Dec.{eqb, ltb}
use lib.ListN.{length, set}
use lib.Seq.{get_or-set_other}
use Rattle.laws.specs.Every.{Every}
use Rattle.laws.specs.Lists.{times}
use Rattle.laws.proofs.Counting.{bit_at_most_one}
use Rattle.laws.specs.Turns.{through}
use Rattle.matching.specs.Greedy.{free, marked}

-- ---- one flag set
-- past the flags none is free either
used : (u : List Bool) (i : ℕ) → free (set u i true) i ≡ false
used [] i = refl
used (x ∷ u) zero = refl
used (x ∷ u) (suc i) = used u i

others_kept : (u : List Bool) (i j : ℕ) → j ≢ i → free (set u i true) j ≡ free u j
others_kept u i j h = ap not (get_or-set_other u i j true true h)

-- how many of the first n are free
unfoldable pub free_below : ℕ → List Bool → ℕ
free_below zero u = 0
free_below (suc n) u = cond (free u n) 1 0 + free_below n u

pub free_below_at_most : (n : ℕ) (u : List Bool) → free_below n u ≤ n
unfolding free_below
free_below_at_most zero u = zero-le
free_below_at_most (suc n) u = omega (arith, bit_at_most_one (free u n), free_below_at_most n u)

-- one set past the first n changes nothing
beyond : (n : ℕ) (u : List Bool) (i : ℕ) → n ≤ i → free_below n (set u i true) ≡ free_below n u
unfolding free_below
beyond zero u i h = refl
beyond (suc n) u i h = rw (others_kept u i n (omega arith), beyond n u i (omega arith))

-- a free one set leaves one fewer
pub falls : (n : ℕ) (u : List Bool) (i : ℕ) → i < n → free u i ≡ true → free_below n u ≡ suc (free_below n (set u i true))
unfolding free_below
falls zero u i h f = absurd (omega arith)
falls (suc n) u i h f = go (ℕ_discrete n i) (falls n u i)
  where
    go : Dec (n ≡ i) → (i < n → free u i ≡ true → free_below n u ≡ suc (free_below n (set u i true)))
        → cond (free u n) 1 0 + free_below n u ≡ suc (cond (free (set u i true) n) 1 0 + free_below n (set u i true))
    go (yes e) rest = rw (e, f, used u i, beyond i u i (le_refl i)) (omega arith)
    go (no d) rest = rw (others_kept u i n d) (omega (arith, rest (omega arith) f))

-- ---- a list of flags set
-- marking frees none
pub free-before : (l : List ℕ) (u : List Bool) (x : ℕ) → free (marked l u) x ≡ true → free u x ≡ true
unfolding through
free-before [] u x f = f
free-before (i ∷ l) u x f = go (ℕ_discrete x i) (free-before l (set u i true) x f)
  where
    go : Dec (x ≡ i) → free (set u i true) x ≡ true → free u x ≡ true
    go (yes e) g = cc (used u i, ap (free (set u i true)) e)
    go (no d) g = sym (others_kept u i x d) ∙ g

-- from the flags u on, the numbers of the list are below n and each is free when its turn comes
pub data Taken (n : ℕ) : List Bool → List ℕ → Type 0 where
  none : {u : List Bool} → Taken n u []
  next : {u : List Bool} {i : ℕ} {l : List ℕ} → i < n → free u i ≡ true → Taken n (set u i true) l → Taken n u (i ∷ l)

module _ {n : ℕ} where
  -- as many fewer are free as were taken
  pub taken_falls : {u : List Bool} {l : List ℕ} → Taken n u l → free_below n u ≡ length l + free_below n (marked l u)
  unfolding through
  taken_falls none = omega arith
  taken_falls (next {u} {i} {l} h f t) = omega (arith, falls n u i h f, taken_falls t)

  pub taken_at_most : {u : List Bool} {l : List ℕ} → Taken n u l → length l ≤ n
  taken_at_most {u} t = omega (arith, free_below_at_most n u, taken_falls t)

  -- a list taken behind another
  pub taken_append : {u : List Bool} {l m : List ℕ} → Taken n u l → Taken n (marked l u) m → Taken n u (l ++ m)
  unfolding through
  taken_append none t = t
  taken_append (next h f r) t = next h f (taken_append r t)

  pub taken_below : {u : List Bool} {l : List ℕ} → Taken n u l → Every (λ i. i < n) l
  taken_below none = Every.none
  taken_below (next h f t) = Every.one h (taken_below t)

  -- only a number below n that was free at the start is taken, and once at most
  pub taken_times : {u : List Bool} {l : List ℕ} → Taken n u l → (x : ℕ) → times x l ≤ cond (free u x && ltb x n) 1 0
  unfolding times
  taken_times none x = zero-le
  taken_times (next {u} {i} {l} h f t) x = go (eqb i x) refl (taken_times t x)
    where
      go : (v : Bool) → eqb i x ≡ v → times x l ≤ cond (free (set u i true) x && ltb x n) 1 0 → cond v 1 0 + times x l ≤ cond (free u x && ltb x n) 1 0
      go true e r = let q : i ≡ x = eqb-true i x e in rw (← q, f, lt-ltb i n h) (omega (arith, rw (← q, used u i) at r))
      go false e r = omega (arith, rw (others_kept u i x (λ q. eqb-false i x e (sym q))) at r)

  pub taken_once : {u : List Bool} {l : List ℕ} → Taken n u l → (x : ℕ) → times x l ≤ 1
  taken_once {u} t x = omega (arith, taken_times t x, bit_at_most_one (free u x && ltb x n))

  pub used_not_taken : {u : List Bool} {l : List ℕ} → Taken n u l → (x : ℕ) → free u x ≡ false → times x l ≡ 0
  used_not_taken t x f = omega (arith, rw f at (taken_times t x))

  pub past_not_taken : {u : List Bool} {l : List ℕ} → Taken n u l → (x : ℕ) → n ≤ x → times x l ≡ 0
  past_not_taken {u} t x h = omega (arith, rw (le-ltb x n h, and-false (free u x)) at (taken_times t x))
