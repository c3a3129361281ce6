-- A loop that fills an array from its front: one element more at the first place behind the list; and a list by its elements.
use mathlib.Core.Path.{◌≡◌, refl, sym, ◌∙◌, ap}
use mathlib.Core.Bool.{Bool, true, false, cond}
use mathlib.Core.List.{List, [], ◌∷◌, ◌++◌, map, map-append, append_assoc, append-nil}
use Prim.Native.Nat.{ℕ, zero, suc, ◌+◌, ◌-◌, ◌<◌, ◌≤◌}
use native.Mathlib.Omega.{arith}
use native.Mathlib.Numerals.{add-one}
use lib.ListN.{length, get_or, set, take, replicate, length-append, length-map, length-replicate, get_or-append}
use lib.Seq.{set-append_seam, take-append_seam, take-suc}
use Rattle.laws.specs.Lists.{below, keep, filled}

pub length_snoc : {A : Type 0} (l : List A) (x : A) → length (l ++ (x ∷ [])) ≡ suc (length l)
length_snoc l x = length-append l (x ∷ []) ∙ add-one (length l)

module _ {A : Type 0} (n : ℕ) (d : A) (l : List A) where
  pub length-filled : length l ≤ n → length (filled n d l) ≡ n
  length-filled h = omega (arith, length-append l (replicate (n - length l) d), length-replicate {A = A} (n - length l) d)

  pub filled_at : (i : ℕ) (z : A) → i < length l → get_or (filled n d l) i z ≡ get_or l i z
  filled_at i z = get_or-append l (replicate (n - length l) d) z i

  -- the front of the array is the list that was put there
  pub take-filled : take (length l) (filled n d l) ≡ l
  take-filled = take-append_seam l (replicate (n - length l) d)

  -- what stands behind a list that does not fill the array: one place, then the others
  room : (k : ℕ) (x : A) → n - length l ≡ suc k → set (filled n d l) (length l) x ≡ l ++ (x ∷ replicate k d)
  room k x e = rw e (set-append_seam l d (replicate k d) x)

  pub filled_snoc : (x : A) → length l < n → set (filled n d l) (length l) x ≡ filled n d (l ++ (x ∷ []))
  filled_snoc x h =
      let e : n - length l ≡ suc (n - length (l ++ (x ∷ []))) = omega (arith, length_snoc l x) in
      room (n - length (l ++ (x ∷ []))) x e ∙ sym (append_assoc l (x ∷ []) (replicate (n - length (l ++ (x ∷ []))) d))

  pub filled_next : {i : ℕ} (x : A) → length l ≡ i → i < n → set (filled n d l) i x ≡ filled n d (l ++ (x ∷ []))
  filled_next {i} x e h = rw (← e) (filled_snoc x (omega arith))

-- ---- the numbers below a count, and those that pass a test

pub length-below : (n : ℕ) → length (below n) ≡ n
unfolding below
length-below zero = refl
length-below (suc n) = length_snoc (below n) n ∙ ap suc (length-below n)

-- one place more, with what is made of its number
pub filled_below : {A : Type 0} (n : ℕ) (d : A) (g : ℕ → A) (i : ℕ) → i < n → set (filled n d (map g (below i))) i (g i) ≡ filled n d (map g (below (i + 1)))
unfolding below
filled_below n d g i h =
    rw (add-one i, map-append g (below i) (i ∷ [])) (filled_next n d (map g (below i)) (g i) (length-map (below i) g ∙ length-below i) h)

-- a list by its elements
pub by_elements : {A : Type 0} (g : ℕ → A) (l : List A) (d : A) → ((i : ℕ) → i < length l → g i ≡ get_or l i d)
    → (n : ℕ) → n ≤ length l → map g (below n) ≡ take n l
unfolding below
by_elements g l d same zero h = refl
by_elements g l d same (suc n) h = rw (map-append, by_elements g l d same n (omega arith), same n h, take-suc l n d h)

pub take_each : {A : Type 0} (l : List A) (d : A) (n : ℕ) → n ≤ length l → map (λ k. get_or l k d) (below n) ≡ take n l
take_each l d = by_elements (λ k. get_or l k d) l d (λ i h. refl)

choose_snoc : {A : Type 0} (t b : Bool) (y x : A) (k : List A)
    → cond t (y ∷ (k ++ cond b (x ∷ []) [])) (k ++ cond b (x ∷ []) []) ≡ cond t (y ∷ k) k ++ cond b (x ∷ []) []
choose_snoc true b y x k = refl
choose_snoc false b y x k = refl

pub keep_snoc : {A : Type 0} (p : A → Bool) (l : List A) (x : A) → keep p (l ++ (x ∷ [])) ≡ keep p l ++ cond (p x) (x ∷ []) []
unfolding keep
keep_snoc p [] x = refl
keep_snoc p (y ∷ l) x = rw (keep_snoc p l x) (choose_snoc (p y) (p x) y x (keep p l))

module _ {A : Type 0} (p : A → Bool) (l : List A) (x : A) where
  pub joins : p x ≡ true → keep p (l ++ (x ∷ [])) ≡ keep p l ++ (x ∷ [])
  joins e = keep_snoc p l x ∙ rw e

  pub stays_out : p x ≡ false → keep p (l ++ (x ∷ [])) ≡ keep p l
  stays_out e = keep_snoc p l x ∙ rw e (append-nil (keep p l))

-- a test that agrees on every number below n keeps the same of them
pub keep_alike : (p q : ℕ → Bool) (n : ℕ) → ((i : ℕ) → i < n → p i ≡ q i) → keep p (below n) ≡ keep q (below n)
unfolding below keep
keep_alike p q zero same = refl
keep_alike p q (suc n) same =
    keep_snoc p (below n) n
    ∙ rw (keep_alike p q n (λ i h. same i (omega arith)), same n (omega arith)) (sym (keep_snoc q (below n) n))

longer : {A : Type 0} (b : Bool) (x : A) (k : List A) (n : ℕ) → length k ≤ n → length (cond b (x ∷ k) k) ≤ suc n
longer true x k n h = omega arith
longer false x k n h = omega arith

pub length-keep : {A : Type 0} (p : A → Bool) (l : List A) → length (keep p l) ≤ length l
unfolding keep
length-keep p [] = omega arith
length-keep p (x ∷ l) = longer (p x) x (keep p l) (length l) (length-keep p l)

pub at_most : (p : ℕ → Bool) (n : ℕ) → length (keep p (below n)) ≤ n
at_most p n = omega (arith, length-keep p (below n), length-below n)
