-- A list that names each number at most as often as it stands below a count weighs no more; what a test keeps weighs no more; a run names each number once.
use mathlib.Core.Path.{◌≡◌, refl, sym, ◌∙◌, ap}
use mathlib.Core.Bool.{Bool, true, false, not, cond}
use mathlib.Core.List.{List, [], ◌∷◌, map}
use Prim.Native.Nat.{ℕ, zero, suc, ◌+◌, ◌*◌, ◌<◌, ◌≤◌}
use native.Mathlib.Nat.{zero-mul, suc-mul, mul-le-mul_right, one-mul, le_trans}
use native.Mathlib.Omega.{arith}
use borrow.Author.Tests.{ltb-false, eqb-true, eqb-false, eq-eqb, ne_eqb}
use lib.Dec.{eqb, ltb}
use lib.ListN.{length}
use Rattle.laws.specs.Every.{Every, none, one}
use Rattle.laws.specs.Lists.{below, keep, times, weight}
use Rattle.laws.proofs.Counting.{times-append, times-keep, times_below, below_once}
use Rattle.laws.proofs.Weighing.{weight-append, load, load_cons, Run, ended, next}

-- ---- counts are weights

-- one number alone weighs
abbrev pub mark : ℕ → ℕ → ℕ
mark x y = cond (eqb y x) 1 0

pub weight_mark : (x : ℕ) (l : List ℕ) → weight (mark x) l ≡ times x l
unfolding weight times
weight_mark x [] = refl
weight_mark x (y ∷ l) = ap (λ (n : ℕ). mark x y + n) (weight_mark x l)

pub weight-one : (l : List ℕ) → weight (λ y. 1) l ≡ length l
unfolding weight
weight-one [] = refl
weight-one (y ∷ l) = omega (arith, weight-one l)

weight-map : (w g : ℕ → ℕ) (l : List ℕ) → weight w (map g l) ≡ weight (λ i. w (g i)) l
unfolding weight
weight-map w g [] = refl
weight-map w g (i ∷ l) = ap (λ (n : ℕ). w (g i) + n) (weight-map w g l)

times-map : (x : ℕ) (g : ℕ → ℕ) (l : List ℕ) → times x (map g l) ≡ weight (λ i. mark x (g i)) l
times-map x g l = sym (weight_mark x (map g l)) ∙ weight-map (mark x) g l

-- ---- each number at most as often as below a count

above : {n : ℕ} {l : List ℕ} → Every (λ i. i < n) l → (x : ℕ) → n ≤ x → times x l ≡ 0
unfolding times
above none x h = refl
above (one {x = y} p r) x h = rw (ne_eqb y x (λ q. omega arith)) (omega (arith, above r x h))

-- one number taken out
without : (w : ℕ → ℕ) (n : ℕ) (l : List ℕ) → weight w l ≡ times n l * w n + weight w (keep (λ y. not (eqb y n)) l)
unfolding keep times weight
without w n [] = omega (arith, zero-mul (w n))
without w n (y ∷ l) = go (eqb y n) refl (without w n l)
  where
    go : (b : Bool) → eqb y n ≡ b → weight w l ≡ times n l * w n + weight w (keep (λ z. not (eqb z n)) l)
        → w y + weight w l
        ≡ (cond b 1 0 + times n l) * w n + weight w (cond (not b) (y ∷ keep (λ z. not (eqb z n)) l) (keep (λ z. not (eqb z n)) l))
    go true e r =
        let more : 1 + times n l ≡ suc (times n l) = omega arith in
        rw (more, suc-mul (times n l) (w n), eqb-true y n e) (omega arith)
    go false e r = let same : 0 + times n l ≡ times n l = omega arith in rw same (omega arith)

-- what is left of it, with the last of these numbers taken out
left_below : (n : ℕ) (l : List ℕ) → ((x : ℕ) → times x l ≤ times x (below (suc n)))
    → (x : ℕ) → times x (keep (λ y. not (eqb y n)) l) ≤ times x (below n)
unfolding below times
left_below n l most x = rw (times-keep x (λ y. not (eqb y n)) l) (go (eqb x n) refl)
  where
    go : (b : Bool) → eqb x n ≡ b → cond (not b) (times x l) 0 ≤ times x (below n)
    go true e = omega arith
    go false e = omega (arith, most x, rw (ne_eqb n x (λ q. eqb-false x n e (sym q))) at (times-append x (below n) (n ∷ [])))

pub weight-below : (w : ℕ → ℕ) (n : ℕ) (l : List ℕ) → ((x : ℕ) → times x l ≤ times x (below n)) → weight w l ≤ weight w (below n)
unfolding below times weight
weight-below w zero [] most = omega arith
weight-below w zero (y ∷ l) most = absurd (omega (arith, rw (eq-eqb y y refl) at (most y)))
weight-below w (suc n) l most =
    let once = mul-le-mul_right {m = times n l} {n = 1} (w n) (le_trans (most n) (below_once n (suc n))) in
    omega (
      arith,
      without w n l,
      rw one-mul at once,
      weight-below w n (keep (λ y. not (eqb y n)) l) (left_below n l most),
      weight-append w (below n) (n ∷ []),
    )

-- places, each once and below n: what is read off them stands there no more often than in what is read off all places below n
module _ {n : ℕ} {l : List ℕ} (inside : Every (λ i. i < n) l) (once : (x : ℕ) → times x l ≤ 1) where
  places_below : (x : ℕ) → times x l ≤ times x (below n)
  places_below x = rw (times_below x n) (go (ltb x n) refl)
    where
      go : (b : Bool) → ltb x n ≡ b → times x l ≤ cond b 1 0
      go true e = once x
      go false e = omega (arith, above inside x (ltb-false x n e))

  pub read_below : (g : ℕ → ℕ) (x : ℕ) → times x (map g l) ≤ times x (map g (below n))
  read_below g x = rw (times-map x g l, times-map x g (below n)) (weight-below (λ i. mark x (g i)) n l places_below)

-- ---- what a test keeps weighs no more

module _ {A : Type 0} (w : ℕ → ℕ) (f : A → ℕ) (p q : A → Bool) where
  pub kept_lighter : (l : List A) → load w f p (keep q l) ≤ load w f p l
  unfolding keep
  kept_lighter [] = omega arith
  kept_lighter (x ∷ l) = go (q x) (kept_lighter l)
    where
      go : (b : Bool) → load w f p (keep q l) ≤ load w f p l → load w f p (cond b (x ∷ keep q l) (keep q l)) ≤ load w f p (x ∷ l)
      go true r = omega (arith, load_cons w f p x l, load_cons w f p x (keep q l))
      go false r = omega (arith, load_cons w f p x l)

-- ---- a run names each number once

run_above : {a b : ℕ} {l : List ℕ} → Run a l b → (x : ℕ) → x < a → times x l ≡ 0
unfolding times
run_above ended x h = refl
run_above (next {n} r) x h = rw (ne_eqb n x (λ q. omega arith)) (omega (arith, run_above r x (omega arith)))

pub run_once : {a b : ℕ} {l : List ℕ} → Run a l b → (x : ℕ) → times x l ≤ 1
unfolding times
run_once ended x = omega arith
run_once (next {n} {l = l} r) x = go (eqb n x) refl (run_once r x)
  where
    go : (b : Bool) → eqb n x ≡ b → times x l ≤ 1 → cond b 1 0 + times x l ≤ 1
    go true e most = omega (arith, run_above r x (omega (arith, eqb-true n x e)))
    go false e most = omega arith
