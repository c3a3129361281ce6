-- What a list weighs, what the elements that pass a test weigh and those that do not, and runs of numbers one after another.
use mathlib.Core.Path.{◌≡◌, refl, ap}
use mathlib.Core.Bool.{Bool, true, false, not, cond}
use mathlib.Core.List.{List, [], ◌∷◌, ◌++◌, map}
use Prim.Native.Nat.{ℕ, zero, suc, ◌+◌}
use native.Mathlib.Omega.{arith}
use native.Mathlib.Numerals.{add-one}
use lib.ListN.{length, get_or, set}
use Rattle.laws.specs.Lists.{keep, weight, up_from}

-- ---- what a list weighs

pub weight-append : (w : ℕ → ℕ) (l m : List ℕ) → weight w (l ++ m) ≡ weight w l + weight w m
unfolding weight
weight-append w [] m = omega arith
weight-append w (x ∷ l) m = omega (arith, weight-append w l m)

-- ---- what the elements that pass a test weigh

-- a test on what is read off the elements
pub keep-map : {A B : Type 0} (p : B → Bool) (g : A → B) (l : List A) → keep p (map g l) ≡ map g (keep (λ x. p (g x)) l)
unfolding keep
keep-map p g [] = refl
keep-map {A} {B} p g (x ∷ l) = rw (keep-map p g l) (go (p (g x)) (keep (λ y. p (g y)) l))
  where
    go : (b : Bool) (k : List A) → cond {A = List B} b (g x ∷ map g k) (map g k) ≡ map g (cond b (x ∷ k) k)
    go true k = refl
    go false k = refl

module _ {A : Type 0} (w : ℕ → ℕ) (f : A → ℕ) (p : A → Bool) where
  abbrev pub load : List A → ℕ
  load l = weight w (map f (keep p l))

  abbrev pub part : A → ℕ
  part x = cond (p x) (w (f x)) 0

  pub load_cons : (x : A) (l : List A) → load (x ∷ l) ≡ part x + load l
  unfolding keep weight
  load_cons x l = go (p x) (keep p l)
    where
      go : (b : Bool) (k : List A) → weight w (map f (cond b (x ∷ k) k)) ≡ cond b (w (f x)) 0 + weight w (map f k)
      go true k = refl
      go false k = omega arith

  -- one element more
  pub load_snoc : (l : List A) (x : A) (m : ℕ) {n : ℕ} → part x + m ≡ n → load (l ++ (x ∷ [])) + m ≡ load l + n
  load_snoc [] x m e = omega (arith, load_cons x [])
  load_snoc (y ∷ l) x m e = omega (arith, load_cons y l, load_cons y (l ++ (x ∷ [])), load_snoc l x m e)

  -- one element replaced: past the end it is none, and weighs nothing
  pub load_set : (l : List A) (i : ℕ) (y d : A) (m : ℕ) → part y + m ≡ part (get_or l i d) → part d ≡ 0 → load (set l i y) + m ≡ load l
  load_set [] i y d m e z = omega arith
  load_set (x ∷ l) zero y d m e z = omega (arith, load_cons x l, load_cons y l)
  load_set (x ∷ l) (suc i) y d m e z = omega (arith, load_cons x l, load_cons x (set l i y), load_set l i y d m e z)

-- ---- of any sum over what is read off a list, those that pass a test and those that do not make up all of it

module _ {B : Type 0} (share : B → ℕ) (sum : List B → ℕ) (nothing : sum [] ≡ 0) (more : (x : B) (l : List B) → sum (x ∷ l) ≡ share x + sum l) where
  pub parted : {A : Type 0} (g : A → B) (p : A → Bool) (l : List A) → sum (map g l) ≡ sum (map g (keep (λ x. not (p x)) l)) + sum (map g (keep p l))
  unfolding keep
  parted g p [] = omega (arith, nothing)
  parted {A} g p (x ∷ l) = go (p x) (keep (λ y. not (p y)) l) (keep p l) (parted g p l)
    where
      go : (b : Bool) (stay leave : List A) → sum (map g l) ≡ sum (map g stay) + sum (map g leave)
          → sum (map g (x ∷ l)) ≡ sum (map g (cond (not b) (x ∷ stay) stay)) + sum (map g (cond b (x ∷ leave) leave))
      go true stay leave e = omega (arith, more (g x) (map g l), more (g x) (map g leave))
      go false stay leave e = omega (arith, more (g x) (map g l), more (g x) (map g stay))

-- ---- numbers one after another: from the first up to the one that is next

pub data Run : ℕ → List ℕ → ℕ → Type 0 where
  ended : {n : ℕ} → Run n [] n
  next : {n m : ℕ} {l : List ℕ} → Run (suc n) l m → Run n (n ∷ l) m

pub run_one : (n : ℕ) → Run n (n ∷ []) (n + 1)
run_one n = rw (add-one n) (next ended)

pub run_append : {a b c : ℕ} {l m : List ℕ} → Run a l b → Run b m c → Run a (l ++ m) c
run_append ended s = s
run_append (next r) s = next (run_append r s)

pub run_up : {a b : ℕ} {l : List ℕ} → Run a l b → l ≡ up_from a (length l)
unfolding up_from
run_up ended = refl
run_up (next {n} r) = ap (λ (l : List ℕ). n ∷ l) (run_up r)

pub run_end : {a b : ℕ} {l : List ℕ} → Run a l b → b ≡ a + length l
run_end ended = omega arith
run_end (next r) = omega (arith, run_end r)
