-- A fact of every element of a list: of two lists, of one replaced, of those that a test keeps, of what is read off them, of the numbers below a count.
use mathlib.Core.Path.{◌≡◌, refl}
use mathlib.Core.Bool.{Bool, true, false, not, cond}
use mathlib.Core.List.{List, [], ◌∷◌, ◌++◌, map}
use Prim.Native.Nat.{ℕ, zero, suc, ◌<◌}
use native.Mathlib.Nat.{le_of_suc-le-suc}
use native.Mathlib.Omega.{arith}
use lib.ListN.{length, get_or, set, take, drop}
use Rattle.laws.specs.Every.{Every, none, one}
use Rattle.laws.specs.Lists.{below, keep, any, padded, EachBelow}
use Rattle.laws.proofs.Growing.{filled_at}

pub every_append : {A : Type 0} {P : A → Type 0} {l m : List A} → Every P l → Every P m → Every P (l ++ m)
every_append none s = s
every_append (one p r) s = one p (every_append r s)

module _ {A : Type 0} {P Q : A → Type 0} (weaker : (x : A) → P x → Q x) where
  pub every_weaker : {l : List A} → Every P l → Every Q l
  every_weaker none = none
  every_weaker (one {x} p r) = one (weaker x p) (every_weaker r)

  -- one element replaced
  pub every_set : {l : List A} (i : ℕ) (y d : A) → Every P l → (P (get_or l i d) → Q y) → Every Q (set l i y)
  every_set i y d none f = none
  every_set zero y d (one p r) f = one (f p) (every_weaker r)
  every_set (suc i) y d (one {x} p r) f = one (weaker x p) (every_set i y d r f)

-- maps that agree on every element
pub every_alike : {A B : Type 0} (f g : A → B) {l : List A} → Every (λ x. f x ≡ g x) l → map f l ≡ map g l
every_alike f g none = refl
every_alike f g (one p r) = rw (p, every_alike f g r)

module _ {A : Type 0} {P : A → Type 0} where
  pub every_at : {l : List A} (i : ℕ) (d : A) → Every P l → i < length l → P (get_or l i d)
  every_at i d none h = absurd (omega arith)
  every_at zero d (one p r) h = p
  every_at (suc i) d (one p r) h = every_at i d r (le_of_suc-le-suc h)

  kept : (x : A) (l : List A) (b : Bool) → P x → Every P l → Every P (cond b (x ∷ l) l)
  kept x l true p r = one p r
  kept x l false p r = r

  pub every_keep : {l : List A} (q : A → Bool) → Every P l → Every P (keep q l)
  unfolding keep
  every_keep q none = none
  every_keep q (one {x} {l} p r) = kept x (keep q l) (q x) p (every_keep q r)

pub every_map : {A B : Type 0} {P : B → Type 0} (f : A → B) {l : List A} → Every (λ x. P (f x)) l → Every P (map f l)
every_map f none = none
every_map f (one p r) = one p (every_map f r)

pub every_unmap : {A B : Type 0} {P : B → Type 0} (f : A → B) (l : List A) → Every P (map f l) → Every (λ x. P (f x)) l
every_unmap f [] none = none
every_unmap f (x ∷ l) (one p r) = one p (every_unmap f l r)

pub every_and : {A : Type 0} {P Q : A → Type 0} {l : List A} → Every P l → Every Q l → Every (λ x. P x × Q x) l
every_and none none = none
every_and (one p r) (one q s) = one (p, q) (every_and r s)

-- tests that agree on every element keep the same
pub keep_every : {A : Type 0} (p q : A → Bool) {l : List A} → Every (λ x. p x ≡ q x) l → keep p l ≡ keep q l
unfolding keep
keep_every p q none = refl
keep_every p q (one e r) = rw (e, keep_every p q r)

pub every_below : {P : ℕ → Type 0} (n : ℕ) → ((i : ℕ) → i < n → P i) → Every P (below n)
unfolding below
every_below zero each = none
every_below (suc n) each = every_append (every_below n (λ i h. each i (omega arith))) (one (each n (omega arith)) none)

-- in an array
pub each_padded : {limit count : ℕ} (n : ℕ) (l : List ℕ) → length l ≡ count → Every (λ x. x < limit) l → EachBelow limit count (padded n l)
each_padded n l e all i h =
    let inside : i < length l = omega arith in
    rw (filled_at n 0 l i 0 inside) (every_at i 0 all inside)

-- what a test finds in none of them
pub none_found : {A : Type 0} (bad : A → Bool) {l : List A} → Every (λ x. bad x ≡ false) l → not (any bad l) ≡ true
unfolding any
none_found bad none = refl
none_found bad (one p r) = rw p (none_found bad r)

module _ {A : Type 0} {P : A → Type 0} where
  -- by place, also past the end
  pub every_first : (n : ℕ) (l : List A) (d : A) → ((i : ℕ) → i < n → P (get_or l i d)) → Every P (take n l)
  every_first zero l d each = none
  every_first (suc n) [] d each = none
  every_first (suc n) (x ∷ l) d each = one (each 0 (omega arith)) (every_first n l d (λ i h. each (suc i) (omega arith)))

  pub every_drop : (n : ℕ) {l : List A} → Every P l → Every P (drop n l)
  every_drop zero r = r
  every_drop (suc n) none = none
  every_drop (suc n) (one p r) = every_drop n r

  -- at any place, where past the end stands what has it too
  pub every_anywhere : {l : List A} (i : ℕ) (d : A) → Every P l → P d → P (get_or l i d)
  every_anywhere i d none q = q
  every_anywhere zero d (one p r) q = p
  every_anywhere (suc i) d (one p r) q = every_anywhere i d r q

  -- those kept passed the test
  pub every_kept : {Q : A → Type 0} (q : A → Bool) {l : List A} → ((x : A) → P x → q x ≡ true → Q x) → Every P l → Every Q (keep q l)
  unfolding keep
  every_kept q told none = none
  every_kept {Q} q told (one {x} {l} p r) = go (q x) refl (every_kept q told r)
    where
      go : (b : Bool) → q x ≡ b → Every Q (keep q l) → Every Q (cond b (x ∷ keep q l) (keep q l))
      go true e rest = one (told x p e) rest
      go false e rest = rest
