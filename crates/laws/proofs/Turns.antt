-- A loop in which each turn changes one part of the state: what no turn changes is kept, and each part is changed once.
use mathlib.Core.Path.{◌≡◌, refl, ◌∙◌, ap}
use mathlib.Core.Logic.{◌≢◌, ⊎_elim}
use Prim.Native.Nat.{ℕ, zero, suc, ◌+◌, ◌<◌, ◌≤◌}
use native.Mathlib.Nat.{eq-or-lt_of_le, le_of_suc-le-suc}
use native.Mathlib.Omega.{arith}
use native.Mathlib.Numerals.{add-one}
use Rattle.laws.specs.Turns.{turns}

-- a loop's invariant, one turn on
pub turns_next : {A : Type 0} (turn : ℕ → A → A) (k : ℕ) (a : A) {b c : A} → c ≡ turn k b → b ≡ turns turn k a → c ≡ turns turn (k + 1) a
unfolding turns
turns_next turn k a e i = rw (add-one k) (e ∙ ap (turn k) i)

-- what each turn keeps, all of them keep
pub turns_keep : {A B : Type 0} (turn : ℕ → A → A) (view : A → B) (n : ℕ) (a : A)
    → ((k : ℕ) (b : A) → k < n → view (turn k b) ≡ view b) → view (turns turn n a) ≡ view a
unfolding turns
turns_keep turn view zero a kept = refl
turns_keep turn view (suc n) a kept =
    kept n (turns turn n a) (omega arith) ∙ turns_keep turn view n a (λ k b h. kept k b (omega arith))

-- what each turn keeps true stays true
pub turns_hold : {A : Type 0} (turn : ℕ → A → A) (P : A → Type 0) (n : ℕ) (a : A)
    → ((k : ℕ) (b : A) → k < n → P b → P (turn k b)) → P a → P (turns turn n a)
unfolding turns
turns_hold turn P zero a kept p = p
turns_hold turn P (suc n) a kept p =
    kept n (turns turn n a) (omega arith) (turns_hold turn P n a (λ k b h. kept k b (omega arith)) p)

-- what turn i alone changes is changed once
pub turns_once : {A B : Type 0} (turn : ℕ → A → A) (view : A → B) (g : B → B) (i n : ℕ) (a : A) → i < n
    → view (turn i (turns turn i a)) ≡ g (view (turns turn i a))
    → ((k : ℕ) (b : A) → k < n → i ≢ k → view (turn k b) ≡ view b) → view (turns turn n a) ≡ g (view a)
unfolding turns
turns_once turn view g i zero a h here there = absurd (omega arith)
turns_once turn view g i (suc n) a h here there =
    ⊎_elim
    (λ (e : i ≡ n). rw (← e) (here ∙ ap g (turns_keep turn view i a (λ k b hk. there k b (omega arith) (omega arith)))))
    (λ (q : i < n).
    there n (turns turn n a) (omega arith) (omega arith)
    ∙ turns_once turn view g i n a q here (λ k b hk. there k b (omega arith)))
    (eq-or-lt_of_le (le_of_suc-le-suc h))

-- turn k makes g k of part k, and changes no other part
module _ {A B : Type 0} (turn : ℕ → A → A) (part : ℕ → A → B) (g : ℕ → B → B) (n : ℕ) (a : A)
    (here : (k : ℕ) → k < n → part k (turn k (turns turn k a)) ≡ g k (part k (turns turn k a)))
    (there : (i k : ℕ) (b : A) → i < n → k < n → i ≢ k → part i (turn k b) ≡ part i b) where
  pub turns_part : (k i : ℕ) → i < k → k ≤ n → part i (turns turn k a) ≡ g i (part i a)
  turns_part k i h hk =
      turns_once turn (part i) (g i) i k a h (here i (omega arith)) (λ m b hm. there i m b (omega arith) (omega arith))
