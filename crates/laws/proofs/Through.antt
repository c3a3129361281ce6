-- A list in turn: two lists one after the other, one element more, and what every turn keeps and gives.
use mathlib.Core.Path.{◌≡◌, refl, ◌∙◌, ap}
use mathlib.Core.List.{List, [], ◌∷◌, ◌++◌, map, map-append}
use Prim.Native.Nat.{ℕ, ◌+◌, ◌<◌}
use native.Mathlib.Numerals.{add-one}
use lib.ListN.{length, get_or, take}
use lib.Seq.{take-suc}
use Rattle.laws.specs.Turns.{through, gathered}

module _ {X A : Type 0} (turn : X → A → A) where
  pub through-append : (l m : List X) (a : A) → through turn (l ++ m) a ≡ through turn m (through turn l a)
  unfolding through
  through-append [] m a = refl
  through-append (x ∷ l) m a = through-append l m (turn x a)

  -- a loop's invariant, one turn on
  pub through_next : (l : List X) (i : ℕ) (d : X) (a : A) {b c : A} → i < length l → c ≡ turn (get_or l i d) b
      → b ≡ through turn (take i l) a → c ≡ through turn (take (i + 1) l) a
  unfolding through
  through_next l i d a h e held =
      rw (add-one i, take-suc l i d h, through-append (take i l) (get_or l i d ∷ []) a) (e ∙ ap (turn (get_or l i d)) held)

  -- what each turn keeps true stays true
  pub through_hold : (P : A → Type 0) (l : List X) (a : A) → ((x : X) (b : A) → P b → P (turn x b)) → P a → P (through turn l a)
  unfolding through
  through_hold P [] a kept p = p
  through_hold P (x ∷ l) a kept p = through_hold P l (turn x a) kept (kept x a p)

  pub through_keep : {B : Type 0} (view : A → B) → ((x : X) (a : A) → view (turn x a) ≡ view a) → (l : List X) (a : A)
      → view (through turn l a) ≡ view a
  through_keep view kept l a = through_hold (λ b. view b ≡ view a) l a (λ x b e. kept x b ∙ e) refl

  -- a turn that gives one thing for its element gives the elements again
  pub gathered_each : {B : Type 0} (gives : X → A → List B) (of : B → X) → ((x : X) (a : A) → map of (gives x a) ≡ x ∷ [])
      → (l : List X) (a : A) → map of (gathered turn gives l a) ≡ l
  unfolding gathered
  gathered_each gives of each [] a = refl
  gathered_each gives of each (x ∷ l) a =
      map-append of (gives x a) (gathered turn gives l (turn x a)) ∙ rw (each x a, gathered_each gives of each l (turn x a))

-- what is so of a state that stays, of two stretches in a row and of each turn with all it gives is so of all turns with all they give
module _ {X A B C : Type 0} (turn : X → A → A) (gives : X → A → List B) (also : X → A → List C)
    (R : A → List B → List C → A → Type 0) (stays : (a : A) → R a [] [] a)
    (joined : (a b c : A) (l m : List B) (k n : List C) → R a l k b → R b m n c → R a (l ++ m) (k ++ n) c)
    (each : (x : X) (a : A) → R a (gives x a) (also x a) (turn x a)) where
  pub gathered_told : (l : List X) (a : A) → R a (gathered turn gives l a) (gathered turn also l a) (through turn l a)
  unfolding gathered through
  gathered_told [] a = stays a
  gathered_told (x ∷ l) a = joined _ _ _ _ _ _ _ (each x a) (gathered_told l (turn x a))
