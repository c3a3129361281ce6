-- A loop's meaning: each of the numbers below a count, or of a list, in turn, changes a state.
use Rattle.std.specs.Prelude.{List, [], ◌∷◌, ◌++◌, ℕ, zero, suc}

unfoldable pub turns : {A : Type 0} → (ℕ → A → A) → ℕ → A → A
turns turn zero a = a
turns turn (suc k) a = turn k (turns turn k a)

-- each element of the list in its order
unfoldable pub through : {X A : Type 0} → (X → A → A) → List X → A → A
through turn [] a = a
through turn (x ∷ l) a = through turn l (turn x a)

-- what each turn gives, in order
unfoldable pub gathered : {X A B : Type 0} → (X → A → A) → (X → A → List B) → List X → A → List B
gathered turn gives [] a = []
gathered turn gives (x ∷ l) a = gives x a ++ gathered turn gives l (turn x a)
