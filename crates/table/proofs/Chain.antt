-- A chain of tests that is true, taken apart.
use mathlib.Core.Path.{◌≡◌, refl}
use mathlib.Core.Bool.{Bool, true, false, ◌&&◌}
use mathlib.Core.List.{List, [], ◌∷◌}
use Prim.Native.Nat.{ℕ}
use native.Mathlib.Omega.{arith}

abbrev pub chain : Bool → List Bool → Bool
chain a [] = a
chain a (b ∷ l) = a && chain b l

abbrev pub AllTrue : Bool → List Bool → Type 0
AllTrue a [] = a ≡ true
AllTrue a (b ∷ l) = (a ≡ true) × AllTrue b l

pub parts : (a : Bool) (l : List Bool) → chain a l ≡ true → AllTrue a l
parts a [] h = h
parts true (b ∷ l) h = (refl, parts b l h)
parts false (b ∷ l) h = let z : ◌≡◌ {A = ℕ} 0 1 = cc in absurd (omega arith)
