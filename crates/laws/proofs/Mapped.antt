-- A map over a list of which one element is replaced; a map that gives one thing.
use mathlib.Core.Path.{◌≡◌, refl, ap}
use mathlib.Core.List.{List, [], ◌∷◌, map}
use Prim.Native.Nat.{ℕ, zero, suc}
use lib.ListN.{length, set, replicate}

pub map-set : {A B : Type 0} (f : A → B) (l : List A) (i : ℕ) (y : A) → map f (set l i y) ≡ set (map f l) i (f y)
map-set f [] i y = refl
map-set f (x ∷ l) zero y = refl
map-set {B = B} f (x ∷ l) (suc i) y = ap (λ (r : List B). f x ∷ r) (map-set f l i y)

pub map_constant : {A B : Type 0} (b : B) (l : List A) → map (λ x. b) l ≡ replicate (length l) b
map_constant b [] = refl
map_constant {B = B} b (x ∷ l) = ap (λ (r : List B). b ∷ r) (map_constant b l)
