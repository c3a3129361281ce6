-- A fact of every element of a list, for definitions that state one and for the laws of proofs/Every.antt.
use Rattle.std.specs.Prelude.{List, [], ◌∷◌}

pub data Every {A : Type 0} (P : A → Type 0) : List A → Type 0 where
  none : Every P []
  one : {x : A} {l : List A} → P x → Every P l → Every P (x ∷ l)
