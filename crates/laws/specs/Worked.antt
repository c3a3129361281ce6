-- Rule 80: a worked example is what a definition gives and what the page says, each spelt as numbers, so that one list can hold them all.
use Rattle.std.specs.Prelude.{◌≡◌, List, [], ◌∷◌, ℕ, Float}
use Rattle.std.specs.Float.{binary64}
use Rattle.std.specs.Float.Ieee.{to_bits}

pub record Worked : Type 0 where
  pub gives : List ℕ
  pub says : List ℕ

-- the claim over a list: every example gives what the page says
unfoldable pub Agree : List Worked → Type 0
Agree [] = Unit {0}
Agree (w ∷ l) = (w.gives ≡ w.says) × Agree l

-- a float spelt as the number of its bits, NaN as one value
abbrev pub spelt : Float → ℕ
spelt x = to_bits binary64 x
