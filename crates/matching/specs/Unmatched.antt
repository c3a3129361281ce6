-- Rule 44: the numbers below a count that no pick names, ascending.
use Rattle.std.specs.Prelude.{not, List, ℕ, length}
use Rattle.laws.specs.Lists.{below, keep, holds, padded}
use Rattle.matching.specs.declared.Numbers.{Numbers}

abbrev pub unmatched : ℕ → List ℕ → List ℕ
unmatched total matched = keep (λ i. not (holds i matched)) (below total)

-- the numbers in order in n places, 0 behind the last
abbrev pub numbers_in : (n : ℕ) → List ℕ → Numbers n
numbers_in n l = record { at = padded n l; count = length l }

abbrev pub numbers_of : List ℕ → Numbers 64
numbers_of l = numbers_in 64 l
