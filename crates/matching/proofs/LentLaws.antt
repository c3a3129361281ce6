-- Rule 41: what counts in a lent matrix is finite, so that the laws of picking hold of it.
use mathlib.Core.Bool.{and-eq-true_iff}
use Prim.Native.Nat.{ℕ, ◌+◌, ◌*◌}
use mathlib.Core.List.{List}
use lib.ListN.{get_or}
use lib.Ieee.{Float, nan, lt}
use Rattle.laws.specs.Float64.{finite}
use Rattle.matching.specs.Lent.{lent}
use Rattle.matching.proofs.NextPick.{Finite}

pub lent_finite : (l : List Float) (r c : ℕ) (threshold : Float) → Finite (lent l r c threshold)
lent_finite l r c threshold i j e = ((and-eq-true_iff (finite (get_or l (i * c + j) nan)) (lt (get_or l (i * c + j) nan) threshold)).0 e).0
