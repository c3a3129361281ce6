-- Rule 42: the code keeps the best entry beside its place, and one turn of its column scan is `look`.
use mathlib.Core.Path.{◌≡◌, refl}
use mathlib.Core.Bool.{Bool, true, false, not, ◌&&◌}
use mathlib.Core.List.{List}
use Prim.Native.Nat.{ℕ, ◌<◌}
use lib.Ieee.{Float}
use lib.ListN.{length, get_or}
use Rattle.std.specs.Prelude.{Some, None}
use Rattle.laws.proofs.Elements.{get_or-any}
use Rattle.matching.specs.Greedy.{Place, Matrix, eligible, smaller, look}

-- best is the entry at the place, if there is one
abbrev pub Best : Matrix → Place → Float → Type 0
Best m None best = Unit {0}
Best m (Some (a, b)) best = best ≡ m.entry a b

beats_is : (m : Matrix) (p : Place) (best x : Float) → Best m p best → smaller (λ a b. best) x p ≡ smaller m.entry x p
unfolding smaller
beats_is m None best x h = refl
beats_is m (Some (a, b)) best x h = rw h

module _ (m : Matrix) (ur uc : List Bool) (i j : ℕ) (p : Place) where
  -- the code's test of an entry is that of `look`
  pub test_is : (best : Float) (c b : Bool) → i < length ur → j < length uc → Best m p best → c ≡ m.counts i j → b ≡ smaller (λ a b. best) (m.entry i j) p
      → ((c && (not (get_or ur i false) && not (get_or uc j false))) && b) ≡ (eligible m ur uc i j && smaller m.entry (m.entry i j) p)
  test_is best c b hi hj held counts beats = rw (counts, beats, beats_is m p best (m.entry i j) held, get_or-any ur i false true hi, get_or-any uc j false true hj)

  -- a turn whose test holds, and one whose test fails
  pub look_taken : {t : Bool} → t ≡ (eligible m ur uc i j && smaller m.entry (m.entry i j) p) → t ≡ true → Some (i, j) ≡ look m ur uc i j p
  look_taken e h = rw (← e, h)

  pub look_left : {t : Bool} → t ≡ (eligible m ur uc i j && smaller m.entry (m.entry i j) p) → t ≡ false → p ≡ look m ur uc i j p
  look_left e h = rw (← e, h)
