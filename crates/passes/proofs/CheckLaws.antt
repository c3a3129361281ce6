-- Rules 10 and 11: what the checks of step 2 tell: a step's own checks, and whether every coordinate is finite.
use mathlib.Core.Path.{◌≡◌, refl, sym, ◌∙◌}
use mathlib.Core.Bool.{Bool, true, false, not, ◌&&◌, ◌||◌}
use mathlib.Core.List.{List, [], ◌∷◌}
use Prim.Native.Nat.{ℕ}
use borrow.Author.Tests.{not-false}
use lib.Ieee.{Float}
use Rattle.std.specs.List.{list_all}
use Rattle.std.specs.Prelude.{Result, Ok}
use Rattle.laws.specs.Float64.{finite}
use Rattle.laws.specs.Lists.{any}
use Rattle.table.specs.declared.Phase.{Phase}
use Rattle.table.specs.declared.Table.{Table}
use Rattle.table.specs.declared.refusals.Refusal.{Refusal}
use Rattle.table.specs.Refusals.{first_due, checked, step_checks}
use Rattle.table.proofs.Due.{checked_passed, none_due}
use Rattle.table.proofs.Facts.{WholeFacts, whole_facts}

-- where a step's checks passed the table is whole
pub passed : (step : Phase) (t : Table) (floats : ℕ) {r : Result (Unit {0}) Refusal}
    → r ≡ checked (first_due (step_checks step t floats)) → r ≡ Ok tt → WholeFacts t
passed step t floats e ok =
    let checks = step_checks step t floats in
    whole_facts t (not-false _ (none_due checks (checked_passed (first_due checks) (sym e ∙ ok))).0)

-- every coordinate is finite, as std's `all` answers it
pub all_finite : (l : List Float) → list_all finite l ≡ not (any (λ x. not (finite x)) l)
unfolding any
all_finite [] = refl
all_finite (x ∷ l) = rw (all_finite l) (go (finite x))
  where
    go : (b : Bool) → (b && not (any (λ y. not (finite y)) l)) ≡ not (not b || any (λ y. not (finite y)) l)
    go true = refl
    go false = refl
