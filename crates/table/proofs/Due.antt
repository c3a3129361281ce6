-- Rule 11: the checks of a call that come after those that every step begins with.
use Rattle.std.specs.Prelude.{Option, Some, None, is_none, Ok, Err}
use mathlib.Core.Path.{◌≡◌, refl}
use mathlib.Core.Bool.{Bool, true, false, cond}
use mathlib.Core.List.{List, [], ◌∷◌, ◌++◌}
use Prim.Native.Nat.{ℕ}
use Rattle.table.specs.declared.Phase.{Phase}
use Rattle.table.specs.declared.Table.{Table}
use Rattle.table.specs.declared.refusals.Refusal.{Refusal}
use Rattle.table.specs.Refusals.{Check, first_due, checked, step_checks}

pub due_after : (a b : List Check) → first_due (a ++ b) ≡ cond (is_none (first_due a)) (first_due b) (first_due a)
unfolding first_due
due_after [] b = refl
due_after (c ∷ a) b = choose c.due (due_after a b)
  where
    choose : (v : Bool) → first_due (a ++ b) ≡ cond (is_none (first_due a)) (first_due b) (first_due a) →
        let first = cond v (Some c.refusal) (first_due a) in
        cond v (Some c.refusal) (first_due (a ++ b)) ≡ cond (is_none first) (first_due b) first
    choose true later = refl
    choose false later = later

pub after_step : (step : Phase) (t : Table) (floats : ℕ) (l : List Check) →
    let first = first_due (step_checks step t floats) in
    first_due (step_checks step t floats ++ l) ≡ cond (is_none first) (first_due l) first
after_step step t floats l = due_after (step_checks step t floats) l

-- ---- no refusal at all

-- where a refusal is due, and where none is
pub refused_is : (r : Option Refusal) → (r ≡ None → ⊥) → is_none r ≡ false
refused_is None h = absurd (h refl)
refused_is (Some r) h = refl

pub accepted_is : (r : Option Refusal) → r ≡ None → is_none r ≡ true
accepted_is r e = rw e

pub none_is : (r : Option Refusal) → is_none r ≡ true → r ≡ None
none_is None e = refl
none_is (Some r) e = cc

-- as a function answers it whose callers go on with `?`
pub checked_refused : (r : Option Refusal) {e : Refusal} → checked r ≡ Err e → r ≡ Some e
checked_refused None h = cc
checked_refused (Some r) h = cc

pub checked_passed : (r : Option Refusal) {u : Unit {0}} → checked r ≡ Ok u → r ≡ None
checked_passed None h = refl
checked_passed (Some r) h = cc

abbrev pub NoneDue : List Check → Type 0
NoneDue [] = Unit {0}
NoneDue (c ∷ l) = (c.due ≡ false) × NoneDue l

first_not : (due : Bool) (r : Refusal) (m : Option Refusal) → cond due (Some r) m ≡ None → (due ≡ false) × (m ≡ None)
first_not true r m h = cc
first_not false r m h = (refl, h)

pub none_due : (l : List Check) → first_due l ≡ None → NoneDue l
unfolding first_due
none_due [] h = tt
none_due (c ∷ l) h =
    let q = first_not c.due c.refusal (first_due l) h in
    (q.0, none_due l q.1)
