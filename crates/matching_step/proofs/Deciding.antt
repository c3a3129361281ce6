-- Rules 43 and 44: what both passes and the search for leftovers return is what the definition decides; and its bounds.
use mathlib.Core.Path.{◌≡◌, ◌∙◌}
use Prim.Native.Nat.{ℕ, ◌+◌, ◌≤◌}
use native.Mathlib.Omega.{arith}
use lib.ListN.{length}
use Rattle.laws.specs.Lists.{EachBelow}
use Rattle.matching.specs.declared.Numbers.{Numbers}
use Rattle.matching.specs.declared.Picks.{Picks}
use Rattle.matching.specs.Lent.{picks_of}
use Rattle.matching.specs.Unmatched.{numbers_of}
use Rattle.matching.proofs.Picked.{picked_rows}
use Rattle.table.specs.declared.Table.{Table}
use Rattle.passes.specs.Checks.{Frame}
use Rattle.passes.specs.Passes.{numbers, rows_picked, first_pass, second_pass, left_over}
use Rattle.passes.proofs.PassLaws.{hits_few, first_passed, rows_within}
use Rattle.matching_step.specs.declared.Decided.{Decided}
use Rattle.matching_step.specs.Step.{matrix_of, first_hits, second_hits, to_open, decided_of}

module _ (t : Table) (n : ℕ) (f : Frame) where
  -- at most as many hits as detections
  pub few_hits : length (first_hits t n f) + length (second_hits t n f) ≤ n
  unfolding first_hits second_hits
  few_hits = hits_few (matrix_of t n f) (numbers t.lists.alive) (numbers t.lists.initializing)

  module _ {first : Picks} (one : first ≡ picks_of (first_pass (matrix_of t n f) (numbers t.lists.alive))) where
    first_is : first ≡ picks_of (first_hits t n f)
    unfolding first_hits
    first_is = one

    pub first-few : first.count ≤ n
    first-few = rw first_is (omega (arith, few_hits))

    pub first_rows : n ≤ 32 → EachBelow 32 first.count first.rows
    first_rows h = rw one (rows_within (first_passed (matrix_of t n f) (numbers t.lists.alive)) h)

    module _ {second : Picks} (two : second ≡ picks_of (second_pass (matrix_of t n f) (numbers t.lists.initializing) (rows_picked first))) where
      second_is : second ≡ picks_of (second_hits t n f)
      unfolding second_hits
      second_is = two ∙ rw (first_is, picked_rows (first_hits t n f))

      pub decided : {left : Numbers 64} → left ≡ numbers_of (left_over n (rows_picked first) (rows_picked second)) → ◌≡◌ {A = Decided} (record { first = first; second = second; left = left }) (decided_of t n f)
      unfolding to_open
      decided three = rw (three, first_is, second_is, picked_rows (first_hits t n f), picked_rows (second_hits t n f))
