-- The array holds the places below i of records that stand in the list.
use lib.ListN.{get_or}
use Rattle.laws.specs.Lists.{below, keep}
use Rattle.laws.proofs.Standing.{Stands}
use Rattle.table.specs.Making.{zero_object}
use Rattle.predict.specs.Step.{belongs}
use Rattle.predict.proofs.sort_out.Given as goal

abbrev pub invariant-loop-i : goal.invariant-loop-i
invariant-loop-i l =
    Stands 64 (keep (λ j. belongs l.fn.config l.fn.sort (get_or l.records j zero_object)) (below l.i)) l.places.at l.places.count
