-- Rules 47 and 64: what steps 2 and 3 list fits in the list that was lent.
use Rattle.std.proofs.Common.{ℕ, ◌≤◌, List, length, drop, arith, length-append}
use Rattle.std.specs.Prelude.{Float}
use Rattle.table.specs.declared.Table.{Table}
use Rattle.pairs.specs.declared.Pair.{Pair}
use Rattle.passes.specs.Checks.{Frame}
use Rattle.matching_step.specs.Step.{listed_pairs}
use Rattle.tracker.specs.Calls.{match_answer, match_pairs, listed_active, reid_answer, reid_active}

pub pairs_fit : (t : Table) (s : List Float) (d : ℕ) (f : Frame) (list : List Pair)
    → (match_answer t s d f (length list)).count ≤ length (match_pairs t s d f list)
unfolding match_answer match_pairs
pairs_fit t s d f list =
    let l = listed_pairs t s d f (length list) in
    omega (arith, length-append l (drop (length l) list))

pub active_fit : (t : Table) (s distances : List Float) (list : List ℕ)
    → (reid_answer t s distances (length list)).count ≤ length (reid_active t s distances list)
unfolding reid_answer reid_active
active_fit t s distances list =
    let l = listed_active t s distances (length list) in
    omega (arith, length-append l (drop (length l) list))
