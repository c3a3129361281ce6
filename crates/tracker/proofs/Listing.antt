-- Rules 13, 47 and 64: what the cores of steps 2 and 3 return is what the public calls answer and list. Of step 2 none of it asks whether the step is refused.
use mathlib.Core.Path.{◌≡◌, refl, ap}
use mathlib.Core.List.{List, ◌++◌}
use Prim.Native.Nat.{ℕ, ◌≤◌}
use lib.ListN.{length, take, drop}
use lib.Ieee.{Float}
use native.Mathlib.Omega.{arith}
use lib.Seq.{length-take-le, take-take}
use Rattle.parts.specs.declared.TrackedObject.{TrackedObject}
use Rattle.laws.proofs.Growing.{take-filled}
use Rattle.table.specs.declared.Table.{Table}
use Rattle.pairs.specs.declared.Pair.{Pair}
use Rattle.passes.specs.Checks.{Frame}
use Rattle.matching_step.specs.Step.{matched, listed_pairs, no_pair}
use Rattle.reid.specs.Step.{active_of, active_ids}
use Rattle.tracker.specs.Calls.{answer_from, match_answer, match_pairs}

pub answer_is : (t : Table) (s : List Float) (d : ℕ) (f : Frame) (places : ℕ) → answer_from (matched t s d f places) ≡ match_answer t s d f places
unfolding matched match_answer
answer_is t s d f places = refl

-- the pairs up to the count over the front of a list
pub pairs_are : (t : Table) (s : List Float) (d : ℕ) (f : Frame) (list : List Pair)
    → take (matched t s d f (length list)).count (matched t s d f (length list)).pairs
    ++ drop (length (take (matched t s d f (length list)).count (matched t s d f (length list)).pairs)) list ≡ match_pairs t s d f list
unfolding matched match_pairs
pairs_are t s d f list =
    let l = listed_pairs t s d f (length list) in
    ap (λ (front : List Pair). front ++ drop (length front) list) (take-filled 32 no_pair l)

-- ---- the front of an array, as a list of its own

-- how many of it are active
pub counted_front : (n : ℕ) (records : List TrackedObject) → n ≤ length records
    → length (active_of (length (take n records)) (take n records)) ≡ length (active_of n records)
counted_front n records h = rw (length-take-le n records h, take-take n n records (omega arith))

-- and who
pub listed_front : (n : ℕ) (records : List TrackedObject) → n ≤ length records
    → active_ids (length (take n records)) (take n records) ≡ active_ids n records
listed_front n records h = rw (length-take-le n records h, take-take n n records (omega arith))
