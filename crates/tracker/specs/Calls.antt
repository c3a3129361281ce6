-- Rules 11 to 13, 64, 70 and 71: each public call's answer and what it leaves in the storage, refusals among the cases.
use Rattle.std.specs.Prelude.{Bool, cond, List, [], ◌++◌, ℕ, ◌-◌, length, drop, Float, Option, Some, None, is_none, Result, Ok, Err}
use Rattle.table.specs.declared.refusals.Refusal.{Refusal}
use Rattle.table.specs.declared.Table.{Table}
use Rattle.table.specs.declared.Answer.{Answer}
use Rattle.table.specs.Making.{answer_of}
use Rattle.table.specs.Refusals.{first_due, predict_checks, count_checks}
use Rattle.pairs.specs.declared.Pair.{Pair}
use Rattle.passes.specs.Checks.{Frame}
use Rattle.matching_step.specs.declared.Matched.{Matched}
use Rattle.matching_step.specs.Step.{match_refusal, accepted, listed_pairs, match_table}
use Rattle.reid.specs.Step.{reid_checks, reid_table, reid_floats, active_of, active_ids}
use Rattle.predict.specs.Step.{predict_table, predict_floats}

-- ---- step 1

abbrev pub predict_refusal : Table → List Float → Option Refusal
predict_refusal t s = first_due (predict_checks t (length s))

unfoldable pub predict_answer : Table → List Float → Answer
predict_answer t s = answer_of (predict_refusal t s) (cond (is_none (predict_refusal t s)) (predict_table t s) t)

unfoldable pub predict_storage : Table → List Float → List Float
predict_storage t s = cond (is_none (predict_refusal t s)) (predict_floats t s) s

-- ---- step 2: its pairs are listed in front, the rest of the list is untouched

unfoldable pub match_answer : Table → List Float → ℕ → Frame → ℕ → Answer
match_answer t s detections f places =
    record {
      refusal = match_refusal t s detections f places;
      count = length (listed_pairs t s detections f places);
      table = cond (accepted t s detections f places) (match_table t s detections f) t;
    }

-- what is left of the step's result without its pairs
abbrev pub answer_from : Matched → Answer
answer_from m = record { refusal = m.refusal; count = m.count; table = m.table }

unfoldable pub match_pairs : Table → List Float → ℕ → Frame → List Pair → List Pair
match_pairs t s detections f list =
    let l = listed_pairs t s detections f (length list) in
    l ++ drop (length l) list

-- ---- step 3: the active are listed in front, the rest of the list is untouched

abbrev pub reid_refusal : Table → List Float → List Float → ℕ → Option Refusal
reid_refusal t s distances places = first_due (reid_checks t (length s) (length distances) places)

abbrev pub reid_accepted : Table → List Float → List Float → ℕ → Bool
reid_accepted t s distances places = is_none (reid_refusal t s distances places)

abbrev pub listed_active : Table → List Float → List Float → ℕ → List ℕ
listed_active t s distances places =
    let after = reid_table t s distances in
    cond (reid_accepted t s distances places) (active_ids after.counts.records after.records) []

unfoldable pub reid_answer : Table → List Float → List Float → ℕ → Answer
reid_answer t s distances places =
    record {
      refusal = reid_refusal t s distances places;
      count = length (listed_active t s distances places);
      table = cond (reid_accepted t s distances places) (reid_table t s distances) t;
    }

unfoldable pub reid_storage : Table → List Float → List Float → ℕ → List Float
reid_storage t s distances places = cond (reid_accepted t s distances places) (reid_floats t s distances) s

unfoldable pub reid_active : Table → List Float → List Float → List ℕ → List ℕ
reid_active t s distances list =
    let l = listed_active t s distances (length list) in
    l ++ drop (length l) list

-- ---- counts

abbrev pub count_of : Option Refusal → ℕ → Result ℕ Refusal
count_of None n = Ok n
count_of (Some refusal) n = Err refusal

-- the count that is told; 0 with a refusal
abbrev pub counted : Result ℕ Refusal → ℕ
counted (Ok n) = n
counted (Err refusal) = 0

-- the total is the permanent counter less 1
unfoldable pub total_answer : Table → Result ℕ Refusal
total_answer t = count_of (first_due (count_checks t)) (t.counts.permanent - 1)

unfoldable pub current_answer : Table → Result ℕ Refusal
current_answer t = count_of (first_due (count_checks t)) (length (active_of t.counts.records t.records))
