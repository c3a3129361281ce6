-- Rule 75, demand 3: from a fresh tracker, over any sequence of calls, after each call: it is stated of the day after any list of calls, so also after each call of a list.
use Rattle.std.specs.Prelude.{◌≡◌, not, cond, List, [], ◌∷◌, ◌++◌, map, ℕ, ◌≤◌, eqb, length, Result, Ok}
use Rattle.laws.specs.Every.{Every}
use Rattle.laws.specs.Lists.{below, keep, holds, times, up_from}
use Rattle.table.specs.declared.refusals.Refusal.{Refusal}
use Rattle.table.specs.Slots.{table_names}
use Rattle.matching_step.specs.Account.{Opened, Issue, hit_names, opened_names, issued_numbers, issued_names}
use Rattle.reid.specs.Step.{Absorbed, absorbed_names}
use Rattle.tracker.specs.Calls.{total_answer}
use Rattle.ledger.specs.History.{Entry, Day}

-- ---- what is said often

-- no number stands twice
abbrev pub Once : List ℕ → Type 0
Once l = (x : ℕ) → times x l ≤ 1

-- the same numbers, each as often
abbrev pub Same : List ℕ → List ℕ → Type 0
Same l m = (x : ℕ) → times x l ≡ times x m

-- no number stands in the first more often than in the second
abbrev pub Among : List ℕ → List ℕ → Type 0
Among l m = (x : ℕ) → times x l ≤ times x m

-- ---- what is read off the history

unfoldable pub gather : {A B : Type 0} → (A → List B) → List A → List B
gather f [] = []
gather f (x ∷ l) = f x ++ gather f l

-- every call's, in order
abbrev pub entries : Day → List Entry
entries d = d.early ++ gather (λ frame. frame) d.frames

abbrev pub opened_in : List Entry → List Opened
opened_in l = gather (λ e. e.opened) l

abbrev pub dropped_in : List Entry → List ℕ
dropped_in l = gather (λ e. e.dropped) l

abbrev pub absorbed_in : List Entry → List Absorbed
absorbed_in l = gather (λ e. e.absorbed) l

abbrev pub issued_in : List Entry → List Issue
issued_in l = gather (λ e. e.issued) l

-- over the whole day
abbrev pub ever_opened : Day → List ℕ
ever_opened d = opened_names (opened_in (entries d))

abbrev pub ever_dropped : Day → List ℕ
ever_dropped d = dropped_in (entries d)

abbrev pub ever_absorbed : Day → List ℕ
ever_absorbed d = absorbed_names (absorbed_in (entries d))

abbrev pub ever_issued : Day → List Issue
ever_issued d = issued_in (entries d)

-- what total_object_count answers at that moment
abbrev pub reported : Day → Result ℕ Refusal
reported d = total_answer d.world.table

-- ---- of one call: the detections that hit or opened, the records hit, those hit or opened, and who left the table in a step

abbrev pub detections_of : Entry → List ℕ
detections_of e = map (λ h. h.detection) e.first ++ (map (λ h. h.detection) e.second ++ map (λ o. o.detection) e.opened)

abbrev pub hit_by : Entry → List ℕ
hit_by e = hit_names e.first ++ hit_names e.second

abbrev pub records_of : Entry → List ℕ
records_of e = hit_by e ++ opened_names e.opened

abbrev pub left_in : ℕ → Entry → List ℕ
left_in step e = cond (eqb e.step step) (keep (λ x. not (holds x e.now)) e.before) []

-- ---- the demand

pub record Demand (d : Day) : Type 0 where
  -- each detection of an accepted matching step hit or opened exactly one record
  pub detections : Every (λ e. Same (detections_of e) (below e.detections)) (entries d)
  -- no record was hit or opened by two of one step
  pub records : Every (λ e. Once (records_of e)) (entries d)
  -- who was hit stood in the table, and who stands there was opened
  pub hit : Every (λ e. Among (hit_by e) e.before) (entries d)
  pub known : Every (λ e. Among e.before (ever_opened d)) (entries d)
  -- every record ever opened, once,
  pub opened : Once (ever_opened d)
  -- is in the table, dropped or absorbed, exactly one of these
  pub placed : Same (table_names d.world.table ++ (ever_dropped d ++ ever_absorbed d)) (ever_opened d)
  -- dropped is exactly who left in an accepted step 1, absorbed who left in an accepted step 3
  pub dropped : Every (λ e. Same e.dropped (left_in 1 e)) (entries d)
  pub absorbed : Every (λ e. Same (absorbed_names e.absorbed) (left_in 3 e)) (entries d)
  -- permanent IDs issued are 1 to n, each once
  pub numbers : issued_numbers (ever_issued d) ≡ up_from 1 (length (ever_issued d))
  -- to different records, which were opened
  pub holders : Once (issued_names (ever_issued d))
  pub holders_opened : Among (issued_names (ever_issued d)) (ever_opened d)
  -- and the total reported is n
  pub total : reported d ≡ Ok (length (ever_issued d))
