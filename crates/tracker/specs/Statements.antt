-- Rules 12 and 13: what each public call's contract says, as a type over all that it answers and leaves: proofs/Tied.antt shows that it is the contract's own text.
use Rattle.std.specs.Prelude.{◌≡◌, List, ℕ, length, Float, Result}
use Rattle.parts.specs.declared.TrackerConfig.{TrackerConfig}
use Rattle.table.specs.declared.refusals.Refusal.{Refusal}
use Rattle.table.specs.declared.Table.{Table}
use Rattle.table.specs.declared.Answer.{Answer}
use Rattle.table.specs.Making.{made}
use Rattle.pairs.specs.declared.Pair.{Pair}
use Rattle.passes.specs.Checks.{Frame}
use Rattle.matching_step.specs.Step.{matched_floats}
use Rattle.tracker.specs.Calls.{predict_answer, predict_storage, match_answer, match_pairs, reid_answer, reid_storage, reid_active, total_answer, current_answer}

-- making
abbrev pub NewSays : TrackerConfig → List Float → Answer → Type 0
NewSays c s a = a ≡ made c (length s)

-- step 1: what it answers, and what it leaves in the storage
abbrev pub PredictAnswers : Table → List Float → Answer → Type 0
PredictAnswers t s a = a ≡ predict_answer t s

abbrev pub PredictLeaves : Table → List Float → List Float → Type 0
PredictLeaves t s s' = s' ≡ predict_storage t s

abbrev pub PredictSays : Table → List Float → Answer → List Float → Type 0
PredictSays t s a s' = PredictAnswers t s a × PredictLeaves t s s'

-- step 2: and what in the pair list
abbrev pub MatchAnswers : Table → List Float → ℕ → Frame → List Pair → Answer → Type 0
MatchAnswers t s n f l a = a ≡ match_answer t s n f (length l)

abbrev pub MatchLeaves : Table → List Float → ℕ → Frame → List Pair → List Float → Type 0
MatchLeaves t s n f l s' = s' ≡ matched_floats t s n f (length l)

abbrev pub MatchLists : Table → List Float → ℕ → Frame → List Pair → List Pair → Type 0
MatchLists t s n f l l' = l' ≡ match_pairs t s n f l

abbrev pub MatchSays : Table → List Float → ℕ → Frame → List Pair → Answer → List Float → List Pair → Type 0
MatchSays t s n f l a s' l' = MatchAnswers t s n f l a × MatchLeaves t s n f l s' × MatchLists t s n f l l'

-- step 3: and what in the active list
abbrev pub ReidAnswers : Table → List Float → List Float → List ℕ → Answer → Type 0
ReidAnswers t s d l a = a ≡ reid_answer t s d (length l)

abbrev pub ReidLeaves : Table → List Float → List Float → List ℕ → List Float → Type 0
ReidLeaves t s d l s' = s' ≡ reid_storage t s d (length l)

abbrev pub ReidLists : Table → List Float → List Float → List ℕ → List ℕ → Type 0
ReidLists t s d l l' = l' ≡ reid_active t s d l

abbrev pub ReidSays : Table → List Float → List Float → List ℕ → Answer → List Float → List ℕ → Type 0
ReidSays t s d l a s' l' = ReidAnswers t s d l a × ReidLeaves t s d l s' × ReidLists t s d l l'

-- the counts
abbrev pub TotalSays : Table → Result ℕ Refusal → Type 0
TotalSays t n = n ≡ total_answer t

abbrev pub CurrentSays : Table → Result ℕ Refusal → Type 0
CurrentSays t n = n ≡ current_answer t
