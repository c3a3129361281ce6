-- Rules 12 and 13: each public call's statement determines all that it answers and leaves, and a refusal changes nothing.
use mathlib.Core.Path.{◌≡◌, refl, sym, ◌∙◌}
use mathlib.Core.List.{List}
use Prim.Native.Nat.{ℕ}
use lib.ListN.{length, drop}
use lib.Seq.{drop-append_seam}
use lib.Ieee.{Float}
use Rattle.parts.specs.declared.TrackerConfig.{TrackerConfig}
use Rattle.std.specs.Prelude.{None, Result}
use Rattle.table.proofs.Due.{refused_is}
use Rattle.table.specs.declared.refusals.Refusal.{Refusal}
use Rattle.table.specs.declared.Table.{Table}
use Rattle.table.specs.declared.Answer.{Answer}
use Rattle.pairs.specs.declared.Pair.{Pair}
use Rattle.passes.specs.Checks.{Frame}
use Rattle.matching_step.specs.Step.{match_refusal, listed_pairs, matched_floats}
use Rattle.tracker.specs.Calls.{predict_refusal, predict_answer, predict_storage, match_answer, match_pairs, reid_refusal, listed_active, reid_answer, reid_storage, reid_active}
use Rattle.tracker.specs.Statements.{NewSays, PredictSays, MatchSays, ReidSays, TotalSays, CurrentSays}

-- ---- two results that satisfy a statement coincide

pub new_determined : (c : TrackerConfig) (s : List Float) (a b : Answer) → NewSays c s a → NewSays c s b → a ≡ b
new_determined c s a b p q = p ∙ sym q

pub predict_determined : (t : Table) (s : List Float) (a b : Answer) (s₁ s₂ : List Float)
    → PredictSays t s a s₁ → PredictSays t s b s₂ → (a ≡ b) × (s₁ ≡ s₂)
predict_determined t s a b s₁ s₂ p q = (p.0 ∙ sym q.0, p.1 ∙ sym q.1)

pub match_determined : (t : Table) (s : List Float) (n : ℕ) (f : Frame) (l : List Pair) (a b : Answer) (s₁ s₂ : List Float) (l₁ l₂ : List Pair)
    → MatchSays t s n f l a s₁ l₁ → MatchSays t s n f l b s₂ l₂ → (a ≡ b) × (s₁ ≡ s₂) × (l₁ ≡ l₂)
match_determined t s n f l a b s₁ s₂ l₁ l₂ p q = (p.0 ∙ sym q.0, p.1 ∙ sym q.1, p.2 ∙ sym q.2)

pub reid_determined : (t : Table) (s d : List Float) (l : List ℕ) (a b : Answer) (s₁ s₂ : List Float) (l₁ l₂ : List ℕ)
    → ReidSays t s d l a s₁ l₁ → ReidSays t s d l b s₂ l₂ → (a ≡ b) × (s₁ ≡ s₂) × (l₁ ≡ l₂)
reid_determined t s d l a b s₁ s₂ l₁ l₂ p q = (p.0 ∙ sym q.0, p.1 ∙ sym q.1, p.2 ∙ sym q.2)

pub total_determined : (t : Table) (m n : Result ℕ Refusal) → TotalSays t m → TotalSays t n → m ≡ n
total_determined t m n p q = p ∙ sym q

pub current_determined : (t : Table) (m n : Result ℕ Refusal) → CurrentSays t m → CurrentSays t n → m ≡ n
current_determined t m n p q = p ∙ sym q

-- ---- a refused step 1 returns the table, the count 0, and leaves the storage

pub predict_refused : (t : Table) (s : List Float) → (predict_refusal t s ≡ None → ⊥)
    → ((predict_answer t s).table ≡ t) × ((predict_answer t s).count ≡ 0) × (predict_storage t s ≡ s)
unfolding predict_answer predict_storage
predict_refused t s refused = let e = refused_is (predict_refusal t s) refused in (rw e, refl, rw e)

-- ---- a refused step 2 returns the table, the count 0, and leaves the storage and the pair list

pub match_refused : (t : Table) (s : List Float) (n : ℕ) (f : Frame) (l : List Pair) → (match_refusal t s n f (length l) ≡ None → ⊥) →
    let a = match_answer t s n f (length l) in
    (a.table ≡ t) × (a.count ≡ 0) × (matched_floats t s n f (length l) ≡ s) × (match_pairs t s n f l ≡ l)
unfolding match_answer matched_floats match_pairs
match_refused t s n f l refused =
    let e = refused_is (match_refusal t s n f (length l)) refused in
    (rw e, rw e, rw e, rw e)

-- an accepted one writes no more of the pair list than the entries that it counts
pub rest_of_pairs : (t : Table) (s : List Float) (n : ℕ) (f : Frame) (l : List Pair) →
    let count = (match_answer t s n f (length l)).count in
    drop count (match_pairs t s n f l) ≡ drop count l
unfolding match_answer match_pairs
rest_of_pairs t s n f l = drop-append_seam (listed_pairs t s n f (length l)) (drop (length (listed_pairs t s n f (length l))) l)

-- ---- a refused step 3 returns the table, the count 0, and leaves the storage and the active list

pub reid_refused : (t : Table) (s d : List Float) (l : List ℕ) → (reid_refusal t s d (length l) ≡ None → ⊥) →
    let a = reid_answer t s d (length l) in
    (a.table ≡ t) × (a.count ≡ 0) × (reid_storage t s d (length l) ≡ s) × (reid_active t s d l ≡ l)
unfolding reid_answer reid_storage reid_active
reid_refused t s d l refused =
    let e = refused_is (reid_refusal t s d (length l)) refused in
    (rw e, rw e, rw e, rw e)

-- an accepted one writes no more of the active list than the entries that it counts
pub rest_of_active : (t : Table) (s d : List Float) (l : List ℕ) →
    let count = (reid_answer t s d (length l)).count in
    drop count (reid_active t s d l) ≡ drop count l
unfolding reid_answer reid_active
rest_of_active t s d l = drop-append_seam (listed_active t s d (length l)) (drop (length (listed_active t s d (length l))) l)
