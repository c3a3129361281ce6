-- Rules 43, 44 and 48: both passes, who is left over, the old ones and the candidates.
use Rattle.std.specs.Prelude.{Bool, true, false, not, cond, List, ◌++◌, ℕ, ◌≤◌, set, length, take, replicate}
use Rattle.laws.specs.Lists.{below, keep, holds, times, EachBelow}
use Rattle.laws.specs.Turns.{through}
use Rattle.matching.specs.declared.Numbers.{Numbers}
use Rattle.matching.specs.declared.Picks.{Picks}
use Rattle.matching.specs.Greedy.{Matrix, Pick, marked, cleared, picks}
use Rattle.matching.specs.Unmatched.{unmatched}

-- what a struct of numbers, or of picks, lists
abbrev pub numbers : Numbers 64 → List ℕ
numbers l = take l.count l.at

abbrev pub rows_picked : Picks → List ℕ
rows_picked l = take l.count l.rows

abbrev pub cols_picked : Picks → List ℕ
cols_picked l = take l.count l.cols

-- n flags: those at the places as said, the others not
abbrev pub flagged : ℕ → Bool → List ℕ → List Bool
flagged n flag places = through (λ i u. set u i flag) places (replicate n (not flag))

-- ---- the passes: all columns but those listed are marked used

-- all rows and the alive columns
unfoldable pub first_pass : Matrix → List ℕ → List Pick
first_pass m alive = picks m (replicate 32 false) (cleared alive (replicate 64 true))

-- the rows left over and the initializing columns
unfoldable pub second_pass : Matrix → List ℕ → List ℕ → List Pick
second_pass m initializing rows = picks m (marked rows (replicate 32 false)) (cleared initializing (replicate 64 true))

-- ---- who is left

-- whether a number stands, or does not stand, in a list
abbrev pub among : Bool → List ℕ → ℕ → Bool
among wanted l x = cond wanted (holds x l) (not (holds x l))

-- the detections that neither pass took, ascending
abbrev pub left_over : ℕ → List ℕ → List ℕ → List ℕ
left_over total first second = keep (among false second) (unmatched total first)

-- ---- the lists for step 3

-- the alive records unmatched in pass 1, ascending
abbrev pub alive_left : ℕ → List ℕ → List ℕ → List ℕ
alive_left records alive hit = keep (among true alive) (unmatched records hit)

-- then each dead one, in the order in which it is listed, that is not already named
abbrev pub old_ones : ℕ → List ℕ → List ℕ → List ℕ → List ℕ
old_ones records alive dead hit = alive_left records alive hit ++ keep (among false (alive_left records alive hit)) dead

abbrev pub AllBelow : ℕ → List ℕ → Type 0
AllBelow n l = EachBelow n (length l) l

-- a list of places in the table, none twice
abbrev pub NamesOnce : ℕ → List ℕ → Type 0
NamesOnce records l = (x : ℕ) → times x l ≤ times x (below records)
