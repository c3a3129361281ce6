-- Rules 10, 11 and 40: what the host lends to step 2, and its refusals in their order.
use Rattle.std.specs.Prelude.{Bool, not, ◌&&◌, List, [], ◌∷◌, ◌++◌, ℕ, ◌+◌, ◌*◌, ltb, eqb, length, Float}
use Rattle.laws.specs.Float64.{finite}
use Rattle.laws.specs.Lists.{any}
use Rattle.parts.specs.declared.TrackerConfig.{TrackerConfig}
use Rattle.parts.specs.Layout.{coords}
use Rattle.table.specs.declared.Counts.{Counts}
use Rattle.table.specs.declared.Table.{Table}
use Rattle.table.specs.declared.Phase.TheVariants.{Match}
use Rattle.table.specs.Ranges.{between}
use Rattle.table.specs.Refusals.{Check, check, step_checks}
use Rattle.table.specs.declared.refusals.Refusal.TheVariants.{Period, TooManyDetections, Lengths, OutputShort, NotFinite, TableFull, IdsUsedUp}
use Rattle.passes.specs.declared.frame.LentFrame.{LentFrame}
use Rattle.passes.specs.declared.frame.LentLengths.{LentLengths}

-- the period; for each detection its coordinates, its scores and a has-scores byte; the matrix, row by row
pub record Frame : Type 0 where
  pub period : ℕ
  pub points : List Float
  pub scores : List Float
  pub has_scores : List ℕ
  pub distances : List Float

abbrev pub frame : ℕ → List Float → List Float → List ℕ → List Float → Frame
frame period points scores has_scores distances =
    record { period = period; points = points; scores = scores; has_scores = has_scores; distances = distances }

abbrev pub lent_frame : LentFrame → Frame
lent_frame f = frame f.period f.points.now f.scores.now f.has_scores.now f.distances.now

-- the pair list is an output: only its places matter
abbrev pub lengths_of : Frame → ℕ → LentLengths
lengths_of f places =
    record {
      points = length f.points;
      scores = length f.scores;
      has_scores = length f.has_scores;
      distances = length f.distances;
      pairs = places;
    }

-- a lent input's length is exactly what the counts ask
abbrev pub lengths_fit : TrackerConfig → ℕ → ℕ → LentLengths → Bool
lengths_fit c records detections l =
    eqb l.points (detections * coords c)
    && (eqb l.scores (detections * c.points) && (eqb l.has_scores detections && eqb l.distances (detections * records)))

-- 5, 4, 6, 8, 9, 10, 11: told before the picks
abbrev pub given_checks : Table → ℕ → ℕ → ℕ → LentLengths → List Check
given_checks t floats period detections l =
    step_checks Match t floats
    ++ (check Period (not (between 1 period 1000))
    ∷ check TooManyDetections (ltb 32 detections)
    ∷ check Lengths (not (lengths_fit t.config t.counts.records detections l))
    ∷ check OutputShort (ltb l.pairs 32)
    ∷ [])

-- 12, 13, 14: with how many records are to open
abbrev pub decided_checks : TrackerConfig → Counts → List Float → ℕ → List Check
decided_checks c n points more =
    check NotFinite (any (λ x. not (finite x)) points)
    ∷ check TableFull (ltb c.capacity (n.records + more))
    ∷ check IdsUsedUp (ltb 2000000000 (n.opened + more))
    ∷ []

-- step 2: the order of its refusals
abbrev pub match_checks : Table → ℕ → ℕ → Frame → ℕ → ℕ → List Check
match_checks t floats detections f places more =
    given_checks t floats f.period detections (lengths_of f places) ++ decided_checks t.config t.counts f.points more
