-- Rules 10 and 11: the refusal numbers, and the order in which a call asks for them.
use Rattle.std.specs.Prelude.{Bool, not, cond, List, [], ◌∷◌, ◌++◌, ℕ, ◌*◌, leb, ltb, eqb, Option, Some, None, Result, Ok, Err}
use Rattle.parts.specs.declared.TrackerConfig.{TrackerConfig}
use Rattle.parts.specs.Layout.{block_size}
use Rattle.table.specs.declared.Phase.{Phase}
use Rattle.table.specs.declared.Phase.TheVariants.{Predict, Match, Reid}
use Rattle.table.specs.declared.refusals.Refusal.{Refusal}
use Rattle.table.specs.declared.refusals.Refusal.TheVariants.{DelayNegative, DelayTooLong, SettingOutOfRange, StorageShort, TableNotWhole, OutOfStep, FramesUsedUp, Period, TooManyDetections, Lengths, OutputShort, NotFinite, TableFull, IdsUsedUp}
use Rattle.table.specs.declared.Table.{Table}
use Rattle.table.specs.Ranges.{delay_negative, delay_too_long, settings_in_range}
use Rattle.table.specs.Wholeness.{whole_table}

-- the numbers of the refusals
abbrev pub number : Refusal → ℕ
number DelayNegative = 1
number DelayTooLong = 2
number SettingOutOfRange = 3
number StorageShort = 4
number TableNotWhole = 5
number OutOfStep = 6
number FramesUsedUp = 7
number Period = 8
number TooManyDetections = 9
number Lengths = 10
number OutputShort = 11
number NotFinite = 12
number TableFull = 13
number IdsUsedUp = 14

-- a refusal that a call asks for, and whether it is due
pub record Check : Type 0 where
  pub refusal : Refusal
  pub due : Bool

abbrev pub check : Refusal → Bool → Check
check refusal due = record { refusal = refusal; due = due }

-- the first that is due, if one is
unfoldable pub first_due : List Check → Option Refusal
first_due [] = None
first_due (c ∷ l) = cond c.due (Some c.refusal) (first_due l)

-- the number that a host is told; 0 if none is due
abbrev pub told : Option Refusal → ℕ
told None = 0
told (Some r) = number r

-- as a function answers it whose callers go on with `?`
abbrev pub checked : Option Refusal → Result (Unit {0}) Refusal
checked None = Ok tt
checked (Some r) = Err r

-- C × (6PK + (L+1)(PK+P))
unfoldable pub storage_need : TrackerConfig → ℕ
storage_need c = c.capacity * block_size c

abbrev pub storage_short : TrackerConfig → ℕ → Bool
storage_short c floats = ltb floats (storage_need c)

-- at making 1, 2, 3, 4
abbrev pub making_checks : TrackerConfig → ℕ → List Check
making_checks c floats =
    check DelayNegative (delay_negative c)
    ∷ check DelayTooLong (delay_too_long c)
    ∷ check SettingOutOfRange (not (settings_in_range c))
    ∷ check StorageShort (storage_short c floats)
    ∷ []

-- the steps of a frame, numbered
abbrev pub phase_number : Phase → ℕ
phase_number Predict = 1
phase_number Match = 2
phase_number Reid = 3

abbrev pub is_next : Phase → Phase → Bool
is_next phase step = eqb (phase_number phase) (phase_number step)

-- every step begins with 5, 4, 6
abbrev pub step_checks : Phase → Table → ℕ → List Check
step_checks step t floats =
    check TableNotWhole (not (whole_table t)) ∷ check StorageShort (storage_short t.config floats) ∷ check OutOfStep (not (is_next t.phase step)) ∷ []

-- step 1: then 7
abbrev pub predict_checks : Table → ℕ → List Check
predict_checks t floats = step_checks Predict t floats ++ (check FramesUsedUp (leb 200000000 t.counts.frames) ∷ [])

-- a count: 5 alone
abbrev pub count_checks : Table → List Check
count_checks t = check TableNotWhole (not (whole_table t)) ∷ []
