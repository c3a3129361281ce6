-- Rules 43 to 46: step 2's account: the hits of each pass, who was opened, and the permanent IDs issued; and what a record shows of them. A record is named by its initializing ID.
use Rattle.std.specs.Prelude.{Bool, true, false, cond, ℕ, get_or, Float, Option, Some, None}
use mathlib.Core.List.{List, [], ◌∷◌, ◌++◌, map, Memᴰ}
use Rattle.laws.specs.Every.{Every}
use Rattle.laws.specs.Turns.{gathered}
use Rattle.matching.specs.Greedy.{Pick}
use Rattle.parts.specs.declared.Life.{Life}
use Rattle.parts.specs.declared.TrackedObject.{TrackedObject}
use Rattle.parts.specs.declared.TrackerConfig.{TrackerConfig}
use Rattle.parts.specs.Life.{is_zero}
use Rattle.table.specs.declared.Table.{Table}
use Rattle.table.specs.Slots.{Slot, no_slot, table_slots, name_of}
use Rattle.passes.specs.Checks.{Frame}
use Rattle.matching_step.specs.Step.{State, takes_id, hit_one, open_one, first_hits, second_hits, to_open, start, after_first, after_second}

-- detection and record
pub record Hit : Type 0 where
  pub detection : ℕ
  pub name : ℕ

-- detection, record, global ID
pub record Opened : Type 0 where
  pub detection : ℕ
  pub name : ℕ
  pub global_id : ℕ

-- permanent ID and the record that took it
pub record Issue : Type 0 where
  pub number : ℕ
  pub name : ℕ

abbrev pub issue : ℕ → ℕ → Issue
issue number name = record { number = number; name = name }

pub record Account : Type 0 where
  pub first : List Hit
  pub second : List Hit
  pub opened : List Opened
  pub issued : List Issue

-- ---- what is read off an account

abbrev pub hit_names : List Hit → List ℕ
hit_names l = map (λ h. h.name) l

abbrev pub opened_names : List Opened → List ℕ
opened_names l = map (λ o. o.name) l

abbrev pub opened_globals : List Opened → List ℕ
opened_globals l = map (λ o. o.global_id) l

abbrev pub issued_numbers : List Issue → List ℕ
issued_numbers l = map (λ i. i.number) l

abbrev pub issued_names : List Issue → List ℕ
issued_names l = map (λ i. i.name) l

-- ---- hits

abbrev pub hit_of : List Slot → Pick → Hit
hit_of l p = record { detection = p.row; name = name_of (get_or l p.col no_slot).object }

-- the next permanent ID goes to a record that the hit promotes
abbrev pub issued_by_hit : TrackerConfig → Frame → Pick → State → List Issue
issued_by_hit c f p st =
    let o = (get_or st.slots p.col no_slot).object in
    cond (takes_id c f.period o) (issue st.counts.permanent (name_of o) ∷ []) []

abbrev pub issued_by_hits : Table → Frame → List Pick → State → List Issue
issued_by_hits t f l st = gathered (hit_one t.config f t.counts.records) (issued_by_hit t.config f) l st

-- ---- openings

abbrev pub opened_by : ℕ → State → List Opened
opened_by d st = record { detection = d; name = st.counts.initializing; global_id = st.counts.global } ∷ []

-- or, with delay 0, to a record as it is opened
abbrev pub issued_by_opening : TrackerConfig → ℕ → State → List Issue
issued_by_opening c d st =
    cond (is_zero c.initialization_delay) (issue st.counts.permanent st.counts.initializing ∷ []) []

abbrev pub in_opening : {B : Type 0} → Table → Frame → List Float → (ℕ → State → List B) → List ℕ → State → List B
in_opening t f s gives l st = gathered (open_one t.config f s) gives l st

-- ---- the step's

unfoldable pub match_account : Table → List Float → ℕ → Frame → Account
match_account t s detections f =
    record {
      first = map (hit_of (table_slots t s)) (first_hits t detections f);
      second = map (hit_of (table_slots t s)) (second_hits t detections f);
      opened = in_opening t f s opened_by (to_open t detections f) (after_second t s detections f);
      issued =
          issued_by_hits t f (first_hits t detections f) (start t s)
          ++ (issued_by_hits t f (second_hits t detections f) (after_first t s detections f)
          ++ in_opening t f s (issued_by_opening t.config) (to_open t detections f) (after_second t s detections f));
    }

-- ---- the IDs that a record shows

-- a record and its global ID: as given at its opening, and as it shows it
pub record Given : Type 0 where
  pub name : ℕ
  pub global_id : ℕ

abbrev pub given : ℕ → ℕ → Given
given name global_id = record { name = name; global_id = global_id }

abbrev pub given_to : Opened → Given
given_to o = given o.name o.global_id

abbrev pub shown_by : TrackedObject → Given
shown_by o = given (name_of o) o.origin.global_id

-- by whether it is initializing, and its permanent ID: none while it initializes, then one that was issued to it
pub data Standing (issued : List Issue) (name : ℕ) : Bool → Option ℕ → Type 0 where
  waits : Standing issued name true None
  has : {k : ℕ} → Memᴰ (issue k name) issued → Standing issued name false (Some k)

abbrev pub Bears : List Issue → ℕ → Life → Type 0
Bears issued name l = Standing issued name l.is_initializing l.id

-- each record of a list
abbrev pub Borne : List Issue → List TrackedObject → Type 0
Borne issued l = Every (λ o. Bears issued (name_of o) o.life) l
