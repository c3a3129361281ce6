-- Rule 75: a sequence of public calls from a fresh tracker, with any inputs, and the history of what each did by its own definition, grouped by frame.
use Rattle.std.specs.Prelude.{Bool, cond, List, [], ◌∷◌, ◌++◌, ℕ, eqb, length, Float, Option, is_none}
use Rattle.laws.specs.Turns.{through}
use Rattle.parts.specs.declared.TrackerConfig.{TrackerConfig}
use Rattle.table.specs.declared.refusals.Refusal.{Refusal}
use Rattle.table.specs.declared.Table.{Table}
use Rattle.table.specs.Making.{made}
use Rattle.table.specs.Refusals.{first_due, count_checks}
use Rattle.table.specs.Slots.{table_names}
use Rattle.pairs.specs.declared.Pair.{Pair}
use Rattle.predict.specs.Step.{dropped}
use Rattle.passes.specs.Checks.{Frame}
use Rattle.matching_step.specs.Step.{match_refusal, listed_pairs, matched_floats}
use Rattle.matching_step.specs.Account.{Hit, Opened, Issue, Account, match_account}
use Rattle.reid.specs.Step.{Absorbed, absorbed}
use Rattle.tracker.specs.Calls.{predict_refusal, predict_answer, predict_storage, match_answer, reid_refusal, listed_active, reid_answer, reid_storage}

-- ---- a public call, with all that the host lends beside table and storage

pub data Call : Type 0 where
  -- step 1
  predict : Call
  -- step 2: the number of detections, what is lent, the pair list
  match : ℕ → Frame → List Pair → Call
  -- step 3: the distances, the active list
  reid : List Float → List ℕ → Call
  -- the counts
  total : Call
  current : Call

-- what goes from call to call
pub record World : Type 0 where
  pub table : Table
  pub storage : List Float

-- the table that the call answers and the storage that it leaves, as its contract says
unfoldable pub after : Call → World → World
after predict w =
    record { table = (predict_answer w.table w.storage).table; storage = predict_storage w.table w.storage }
after (match n f l) w =
    record {
      table = (match_answer w.table w.storage n f (length l)).table;
      storage = matched_floats w.table w.storage n f (length l);
    }
after (reid d l) w =
    record {
      table = (reid_answer w.table w.storage d (length l)).table;
      storage = reid_storage w.table w.storage d (length l);
    }
after total w = w
after current w = w

-- what a call is refused with, if it is
abbrev pub refusal_of : Call → World → Option Refusal
refusal_of predict w = predict_refusal w.table w.storage
refusal_of (match n f l) w = match_refusal w.table w.storage n f (length l)
refusal_of (reid d l) w = reid_refusal w.table w.storage d (length l)
refusal_of total w = first_due (count_checks w.table)
refusal_of current w = first_due (count_checks w.table)

-- ---- what a call did, by its step's account, and what it listed for the host. Records are named by initializing ID

pub record Entry : Type 0 where
  -- the step that was accepted: 1, 2 or 3; 0 of a refused call and of a count
  pub step : ℕ
  -- who was in the table before the call, and who is in it after
  pub before : List ℕ
  pub now : List ℕ
  pub dropped : List ℕ
  -- of an accepted step 2 the number of its detections
  pub detections : ℕ
  pub first : List Hit
  pub second : List Hit
  pub opened : List Opened
  pub issued : List Issue
  pub absorbed : List Absorbed
  -- what the host was told: the pair list of step 2, the active list of step 3
  pub pairs : List Pair
  pub active : List ℕ

-- a call that hit and opened nobody, from one table to another
abbrev pub letting : ℕ → Table → Table → List ℕ → List Absorbed → List ℕ → Entry
letting step t u dropped absorbed active =
    record {
      step = step;
      before = table_names t;
      now = table_names u;
      dropped = dropped;
      detections = 0;
      first = [];
      second = [];
      opened = [];
      issued = [];
      absorbed = absorbed;
      pairs = [];
      active = active;
    }

-- a call that did nothing
abbrev pub nothing : World → Entry
nothing w = letting 0 w.table w.table [] [] []

-- step 1
abbrev pub dropped_by : Table → Table → List ℕ → Entry
dropped_by t u dropped = letting 1 t u dropped [] []

-- step 2
abbrev pub matched_by : Table → Table → ℕ → Account → List Pair → Entry
matched_by t u n a pairs =
    record {
      step = 2;
      before = table_names t;
      now = table_names u;
      dropped = [];
      detections = n;
      first = a.first;
      second = a.second;
      opened = a.opened;
      issued = a.issued;
      absorbed = [];
      pairs = pairs;
      active = [];
    }

-- step 3
abbrev pub absorbed_by : Table → Table → List Absorbed → List ℕ → Entry
absorbed_by t u absorbed active = letting 3 t u [] absorbed active

-- what an accepted call did from world w to world u
abbrev pub did : Call → World → World → Entry
did predict w u = dropped_by w.table u.table (dropped w.table w.storage)
did (match n f l) w u =
    matched_by w.table u.table n (match_account w.table w.storage n f) (listed_pairs w.table w.storage n f (length l))
did (reid d l) w u =
    absorbed_by w.table u.table (absorbed w.table w.storage d) (listed_active w.table w.storage d (length l))
did total w u = nothing w
did current w u = nothing w

-- a refused call did nothing
unfoldable pub entry_of : Call → World → Entry
entry_of call w = cond (is_none (refusal_of call w)) (did call w (after call w)) (nothing w)

-- ---- the history: frames in order, each with the entries of its calls

pub record Day : Type 0 where
  -- the entries of calls before the first frame: counts, and calls that were refused
  pub early : List Entry
  pub frames : List (List Entry)
  pub world : World

-- an accepted step 1 begins a frame
abbrev pub begins : Entry → Bool
begins e = eqb e.step 1

-- every other entry joins the last frame
unfoldable pub joined : Entry → List (List Entry) → List (List Entry)
joined e [] = []
joined e (f ∷ []) = (f ++ (e ∷ [])) ∷ []
joined e (f ∷ (g ∷ l)) = f ∷ joined e (g ∷ l)

-- or, where there is none, the early ones
unfoldable pub waiting : Entry → List (List Entry) → List Entry
waiting e [] = e ∷ []
waiting e (f ∷ l) = []

unfoldable pub goes_on : Call → Day → Day
goes_on call d =
    let e = entry_of call d.world in
    record {
      early = cond (begins e) d.early (d.early ++ waiting e d.frames);
      frames = cond (begins e) (d.frames ++ ((e ∷ []) ∷ [])) (joined e d.frames);
      world = after call d.world;
    }

-- a fresh tracker of these settings and this storage; an accepted making writes no float
abbrev pub fresh : TrackerConfig → List Float → Day
fresh c s = record { early = []; frames = []; world = record { table = (made c (length s)).table; storage = s } }

-- any list of calls, in any order, accepted or refused: what holds of the day after any list holds after each call of a list
unfoldable pub day_of : TrackerConfig → List Float → List Call → Day
day_of c s calls = through goes_on calls (fresh c s)
