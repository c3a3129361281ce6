-- Rules 40 and 43 to 48: step 2 on a table with its floats: the hits of pass 1, those of pass 2, the openings; and the pair list.
use Rattle.std.specs.Prelude.{◌≡◌, Bool, true, not, cond, List, [], ◌∷◌, ◌++◌, map, ℕ, ◌+◌, ◌*◌, ◌≤◌, eqb, pos, length, get_or, set, take, drop, replicate, Float, Option, is_none}
use Rattle.std.specs.Int.Signed.{le_z}
use Rattle.std.specs.Float.{nan}
use Rattle.laws.specs.Float64.{f0}
use Rattle.laws.specs.Lists.{EachBelow, filled}
use Rattle.laws.specs.Turns.{through}
use Rattle.matching.specs.declared.Picks.{Picks}
use Rattle.matching.specs.Greedy.{Matrix, Pick, rows_of, cols_of}
use Rattle.matching.specs.Lent.{lent, picks_of}
use Rattle.matching.specs.Unmatched.{numbers_of}
use Rattle.parts.specs.declared.TrackerConfig.{TrackerConfig}
use Rattle.parts.specs.declared.TrackedObject.{TrackedObject}
use Rattle.parts.specs.Layout.{coords, block_size}
use Rattle.parts.specs.Ranges.{Sizes}
use Rattle.parts.specs.Life.{promotes, is_zero}
use Rattle.tracked_object.specs.Object.{Detection, detection, object_hit, block_hit, object_opened, block_opened}
use Rattle.table.specs.declared.Counts.{Counts}
use Rattle.table.specs.declared.Lists.{Lists}
use Rattle.table.specs.declared.refusals.Refusal.{Refusal}
use Rattle.table.specs.declared.Table.{Table}
use Rattle.table.specs.declared.Phase.TheVariants.{Reid}
use Rattle.table.specs.Making.{zero_object, no_numbers, candidates_of}
use Rattle.table.specs.Refusals.{first_due}
use Rattle.table.specs.Slots.{Slot, no_slot, records_back, floats_back, table_slots, AllInRange}
use Rattle.pairs.specs.declared.Pair.{Pair}
use Rattle.passes.specs.Checks.{Frame, match_checks}
use Rattle.passes.specs.Passes.{numbers, cols_picked, first_pass, second_pass, left_over, old_ones, NamesOnce}
use Rattle.matching_step.specs.declared.Decided.{Decided}
use Rattle.matching_step.specs.declared.Stepped.{Stepped}
use Rattle.matching_step.specs.declared.Matched.{Matched}

-- ---- what is lent

-- detection d: its coordinates, its scores, and whether these are used
abbrev pub lent_detection : TrackerConfig → Frame → ℕ → Detection
lent_detection c f d =
    detection
    (take (coords c) (drop (d * coords c) f.points))
    (take c.points (drop (d * c.points) f.scores))
    (not (eqb (get_or f.has_scores d 0) 0))

-- the matrix is detections by records in the table, row by row
abbrev pub distance_of : Frame → ℕ → Pick → Float
distance_of f records p = get_or f.distances (p.row * records + p.col) nan

-- ---- what the step changes as it goes: the slots, and the counts with the next IDs

pub record State : Type 0 where
  pub slots : List Slot
  pub counts : Counts

-- the next permanent ID is taken, or not
abbrev pub next_permanent : Bool → ℕ → ℕ
next_permanent took n = cond took (n + 1) n

abbrev pub issuing : Bool → Counts → Counts
issuing took n =
    record {
      records = n.records;
      frames = n.frames;
      opened = n.opened;
      permanent = next_permanent took n.permanent;
      global = n.global;
      initializing = n.initializing;
    }

-- ---- a hit

abbrev pub takes_id : TrackerConfig → ℕ → TrackedObject → Bool
takes_id c period o = promotes period c.hit_counter_max c.initialization_delay o.life

abbrev pub slot_hit : TrackerConfig → Detection → ℕ → Float → ℕ → Slot → Slot
slot_hit c d period distance next y =
    record { object = object_hit c d period distance next y.object; block = block_hit c d y.object.past_count y.block }

abbrev pub hit_one : TrackerConfig → Frame → ℕ → Pick → State → State
hit_one c f records p st =
    let y = get_or st.slots p.col no_slot in
    record {
      slots =
          set st.slots p.col
          (slot_hit c (lent_detection c f p.row) f.period (distance_of f records p) st.counts.permanent y);
      counts = issuing (takes_id c f.period y.object) st.counts;
    }

-- ---- an opening, at the table's end, with the next global and initializing ID

abbrev pub opening : Bool → Counts → Counts
opening took n =
    record {
      records = n.records + 1;
      frames = n.frames;
      opened = n.opened + 1;
      permanent = next_permanent took n.permanent;
      global = n.global + 1;
      initializing = n.initializing + 1;
    }

abbrev pub slot_opened : TrackerConfig → Detection → ℕ → Counts → List Float → Slot
slot_opened c d period n block =
    record { object = object_opened c d period n.global n.initializing n.permanent; block = block_opened c d block }

-- its block is made of the floats that lie there
abbrev pub open_one : TrackerConfig → Frame → List Float → ℕ → State → State
open_one c f s d st =
    record {
      slots =
          st.slots
          ++ (slot_opened c (lent_detection c f d) f.period st.counts (take (block_size c) (drop (length st.slots * block_size c) s)) ∷ []);
      counts = opening (is_zero c.initialization_delay) st.counts;
    }

-- ---- the step: pass 1, pass 2, opening

abbrev pub matrix_of : Table → ℕ → Frame → Matrix
matrix_of t detections f = lent f.distances detections t.counts.records t.config.distance_threshold

unfoldable pub first_hits : Table → ℕ → Frame → List Pick
first_hits t detections f = first_pass (matrix_of t detections f) (numbers t.lists.alive)

unfoldable pub second_hits : Table → ℕ → Frame → List Pick
second_hits t detections f =
    second_pass (matrix_of t detections f) (numbers t.lists.initializing) (rows_of (first_hits t detections f))

unfoldable pub to_open : Table → ℕ → Frame → List ℕ
to_open t detections f = left_over detections (rows_of (first_hits t detections f)) (rows_of (second_hits t detections f))

abbrev pub start : Table → List Float → State
start t s = record { slots = table_slots t s; counts = t.counts }

-- hits in pick order
abbrev pub hit_all : Table → Frame → List Pick → State → State
hit_all t f l st = through (hit_one t.config f t.counts.records) l st

abbrev pub open_all : Table → Frame → List Float → List ℕ → State → State
open_all t f s l st = through (open_one t.config f s) l st

unfoldable pub after_first : Table → List Float → ℕ → Frame → State
after_first t s detections f = hit_all t f (first_hits t detections f) (start t s)

unfoldable pub after_second : Table → List Float → ℕ → Frame → State
after_second t s detections f = hit_all t f (second_hits t detections f) (after_first t s detections f)

unfoldable pub after_opening : Table → List Float → ℕ → Frame → State
after_opening t s detections f = open_all t f s (to_open t detections f) (after_second t s detections f)

-- the lists for step 3: the old ones and the candidates, of picks by value
abbrev pub lists_after : Table → Picks → Picks → Lists
lists_after t first second =
    record {
      alive = no_numbers;
      initializing = no_numbers;
      dead = no_numbers;
      old = numbers_of (old_ones t.counts.records (numbers t.lists.alive) (numbers t.lists.dead) (cols_picked first));
      candidates = candidates_of (cols_picked second);
    }

unfoldable pub match_table : Table → List Float → ℕ → Frame → Table
match_table t s detections f =
    record {
      records = records_back (after_opening t s detections f).slots t.records;
      config = t.config;
      counts = (after_opening t s detections f).counts;
      phase = Reid;
      lists =
          record {
            alive = no_numbers;
            initializing = no_numbers;
            dead = no_numbers;
            old = numbers_of (old_ones t.counts.records (numbers t.lists.alive) (numbers t.lists.dead) (cols_of (first_hits t detections f)));
            candidates = candidates_of (cols_of (second_hits t detections f));
          };
    }

unfoldable pub match_floats : Table → List Float → ℕ → Frame → List Float
match_floats t s detections f = floats_back (block_size t.config) (after_opening t s detections f).slots s

-- ---- the pair list: detection number, global ID, pass, distance, in hit order

abbrev pub pair_of : List TrackedObject → Frame → ℕ → ℕ → Pick → Pair
pair_of records f n pass p =
    record {
      detection = p.row;
      global_id = (get_or records p.col zero_object).origin.global_id;
      pass = pass;
      distance = distance_of f n p;
    }

unfoldable pub pairs_of : Table → ℕ → Frame → List Pair
pairs_of t detections f =
    map (pair_of t.records f t.counts.records 1) (first_hits t detections f)
    ++ map (pair_of t.records f t.counts.records 2) (second_hits t detections f)

-- ---- with its refusals

abbrev pub match_refusal : Table → List Float → ℕ → Frame → ℕ → Option Refusal
match_refusal t s detections f places = first_due (match_checks t (length s) detections f places (length (to_open t detections f)))

abbrev pub accepted : Table → List Float → ℕ → Frame → ℕ → Bool
accepted t s detections f places = is_none (match_refusal t s detections f places)

-- a refusal lists no pair and returns the table
abbrev pub listed_pairs : Table → List Float → ℕ → Frame → ℕ → List Pair
listed_pairs t s detections f places = cond (accepted t s detections f places) (pairs_of t detections f) []

abbrev pub no_pair : Pair
no_pair = record { detection = 0; global_id = 0; pass = 0; distance = f0 }

abbrev pub refused_with : Option Refusal → Table → Matched
refused_with refusal t = record { pairs = replicate 32 no_pair; count = 0; refusal = refusal; table = t }

unfoldable pub matched : Table → List Float → ℕ → Frame → ℕ → Matched
matched t s detections f places =
    record {
      pairs = filled 32 no_pair (listed_pairs t s detections f places);
      count = length (listed_pairs t s detections f places);
      refusal = match_refusal t s detections f places;
      table = cond (accepted t s detections f places) (match_table t s detections f) t;
    }

unfoldable pub matched_floats : Table → List Float → ℕ → Frame → ℕ → List Float
matched_floats t s detections f places = cond (accepted t s detections f places) (match_floats t s detections f) s

-- ---- what the parts of the step lean on

-- the picks by value, and the detections to open
abbrev pub decided_of : Table → ℕ → Frame → Decided
decided_of t detections f =
    record {
      first = picks_of (first_hits t detections f);
      second = picks_of (second_hits t detections f);
      left = numbers_of (to_open t detections f);
    }

-- the inputs of step 2 fit the settings
pub record Fits (c : TrackerConfig) (f : Frame) : Type 0 where
  pub sizes : Sizes c
  pub detections : length f.has_scores ≤ 32
  pub points : length f.points ≡ length f.has_scores * coords c
  pub scores : length f.scores ≡ length f.has_scores * c.points
  pub period : f.period ≤ 1000

-- the records of the table and their blocks
pub record Holds (c : TrackerConfig) (n : ℕ) (records : List TrackedObject) (floats : ℕ) : Type 0 where
  pub from : le_z (pos 0) c.hit_counter_max ≡ true
  pub most : le_z c.hit_counter_max (pos 10000) ≡ true
  pub fit : n ≤ 64
  pub room : n * block_size c ≤ floats
  pub ranges : AllInRange c n records

-- what both passes lean on
pub record Decidable (t : Table) (detections floats : ℕ) : Type 0 where
  pub few : detections ≤ 32
  pub fit : t.counts.records ≤ 64
  pub distances : floats ≡ detections * t.counts.records
  pub alive : (t.lists.alive.count ≤ 64) × EachBelow t.counts.records t.lists.alive.count t.lists.alive.at
  pub initializing : (t.lists.initializing.count ≤ 64)
      × EachBelow t.counts.records t.lists.initializing.count t.lists.initializing.at

-- what the step has once no refusal is due
pub record Ready (t : Table) (floats detections : ℕ) (f : Frame) : Type 0 where
  pub fits : Fits t.config f
  pub holding : Holds t.config t.counts.records t.records floats
  pub decidable : Decidable t detections (length f.distances)
  pub dead : (t.lists.dead.count ≤ 64) × NamesOnce t.counts.records (numbers t.lists.dead)
  pub places : t.counts.records + length (to_open t detections f) ≤ 64
  pub room : (t.counts.records + length (to_open t detections f)) * block_size t.config ≤ floats
  pub opened : t.counts.opened ≤ 2000000000
  pub permanent : t.counts.permanent ≤ 2000000001
  pub global : t.counts.global ≤ 2000000001
  pub initializing : t.counts.initializing ≤ 2000000001

-- slots put back, and the counts
abbrev pub stepped_of : State → List TrackedObject → Stepped
stepped_of st records = record { records = records_back st.slots records; counts = st.counts }
