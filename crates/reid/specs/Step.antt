-- Rules 60 to 65: step 3 on a table with its floats: who meets whom, the merges, who leaves; the active list; and its account: who was absorbed.
use Rattle.std.specs.Prelude.{◌≡◌, Bool, true, false, not, cond, ◌&&◌, List, [], ◌∷◌, ◌++◌, map, ℕ, ◌*◌, ◌≤◌, ltb, eqb, pos, length, get_or, set, take, replicate, Float, Option, Some, None}
use Rattle.std.specs.Int.Signed.{le_z}
use Rattle.laws.specs.Lists.{below, keep, holds, EachBelow}
use Rattle.laws.specs.Turns.{through}
use Rattle.matching.specs.declared.Numbers.{Numbers}
use Rattle.matching.specs.Greedy.{Matrix, Pick, rows_of, picks}
use Rattle.matching.specs.Lent.{lent}
use Rattle.matching.specs.Unmatched.{unmatched}
use Rattle.parts.specs.declared.TrackerConfig.{TrackerConfig}
use Rattle.parts.specs.declared.TrackedObject.{TrackedObject}
use Rattle.parts.specs.Layout.{block_size}
use Rattle.parts.specs.Ranges.{Sizes}
use Rattle.tracked_object.specs.Object.{object_merged, block_merged}
use Rattle.table.specs.declared.refusals.Refusal.TheVariants.{Lengths, OutputShort}
use Rattle.table.specs.declared.Table.{Table}
use Rattle.table.specs.declared.Phase.TheVariants.{Predict, Reid}
use Rattle.table.specs.Making.{no_lists}
use Rattle.table.specs.Refusals.{Check, check, step_checks}
use Rattle.table.specs.Slots.{Slot, no_slot, records_back, floats_back, table_slots, AllInRange, name_of}

-- ---- who meets whom: candidates by old ones, if a ReID distance is declared

abbrev pub candidates_met : Table → ℕ
candidates_met t = cond t.config.has_reid_distance t.lists.candidates.count 0

-- the entries that the host lends; 0 with either list empty
abbrev pub distances_asked : Table → ℕ
distances_asked t = candidates_met t * t.lists.old.count

-- 5, 4, 6, 10, 11
abbrev pub reid_checks : Table → ℕ → ℕ → ℕ → List Check
reid_checks t floats distances places =
    step_checks Reid t floats ++ (check Lengths (not (eqb distances (distances_asked t))) ∷ check OutputShort (ltb places t.config.capacity) ∷ [])

abbrev pub reid_matrix : Table → List Float → Matrix
reid_matrix t distances = lent distances (candidates_met t) t.lists.old.count t.config.reid_distance_threshold

-- a pick by places in the table: the candidate in the row, the old one in the column
abbrev pub placed : Numbers 32 → Numbers 64 → Pick → Pick
placed candidates old p = record { row = get_or candidates.at p.row 0; col = get_or old.at p.col 0 }

unfoldable pub merges : Table → List Float → List Pick
merges t distances =
    map (placed t.lists.candidates t.lists.old) (picks (reid_matrix t distances) (replicate 32 false) (replicate 64 false))

-- ---- for each pick in order, on the table as the picks before left it

abbrev pub slot_merged : TrackerConfig → Slot → Slot → Slot
slot_merged c candidate old =
    record {
      object = object_merged c candidate.object candidate.block old.object old.block;
      block = block_merged c candidate.object candidate.block old.object old.block;
    }

abbrev pub merge_one : TrackerConfig → Pick → List Slot → List Slot
merge_one c p l = set l p.col (slot_merged c (get_or l p.row no_slot) (get_or l p.col no_slot))

abbrev pub merge_all : TrackerConfig → List Pick → List Slot → List Slot
merge_all c l slots = through (merge_one c) l slots

-- ---- then all candidates picked leave, order kept

abbrev pub staying_at : List ℕ → List Slot → List Slot
staying_at leaving slots = map (λ i. get_or slots i no_slot) (unmatched (length slots) leaving)

-- ---- the step

unfoldable pub slots_merged : Table → List Float → List Float → List Slot
slots_merged t s distances = merge_all t.config (merges t distances) (table_slots t s)

unfoldable pub slots_staying : Table → List Float → List Float → List Slot
slots_staying t s distances = staying_at (rows_of (merges t distances)) (slots_merged t s distances)

-- behind the records that stay, all is as it was before they moved
unfoldable pub reid_table : Table → List Float → List Float → Table
reid_table t s distances =
    record {
      records = records_back (slots_staying t s distances) (records_back (slots_merged t s distances) t.records);
      config = t.config;
      counts =
          record {
            records = length (slots_staying t s distances);
            frames = t.counts.frames;
            opened = t.counts.opened;
            permanent = t.counts.permanent;
            global = t.counts.global;
            initializing = t.counts.initializing;
          };
      phase = Predict;
      lists = no_lists;
    }

unfoldable pub reid_floats : Table → List Float → List Float → List Float
reid_floats t s distances =
    floats_back (block_size t.config) (slots_staying t s distances)
    (floats_back (block_size t.config) (slots_merged t s distances) s)

-- ---- active: not initializing, hit counter at least 0; as global IDs in table order

abbrev pub active : TrackedObject → Bool
active o = not o.life.is_initializing && le_z (pos 0) o.life.hit_counter

abbrev pub active_of : ℕ → List TrackedObject → List TrackedObject
active_of n records = keep active (take n records)

abbrev pub active_ids : ℕ → List TrackedObject → List ℕ
active_ids n records = map (λ o. o.origin.global_id) (active_of n records)

-- ---- the account: who was absorbed, in table order, and whether a permanent ID was spent on it

pub record Absorbed : Type 0 where
  pub name : ℕ
  pub had_permanent : Bool

abbrev pub absorbed_names : List Absorbed → List ℕ
absorbed_names l = map (λ a. a.name) l

abbrev pub has_permanent : Option ℕ → Bool
has_permanent None = false
has_permanent (Some n) = true

abbrev pub absorbed_of : Slot → Absorbed
absorbed_of y = record { name = name_of y.object; had_permanent = has_permanent y.object.life.id }

-- the candidates picked
abbrev pub leaving_at : List ℕ → List Slot → List Slot
leaving_at leaving slots = map (λ i. get_or slots i no_slot) (keep (λ i. holds i leaving) (below (length slots)))

unfoldable pub absorbed : Table → List Float → List Float → List Absorbed
absorbed t s distances = map absorbed_of (leaving_at (rows_of (merges t distances)) (slots_merged t s distances))

-- ---- what the public call has once no refusal is due

-- in a list of so many places
abbrev pub Named : ℕ → ℕ → ℕ → List ℕ → Type 0
Named places records n at = (n ≤ places) × EachBelow records n at

-- the lists name records, and the matrix fits them
pub record Meets (t : Table) (distances : ℕ) : Type 0 where
  pub lent : distances ≡ distances_asked t
  pub candidates : Named 32 t.counts.records t.lists.candidates.count t.lists.candidates.at
  pub old : Named 64 t.counts.records t.lists.old.count t.lists.old.at

pub record Ready (t : Table) (floats distances : ℕ) : Type 0 where
  pub sizes : Sizes t.config
  pub fit : t.counts.records ≤ 64
  pub room : t.counts.records * block_size t.config ≤ floats
  pub ranges : AllInRange t.config t.counts.records t.records
  pub meets : Meets t distances
