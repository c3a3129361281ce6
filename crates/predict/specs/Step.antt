-- Rules 30 to 33: step 1 on a table with its floats, and its account: who was dropped.
use Rattle.std.specs.Prelude.{Bool, true, false, not, ◌&&◌, List, map, ℕ, ◌+◌, ◌*◌, ◌≤◌, pos, length, get_or, Float, Option, Some, None, ℤ}
use Rattle.std.specs.Int.Signed.{le_z, lt_z}
use Rattle.laws.specs.Lists.{below, keep}
use Rattle.matching.specs.declared.Numbers.{Numbers}
use Rattle.matching.specs.Unmatched.{numbers_of}
use Rattle.parts.specs.declared.TrackerConfig.{TrackerConfig}
use Rattle.parts.specs.declared.TrackedObject.{TrackedObject}
use Rattle.parts.specs.Layout.{block_size}
use Rattle.parts.specs.Ranges.{Sizes}
use Rattle.tracked_object.specs.Object.{object_predicted, block_predicted}
use Rattle.table.specs.declared.Kept.{Kept}
use Rattle.table.specs.declared.Table.{Table}
use Rattle.table.specs.declared.Phase.TheVariants.{Match}
use Rattle.table.specs.Making.{zero_object, no_numbers, no_candidates}
use Rattle.table.specs.Slots.{Slot, slots, objects_of, records_back, kept_back, floats_back, table_slots, AllInRange, names}
use Rattle.predict.specs.declared.Sort.{Sort}
use Rattle.predict.specs.declared.Sort.TheVariants.{Alive, Initializing, Dead}

-- ---- drop

-- present and below 0
abbrev pub below_zero : Option ℤ → Bool
below_zero None = false
below_zero (Some c) = lt_z c (pos 0)

-- if no ReID maximum is set, drop records with hit counter below 0; else those with a ReID counter present and below 0
abbrev pub gone_by : Option ℤ → TrackedObject → Bool
gone_by None o = lt_z o.life.hit_counter (pos 0)
gone_by (Some m) o = below_zero o.life.reid_hit_counter

abbrev pub gone : TrackerConfig → TrackedObject → Bool
gone c o = gone_by c.reid_hit_counter_max o

-- order is kept
abbrev pub kept_slots : TrackerConfig → List Slot → List Slot
kept_slots c l = keep (λ s. not (gone c s.object)) l

-- put back in their places
abbrev pub kept_of : TrackerConfig → ℕ → List TrackedObject → List Float → List Slot
kept_of c n records s = kept_slots c (slots (block_size c) records s n)

abbrev pub kept_records : TrackerConfig → ℕ → List TrackedObject → List Float → Kept
kept_records c n records s = kept_back (kept_of c n records s) records

abbrev pub kept_floats : TrackerConfig → ℕ → List TrackedObject → List Float → List Float
kept_floats c n records s = floats_back (block_size c) (kept_of c n records s) s

-- ---- sort out, before any counter falls

abbrev pub present : Option ℤ → Bool
present None = false
present (Some m) = true

abbrev pub has_maximum : TrackerConfig → Bool
has_maximum c = present c.reid_hit_counter_max

-- alive: hit counter at least 0, not initializing; initializing: whatever the hit counter; dead: hit counter below 0, only with a ReID maximum
abbrev pub belongs : TrackerConfig → Sort → TrackedObject → Bool
belongs c Alive o = le_z (pos 0) o.life.hit_counter && not o.life.is_initializing
belongs c Initializing o = o.life.is_initializing
belongs c Dead o = lt_z o.life.hit_counter (pos 0) && has_maximum c

-- the places, ascending
abbrev pub places_of : TrackerConfig → Sort → ℕ → List TrackedObject → Numbers 64
places_of c sort n records = numbers_of (keep (λ i. belongs c sort (get_or records i zero_object)) (below n))

-- ---- predict

abbrev pub slot_predicted : TrackerConfig → Slot → Slot
slot_predicted c s = record { object = object_predicted c s.object; block = block_predicted c s.block }

abbrev pub each_predicted : TrackerConfig → List Slot → List Slot
each_predicted c l = map (slot_predicted c) l

-- what the public call has once no refusal is due
pub record Ready (t : Table) (floats : ℕ) : Type 0 where
  pub sizes : Sizes t.config
  pub fit : t.counts.records ≤ 64
  pub room : t.counts.records * block_size t.config ≤ floats
  pub ranges : AllInRange t.config t.counts.records t.records
  pub frames : t.counts.frames ≤ 200000000

-- ---- the step

abbrev pub slots_kept : Table → List Float → List Slot
slots_kept t s = kept_slots t.config (table_slots t s)

abbrev pub slots_after : Table → List Float → List Slot
slots_after t s = each_predicted t.config (slots_kept t s)

unfoldable pub predict_table : Table → List Float → Table
predict_table t s =
    record {
      records = records_back (slots_after t s) t.records;
      config = t.config;
      counts =
          record {
            records = length (slots_kept t s);
            frames = t.counts.frames + 1;
            opened = t.counts.opened;
            permanent = t.counts.permanent;
            global = t.counts.global;
            initializing = t.counts.initializing;
          };
      phase = Match;
      lists =
          record {
            alive = places_of t.config Alive (length (slots_kept t s)) (objects_of (slots_kept t s));
            initializing = places_of t.config Initializing (length (slots_kept t s)) (objects_of (slots_kept t s));
            dead = places_of t.config Dead (length (slots_kept t s)) (objects_of (slots_kept t s));
            old = no_numbers;
            candidates = no_candidates;
          };
    }

unfoldable pub predict_floats : Table → List Float → List Float
predict_floats t s = floats_back (block_size t.config) (slots_after t s) s

-- ---- the account: who was dropped, by initializing ID, in table order

unfoldable pub dropped : Table → List Float → List ℕ
dropped t s = names (keep (λ x. gone t.config x.object) (table_slots t s))
