-- Rule 14: when a table is whole.
use Rattle.std.specs.Prelude.{Bool, true, not, ◌&&◌, List, ℕ, zero, suc, ◌+◌, leb, ltb, eqb, ℤ, pos, negsuc, get_or, take}
use Rattle.laws.specs.Lists.{any, holds}
use Rattle.matching.specs.declared.Numbers.{Numbers}
use Rattle.parts.specs.declared.TrackerConfig.{TrackerConfig}
use Rattle.parts.specs.declared.TrackedObject.{TrackedObject}
use Rattle.parts.specs.declared.PastDetection.{PastDetection}
use Rattle.table.specs.declared.Counts.{Counts}
use Rattle.table.specs.declared.Lists.{Lists}
use Rattle.table.specs.declared.Table.{Table}
use Rattle.table.specs.Ranges.{between, signed_between, optional_between, delay_negative, delay_too_long, settings_in_range}

-- its settings are in range, and the delay lies from 0 to below the hit counter maximum
abbrev pub settings_whole : TrackerConfig → Bool
settings_whole c = settings_in_range c && (not (delay_negative c) && not (delay_too_long c))

-- 0 to C records; at most 200,000,000 frames begun; permanent IDs issued from 0 to records opened, these at most 2,000,000,000;
-- the global and the initializing count each records opened plus 1
unfoldable pub counts_whole : TrackerConfig → Counts → Bool
counts_whole c n =
    leb n.records c.capacity
    && (leb n.frames 200000000
    && (leb n.opened 2000000000
    && (between 1 n.permanent (n.opened + 1) && (eqb n.global (n.opened + 1) && eqb n.initializing (n.opened + 1)))))

-- point counters 0 to 10,000
unfoldable pub points_whole : ℕ → List ℕ → Bool
points_whole n l = not (any (λ x. ltb 10000 x) (take n l))

-- stored ages absent or 0 to frames begun
unfoldable pub ages_whole : ℕ → ℤ → List PastDetection → Bool
ages_whole n frames l = not (any (λ e. not (optional_between (pos 0) e.age frames)) (take n l))

-- age from 0 to frames begun, hit counter -20,000 to 20,000, ReID counter absent or -1 to 10,000, initial period 1 to 1,000, history count 0 to L
unfoldable pub record_whole : TrackerConfig → ℕ → TrackedObject → Bool
record_whole c frames o =
    leb o.life.age frames
    && (signed_between (negsuc 19999) o.life.hit_counter (pos 20000)
    && (points_whole c.points o.point_hit_counter
    && (optional_between (negsuc 0) o.life.reid_hit_counter (pos 10000)
    && (between 1 o.origin.initial_period 1000
    && (leb o.past_count c.past_detections_length && ages_whole o.past_count (pos frames) o.past)))))

unfoldable pub records_whole : TrackerConfig → ℕ → ℕ → List TrackedObject → Bool
records_whole c frames n l = not (any (λ o. not (record_whole c frames o)) (take n l))

-- the first n are below the limit, and none is named twice
unfoldable pub names_below : ℕ → ℕ → List ℕ → Bool
names_below limit zero l = true
names_below limit (suc k) l = names_below limit k l && (ltb (get_or l k 0) limit && not (holds (get_or l k 0) (take k l)))

-- a list of so many places names records in the table, none twice
abbrev pub places_whole : ℕ → ℕ → ℕ → List ℕ → Bool
places_whole places records count at = leb count places && names_below records count at

abbrev pub numbers_whole : (places : ℕ) → ℕ → Numbers places → Bool
numbers_whole places records l = places_whole places records l.count l.at

abbrev pub list_whole : ℕ → Numbers 64 → Bool
list_whole records l = numbers_whole 64 records l

abbrev pub candidates_whole : ℕ → Numbers 32 → Bool
candidates_whole records l = numbers_whole 32 records l

unfoldable pub lists_whole : ℕ → Lists → Bool
lists_whole records l =
    list_whole records l.alive
    && (list_whole records l.initializing
    && (list_whole records l.dead && (list_whole records l.old && candidates_whole records l.candidates)))

unfoldable pub whole_table : Table → Bool
whole_table t =
    settings_whole t.config
    && (counts_whole t.config t.counts
    && (records_whole t.config t.counts.frames t.counts.records t.records && lists_whole t.counts.records t.lists))
