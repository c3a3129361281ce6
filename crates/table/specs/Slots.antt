-- The model of a table and its floats: a list of slots, each a record and its block.
use Rattle.std.specs.Prelude.{Bool, List, [], ◌∷◌, ◌++◌, map, ℕ, zero, suc, ◌*◌, ◌<◌, length, get_or, take, drop, Float}
use Rattle.laws.specs.Lists.{below, keep}
use Rattle.parts.specs.declared.TrackerConfig.{TrackerConfig}
use Rattle.parts.specs.declared.TrackedObject.{TrackedObject}
use Rattle.parts.specs.Layout.{block_size}
use Rattle.parts.specs.Ranges.{ObjectInRange}
use Rattle.table.specs.declared.Kept.{Kept}
use Rattle.table.specs.declared.Table.{Table}
use Rattle.table.specs.Making.{zero_object}

pub record Slot : Type 0 where
  pub object : TrackedObject
  pub block : List Float

abbrev pub no_slot : Slot
no_slot = record { object = zero_object; block = [] }

-- the first n records with their blocks of b floats
unfoldable pub slots : ℕ → List TrackedObject → List Float → ℕ → List Slot
slots b records floats zero = []
slots b records floats (suc n) =
    slots b records floats n ++ (record { object = get_or records n zero_object; block = take b (drop (n * b) floats) } ∷ [])

-- back in their places: the slots in front, what was there behind
abbrev pub objects_of : List Slot → List TrackedObject
objects_of l = map (λ s. s.object) l

unfoldable pub blocks_of : List Slot → List Float
blocks_of [] = []
blocks_of (s ∷ l) = s.block ++ blocks_of l

abbrev pub records_back : List Slot → List TrackedObject → List TrackedObject
records_back l records = objects_of l ++ drop (length l) records

abbrev pub floats_back : ℕ → List Slot → List Float → List Float
floats_back b l floats = blocks_of l ++ drop (length l * b) floats

-- those of the first n at whose places a test holds, in order; and put back with how many they are
abbrev pub slots_where : (ℕ → Bool) → ℕ → List TrackedObject → List Float → ℕ → List Slot
slots_where p b records floats n =
    map (λ i. record { object = get_or records i zero_object; block = take b (drop (i * b) floats) }) (keep p (below n))

abbrev pub kept_back : List Slot → List TrackedObject → Kept
kept_back l records = record { records = records_back l records; count = length l }

-- the slots of a table
abbrev pub table_slots : Table → List Float → List Slot
table_slots t s = slots (block_size t.config) t.records s t.counts.records

abbrev pub AllInRange : TrackerConfig → ℕ → List TrackedObject → Type 0
AllInRange c n records = (i : ℕ) → i < n → ObjectInRange c (get_or records i zero_object)

-- ---- accounts name a record by its initializing ID

abbrev pub name_of : TrackedObject → ℕ
name_of o = o.origin.initializing_id

abbrev pub names : List Slot → List ℕ
names l = map (λ s. name_of s.object) l

-- who is in a table, and who of them is initializing
abbrev pub table_objects : Table → List TrackedObject
table_objects t = take t.counts.records t.records

abbrev pub table_names : Table → List ℕ
table_names t = map name_of (table_objects t)

abbrev pub table_initializing : Table → List ℕ
table_initializing t = map name_of (keep (λ o. o.life.is_initializing) (table_objects t))
