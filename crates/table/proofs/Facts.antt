-- Rule 14 as facts: what the tests of a whole table say, in numbers.
use Rattle.std.specs.Prelude.{Option, Some, None}
use mathlib.Core.Path.{◌≡◌, refl}
use mathlib.Core.Bool.{true, false, not}
use mathlib.Core.List.{List, [], ◌∷◌}
use Prim.Native.Nat.{ℕ, ◌+◌, ◌*◌, ◌<◌, ◌≤◌}
use native.Mathlib.Nat.{le_trans, mul-le-mul, mul-le-mul_right}
use native.Mathlib.Omega.{arith}
use borrow.Author.Tests.{leb-true, ltb-false, eqb-true, not-true, not-false}
use lib.Dec.{leb, ltb, eqb}
use lib.IntN.{ℤ, pos, negsuc}
use lib.ListN.{length, take, get_or}
use lib.Signed.{mag, le_z}
use Rattle.laws.specs.Lists.{holds}
use Rattle.parts.specs.declared.TrackedObject.{TrackedObject}
use Rattle.parts.specs.declared.TrackerConfig.{TrackerConfig}
use Rattle.parts.specs.Layout.{block_size}
use Rattle.parts.specs.Ranges.{Sizes, AgeInRange, ReidInRange, PointsInRange, unaged, ObjectInRange}
use Rattle.parts.proofs.Bounds.{block_most}
use Rattle.table.specs.declared.Counts.{Counts}
use Rattle.table.specs.declared.Table.{Table}
use Rattle.table.specs.Ranges.{between, signed_between, optional_between, settings_in_range, delay_negative, delay_too_long}
use Rattle.table.specs.Refusals.{storage_need}
use Rattle.table.specs.Wholeness.{settings_whole, counts_whole, points_whole, ages_whole, record_whole, records_whole, names_below, places_whole, list_whole, candidates_whole, lists_whole, whole_table}
use Rattle.table.proofs.Chain.{parts}
use Rattle.table.proofs.Names.{name_facts}
use Rattle.table.proofs.Passing.{none_found}

-- ---- ranges

between_facts : (low x high : ℕ) → between low x high ≡ true → (low ≤ x) × (x ≤ high)
between_facts low x high h =
    let p = parts (leb low x) (leb x high ∷ []) h in
    (leb-true low x p.0, leb-true x high p.1)

mag_between : (low high most : ℕ) (z : ℤ) → signed_between (negsuc low) z (pos high) ≡ true → low ≤ most → high ≤ most → mag z ≤ most
mag_between low high most (pos a) h l m = omega (arith, leb-true a high h)
mag_between low high most (negsuc a) h l m = omega (arith, leb-true a low (parts (leb a low) (true ∷ []) h).0)

-- ---- settings

pub record SettingsFacts (c : TrackerConfig) : Type 0 where
  pub points : (1 ≤ c.points) × (c.points ≤ 16)
  pub dims : (1 ≤ c.dims) × (c.dims ≤ 3)
  pub capacity : (1 ≤ c.capacity) × (c.capacity ≤ 64)
  pub history : c.past_detections_length ≤ 8
  pub maximum : le_z c.hit_counter_max (pos 10000) ≡ true
  pub pointwise : c.pointwise_hit_counter_max ≤ 10000
  pub reid : optional_between (pos 0) c.reid_hit_counter_max (pos 10000) ≡ true

pub settings_facts : (c : TrackerConfig) → settings_in_range c ≡ true → SettingsFacts c
unfolding settings_in_range
settings_facts c h =
    let p =
    parts (between 1 c.points 16) (
    between 1 c.dims 3
    ∷ between 1 c.capacity 64
    ∷ leb c.past_detections_length 8
    ∷ le_z c.hit_counter_max (pos 10000)
    ∷ leb c.pointwise_hit_counter_max 10000
    ∷ optional_between (pos 0) c.reid_hit_counter_max (pos 10000)
    ∷ []
    ) h
    in
    record {
      points = between_facts 1 c.points 16 p.0;
      dims = between_facts 1 c.dims 3 p.1.0;
      capacity = between_facts 1 c.capacity 64 p.1.1.0;
      history = leb-true _ 8 p.1.1.1.0;
      maximum = p.1.1.1.1.0;
      pointwise = leb-true _ 10000 p.1.1.1.1.1.0;
      reid = p.1.1.1.1.1.1;
    }

-- with the delay's rule
pub settings_whole_lem : (c : TrackerConfig) → settings_whole c ≡ true
    → (settings_in_range c ≡ true) × (delay_negative c ≡ false) × (delay_too_long c ≡ false)
settings_whole_lem c h =
    let p = parts (settings_in_range c) (not (delay_negative c) ∷ not (delay_too_long c) ∷ []) h in
    (p.0, not-true _ p.1.0, not-true _ p.1.1)

pub sizes_of : (c : TrackerConfig) → settings_in_range c ≡ true → Sizes c
sizes_of c h =
    let f = settings_facts c h in
    record {
      some_points = f.points.0;
      points_most = f.points.1;
      some_dims = f.dims.0;
      dims_most = f.dims.1;
      past_most = f.history;
      pointwise_most = f.pointwise;
    }

-- the storage that settings ask for is at most 64 blocks
pub need_most : (c : TrackerConfig) → settings_in_range c ≡ true → c.capacity * block_size c ≤ 55296
need_most c h = mul-le-mul (settings_facts c h).capacity.1 (block_most c (sizes_of c h))

-- a storage of the need holds the blocks of as many records as there is room for
pub blocks_fit : (c : TrackerConfig) {n floats : ℕ} → n ≤ c.capacity → storage_need c ≤ floats → n * block_size c ≤ floats
unfolding storage_need
blocks_fit c few enough = le_trans (mul-le-mul_right (block_size c) few) enough

-- ---- counts

pub record CountsFacts (c : TrackerConfig) (n : Counts) : Type 0 where
  pub records : n.records ≤ c.capacity
  pub frames : n.frames ≤ 200000000
  pub opened : n.opened ≤ 2000000000
  pub permanent : (1 ≤ n.permanent) × (n.permanent ≤ n.opened + 1)
  pub global : n.global ≡ n.opened + 1
  pub initializing : n.initializing ≡ n.opened + 1

pub counts_facts : (c : TrackerConfig) (n : Counts) → counts_whole c n ≡ true → CountsFacts c n
unfolding counts_whole
counts_facts c n h =
    let next = n.opened + 1 in
    let p =
    parts (leb n.records c.capacity) (
    leb n.frames 200000000
    ∷ leb n.opened 2000000000
    ∷ between 1 n.permanent next
    ∷ eqb n.global next
    ∷ eqb n.initializing next
    ∷ []
    ) h
    in
    record {
      records = leb-true _ _ p.0;
      frames = leb-true _ _ p.1.0;
      opened = leb-true _ _ p.1.1.0;
      permanent = between_facts 1 n.permanent next p.1.1.1.0;
      global = eqb-true _ _ p.1.1.1.1.0;
      initializing = eqb-true _ _ p.1.1.1.1.1;
    }

-- what the first two tests of a table tell the third; the first part says nothing: it shows `grind` the call to match
pub records_room : (c : TrackerConfig) (n : Counts) → settings_whole c ≡ true → counts_whole c n ≡ true
    → (counts_whole c n ≡ counts_whole c n) × (n.records ≤ 64) × (n.frames ≤ 200000000) × (c.points ≤ 16) × (c.past_detections_length ≤ 8)
records_room c n s h =
    let f = settings_facts c (settings_whole_lem c s).0 in
    let k = counts_facts c n h in
    (refl, omega (arith, f.capacity, k.records), k.frames, f.points.1, f.history)

-- ---- a record

pub record RecordFacts (c : TrackerConfig) (frames : ℕ) (o : TrackedObject) : Type 0 where
  pub age : o.life.age ≤ frames
  pub hit_counter : signed_between (negsuc 19999) o.life.hit_counter (pos 20000) ≡ true
  pub counters : PointsInRange c.points o.point_hit_counter
  pub reid : optional_between (negsuc 0) o.life.reid_hit_counter (pos 10000) ≡ true
  pub period : (1 ≤ o.origin.initial_period) × (o.origin.initial_period ≤ 1000)
  pub history : o.past_count ≤ c.past_detections_length
  pub ages : (i : ℕ) → i < o.past_count → optional_between (pos 0) (get_or o.past i unaged).age (pos frames) ≡ true

pub record_facts : (c : TrackerConfig) (frames : ℕ) (o : TrackedObject) → record_whole c frames o ≡ true → RecordFacts c frames o
unfolding record_whole points_whole ages_whole optional_between
record_facts c frames o h =
    let p =
    parts (leb o.life.age frames) (
    signed_between (negsuc 19999) o.life.hit_counter (pos 20000)
    ∷ points_whole c.points o.point_hit_counter
    ∷ optional_between (negsuc 0) o.life.reid_hit_counter (pos 10000)
    ∷ between 1 o.origin.initial_period 1000
    ∷ leb o.past_count c.past_detections_length
    ∷ ages_whole o.past_count (pos frames) o.past
    ∷ []
    ) h
    in
    record {
      age = leb-true _ _ p.0;
      hit_counter = p.1.0;
      counters = λ i lt. ltb-false 10000 _ (none_found (λ x. ltb 10000 x) _ o.point_hit_counter 0 p.1.1.0 i lt (λ _. refl));
      reid = p.1.1.1.0;
      period = between_facts 1 o.origin.initial_period 1000 p.1.1.1.1.0;
      history = leb-true _ _ p.1.1.1.1.1.0;
      ages =
          λ i lt.
          not-false _
          (none_found (λ e. not (optional_between (pos 0) e.age (pos frames))) _ o.past unaged p.1.1.1.1.1.1 i lt (λ _. refl));
    }

reid_in_range : (r : Option ℤ) → optional_between (negsuc 0) r (pos 10000) ≡ true → ReidInRange r
unfolding optional_between
reid_in_range None h = tt
reid_in_range (Some z) h = mag_between 0 10000 10000 z h (omega arith) (omega arith)

age_in_range : (frames : ℕ) (age : Option ℤ) → optional_between (pos 0) age (pos frames) ≡ true → frames ≤ 200000000 → AgeInRange age
unfolding optional_between
age_in_range frames None h few = tt
age_in_range frames (Some (pos a)) h few = omega (arith, leb-true a frames (parts (leb 0 a) (leb a frames ∷ []) h).1)
age_in_range frames (Some (negsuc a)) h few = cc

pub object_in_range : (c : TrackerConfig) (frames : ℕ) (o : TrackedObject) → RecordFacts c frames o → frames ≤ 200000000 → ObjectInRange c o
object_in_range c frames o f few =
    record {
      life =
          record {
            age = omega (arith, f.age);
            hit_counter = mag_between 19999 20000 20000 o.life.hit_counter f.hit_counter (omega arith) (omega arith);
            reid_hit_counter = reid_in_range o.life.reid_hit_counter f.reid;
          };
      counters = f.counters;
      history = f.history;
      ages = λ i lt. age_in_range frames (get_or o.past i unaged).age (f.ages i lt) few;
      period = f.period.1;
    }

-- ---- a list

-- of so many places
pub record ListFacts (places records n : ℕ) (at : List ℕ) : Type 0 where
  pub count : n ≤ places
  pub named : (i : ℕ) → i < n → get_or at i 0 < records
  pub new : (i : ℕ) → i < n → holds (get_or at i 0) (take i at) ≡ false

pub list_facts : (places records n : ℕ) (at : List ℕ) → places_whole places records n at ≡ true → ListFacts places records n at
list_facts places records n at h =
    let p = parts (leb n places) (names_below records n at ∷ []) h in
    record {
      count = leb-true n places p.0;
      named = λ i lt. (name_facts records at n p.1 i lt).0;
      new = λ i lt. (name_facts records at n p.1 i lt).1;
    }

-- ---- the table

pub record WholeFacts (t : Table) : Type 0 where
  pub in_range : settings_in_range t.config ≡ true
  pub settings : SettingsFacts t.config
  pub delay_from : delay_negative t.config ≡ false
  pub delay_below : delay_too_long t.config ≡ false
  pub counts : CountsFacts t.config t.counts
  -- of each record in the table, whatever stands behind the array's end
  pub object : (i : ℕ) (d : TrackedObject) → i < t.counts.records → i < length t.records
      → RecordFacts t.config t.counts.frames (get_or t.records i d)
  pub alive : ListFacts 64 t.counts.records t.lists.alive.count t.lists.alive.at
  pub initializing : ListFacts 64 t.counts.records t.lists.initializing.count t.lists.initializing.at
  pub dead : ListFacts 64 t.counts.records t.lists.dead.count t.lists.dead.at
  pub old : ListFacts 64 t.counts.records t.lists.old.count t.lists.old.at
  pub candidates : ListFacts 32 t.counts.records t.lists.candidates.count t.lists.candidates.at

pub whole_facts : (t : Table) → whole_table t ≡ true → WholeFacts t
unfolding whole_table records_whole lists_whole
whole_facts t h =
    let n = t.counts.records in
    let p =
    parts (settings_whole t.config) (
    counts_whole t.config t.counts
    ∷ records_whole t.config t.counts.frames n t.records
    ∷ lists_whole n t.lists
    ∷ []
    ) h
    in
    let q = settings_whole_lem t.config p.0 in
    let ls =
    parts (list_whole n t.lists.alive) (
    list_whole n t.lists.initializing
    ∷ list_whole n t.lists.dead
    ∷ list_whole n t.lists.old
    ∷ candidates_whole n t.lists.candidates
    ∷ []
    ) p.1.1.1
    in
    record {
      in_range = q.0;
      settings = settings_facts t.config q.0;
      delay_from = q.1;
      delay_below = q.2;
      counts = counts_facts t.config t.counts p.1.0;
      object =
          λ i d lt in_array.
          record_facts t.config t.counts.frames (get_or t.records i d)
          (not-false _
          (none_found (λ o. not (record_whole t.config t.counts.frames o)) n t.records d p.1.1.0 i lt (λ behind. absurd (omega arith))));
      alive = list_facts 64 n t.lists.alive.count t.lists.alive.at ls.0;
      initializing = list_facts 64 n t.lists.initializing.count t.lists.initializing.at ls.1.0;
      dead = list_facts 64 n t.lists.dead.count t.lists.dead.at ls.1.1.0;
      old = list_facts 64 n t.lists.old.count t.lists.old.at ls.1.1.1.0;
      candidates = list_facts 32 n t.lists.candidates.count t.lists.candidates.at ls.1.1.1.1;
    }
