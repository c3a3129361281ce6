-- Rule 14: what callers have of a record from wholeness and from the checks of a step.
use Rattle.std.specs.Prelude.{false, List, ℕ, ◌<◌, ◌≤◌, get_or, Option, Some, None, ℤ}
use Rattle.std.specs.Int.Signed.{mag}
use Rattle.parts.specs.declared.TrackerConfig.{TrackerConfig}
use Rattle.parts.specs.declared.TrackedObject.{TrackedObject}
use Rattle.parts.specs.declared.PastDetection.{PastDetection}
use Rattle.parts.specs.declared.Life.{Life}

-- the sizes of rule 3 that the functions on a record lean on
pub record Sizes (c : TrackerConfig) : Type 0 where
  pub some_points : 0 < c.points
  pub points_most : c.points ≤ 16
  pub some_dims : 0 < c.dims
  pub dims_most : c.dims ≤ 3
  pub past_most : c.past_detections_length ≤ 8
  pub pointwise_most : c.pointwise_hit_counter_max ≤ 10000

abbrev pub ReidInRange : Option ℤ → Type 0
ReidInRange None = Unit {0}
ReidInRange (Some c) = mag c ≤ 10000

pub record LifeInRange (l : Life) : Type 0 where
  pub age : l.age ≤ 200000000
  pub hit_counter : mag l.hit_counter ≤ 20000
  pub reid_hit_counter : ReidInRange l.reid_hit_counter

-- the counters of the first n points
abbrev pub PointsInRange : ℕ → List ℕ → Type 0
PointsInRange n l = (i : ℕ) → i < n → get_or l i 0 ≤ 10000

-- what stands in no history: an entry without an age and without scores
abbrev pub unaged : PastDetection
unaged = record { age = None; has_scores = false }

abbrev pub AgeInRange : Option ℤ → Type 0
AgeInRange None = Unit {0}
AgeInRange (Some age) = mag age ≤ 200000000

-- the stored ages of the first n entries of a history
abbrev pub AgesInRange : ℕ → List PastDetection → Type 0
AgesInRange n l = (i : ℕ) → i < n → AgeInRange (get_or l i unaged).age

pub record ObjectInRange (c : TrackerConfig) (o : TrackedObject) : Type 0 where
  pub life : LifeInRange o.life
  pub counters : PointsInRange c.points o.point_hit_counter
  pub history : o.past_count ≤ c.past_detections_length
  pub ages : AgesInRange o.past_count o.past
  pub period : o.origin.initial_period ≤ 1000
