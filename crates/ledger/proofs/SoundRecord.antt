-- Rule 14: a record that a fresh tracker reaches is sound, and a sound record is whole.
use Rattle.std.specs.Prelude.{Option, Some, None}
use mathlib.Core.Path.{◌≡◌, refl, ap}
use mathlib.Core.Bool.{true, not}
use mathlib.Core.List.{List}
use Prim.Native.Nat.{ℕ, ◌+◌, ◌≤◌}
use native.Mathlib.Omega.{arith}
use borrow.Author.Tests.{le-leb, le-ltb}
use lib.Dec.{ltb}
use lib.IntN.{ℤ, pos, negsuc}
use lib.ListN.{length, take}
use Rattle.laws.specs.Every.{Every}
use Rattle.laws.proofs.Every.{every_weaker, none_found, every_first}
use Rattle.parts.specs.declared.Life.{Life}
use Rattle.parts.specs.declared.PastDetection.{PastDetection}
use Rattle.parts.specs.declared.TrackedObject.{TrackedObject}
use Rattle.parts.specs.declared.TrackerConfig.{TrackerConfig}
use Rattle.parts.specs.Ranges.{PointsInRange}
use Rattle.table.specs.Ranges.{optional_between}
use Rattle.table.specs.Wholeness.{points_whole, ages_whole, record_whole}
use Rattle.ledger.proofs.SoundCounters.{AtMost, Counters, most_more, between_is, least_more, counters_low, counters_reid}
use Rattle.ledger.proofs.SoundTests.{◌also◌, between_whole}

-- absent, or not negative and at most the frames begun
abbrev pub AgedAt : ℕ → Option ℤ → Type 0
AgedAt frames None = Unit {0}
AgedAt frames (Some (pos age)) = age ≤ frames
AgedAt frames (Some (negsuc age)) = ⊥

abbrev pub Aged : ℕ → PastDetection → Type 0
Aged frames e = AgedAt frames e.age

aged_whole : (frames : ℕ) (age : Option ℤ) → AgedAt frames age → optional_between (pos 0) age (pos frames) ≡ true
unfolding optional_between
aged_whole frames None h = refl
aged_whole frames (Some (pos age)) h = le-leb 0 age (omega arith) also le-leb age frames h
aged_whole frames (Some (negsuc age)) h = absurd h

-- a frame more
pub aged_on : (frames : ℕ) (age : Option ℤ) → AgedAt frames age → AgedAt (frames + 1) age
aged_on frames None h = h
aged_on frames (Some (pos age)) h = omega arith
aged_on frames (Some (negsuc age)) h = h

pub record SoundLife (maximum : Option ℤ) (frames : ℕ) (l : Life) : Type 0 where
  pub age : l.age ≤ frames
  pub most : AtMost 10000 l.hit_counter
  pub counters : Counters maximum l.reid_hit_counter l.hit_counter

pub record SoundMarks (c : TrackerConfig) (frames count : ℕ) (marks : List PastDetection) : Type 0 where
  pub counted : count ≤ c.past_detections_length
  pub eight : length marks ≡ 8
  pub aged : Every (Aged frames) (take count marks)

pub record SoundRecord (c : TrackerConfig) (frames : ℕ) (o : TrackedObject) : Type 0 where
  pub life : SoundLife c.reid_hit_counter_max frames o.life
  pub period : (1 ≤ o.origin.initial_period) × (o.origin.initial_period ≤ 1000)
  pub points : PointsInRange c.points o.point_hit_counter
  pub marks : SoundMarks c frames o.past_count o.past

-- ---- whole

pub sound_record_whole : (c : TrackerConfig) (frames : ℕ) (o : TrackedObject) → optional_between (pos 0) c.reid_hit_counter_max (pos 10000) ≡ true
    → SoundRecord c frames o → record_whole c frames o ≡ true
unfolding record_whole points_whole ages_whole
sound_record_whole c frames o range s =
    let l = o.life in
    let low = counters_low c.reid_hit_counter_max l.reid_hit_counter l.hit_counter range s.life.counters in
    le-leb _ _ s.life.age
    also between_is 19999 20000 l.hit_counter (least_more l.hit_counter (omega arith) low) (most_more l.hit_counter (omega arith) s.life.most)
    also none_found (λ x. ltb 10000 x) (every_first c.points o.point_hit_counter 0 (λ i h. le-ltb 10000 _ (s.points i h)))
    also counters_reid c.reid_hit_counter_max l.reid_hit_counter l.hit_counter range s.life.counters
    also between_whole 1 o.origin.initial_period 1000 s.period.0 s.period.1
    also le-leb _ _ s.marks.counted
    also none_found (λ e. not (optional_between (pos 0) e.age (pos frames)))
    (every_weaker (λ e h. ap not (aged_whole frames e.age h)) s.marks.aged)
