-- Rules 14 and 45: a record in range is in range after a hit.
use Rattle.std.specs.Prelude.{Option, Some, None}
use mathlib.Core.Path.{◌≡◌, refl}
use mathlib.Core.Bool.{Bool, true, false, cond}
use mathlib.Core.List.{List, [], ◌∷◌}
use Prim.Native.Nat.{ℕ, suc, ◌+◌, ◌-◌, ◌*◌, ◌≤◌, min}
use native.Mathlib.Omega.{arith}
use borrow.Author.Tests.{ltb-true, ltb-false, leb-true}
use lib.Dec.{ltb}
use lib.Ieee.{Float}
use lib.IntN.{ℤ, pos, negsuc, ◌+ℤ◌}
use lib.Signed.{le_z, mag}
use Rattle.parts.specs.declared.TrackerConfig.{TrackerConfig}
use Rattle.parts.specs.declared.TrackedObject.{TrackedObject}
use Rattle.parts.specs.declared.PastDetection.{PastDetection}
use Rattle.parts.specs.declared.Life.{Life}
use Rattle.parts.specs.Ranges.{AgeInRange, Sizes, ReidInRange, LifeInRange, AgesInRange, ObjectInRange}
use Rattle.parts.specs.Life.{smaller_of, raised, promotes, reid_cleared, promoted, raised_only, life_hit}
use Rattle.parts.specs.Past.{pushed}
use Rattle.parts.proofs.PointLaws as points
use Rattle.tracked_object.specs.Object.{Detection, object_hit}
use Rattle.tracked_object.proofs.AgeLaws.{ages_kept}

-- ---- the hit counter: it rises, and not beyond the maximum

smaller_most : (t : Bool) (a b : ℕ) → ltb a b ≡ t → mag (cond t (pos a) (pos b)) ≤ b
smaller_most true a b h = let q = ltb-true a b h in omega arith
smaller_most false a b h = omega arith

from_below : (t : Bool) (a b n : ℕ) → a ≤ 20000 → n ≤ 10000 → mag (smaller_of (cond t (negsuc (suc a - suc b)) (pos (b - suc a))) (pos n)) ≤ 20000
from_below true a b n h most = omega arith
from_below false a b n h most = omega (arith, smaller_most (ltb (b - suc a) n) (b - suc a) n refl)

raised_most : (rise : ℕ) (h maximum : ℤ) → le_z (pos 0) maximum ≡ true → le_z maximum (pos 10000) ≡ true → mag h ≤ 20000
    → mag (smaller_of (h +ℤ pos rise) maximum) ≤ 20000
raised_most rise h (negsuc n) from most low = let z : ◌≡◌ {A = ℕ} 0 1 = cc in absurd (omega arith)
raised_most rise (pos a) (pos n) from most low =
    omega (arith, leb-true n 10000 most, smaller_most (ltb (a + rise) n) (a + rise) n refl)
raised_most rise (negsuc a) (pos n) from most low =
    let q = leb-true n 10000 most in from_below (ltb rise (suc a)) a rise n low (omega arith)

-- ---- the life

cleared_in_range : (counter reid_max : Option ℤ) → ReidInRange counter → ReidInRange (reid_cleared counter reid_max)
cleared_in_range counter None h = h
cleared_in_range counter (Some m) h = tt

module _ (period : ℕ) (maximum delay : ℤ) (reid_max : Option ℤ) (next : ℕ) (l : Life)
    (from : le_z (pos 0) maximum ≡ true) (most : le_z maximum (pos 10000) ≡ true) (old : LifeInRange l) where
  raised_in_range : mag (raised period maximum l) ≤ 20000
  raised_in_range = raised_most (2 * period) l.hit_counter maximum from most old.hit_counter

  either : (t : Bool) → LifeInRange (cond t (promoted (raised period maximum l) reid_max next l) (raised_only (raised period maximum l) l))
  either true = record { age = old.age; hit_counter = raised_in_range; reid_hit_counter = cleared_in_range l.reid_hit_counter reid_max old.reid_hit_counter }
  either false = record { age = old.age; hit_counter = raised_in_range; reid_hit_counter = old.reid_hit_counter }

  life_hit_in_range : LifeInRange (life_hit period maximum delay reid_max next l)
  unfolding life_hit
  life_hit_in_range = either (promotes period maximum delay l)

-- ---- the history

marks_in_range : (most count : ℕ) (e : PastDetection) (marks : List PastDetection) (t : Bool) → ltb 0 most ≡ t → count ≤ most → AgeInRange e.age
    → AgesInRange count marks → AgesInRange (min (count + 1) most) (cond t (pushed most 1 0 count (e ∷ []) marks) marks)
marks_in_range most count e marks true t full young ages = ages_kept most count e marks (ltb-true 0 most t) full young ages
marks_in_range most count e marks false t full young ages = λ i h. ages i (omega (arith, ltb-false 0 most t))

-- ---- the record

pub hit_in_range : (c : TrackerConfig) (d : Detection) (period : ℕ) (distance : Float) (next : ℕ) (o : TrackedObject)
    → le_z (pos 0) c.hit_counter_max ≡ true → le_z c.hit_counter_max (pos 10000) ≡ true → Sizes c → ObjectInRange c o
    → ObjectInRange c (object_hit c d period distance next o)
unfolding object_hit
hit_in_range c d period distance next o from most sizes old =
    record {
      life = life_hit_in_range period c.hit_counter_max c.initialization_delay c.reid_hit_counter_max next o.life from most old.life;
      counters =
          points.hit_in_range c.points d.has_scores c.detection_threshold d.scores period c.pointwise_hit_counter_max o.point_hit_counter
          sizes.pointwise_most c.points old.counters;
      history = omega arith;
      ages =
          marks_in_range c.past_detections_length o.past_count (record { age = None; has_scores = d.has_scores }) o.past
          (ltb 0 c.past_detections_length) refl old.history (omega arith) old.ages;
      period = old.period;
    }
