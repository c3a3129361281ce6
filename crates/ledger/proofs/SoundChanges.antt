-- Rules 14, 32, 45, 46, 61 and 62: a record opened is sound, and a sound record stays so as it is hit, merged and predicted.
use Rattle.std.specs.Prelude.{Option, Some, None}
use mathlib.Core.Path.{◌≡◌, refl, ◌∙◌}
use mathlib.Core.Bool.{Bool, true, false, cond}
use mathlib.Core.List.{List, [], ◌∷◌}
use Prim.Native.Nat.{ℕ, ◌+◌, ◌-◌, ◌*◌, ◌<◌, ◌≤◌, min}
use native.Mathlib.Nat.{mul-one}
use native.Mathlib.Omega.{arith}
use borrow.Author.Tests.{ltb-true, ltb-false}
use lib.Dec.{ltb}
use lib.Ieee.{Float}
use lib.IntN.{ℤ, pos, ◌+ℤ◌}
use lib.ListN.{length, get_or-replicate}
use lib.Signed.{le_z, lt_z}
use Rattle.laws.specs.Every.{none, one}
use Rattle.laws.proofs.Every.{every_append, every_weaker, every_drop}
use Rattle.laws.proofs.Turns.{turns_hold}
use Rattle.parts.specs.declared.Life.{Life}
use Rattle.parts.specs.declared.PastDetection.{PastDetection}
use Rattle.parts.specs.declared.TrackedObject.{TrackedObject}
use Rattle.parts.specs.declared.TrackerConfig.{TrackerConfig}
use Rattle.parts.specs.Life.{raised, promotes, promoted, raised_only, life_predicted, life_hit, life_opened}
use Rattle.parts.specs.Past.{pushed}
use Rattle.parts.specs.Ranges.{PointsInRange}
use Rattle.parts.proofs.PastLaws.{length-pushed, history_after}
use Rattle.parts.proofs.PointLaws as points
use Rattle.tracked_object.specs.Object.{Detection, object_predicted, object_hit, object_opened, object_merged, History, takes, added, conditionally_added, mark_of, entry_of, history_merged}
use Rattle.tracked_object.proofs.MergeLaws.{some_of}
use Rattle.table.specs.Ranges.{optional_between, delay_negative}
use Rattle.table.proofs.Chain.{parts}
use Rattle.table.proofs.Facts.{SettingsFacts}
use Rattle.predict.specs.Step.{gone}
use Rattle.ledger.proofs.SoundCounters.{AtMost, above, fallen_most, raised_least, smaller_most, least_more, counters_raised, counters_cleared, counters_predicted}
use Rattle.ledger.proofs.SoundRecord.{Aged, aged_on, SoundLife, SoundMarks, SoundRecord}

-- ---- the history

marks_pushed : (c : TrackerConfig) (frames count : ℕ) (e : PastDetection) (marks : List PastDetection) → c.past_detections_length ≤ 8
    → 0 < c.past_detections_length → Aged frames e → SoundMarks c frames count marks
    → SoundMarks c frames (min (count + 1) c.past_detections_length) (pushed c.past_detections_length 1 0 count (e ∷ []) marks)
marks_pushed c frames count e marks few some new old =
    let most = c.past_detections_length in
    let fits : 0 + most * 1 ≤ length marks = omega (arith, old.eight) in
    record {
      counted = omega arith;
      eight = length-pushed most 1 0 count marks some old.counted fits (e ∷ []) refl ∙ old.eight;
      aged =
          rw (rw (mul-one (min (count + 1) most), mul-one count) at (history_after most 1 0 count marks some old.counted fits (e ∷ []) refl))
          (every_drop ((count + 1 - min (count + 1) most) * 1) (every_append old.aged (one new none)));
    }

-- ---- opened

pub sound_opened : (c : TrackerConfig) (frames : ℕ) (d : Detection) (period global_id initializing_id next : ℕ) → c.points ≤ 16 → 1 ≤ period → period ≤ 1000
    → SoundRecord c frames (object_opened c d period global_id initializing_id next)
unfolding object_opened life_opened
sound_opened c frames d period global_id initializing_id next few some most =
    record {
      life = record { age = omega arith; most = omega arith; counters = tt };
      period = (some, most);
      points = λ i h. rw (get_or-replicate 16 i (min period c.pointwise_hit_counter_max) 0 (omega arith)) (omega arith);
      marks = record { counted = omega arith; eight = refl; aged = none };
    }

-- ---- hit

module _ (period : ℕ) (maximum delay : ℤ) (reid_max : Option ℤ) (next frames : ℕ) (l : Life)
    (from : le_z (pos 0) maximum ≡ true) (most : le_z maximum (pos 10000) ≡ true) (delayed : lt_z delay (pos 0) ≡ false)
    (old : SoundLife reid_max frames l) where
  raised_most : AtMost 10000 (raised period maximum l)
  raised_most = smaller_most 10000 (l.hit_counter +ℤ pos (2 * period)) maximum most

  either : (b : Bool) → promotes period maximum delay l ≡ b
      → SoundLife reid_max frames (cond b (promoted (raised period maximum l) reid_max next l) (raised_only (raised period maximum l) l))
  either true e =
      let high = (parts l.is_initializing (lt_z delay (raised period maximum l) ∷ []) e).1 in
      record {
        age = old.age;
        most = raised_most;
        counters =
            counters_cleared reid_max l.reid_hit_counter l.hit_counter (raised period maximum l)
            (least_more (raised period maximum l) (omega arith) (above delay (raised period maximum l) delayed high)) old.counters;
      }
  either false e =
      record {
        age = old.age;
        most = raised_most;
        counters =
            counters_raised reid_max l.reid_hit_counter l.hit_counter (raised period maximum l)
            (λ n. raised_least n (2 * period) maximum l.hit_counter from) old.counters;
      }

  life_hit_lem : SoundLife reid_max frames (life_hit period maximum delay reid_max next l)
  unfolding life_hit
  life_hit_lem = either (promotes period maximum delay l) refl

-- the detection joins the history without an age, if there is one
marks_hit_lem : (c : TrackerConfig) (frames count : ℕ) (e : PastDetection) (marks : List PastDetection) (b : Bool) → ltb 0 c.past_detections_length ≡ b
    → c.past_detections_length ≤ 8 → Aged frames e → SoundMarks c frames count marks
    → SoundMarks c frames (min (count + 1) c.past_detections_length) (cond b (pushed c.past_detections_length 1 0 count (e ∷ []) marks) marks)
marks_hit_lem c frames count e marks true h few new old = marks_pushed c frames count e marks few (ltb-true 0 _ h) new old
marks_hit_lem c frames count e marks false h few new old =
    let same : min (count + 1) c.past_detections_length ≡ count = omega (arith, ltb-false 0 c.past_detections_length h, old.counted) in
    rw same old

pub sound_hit : (c : TrackerConfig) (frames : ℕ) (d : Detection) (period : ℕ) (distance : Float) (next : ℕ) (o : TrackedObject) → SettingsFacts c
    → le_z (pos 0) c.hit_counter_max ≡ true → delay_negative c ≡ false → SoundRecord c frames o
    → SoundRecord c frames (object_hit c d period distance next o)
unfolding object_hit
sound_hit c frames d period distance next o facts from delayed old =
    record {
      life =
          life_hit_lem period c.hit_counter_max c.initialization_delay c.reid_hit_counter_max next frames o.life
          from facts.maximum delayed old.life;
      period = old.period;
      points =
          points.hit_in_range c.points d.has_scores c.detection_threshold d.scores period c.pointwise_hit_counter_max o.point_hit_counter
          facts.pointwise c.points old.points;
      marks =
          marks_hit_lem c frames o.past_count (record { age = None; has_scores = d.has_scores }) o.past
          (ltb 0 c.past_detections_length) refl facts.history tt old.marks;
    }

-- ---- merged

module _ (c : TrackerConfig) (few : c.past_detections_length ≤ 8) (frames age : ℕ) (young : age ≤ frames) where
  marks_added : (has : Bool) (entry : List Float) (h : History) → SoundMarks c frames h.count h.marks
      → SoundMarks c frames (conditionally_added c age has entry h).count (conditionally_added c age has entry h).marks
  unfolding conditionally_added
  marks_added has entry h old = go (takes c age h.marks h.count) refl
    where
      go : (b : Bool) → takes c age h.marks h.count ≡ b → SoundMarks c frames (cond b (added c age has entry h) h).count (cond b (added c age has entry h) h).marks
      go true e = marks_pushed c frames h.count (record { age = Some (pos age); has_scores = has }) h.marks few (some_of _ _ e) young old
      go false e = old

  marks_merged : (candidate : TrackedObject) (from : List Float) (h : History) → SoundMarks c frames h.count h.marks
      → SoundMarks c frames (history_merged c age candidate from h).count (history_merged c age candidate from h).marks
  unfolding history_merged
  marks_merged candidate from h old =
      turns_hold (λ i g. conditionally_added c age (mark_of candidate i) (entry_of c from i) g) (λ g. SoundMarks c frames g.count g.marks)
      candidate.past_count h (λ i g hi. marks_added (mark_of candidate i) (entry_of c from i) g) old

-- of the candidate only the point counters matter
pub sound_merged : (c : TrackerConfig) (frames : ℕ) (candidate : TrackedObject) (from : List Float) (o : TrackedObject) (l : List Float)
    → c.past_detections_length ≤ 8 → PointsInRange c.points candidate.point_hit_counter → SoundRecord c frames o
    → SoundRecord c frames (object_merged c candidate from o l)
unfolding object_merged
sound_merged c frames candidate from o l few seen old =
    record {
      life = record { age = old.life.age; most = omega (arith, old.period); counters = tt };
      period = old.period;
      points = seen;
      marks = marks_merged c few frames o.life.age old.life.age candidate from _ old.marks;
    }

-- ---- predicted, of a record that is not dropped: a frame more has begun

pub sound_predicted : (c : TrackerConfig) (frames : ℕ) (o : TrackedObject) → optional_between (pos 0) c.reid_hit_counter_max (pos 10000) ≡ true
    → gone c o ≡ false → SoundRecord c frames o → SoundRecord c (frames + 1) (object_predicted c o)
unfolding object_predicted life_predicted
sound_predicted c frames o range stays old =
    record {
      life =
          record {
            age = omega (arith, old.life.age);
            most = fallen_most 10000 o.life.hit_counter old.life.most;
            counters = counters_predicted c.reid_hit_counter_max o range stays old.life.counters;
          };
      period = old.period;
      points = points.fallen_in_range c.points o.point_hit_counter c.points old.points;
      marks =
          record {
            counted = old.marks.counted;
            eight = old.marks.eight;
            aged = every_weaker (λ e h. aged_on frames e.age h) old.marks.aged;
          };
    }
