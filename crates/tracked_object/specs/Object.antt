-- Rules 32, 45, 46, 61 and 62: a record and its block, predicted, hit, opened and merged.
use Rattle.std.specs.Prelude.{Bool, true, cond, ◌&&◌, ◌||◌, List, [], ◌∷◌, ◌++◌, ℕ, ◌+◌, ◌*◌, min, ltb, pos, get_or, take, drop, replicate, Float, Some, None}
use Rattle.std.proofs.Math.Seq.{paste}
use Rattle.std.specs.Float.Ieee.{lt}
use Rattle.laws.specs.Float64.{f1}
use Rattle.laws.specs.Turns.{turns}
use Rattle.filter.specs.Block.{made_block, predicted_block, updated_block}
use Rattle.filter.specs.declared.detection.LentDetection.{LentDetection}
use Rattle.parts.specs.declared.TrackerConfig.{TrackerConfig}
use Rattle.parts.specs.declared.TrackedObject.{TrackedObject}
use Rattle.parts.specs.declared.PastDetection.{PastDetection}
use Rattle.parts.specs.declared.Changed.{Changed}
use Rattle.parts.specs.Layout.{coords, width, last_place, past_place}
use Rattle.parts.specs.Ranges.{unaged}
use Rattle.parts.specs.Life.{life_predicted, promotes, life_hit, life_opened, life_merged, is_zero}
use Rattle.parts.specs.Points.{points_fallen, points_hit, flags_set}
use Rattle.parts.specs.Past.{pushed, is_due}

-- a detection as lent: coordinates point by point, scores, and whether these are used
pub record Detection : Type 0 where
  pub points : List Float
  pub scores : List Float
  pub has_scores : Bool

abbrev pub detection_of : LentDetection → Detection
detection_of d = record { points = d.points.now; scores = d.scores.now; has_scores = d.has_scores }

abbrev pub detection : List Float → List Float → Bool → Detection
detection points scores has = record { points = points; scores = scores; has_scores = has }

-- as it is stored: its coordinates, then its scores
abbrev pub stored : Detection → List Float
stored d = d.points ++ d.scores

-- ---- predict

unfoldable pub object_predicted : TrackerConfig → TrackedObject → TrackedObject
object_predicted c o =
    record {
      past = o.past;
      past_count = o.past_count;
      point_hit_counter = points_fallen c.points o.point_hit_counter;
      detected_at_least_once_points = o.detected_at_least_once_points;
      last = o.last;
      life = life_predicted c.reid_hit_counter_max o.life;
      origin = o.origin;
    }

abbrev pub block_predicted : TrackerConfig → List Float → List Float
block_predicted c l = predicted_block (coords c) l

-- ---- hit

-- with L above 0 the detection joins the history without an age, the oldest leaving beyond L
abbrev pub marks_hit : TrackerConfig → Bool → ℕ → List PastDetection → List PastDetection
marks_hit c has count past =
    cond (ltb 0 c.past_detections_length)
    (pushed c.past_detections_length 1 0 count (record { age = None; has_scores = has } ∷ []) past)
    past

unfoldable pub object_hit : TrackerConfig → Detection → ℕ → Float → ℕ → TrackedObject → TrackedObject
object_hit c d period distance next o =
    record {
      past = marks_hit c d.has_scores o.past_count o.past;
      past_count = min (o.past_count + 1) c.past_detections_length;
      point_hit_counter =
          points_hit c.points d.has_scores c.detection_threshold d.scores period c.pointwise_hit_counter_max o.point_hit_counter;
      detected_at_least_once_points =
          flags_set c.points d.has_scores c.detection_threshold (lt c.detection_threshold f1) d.scores o.detected_at_least_once_points;
      last = record { distance = Some distance; has_scores = d.has_scores };
      life = life_hit period c.hit_counter_max c.initialization_delay c.reid_hit_counter_max next o.life;
      origin = o.origin;
    }

-- the record hit, and whether it took the next permanent ID
abbrev pub changed_by_hit : TrackerConfig → Detection → ℕ → Float → ℕ → TrackedObject → Changed
changed_by_hit c d period distance next o =
    record {
      object = object_hit c d period distance next o;
      issued = promotes period c.hit_counter_max c.initialization_delay o.life;
    }

-- the filter updated, the last detection stored, the history grown
abbrev pub updated_and_stored : TrackerConfig → Detection → List Float → List Float
updated_and_stored c d l =
    paste
    (updated_block c.filter c.dims d.points d.has_scores c.detection_threshold d.scores (coords c) l)
    (last_place c)
    (stored d)
    (width c)

unfoldable pub block_hit : TrackerConfig → Detection → ℕ → List Float → List Float
block_hit c d count l =
    let m = updated_and_stored c d l in
    cond (ltb 0 c.past_detections_length) (pushed c.past_detections_length (width c) (past_place c) count (stored d) m) m

-- ---- open

-- every point counter the smaller of period and maximum, whatever its score; seen flags by score, all of them without scores
unfoldable pub object_opened : TrackerConfig → Detection → ℕ → ℕ → ℕ → ℕ → TrackedObject
object_opened c d period global_id initializing_id next =
    record {
      past = replicate 8 unaged;
      past_count = 0;
      point_hit_counter = replicate 16 (min period c.pointwise_hit_counter_max);
      detected_at_least_once_points = flags_set c.points d.has_scores c.detection_threshold true d.scores 0;
      last = record { distance = None; has_scores = d.has_scores };
      life = life_opened period c.initialization_delay next;
      origin = record { global_id = global_id; initializing_id = initializing_id; initial_period = period };
    }

abbrev pub changed_by_opening : TrackerConfig → Detection → ℕ → ℕ → ℕ → ℕ → Changed
changed_by_opening c d period global_id initializing_id next =
    record { object = object_opened c d period global_id initializing_id next; issued = is_zero c.initialization_delay }

unfoldable pub block_opened : TrackerConfig → Detection → List Float → List Float
block_opened c d l = paste (made_block c.filter d.points (coords c) l) (last_place c) (stored d) (width c)

-- ---- merge

-- the history of the old record while it takes the candidate's: its marks, how many, and the block
pub record History : Type 0 where
  pub marks : List PastDetection
  pub count : ℕ
  pub floats : List Float

abbrev pub history : List PastDetection → ℕ → List Float → History
history marks count floats = record { marks = marks; count = count; floats = floats }

-- below L entries; else if the oldest has an age and the record's is at least that times L; with L 0 never
abbrev pub takes : TrackerConfig → ℕ → List PastDetection → ℕ → Bool
takes c age marks count =
    ltb 0 c.past_detections_length
    && (ltb count c.past_detections_length || is_due (get_or marks 0 unaged).age age c.past_detections_length)

-- an entry added with the record's age
abbrev pub added : TrackerConfig → ℕ → Bool → List Float → History → History
added c age has entry h =
    record {
      marks = pushed c.past_detections_length 1 0 h.count (record { age = Some (pos age); has_scores = has } ∷ []) h.marks;
      count = min (h.count + 1) c.past_detections_length;
      floats = pushed c.past_detections_length (width c) (past_place c) h.count entry h.floats;
    }

unfoldable pub conditionally_added : TrackerConfig → ℕ → Bool → List Float → History → History
conditionally_added c age has entry h = cond (takes c age h.marks h.count) (added c age has entry h) h

-- entry i of the candidate: whether it has scores, and its floats
abbrev pub mark_of : TrackedObject → ℕ → Bool
mark_of o i = (get_or o.past i unaged).has_scores

abbrev pub entry_of : TrackerConfig → List Float → ℕ → List Float
entry_of c l i = take (width c) (drop (past_place c + i * width c) l)

-- each entry of the candidate in turn
unfoldable pub history_merged : TrackerConfig → ℕ → TrackedObject → List Float → History → History
history_merged c age candidate from h =
    turns (λ i g. conditionally_added c age (mark_of candidate i) (entry_of c from i) g) candidate.past_count h

-- the filter's five numbers and the last detection as the candidate has them
abbrev pub taken : TrackerConfig → List Float → List Float → List Float
taken c from l = paste (paste l 0 from (5 * coords c)) (last_place c) (drop (last_place c) from) (width c)

abbrev pub merging : TrackerConfig → TrackedObject → List Float → TrackedObject → List Float → History
merging c candidate from o l =
    history_merged c o.life.age candidate from
    (record { marks = o.past; count = o.past_count; floats = taken c from l })

unfoldable pub object_merged : TrackerConfig → TrackedObject → List Float → TrackedObject → List Float → TrackedObject
object_merged c candidate from o l =
    record {
      past = (merging c candidate from o l).marks;
      past_count = (merging c candidate from o l).count;
      point_hit_counter = candidate.point_hit_counter;
      detected_at_least_once_points = candidate.detected_at_least_once_points;
      last = candidate.last;
      life = life_merged o.origin.initial_period o.life;
      origin = o.origin;
    }

abbrev pub block_merged : TrackerConfig → TrackedObject → List Float → TrackedObject → List Float → List Float
block_merged c candidate from o l = (merging c candidate from o l).floats
