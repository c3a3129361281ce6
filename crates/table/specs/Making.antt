-- Rules 12, 20 and 21: the delay's rule, the table of zeros, a fresh table, and what making answers.
use Rattle.std.specs.Prelude.{false, cond, List, ℕ, zero, suc, ℤ, pos, negsuc, replicate, None, Some, Option, is_none}
use Rattle.std.specs.Int.Signed.{quot_z}
use Rattle.laws.specs.Float64.{f0}
use Rattle.matching.specs.declared.Numbers.{Numbers}
use Rattle.matching.specs.Unmatched.{numbers_in}
use Rattle.parts.specs.declared.TrackerConfig.{TrackerConfig}
use Rattle.parts.specs.declared.TrackedObject.{TrackedObject}
use Rattle.table.specs.declared.Counts.{Counts}
use Rattle.table.specs.declared.Lists.{Lists}
use Rattle.table.specs.declared.Phase.TheVariants.{Predict}
use Rattle.table.specs.declared.refusals.Refusal.{Refusal}
use Rattle.table.specs.declared.Table.{Table}
use Rattle.table.specs.declared.Answer.{Answer}
use Rattle.table.specs.Refusals.{first_due, making_checks}

-- delay -1 becomes the hit counter maximum divided by 2, toward zero
abbrev pub settled_delay : ℤ → ℤ → ℤ
settled_delay maximum (pos d) = pos d
settled_delay maximum (negsuc zero) = quot_z maximum (pos 2)
settled_delay maximum (negsuc (suc d)) = negsuc (suc d)

abbrev pub settled : TrackerConfig → TrackerConfig
settled c =
    record {
      points = c.points;
      dims = c.dims;
      capacity = c.capacity;
      past_detections_length = c.past_detections_length;
      hit_counter_max = c.hit_counter_max;
      initialization_delay = settled_delay c.hit_counter_max c.initialization_delay;
      pointwise_hit_counter_max = c.pointwise_hit_counter_max;
      reid_hit_counter_max = c.reid_hit_counter_max;
      distance_threshold = c.distance_threshold;
      detection_threshold = c.detection_threshold;
      reid_distance_threshold = c.reid_distance_threshold;
      has_reid_distance = c.has_reid_distance;
      filter = c.filter;
    }

-- ---- zeros: every number 0, every flag false, every optional value absent

abbrev pub zero_config : TrackerConfig
zero_config =
    record {
      points = 0;
      dims = 0;
      capacity = 0;
      past_detections_length = 0;
      hit_counter_max = pos 0;
      initialization_delay = pos 0;
      pointwise_hit_counter_max = 0;
      reid_hit_counter_max = None;
      distance_threshold = f0;
      detection_threshold = f0;
      reid_distance_threshold = f0;
      has_reid_distance = false;
      filter = record { r = f0; q = f0; pos_variance = f0; pos_vel_covariance = f0; vel_variance = f0 };
    }

abbrev pub zero_object : TrackedObject
zero_object =
    record {
      past = replicate 8 (record { age = Some (pos 0); has_scores = false });
      past_count = 0;
      point_hit_counter = replicate 16 0;
      detected_at_least_once_points = 0;
      last = record { distance = None; has_scores = false };
      life =
          record {
            age = 0;
            hit_counter = pos 0;
            reid_hit_counter = None;
            is_initializing = false;
            id = None;
          };
      origin = record { global_id = 0; initializing_id = 0; initial_period = 0 };
    }

-- a list of nothing, in n places
abbrev pub nothing : (n : ℕ) → Numbers n
nothing n = record { at = replicate n 0; count = 0 }

abbrev pub no_numbers : Numbers 64
no_numbers = nothing 64

-- the candidates in order, 0 behind the last
abbrev pub candidates_of : List ℕ → Numbers 32
candidates_of l = numbers_in 32 l

abbrev pub no_candidates : Numbers 32
no_candidates = nothing 32

abbrev pub no_lists : Lists
no_lists = record { alive = no_numbers; initializing = no_numbers; dead = no_numbers; old = no_numbers; candidates = no_candidates }

abbrev pub zero_counts : Counts
zero_counts = record { records = 0; frames = 0; opened = 0; permanent = 0; global = 0; initializing = 0 }

-- a table without a record
abbrev pub empty_table : TrackerConfig → Counts → Table
empty_table c n = record { records = replicate 64 zero_object; config = c; counts = n; phase = Predict; lists = no_lists }

abbrev pub zero_table : Table
zero_table = empty_table zero_config zero_counts

-- ---- making

-- all three ID counts start at 1
abbrev pub fresh_counts : Counts
fresh_counts = record { records = 0; frames = 0; opened = 0; permanent = 1; global = 1; initializing = 1 }

abbrev pub fresh_table : TrackerConfig → Table
fresh_table c = empty_table c fresh_counts

-- a refused making returns a table of zeros
abbrev pub answer_of : Option Refusal → Table → Answer
answer_of refusal t = record { refusal = refusal; count = 0; table = t }

unfoldable pub made : TrackerConfig → ℕ → Answer
made c floats =
    let n = first_due (making_checks (settled c) floats) in
    answer_of n (cond (is_none n) (fresh_table (settled c)) zero_table)
