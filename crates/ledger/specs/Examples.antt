-- Rules 14, 32, 61, 63 and 75: small tables to run the definitions on.
use Rattle.std.specs.Prelude.{true, false, List, [], ◌∷◌, ℕ, ℤ, pos, negsuc, replicate, Float, Option, Some, None}
use Rattle.std.specs.Float.{binary64, nan}
use Rattle.std.specs.Float.Ieee.{of_bits}
use Rattle.laws.specs.Float64.{f0, f1}
use Rattle.matching.specs.Unmatched.{numbers_of}
use Rattle.filter.specs.Settings.{defaults}
use Rattle.parts.specs.declared.TrackerConfig.{TrackerConfig}
use Rattle.parts.specs.declared.TrackedObject.{TrackedObject}
use Rattle.parts.specs.declared.Life.{Life}
use Rattle.table.specs.declared.Table.{Table}
use Rattle.table.specs.declared.Phase.TheVariants.{Predict, Reid}
use Rattle.table.specs.Making.{zero_object, no_numbers, no_lists, candidates_of}
use Rattle.pairs.specs.declared.Pair.{Pair}
use Rattle.passes.specs.Checks.{frame}
use Rattle.matching_step.specs.Step.{no_pair}
use Rattle.ledger.specs.History.{Call, predict, match, reid, World}

-- one point of one coordinate, room for so many records, no history; a ReID maximum or none; a ReID distance declared; thresholds 1
abbrev pub settings_with : ℕ → Option ℤ → TrackerConfig
settings_with capacity maximum =
    record {
      points = 1;
      dims = 1;
      capacity = capacity;
      past_detections_length = 0;
      hit_counter_max = pos 15;
      initialization_delay = pos 7;
      pointwise_hit_counter_max = 4;
      reid_hit_counter_max = maximum;
      distance_threshold = f1;
      detection_threshold = f0;
      reid_distance_threshold = f1;
      has_reid_distance = true;
      filter = defaults;
    }

abbrev pub settings : ℕ → TrackerConfig
settings capacity = settings_with capacity None

abbrev pub half : Float
half = of_bits binary64 0x3fe0_0000_0000_0000

-- 2, above the threshold
abbrev pub far : Float
far = of_bits binary64 0x4000_0000_0000_0000

-- a record of this name, with these counters
abbrev pub living : ℕ → Life → TrackedObject
living name life =
    record {
      past = zero_object.past;
      past_count = 0;
      point_hit_counter = zero_object.point_hit_counter;
      detected_at_least_once_points = 0;
      last = zero_object.last;
      life = life;
      origin = record { global_id = name; initializing_id = name; initial_period = 1 };
    }

abbrev pub called : ℕ → TrackedObject
called name = living name zero_object.life

-- records 1 and 2 in step 3, with these candidates and old ones
abbrev pub meeting : List ℕ → List ℕ → Table
meeting candidates old =
    record {
      records = called 1 ∷ called 2 ∷ [];
      config = settings 2;
      counts = record { records = 2; frames = 1; opened = 2; permanent = 1; global = 3; initializing = 3 };
      phase = Reid;
      lists =
          record { alive = no_numbers; initializing = no_numbers; dead = no_numbers; old = numbers_of old; candidates = candidates_of candidates };
    }

abbrev pub floats : List Float
floats = replicate 16 f0

-- ---- altered tables of one record, before step 1: whole, and no longer so when its counters have fallen

abbrev pub alone : Option ℤ → ℤ → Option ℤ → World
alone maximum hit counter =
    record {
      table =
          record {
            records = living 1 (record { age = 0; hit_counter = hit; reid_hit_counter = counter; is_initializing = false; id = None }) ∷ [];
            config = settings_with 1 maximum;
            counts = record { records = 1; frames = 1; opened = 1; permanent = 1; global = 2; initializing = 2 };
            phase = Predict;
            lists = no_lists;
          };
      storage = floats;
    }

-- a hit counter of -20,000, and a ReID maximum, so that it stays
abbrev pub lowest_hit : World
lowest_hit = alone (Some (pos 10)) (negsuc 19999) None

-- a ReID counter of -1 without a ReID maximum, and a hit counter of 0, so that it stays
abbrev pub lowest_reid : World
lowest_reid = alone None (pos 0) (Some (negsuc 0))

-- ---- a day with room for one record: a fish opened; then two strange ones, which are one too many; then the first alone, hit

abbrev pub places : List Pair
places = replicate 32 no_pair

-- detections at 0 without scores, period 1, these distances
abbrev pub seen : ℕ → List Float → Call
seen n distances = match n (frame 1 (replicate n f0) (replicate n f1) (replicate n 0) distances) places

abbrev pub active_list : List ℕ
active_list = 0 ∷ []

abbrev pub until_too_many : List Call
until_too_many = predict ∷ seen 1 [] ∷ reid [] active_list ∷ predict ∷ []

abbrev pub too_many : Call
too_many = seen 2 (nan ∷ nan ∷ [])

abbrev pub carrying_on : List Call
carrying_on = predict ∷ seen 1 [] ∷ reid [] active_list ∷ predict ∷ too_many ∷ seen 1 (half ∷ []) ∷ []
