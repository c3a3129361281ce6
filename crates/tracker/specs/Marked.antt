-- Rule 80: the marked numbers, all of them and no others, as one list: what the definitions give, and what the page says.
use Rattle.std.specs.Prelude.{false, cond, List, [], ◌∷◌, ℕ, suc, ℤ, pos, negsuc, replicate, Float, None, is_none}
use Rattle.std.specs.Int.Signed.{mag}
use Rattle.std.specs.Float.{binary64, nan}
use Rattle.std.specs.Float.Ieee.{of_bits}
use Rattle.laws.specs.Float64.{f0, f1}
use Rattle.laws.specs.Worked.{Worked, spelt}
use Rattle.matching.specs.Greedy.{Pick, picks}
use Rattle.matching.specs.Lent.{lent}
use Rattle.filter.specs.declared.FilterSettings.{FilterSettings}
use Rattle.filter.specs.declared.Coordinate.{Coordinate}
use Rattle.filter.specs.Coordinate.{started, updated}
use Rattle.parts.specs.declared.TrackerConfig.{TrackerConfig}
use Rattle.parts.specs.declared.Life.{Life}
use Rattle.parts.specs.Life.{life_opened, life_predicted, life_hit}
use Rattle.table.specs.declared.Answer.{Answer}
use Rattle.table.specs.Making.{zero_config, made}
use Rattle.table.specs.Refusals.{storage_need, told}

-- ---- making: the refusal and, where it is accepted, the made table's delay

-- settings of a hit counter maximum and a delay, every other in range: P 1, K 2, C 1, L 0, pointwise maximum 4, ReID absent
abbrev pub settings_of : ℤ → ℤ → TrackerConfig
settings_of maximum delay =
    record {
      points = 1;
      dims = 2;
      capacity = 1;
      past_detections_length = 0;
      hit_counter_max = maximum;
      initialization_delay = delay;
      pointwise_hit_counter_max = 4;
      reid_hit_counter_max = zero_config.reid_hit_counter_max;
      distance_threshold = zero_config.distance_threshold;
      detection_threshold = zero_config.detection_threshold;
      reid_distance_threshold = zero_config.reid_distance_threshold;
      has_reid_distance = zero_config.has_reid_distance;
      filter = zero_config.filter;
    }

-- the delay of an accepted making is not negative, so that its magnitude is its number
abbrev pub spelt_answer : Answer → List ℕ
spelt_answer a = told a.refusal ∷ cond (is_none a.refusal) (mag a.table.config.initialization_delay ∷ []) []

-- made of delay -1 in a storage of exactly the need
abbrev pub making : ℤ → List ℕ → Worked
making maximum numbers =
    let c = settings_of maximum (negsuc 0) in
    record { gives = spelt_answer (made c (storage_need c)); says = numbers }

-- ---- matching: the pairs, row and column by turns

unfoldable pub spelt_picks : List Pick → List ℕ
spelt_picks [] = []
spelt_picks (p ∷ l) = p.row ∷ p.col ∷ spelt_picks l

-- all rows and columns free, threshold 1
abbrev pub matching : ℕ → ℕ → List Float → List ℕ → Worked
matching r c l pairs = record { gives = spelt_picks (picks (lent l r c f1) (replicate 32 false) (replicate 64 false)); says = pairs }

-- ---- one coordinate: r 4, q 1, pos 10, cov 0, vel 1, x 0, velocity 0, updated by z 8 with d; the filter's five numbers by their bits

abbrev pub page_settings : FilterSettings
page_settings =
    record {
      r = of_bits binary64 0x4010_0000_0000_0000;
      q = f1;
      pos_variance = of_bits binary64 0x4024_0000_0000_0000;
      pos_vel_covariance = f0;
      vel_variance = f1;
    }

abbrev pub five : Coordinate → List ℕ
five c = spelt c.x ∷ spelt c.velocity ∷ spelt c.pos ∷ spelt c.cov ∷ spelt c.vel ∷ []

abbrev pub coordinate : Float → List ℕ → Worked
coordinate d numbers =
    record { gives = five (updated page_settings (of_bits binary64 0x4020_0000_0000_0000) d (started page_settings f0)); says = numbers }

-- ---- the counter: maximum 15, delay 7, no ReID maximum, opened at period 20, then predicted and hit

-- a signed number spelt as its sign, 1 for below 0, and its size
abbrev pub spelt_z : ℤ → List ℕ
spelt_z (pos n) = 0 ∷ n ∷ []
spelt_z (negsuc n) = 1 ∷ suc n ∷ []

abbrev pub counter : Life → List ℕ → Worked
counter l numbers = record { gives = spelt_z l.hit_counter; says = numbers }

abbrev pub opened : Life
opened = life_opened 20 (pos 7) 1

abbrev pub predicted_and_hit : Life
predicted_and_hit = life_hit 20 (pos 15) (pos 7) None 1 (life_predicted None opened)

-- ---- the list

unfoldable pub marked_numbers : List Worked
marked_numbers =
    -- maximum 15, delay -1: 7; maximum 1: 0, accepted; maximum -1: refusal 2; maximum -4: refusal 1
    making (pos 15) (0 ∷ 7 ∷ [])
    ∷ making (pos 1) (0 ∷ 0 ∷ [])
    ∷ making (negsuc 0) (2 ∷ [])
    ∷ making (negsuc 3) (1 ∷ [])
    -- rows (0.5, 0.2), (0.3, 0.9); all four 0.5; one entry 1; rows (NaN, infinity), (0.5, -0.25)
    ∷ matching 2 2 (of_bits binary64 0x3fe0_0000_0000_0000 ∷ of_bits binary64 0x3fc9_9999_9999_999a ∷ of_bits binary64 0x3fd3_3333_3333_3333 ∷ of_bits binary64 0x3fec_cccc_cccc_cccd ∷ []) (0 ∷ 1 ∷ 1 ∷ 0 ∷ [])
    ∷ matching 2 2 (replicate 4 (of_bits binary64 0x3fe0_0000_0000_0000)) (0 ∷ 0 ∷ 1 ∷ 1 ∷ [])
    ∷ matching 1 1 (f1 ∷ []) []
    ∷ matching 2 2 (nan ∷ of_bits binary64 0x7ff0_0000_0000_0000 ∷ of_bits binary64 0x3fe0_0000_0000_0000 ∷ of_bits binary64 0xbfd0_0000_0000_0000 ∷ []) (1 ∷ 1 ∷ [])
    -- d 1: x 6, velocity 0.5, pos 3, cov 0.25, vel 1.9375; d 0: x 0, velocity 0, pos 12, cov 1, vel 2
    ∷ coordinate f1 (0x4018_0000_0000_0000 ∷ 0x3fe0_0000_0000_0000 ∷ 0x4008_0000_0000_0000 ∷ 0x3fd0_0000_0000_0000 ∷ 0x3fff_0000_0000_0000 ∷ [])
    ∷ coordinate f0 (0 ∷ 0 ∷ 0x4028_0000_0000_0000 ∷ 0x3ff0_0000_0000_0000 ∷ 0x4000_0000_0000_0000 ∷ [])
    -- counter 20; after predict and a hit, 15
    ∷ counter opened (0 ∷ 20 ∷ [])
    ∷ counter predicted_and_hit (0 ∷ 15 ∷ [])
    ∷ []
