-- Rule 3: the sizes.
use Rattle.std.specs.Prelude.{Bool, true, ◌&&◌, ℕ, leb, ℤ, pos, Option, Some, None}
use Rattle.std.specs.Int.Signed.{le_z, lt_z}
use Rattle.parts.specs.declared.TrackerConfig.{TrackerConfig}

abbrev pub between : ℕ → ℕ → ℕ → Bool
between low x high = leb low x && leb x high

abbrev pub signed_between : ℤ → ℤ → ℤ → Bool
signed_between low z high = le_z low z && le_z z high

-- absent, or in the range
unfoldable pub optional_between : ℤ → Option ℤ → ℤ → Bool
optional_between low None high = true
optional_between low (Some z) high = signed_between low z high

-- the delay is below 0
abbrev pub delay_negative : TrackerConfig → Bool
delay_negative c = lt_z c.initialization_delay (pos 0)

-- the delay is at least the hit counter maximum
abbrev pub delay_too_long : TrackerConfig → Bool
delay_too_long c = le_z c.hit_counter_max c.initialization_delay

-- every other size: P 1 to 16; K 1 to 3; C 1 to 64; L 0 to 8; hit counter maximum at most 10,000; pointwise maximum 0 to 10,000;
-- ReID counter maximum absent, or 0 to 10,000
unfoldable pub settings_in_range : TrackerConfig → Bool
settings_in_range c =
    between 1 c.points 16
    && (between 1 c.dims 3
    && (between 1 c.capacity 64
    && (leb c.past_detections_length 8
    && (le_z c.hit_counter_max (pos 10000)
    && (leb c.pointwise_hit_counter_max 10000
    && optional_between (pos 0) c.reid_hit_counter_max (pos 10000))))))
