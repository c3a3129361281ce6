-- Rule 4: where the parts of a record's block lie.
use Rattle.std.specs.Prelude.{ℕ, ◌+◌, ◌*◌}
use Rattle.parts.specs.declared.TrackerConfig.{TrackerConfig}
use Rattle.parts.specs.declared.block.Layout.{Layout}

-- PK coordinates of a detection
abbrev pub coords : TrackerConfig → ℕ
coords c = c.points * c.dims

-- a stored detection: its coordinates and its scores
abbrev pub width : TrackerConfig → ℕ
width c = coords c + c.points

-- behind the filter's six columns the last detection, and behind it the history
abbrev pub last_place : TrackerConfig → ℕ
last_place c = 6 * coords c

abbrev pub past_place : TrackerConfig → ℕ
past_place c = last_place c + width c

-- 6PK + (L+1)(PK+P)
abbrev pub block_size : TrackerConfig → ℕ
block_size c = past_place c + c.past_detections_length * width c

abbrev pub layout_of : TrackerConfig → Layout
layout_of c = record { coords = coords c; width = width c; last_at = last_place c; past_at = past_place c; size = block_size c }
