-- Rules 4 and 51 to 54: the filter's part of a record's block, and make, predict and update on it.
-- A block of n coordinates begins with n positions, n velocities, n position variances, n covariances, n velocity variances and n shown velocities.
use Rattle.std.specs.Prelude.{Bool, List, ℕ, ◌+◌, ◌*◌, ◌/◌, get_or, set, Float}
use Rattle.std.specs.Float.{nan}
use Rattle.laws.specs.Turns.{turns}
use Rattle.filter.specs.declared.FilterSettings.{FilterSettings}
use Rattle.filter.specs.declared.Coordinate.{Coordinate}
use Rattle.filter.specs.Coordinate.{started, predicted, updated}
use Rattle.filter.specs.Mask.{mask_exists, observed}

-- coordinate j of a block
abbrev pub coordinate_at : ℕ → ℕ → List Float → Coordinate
coordinate_at n j l =
    record {
      x = get_or l j nan;
      velocity = get_or l (n + j) nan;
      pos = get_or l (2 * n + j) nan;
      cov = get_or l (3 * n + j) nan;
      vel = get_or l (4 * n + j) nan;
      shown = get_or l (5 * n + j) nan;
    }

-- the block with c as its coordinate j
unfoldable pub with_coordinate : ℕ → ℕ → Coordinate → List Float → List Float
with_coordinate n j c l =
    set
    (set
    (set (set (set (set l j c.x) (n + j) c.velocity) (2 * n + j) c.pos) (3 * n + j) c.cov)
    (4 * n + j)
    c.vel)
    (5 * n + j)
    c.shown

-- one turn: coordinate j becomes what g makes of j and of it
abbrev pub turn : (ℕ → Coordinate → Coordinate) → ℕ → ℕ → List Float → List Float
turn g n j l = with_coordinate n j (g j (coordinate_at n j l)) l

-- every coordinate j below n becomes what g makes of j and of it
abbrev pub each : (ℕ → Coordinate → Coordinate) → ℕ → List Float → List Float
each g n l = turns (turn g n) n l

-- make: the points of a detection as positions, all else from the settings
abbrev pub start_of : FilterSettings → List Float → ℕ → Coordinate → Coordinate
start_of f z j c = started f (get_or z j nan)

abbrev pub made_block : FilterSettings → List Float → ℕ → List Float → List Float
made_block f z n l = each (start_of f z) n l

-- predict
abbrev pub predict_of : ℕ → Coordinate → Coordinate
predict_of j c = predicted c

abbrev pub predicted_block : ℕ → List Float → List Float
predicted_block n l = each predict_of n l

-- update by a detection of n / k points of k coordinates: coordinate j belongs to point j / k
abbrev pub update_of : FilterSettings → ℕ → List Float → Bool → Float → List Float → ℕ → Coordinate → Coordinate
update_of f k z mask t scores j c = updated f (get_or z j nan) (observed mask t (get_or scores (j / k) nan)) c

abbrev pub updated_block : FilterSettings → ℕ → List Float → Bool → Float → List Float → ℕ → List Float → List Float
updated_block f k z has t scores n l = each (update_of f k z (mask_exists has t scores) t scores) n l
