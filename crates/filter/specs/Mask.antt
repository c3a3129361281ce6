-- Rule 54: which points of a detection are masked, and the d of a coordinate.
use Rattle.std.specs.Prelude.{Bool, not, ◌&&◌, cond, List, Float}
use Rattle.std.specs.Float.Ieee.{lt, le}
use Rattle.laws.specs.Lists.{any}
use Rattle.laws.specs.Float64.{f0, f1}

-- some score is at most the threshold
abbrev pub some_at_most : Float → List Float → Bool
some_at_most t scores = any (λ s. le s t) scores

-- a mask exists only with scores present and some score at most the detection threshold
unfoldable pub mask_exists : Bool → Float → List Float → Bool
mask_exists has t scores = has && some_at_most t scores

-- a point is masked if a mask exists and the point's score is not above the threshold
abbrev pub masked : Bool → Float → Float → Bool
masked mask t score = mask && not (lt t score)

-- d is 0 for a masked point, else 1
abbrev pub observed : Bool → Float → Float → Float
observed mask t score = cond (masked mask t score) f0 f1
