-- Rules 32, 45 and 46: the point counters and the seen flags of a record.
use Rattle.std.specs.Prelude.{Bool, cond, List, ℕ, ◌+◌, ◌-◌, ◌/◌, ◌%◌, ◌^◌, min, eqb, get_or, set, Float}
use Rattle.std.specs.Int.Bits.{bit_or}
use Rattle.std.specs.Float.{nan}
use Rattle.std.specs.Float.Ieee.{lt}
use Rattle.laws.specs.Float64.{f1}
use Rattle.laws.specs.Turns.{turns}

-- whether a point's score is above the threshold; without scores as said
abbrev pub above : Bool → Float → Bool → Float → Bool
above has t without score = cond has (lt t score) without

-- the seen flags are bits of one number, point i in bit i
abbrev pub with_flag : ℕ → ℕ → ℕ
with_flag i flags = bit_or flags (2 ^ i)

abbrev pub has_flag : ℕ → ℕ → Bool
has_flag i flags = eqb (flags / 2 ^ i % 2) 1

-- each of the first n counters falls by 1 but not below 0: the difference of two naturals
unfoldable pub points_fallen : ℕ → List ℕ → List ℕ
points_fallen n l = turns (λ i r. set r i (get_or r i 0 - 1)) n l

-- a point whose score (1 where absent) is above the threshold: the smaller of counter plus period and the maximum
unfoldable pub points_hit : ℕ → Bool → Float → List Float → ℕ → ℕ → List ℕ → List ℕ
points_hit n has t scores period maximum l =
    turns (λ i r. cond (above has t (lt t f1) (get_or scores i nan)) (set r i (min (get_or r i 0 + period) maximum)) r) n l

-- the flag of each of the first n points that is above the threshold
unfoldable pub flags_set : ℕ → Bool → Float → Bool → List Float → ℕ → ℕ
flags_set n has t without scores flags = turns (λ i f. cond (above has t without (get_or scores i nan)) (with_flag i f) f) n flags
