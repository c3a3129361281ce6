-- Rule 2: std's test of a float, which `is_finite` answers by, is this page's.
use mathlib.Core.Path.{◌≡◌, refl}
use lib.Ieee.{Float, nan, inf, fin}
use Rattle.std.specs.Float.{float_is_finite}
use Rattle.laws.specs.Float64.{finite}

pub finite_is : (x : Float) → float_is_finite x ≡ finite x
unfolding finite float_is_finite
finite_is nan = refl
finite_is (inf s) = refl
finite_is (fin s m e) = refl
