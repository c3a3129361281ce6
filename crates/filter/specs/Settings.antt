-- Rule 50: the filter's five settings may be any float; the defaults are r 4, q 0.1, position variance 10, covariance 0, velocity variance 1.
use Rattle.std.specs.Float.{binary64}
use Rattle.std.specs.Float.Ieee.{of_bits}
use Rattle.filter.specs.declared.FilterSettings.{FilterSettings}

-- by their bits; the third is the float nearest to 0.1
abbrev pub defaults : FilterSettings
defaults = record {
  r = of_bits binary64 0x4010_0000_0000_0000;
  q = of_bits binary64 0x3fb9_9999_9999_999a;
  pos_variance = of_bits binary64 0x4024_0000_0000_0000;
  pos_vel_covariance = of_bits binary64 0;
  vel_variance = of_bits binary64 0x3ff0_0000_0000_0000;
}
