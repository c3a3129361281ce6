-- Rules 51 to 53: one coordinate's start, predict and update, each operation rounded once, with old values on the right.
use Rattle.std.specs.Prelude.{Float}
use Rattle.laws.specs.Float64.{◌⊕◌, ◌⊖◌, ◌⊗◌, ◌⊘◌, f0, f1}
use Rattle.filter.specs.declared.FilterSettings.{FilterSettings}
use Rattle.filter.specs.declared.Coordinate.{Coordinate}

-- the detection's coordinate as position, velocities 0, variances from the settings
abbrev pub started : FilterSettings → Float → Coordinate
started f z =
    record {
      x = z;
      velocity = f0;
      pos = f.pos_variance;
      cov = f.pos_vel_covariance;
      vel = f.vel_variance;
      shown = f0;
    }

-- the position gains the velocity, the shown velocity is copied, and the variances do not move
abbrev pub predicted : Coordinate → Coordinate
predicted c =
    record {
      x = c.x ⊕ c.velocity;
      velocity = c.velocity;
      pos = c.pos;
      cov = c.cov;
      vel = c.vel;
      shown = c.velocity;
    }

-- s = cov + vel; a = (((pos + cov) + s) + q) + r; k = r / a; g = s / a; m = a(1 - d) + r d; e = (z - x) d.
-- Then x gains (d(1 - k))e; velocity gains (d g)e; pos becomes (1 - k)m; cov becomes g m; vel gains q - ((d g)g)a.
abbrev pub updated : FilterSettings → Float → Float → Coordinate → Coordinate
updated f z d c =
    let s = c.cov ⊕ c.vel in
    let a = (((c.pos ⊕ c.cov) ⊕ s) ⊕ f.q) ⊕ f.r in
    let k = f.r ⊘ a in
    let g = s ⊘ a in
    let m = (a ⊗ (f1 ⊖ d)) ⊕ (f.r ⊗ d) in
    let e = (z ⊖ c.x) ⊗ d in
    record {
      x = c.x ⊕ ((d ⊗ (f1 ⊖ k)) ⊗ e);
      velocity = c.velocity ⊕ ((d ⊗ g) ⊗ e);
      pos = (f1 ⊖ k) ⊗ m;
      cov = g ⊗ m;
      vel = c.vel ⊕ (f.q ⊖ (((d ⊗ g) ⊗ g) ⊗ a));
      shown = c.shown;
    }
