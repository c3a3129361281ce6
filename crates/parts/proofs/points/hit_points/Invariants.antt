-- After i turns the counters are those of i turns.
use Rattle.std.proofs.Common.{◌≡◌}
use Rattle.parts.specs.Points.{points_hit}
use Rattle.parts.proofs.points.hit_points.Given as goal

abbrev pub invariant-loop-i : goal.invariant-loop-i
invariant-loop-i l = l.counters ≡ points_hit l.i l.d.has_scores l.threshold l.d.scores.now l.period l.maximum l.fn.counters
