-- After so many turns the counters lent are those of so many turns.
use Rattle.std.proofs.Common.{◌≡◌}
use Rattle.parts.specs.Points.{points_fallen}
use Rattle.parts.proofs.points.fall_points.Given as goal

abbrev pub invariant-loop-counter : goal.invariant-loop-counter
invariant-loop-counter l = l.counter-items ≡ points_fallen l.counter-index l.initial.counter-items
