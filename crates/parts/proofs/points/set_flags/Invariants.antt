-- After i turns the flags are those of i turns.
use Rattle.std.proofs.Common.{◌≡◌}
use Rattle.parts.specs.Points.{flags_set}
use Rattle.parts.proofs.points.set_flags.Given as goal

abbrev pub invariant-loop-i : goal.invariant-loop-i
invariant-loop-i l = l.flags ≡ flags_set l.i l.d.has_scores l.threshold l.without l.d.scores.now l.fn.flags
