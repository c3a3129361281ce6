-- `matching::get_unmatched`: the struct lists the unmatched numbers below i.
use mathlib.Core.Path.{◌≡◌}
use Rattle.matching.specs.Unmatched.{unmatched, numbers_of}
use Rattle.matching.proofs.get_unmatched.Given as goal

abbrev pub invariant-loop-i : goal.invariant-loop-i
invariant-loop-i l = l.left ≡ numbers_of (unmatched l.i-counter l.matched)
