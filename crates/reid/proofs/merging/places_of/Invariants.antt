use Rattle.std.proofs.Common.{◌≡◌}
use Rattle.reid.proofs.Places.{places_below}
use Rattle.reid.proofs.merging.places_of.Given as goal

abbrev pub invariant-loop-i : goal.invariant-loop-i
invariant-loop-i l = l.places ≡ places_below l.candidates l.old l.picks l.i
