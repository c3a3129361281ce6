-- Behind the pairs in front stand those of the picks below i.
use Rattle.std.proofs.Common.{◌≡◌, take}
use Rattle.laws.specs.Lists.{filled}
use Rattle.passes.specs.Checks.{lent_frame}
use Rattle.matching_step.specs.Step.{pair_of, no_pair}
use Rattle.matching_step.proofs.Pairing.{behind}
use Rattle.matching_step.proofs.listing.add_pairs.Given as goal

abbrev pub invariant-loop-i : goal.invariant-loop-i
invariant-loop-i l =
    l.pairs ≡ filled 32 no_pair (behind (take l.start l.fn.pairs) (pair_of l.records (lent_frame l.f) l.n l.pass) l.picks l.i)
