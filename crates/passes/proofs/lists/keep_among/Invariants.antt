-- The struct lists those of the first numbers that pass the test.
use Rattle.std.proofs.Common.{◌≡◌, take}
use Rattle.laws.specs.Lists.{keep}
use Rattle.matching.specs.Unmatched.{numbers_of}
use Rattle.passes.specs.Passes.{among}
use Rattle.passes.proofs.lists.keep_among.Given as goal

abbrev pub invariant-loop-x : goal.invariant-loop-x
invariant-loop-x l = l.kept ≡ numbers_of (keep (among l.wanted l.list) (take l.x-index l.of))
