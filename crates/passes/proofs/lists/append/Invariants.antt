-- The struct lists the front and the first of the list.
use Rattle.std.proofs.Common.{◌≡◌, ◌++◌, take}
use Rattle.matching.specs.Unmatched.{numbers_of}
use Rattle.passes.specs.Passes.{numbers}
use Rattle.passes.proofs.lists.append.Given as goal

abbrev pub invariant-loop-x : goal.invariant-loop-x
invariant-loop-x l = l.front ≡ numbers_of (numbers l.fn.front ++ take l.x-index l.list)
