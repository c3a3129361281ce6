-- Rule 47: the pair list. Before the turn at i, the first i pairs are written and the rest of the list is as it was.
use Rattle.std.proofs.Common.{◌≡◌, ◌++◌, take, drop}
use Rattle.pairs.proofs.put_pairs.Given as goal

abbrev pub invariant-loop-i : goal.invariant-loop-i
invariant-loop-i l = l.list ≡ take l.i l.from ++ drop l.i l.fn.list
