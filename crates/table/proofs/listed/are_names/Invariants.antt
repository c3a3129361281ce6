-- The first i are names.
use Rattle.std.proofs.Common.{◌≡◌, true}
use Rattle.table.specs.Wholeness.{names_below}
use Rattle.table.proofs.listed.are_names.Given as goal

abbrev pub invariant-loop-i : goal.invariant-loop-i
invariant-loop-i l = names_below l.limit l.i l.at ≡ true
