use Rattle.std.proofs.Common.{◌≡◌, length}
use Rattle.laws.proofs.Standing.{Flagged}
use Rattle.reid.proofs.Dropping.{stays}
use Rattle.reid.proofs.merging.drop_absorbed.Given as goal

-- the flags of the first i records
abbrev pub invariant-loop-i : goal.invariant-loop-i
invariant-loop-i l = (length l.stays ≡ 64) × Flagged (stays l.leaving) l.stays l.i-counter
