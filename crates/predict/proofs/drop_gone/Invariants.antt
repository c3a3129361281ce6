-- The flags below i are of who stays.
use Rattle.std.proofs.Common.{◌≡◌, length}
use Rattle.laws.proofs.Standing.{Flagged}
use Rattle.predict.proofs.Dropping.{stays_at}
use Rattle.predict.proofs.drop_gone.Given as goal

abbrev pub invariant-loop-i : goal.invariant-loop-i
invariant-loop-i l = (length l.stays ≡ 64) × Flagged (stays_at l.settings.config l.kept.records) l.stays l.i
