-- The flags hold the first places as said.
use Rattle.std.proofs.Common.{◌≡◌, take}
use Rattle.passes.specs.Passes.{flagged}
use Rattle.passes.proofs.flags_at.Given as goal

abbrev pub invariant-loop-place : goal.invariant-loop-place
invariant-loop-place g l = l.flags ≡ flagged g.row.N l.flag (take l.place-index l.places)
