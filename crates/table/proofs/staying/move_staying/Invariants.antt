-- The slots below i that stay have moved down.
use Rattle.std.proofs.Common.{false, get_or}
use Rattle.table.proofs.Moving.{Moved}
use Rattle.table.proofs.staying.move_staying.Given as goal

abbrev pub invariant-loop-i : goal.invariant-loop-i
invariant-loop-i l = Moved (λ i. get_or l.stays i false) l.size l.initial.kept.records l.initial.s l.i l.kept l.s
