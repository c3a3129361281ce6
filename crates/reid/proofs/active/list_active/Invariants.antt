use Rattle.reid.proofs.Listing.{Listed}
use Rattle.reid.proofs.active.list_active.Given as goal

-- in front of the lent list stand the IDs of the active ones among the records passed
abbrev pub invariant-loop-o : goal.invariant-loop-o
invariant-loop-o l = Listed l.records l.o-index l.fn.list l.list l.count
