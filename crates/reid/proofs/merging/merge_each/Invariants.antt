use Rattle.matching.proofs.Picked.{first_picks}
use Rattle.parts.specs.Layout.{block_size}
use Rattle.table.specs.Slots.{slots}
use Rattle.reid.specs.Step.{merge_all}
use Rattle.reid.proofs.Absorbing.{Put}
use Rattle.reid.proofs.merging.merge_each.Given as goal

-- the slots after the first i merges are put back
abbrev pub invariant-loop-i : goal.invariant-loop-i
invariant-loop-i l =
    let c = l.settings.config in
    Put c l.n l.fn.records l.fn.s (merge_all c (first_picks l.places l.i) (slots (block_size c) l.fn.records l.fn.s l.n)) l.records l.s
