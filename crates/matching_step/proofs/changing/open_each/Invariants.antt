-- At turn i the first i leftovers are opened, and their slots put back.
use Rattle.std.proofs.Common.{take}
use Rattle.passes.specs.Checks.{lent_frame}
use Rattle.passes.specs.Passes.{numbers}
use Rattle.matching_step.proofs.Opening.{opens}
use Rattle.matching_step.proofs.PutBack.{found, Put}
use Rattle.matching_step.proofs.changing.open_each.Given as goal

abbrev pub invariant-loop-d : goal.invariant-loop-d
invariant-loop-d l =
    let c = l.settings.config in
    Put c l.initial.stepped.records l.initial.s
    (opens c (lent_frame l.f) l.initial.s (take l.d-index (numbers l.left)) (found c l.initial.stepped.records l.initial.s l.initial.stepped.counts)) l.stepped.records l.stepped.counts l.s
