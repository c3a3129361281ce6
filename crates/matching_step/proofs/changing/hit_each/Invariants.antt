-- At turn i the first i picks are hit, and their slots put back.
use Rattle.passes.specs.Checks.{lent_frame}
use Rattle.matching_step.proofs.PutBack.{Put}
use Rattle.matching_step.proofs.HitLoop.{passed}
use Rattle.matching_step.proofs.changing.hit_each.Given as goal

abbrev pub invariant-loop-i : goal.invariant-loop-i
invariant-loop-i l =
    Put l.settings.config l.initial.stepped.records l.initial.s
    (passed l.settings.config (lent_frame l.f) l.picks l.initial.stepped.counts l.initial.stepped.records l.initial.s l.i) l.stepped.records l.stepped.counts l.s
