use Rattle.std.proofs.Common.{sym, ◌∙◌, arith}
use Rattle.reid.proofs.Places.{asked_few}
use Rattle.reid.proofs.checks.reid_refusal.Goals as goal

-- a table that passed the step's checks is whole, and its lists are short
pub overflow_mul-candidates_met : goal.overflow_mul-candidates_met
overflow_mul-candidates_met c =
    let few = asked_few c.args.t.now c.args.floats c.candidates_met.ensures (sym c.step_refusal.ensures ∙ c.in_ok-step_refusal.was) in
    record { fits = omega arith }
