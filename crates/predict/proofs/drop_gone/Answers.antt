use Rattle.std.proofs.Common.{◌∙◌, ap, not}
use native.Mathlib.Omega.{arith}
use lib.ListN.{length-set}
use Rattle.table.proofs.Reading.{read}
use Rattle.predict.specs.Step.{gone}
use Rattle.laws.proofs.Standing.{flagged_next}
use Rattle.predict.proofs.Dropping.{stays_at, flagged}
use Rattle.predict.proofs.drop_gone.Goals as goal

pub loop-i-preserved : goal.loop-i-preserved
loop-i-preserved c = (
  length-set c.loop-i.stays c.loop-i.i (not c.is_gone.result) ∙ c.loop-i.invariant.0,
  flagged_next (stays_at c.args.settings.config c.args.kept.now.records) c.loop-i.stays c.loop-i.i (omega arith)
      (ap not (c.is_gone.ensures ∙ ap (gone c.args.settings.config) (read c.args.kept.now.records c.loop-i.i (omega arith))))
      c.loop-i.invariant.1,
)

pub returns-clause-value : goal.returns-clause-value
returns-clause-value c =
    let e = flagged c.args.settings.config c.args.kept.now.records c.args.s.now c.args.kept.now.count c.loop-i.stays (λ j h. c.loop-i.invariant.1 j (omega arith)) in
    rw (c.move_staying.ensures.value, e)

pub returns-clause-s_after : goal.returns-clause-s_after
returns-clause-s_after c =
    let e = flagged c.args.settings.config c.args.kept.now.records c.args.s.now c.args.kept.now.count c.loop-i.stays (λ j h. c.loop-i.invariant.1 j (omega arith)) in
    rw (c.move_staying.ensures.s_after, e)
