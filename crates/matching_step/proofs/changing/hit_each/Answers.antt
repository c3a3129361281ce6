-- Each hit finds its record and block, and makes the next state.
use Rattle.std.proofs.Common.{arith}
use Rattle.laws.proofs.Cells.{cell_below}
use Rattle.passes.specs.Checks.{lent_frame}
use Rattle.matching_step.proofs.HitLoop.{Passing, put_first, permanent_most, object_in_range, block_inside, put_next}
use Rattle.matching_step.proofs.changing.hit_each.Goals as goal
use Rattle.matching_step.proofs.changing.hit_each.Goals.{In-loop-i}

passing : (c : In-loop-i) → Passing c.args.settings.config (lent_frame c.args.f) c.args.picks.now c.args.stepped.now.counts c.args.stepped.now.records c.args.s.now
passing c = record { fits = c.requires.0; holding = c.requires.1; all = omega arith; rows = c.requires.4; cols = c.requires.5 }

pub loop-i-init : goal.loop-i-init
loop-i-init c =
    put_first (record { fits = c.requires.0; holding = c.requires.1; all = omega arith; rows = c.requires.4; cols = c.requires.5 })

pub bounds-f-d : goal.bounds-f-d
bounds-f-d c = cell_below (c.requires.4 c.loop-i.i c.loop-i-test.true) (c.requires.5 c.loop-i.i c.loop-i-test.true) (omega (arith, c.requires.2))

pub hit_at-changed-requires : goal.hit_at-changed-requires
hit_at-changed-requires c =
    let pass = passing (goal.at.hit_at-changed-requires c).In-loop-i in (
      c.requires.0,
      c.requires.4 c.loop-i.i c.loop-i-test.true,
      object_in_range pass c.loop-i.i c.loop-i.invariant c.loop-i-test.true,
      block_inside pass c.loop-i.i c.loop-i.invariant c.loop-i-test.true,
    )

pub issue-stepped-requires : goal.issue-stepped-requires
issue-stepped-requires c =
    let pass = passing (goal.at.issue-stepped-requires c).In-loop-i in
    omega (arith, permanent_most pass c.loop-i.i c.loop-i.invariant)

pub loop-i-preserved : goal.loop-i-preserved
loop-i-preserved c =
    let pass = passing (goal.at.loop-i-preserved c).In-loop-i in
    put_next pass c.loop-i.i c.loop-i.invariant c.loop-i-test.true c.hit_at-changed.ensures.value c.hit_at-changed.ensures.s_after c.issue-stepped.ensures
