-- Where the step's checks passed the table is whole.
use Rattle.std.proofs.Common.{arith}
use Rattle.table.specs.declared.Phase.TheVariants.{Match}
use Rattle.table.proofs.Facts.{sizes_of}
use Rattle.passes.proofs.CheckLaws.{passed}
use Rattle.passes.proofs.checks.given_refusal.Goals as goal

pub invariant_of-settings : goal.invariant_of-settings
invariant_of-settings c =
    record { sizes = sizes_of _ (passed Match c.args.t.now c.args.floats c.step_refusal.ensures c.in_ok-step_refusal.was).in_range }

pub do_lengths_fit-requires : goal.do_lengths_fit-requires
do_lengths_fit-requires c =
    let f = passed Match c.args.t.now c.args.floats c.step_refusal.ensures c.in_ok-step_refusal.was in
    (omega (arith, f.counts.records, f.settings.capacity.1), omega arith)
