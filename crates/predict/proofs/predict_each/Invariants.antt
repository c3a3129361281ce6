-- In front stand the records below i, predicted, with their blocks, and behind them what was there.
use Rattle.std.proofs.Common.{◌≡◌}
use Rattle.parts.specs.Layout.{block_size}
use Rattle.table.specs.Slots.{slots, records_back, floats_back}
use Rattle.predict.specs.Step.{each_predicted}
use Rattle.predict.proofs.predict_each.Given as goal

abbrev pub invariant-loop-i : goal.invariant-loop-i
invariant-loop-i l =
    let c = l.settings.config in
    let done = each_predicted c (slots (block_size c) l.initial.records l.initial.s l.i) in
    (l.records ≡ records_back done l.initial.records) × (l.s ≡ floats_back (block_size c) done l.initial.s)
