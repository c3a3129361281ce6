use Rattle.std.proofs.Common.{◌≡◌, ◌∙◌, sym, true, false}
use native.Mathlib.Omega.{arith}
use borrow.Author.Tests.{not-true, not-false}
use Rattle.table.specs.Refusals.{first_due}
use Rattle.table.specs.Wholeness.{whole_table}
use Rattle.table.proofs.Facts.{whole_facts}
use Rattle.tracker.specs.Calls.{current_answer}
use Rattle.tracker.proofs.Listing.{counted_front}
use Rattle.tracker.proofs.current_object_count.Goals as goal

pub returns-then-not-is_whole : goal.returns-then-not-is_whole
unfolding current_answer first_due
returns-then-not-is_whole c =
    let e : whole_table c.args.t ≡ false = sym c.is_whole.ensures ∙ not-true _ c.if-not-is_whole.true-raw in
    rw e

pub shared_ref_as_front-active_count : goal.shared_ref_as_front-active_count
shared_ref_as_front-active_count c =
    let e : whole_table c.args.t ≡ true = sym c.is_whole.ensures ∙ not-false _ c.if-not-is_whole.false-raw in
    let f = whole_facts c.args.t e in
    omega (arith, f.counts.records, f.settings.capacity.1)

pub returns : goal.returns
unfolding current_answer first_due
returns c =
    let e : whole_table c.args.t ≡ true = sym c.is_whole.ensures ∙ not-false _ c.if-not-is_whole.false-raw in
    let f = whole_facts c.args.t e in
    rw (e, c.active_count-active.ensures, counted_front c.args.t.counts.records c.args.t.records (omega (arith, f.counts.records, f.settings.capacity.1)))
