use Rattle.std.proofs.Common.{◌≡◌, ◌∙◌, sym, true, false}
use native.Mathlib.Omega.{arith}
use borrow.Author.Tests.{not-true, not-false}
use Rattle.table.specs.Refusals.{first_due}
use Rattle.table.specs.Wholeness.{whole_table}
use Rattle.table.proofs.Facts.{whole_facts}
use Rattle.tracker.specs.Calls.{total_answer}
use Rattle.tracker.proofs.total_object_count.Goals as goal

pub returns-then-not-is_whole : goal.returns-then-not-is_whole
unfolding total_answer first_due
returns-then-not-is_whole c =
    let e : whole_table c.args.t ≡ false = sym c.is_whole.ensures ∙ not-true _ c.if-not-is_whole.true-raw in
    rw e

pub overflow_sub-result : goal.overflow_sub-result
overflow_sub-result c =
    let e : whole_table c.args.t ≡ true = sym c.is_whole.ensures ∙ not-false _ c.if-not-is_whole.false-raw in
    omega (arith, (whole_facts c.args.t e).counts)

pub returns : goal.returns
unfolding total_answer first_due
returns c =
    let e : whole_table c.args.t ≡ true = sym c.is_whole.ensures ∙ not-false _ c.if-not-is_whole.false-raw in
    rw e
