use Rattle.std.proofs.Common.{◌∙◌, sym, refl, ap, ℕ}
use native.Mathlib.Omega.{arith}
use lib.ListN.{get_or}
use Rattle.laws.specs.Lists.{below, keep}
use Rattle.laws.proofs.Growing.{at_most}
use Rattle.laws.proofs.Standing.{below_joins, below_stays}
use Rattle.table.specs.Making.{zero_object}
use Rattle.table.proofs.Reading.{read}
use Rattle.predict.specs.Step.{belongs}
use Rattle.predict.proofs.sort_out.Goals as goal
use Rattle.predict.proofs.sort_out.Goals.{then-stands_in, else-stands_in}

pub loop-i-init : goal.loop-i-init
unfolding below keep
loop-i-init c = rw c.no_numbers-places.ensures (refl, refl)

-- there is room for one place more
pub bounds-places-places : goal.bounds-places-places
bounds-places-places c =
    omega (arith, at_most (λ j. belongs c.args.config c.args.sort (get_or c.args.records.now j zero_object)) c.loop-i.i, c.loop-i.invariant.0)

pub offset_bounds-places-places : goal.offset_bounds-places-places
offset_bounds-places-places c =
    record { fits = omega (arith, at_most (λ j. belongs c.args.config c.args.sort (get_or c.args.records.now j zero_object)) c.loop-i.i, c.loop-i.invariant.0) }

pub overflow_add-places : goal.overflow_add-places
overflow_add-places c =
    record { fits = omega (arith, at_most (λ j. belongs c.args.config c.args.sort (get_or c.args.records.now j zero_object)) c.loop-i.i, c.loop-i.invariant.0) }

pub loop-i-preserved : goal.loop-i-preserved
loop-i-preserved c =
    let i = c.loop-i.i in
    let p : ℕ → _ = λ j. belongs c.args.config c.args.sort (get_or c.args.records.now j zero_object) in
    let told = sym (c.stands_in.ensures ∙ ap (belongs c.args.config c.args.sort) (read c.args.records.now i (omega arith))) in
    elim c.if-stands_in.branch [
      | then-stands_in w ↦ rw w.places-is (below_joins 64 p i (omega arith) (told ∙ w.if-stands_in.true) c.loop-i.invariant)
      | else-stands_in w ↦ rw w.places-is (below_stays 64 p i (told ∙ w.if-stands_in.false) c.loop-i.invariant)
    ]
