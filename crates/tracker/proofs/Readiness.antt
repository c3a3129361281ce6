-- Rules 11 and 14: what steps 1 and 3 have once none of their refusals is due.
use mathlib.Core.Path.{◌≡◌}
use Prim.Native.Nat.{ℕ, ◌≤◌}
use native.Mathlib.Omega.{arith}
use borrow.Author.Tests.{ltb-false, eqb-true, not-false}
use lib.ListN.{length}
use Rattle.std.specs.Prelude.{None}
use Rattle.table.specs.declared.Table.{Table}
use Rattle.table.specs.Making.{zero_object}
use Rattle.table.specs.Refusals.{first_due, storage_need, predict_checks}
use Rattle.table.proofs.Facts.{whole_facts, sizes_of, blocks_fit, object_in_range}
use Rattle.table.proofs.Due.{none_due}
use Rattle.predict.specs.Step.{Ready}
use Rattle.reid.specs.Step as reid
use Rattle.reid.specs.Step.{reid_checks}

pub ready : (t : Table) (floats : ℕ) → length t.records ≡ 64 → first_due (predict_checks t floats) ≡ None → Ready t floats
ready t floats long e =
    let due = none_due (predict_checks t floats) e in
    let f = whole_facts t (not-false _ due.0) in
    let c = t.config in
    record {
      sizes = sizes_of c f.in_range;
      fit = omega (arith, f.counts.records, f.settings.capacity.1);
      room = blocks_fit c f.counts.records (ltb-false floats (storage_need c) due.1.0);
      ranges = λ i h. object_in_range c t.counts.frames _ (f.object i zero_object h (omega (arith, f.counts.records, f.settings.capacity.1))) f.counts.frames;
      frames = f.counts.frames;
    }

-- and no more records than places in the active list
pub reid_ready : (t : Table) (floats distances places : ℕ) → length t.records ≡ 64 → first_due (reid_checks t floats distances places) ≡ None
    → reid.Ready t floats distances × (t.counts.records ≤ places)
reid_ready t floats distances places long e =
    let due = none_due (reid_checks t floats distances places) e in
    let f = whole_facts t (not-false _ due.0) in
    let c = t.config in (
      record {
        sizes = sizes_of c f.in_range;
        fit = omega (arith, f.counts.records, f.settings.capacity.1);
        room = blocks_fit c f.counts.records (ltb-false floats (storage_need c) due.1.0);
        ranges = λ i h. object_in_range c t.counts.frames _ (f.object i zero_object h (omega (arith, f.counts.records, f.settings.capacity.1))) f.counts.frames;
        meets =
            record {
              lent = eqb-true distances _ (not-false _ due.1.1.1.0);
              candidates = (f.candidates.count, f.candidates.named);
              old = (f.old.count, f.old.named);
            };
      },
      omega (arith, f.counts.records, ltb-false places c.capacity due.1.1.1.1.0),
    )
