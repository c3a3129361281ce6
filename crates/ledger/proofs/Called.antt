-- Rule 75: whatever the call, and whether it is accepted or refused, its entry is fair; so every sequence of calls from a fresh tracker is counted.
use Rattle.std.specs.Prelude.{None}
use mathlib.Core.Path.{◌≡◌, refl}
use mathlib.Core.List.{List, []}
use native.Mathlib.Omega.{arith}
use lib.Ieee.{Float}
use lib.ListN.{length}
use Rattle.laws.specs.Every.{none}
use Rattle.laws.specs.Lists.{keep, times, weight}
use Rattle.laws.proofs.Weighing.{ended}
use Rattle.laws.proofs.Through.{through_hold}
use Rattle.parts.specs.declared.TrackerConfig.{TrackerConfig}
use Rattle.table.specs.Making.{settled, fresh_table, made}
use Rattle.table.proofs.MakingLaws.{accepted_fresh}
use Rattle.matching_step.specs.Step.{listed_pairs}
use Rattle.tracker.specs.Calls.{listed_active}
use Rattle.ledger.specs.History.{Call, predict, match, reid, total, current, World, after, refusal_of, did, entry_of, Day, goes_on, fresh, day_of}
use Rattle.ledger.specs.Demand.{gather, entries}
use Rattle.ledger.proofs.Calling.{done, called}
use Rattle.ledger.proofs.Entries.{entries_on}
use Rattle.ledger.proofs.Fairness.{Ordered, Fairly, fairly_still}
use Rattle.ledger.proofs.Predicted.{fairly_predicted}
use Rattle.ledger.proofs.Matched.{fairly_matched}
use Rattle.ledger.proofs.Merged.{fairly_merged}
use Rattle.ledger.proofs.Counted.{Counted, counted_on}

-- ---- one call

fairly_did : (call : Call) (w : World) → Ordered w.table → refusal_of call w ≡ None → Fairly w.table (did call w (done call w)) (done call w).table
fairly_did predict w o accepted = fairly_predicted w.table w.storage o
fairly_did (match n f l) w o accepted =
    fairly_matched w.table w.storage n f o (length l) accepted (listed_pairs w.table w.storage n f (length l))
fairly_did (reid ds l) w o accepted = fairly_merged w.table w.storage ds o (listed_active w.table w.storage ds (length l))
fairly_did total w o accepted = fairly_still w.table o
fairly_did current w o accepted = fairly_still w.table o

pub fairly_called : (call : Call) (w : World) → Ordered w.table → Fairly w.table (entry_of call w) (after call w).table
fairly_called call w o = called (λ e u. Fairly w.table e u.table) call w (fairly_still w.table o) (fairly_did call w o)

-- ---- a day

abbrev pub Kept : Day → Type 0
Kept d = Counted (entries d) d.world.table

pub kept_on : (call : Call) (d : Day) → Kept d → Kept (goes_on call d)
unfolding goes_on
kept_on call d k = rw (entries_on call d) (counted_on k (fairly_called call d.world k.ordered))

fresh_counted : (c : TrackerConfig) → Counted [] (fresh_table c)
unfolding gather keep times weight
fresh_counted c =
    record {
      ordered = record { long = refl; fit = omega arith; apart = λ x. omega arith };
      opened_run = ended;
      globals_run = ended;
      issued_run = ended;
      opened_count = refl;
      placed = λ x. refl;
      weighed = λ w. omega arith;
      detections = none;
      records = none;
      hit = none;
      known = none;
      dropped = none;
      absorbed = none;
    }

module _ (c : TrackerConfig) (s : List Float) (made-well : (made c (length s)).refusal ≡ None) where
  fresh_kept : Kept (fresh c s)
  unfolding gather
  fresh_kept = rw (accepted_fresh c (length s) made-well) (fresh_counted (settled c))

  pub counted : (calls : List Call) → Kept (day_of c s calls)
  unfolding day_of
  counted calls = through_hold goes_on Kept calls (fresh c s) kept_on fresh_kept
