-- Rule 75: demand 3 of what is counted: all of it but the total by counting alone, and the total of a whole table.
use Rattle.std.specs.Prelude.{None, Ok}
use mathlib.Core.Path.{◌≡◌}
use mathlib.Core.Bool.{true}
use mathlib.Core.List.{List, ◌++◌}
use Prim.Native.Nat.{◌+◌, ◌-◌, ◌≤◌}
use native.Mathlib.Omega.{arith}
use lib.Ieee.{Float}
use lib.ListN.{length, length-map}
use Rattle.laws.specs.Lists.{up_from}
use Rattle.laws.proofs.Counting.{times-append}
use Rattle.laws.proofs.Weighing.{run_up, run_end}
use Rattle.laws.proofs.Weights.{mark, weight_mark, weight-one, run_once}
use Rattle.parts.specs.declared.TrackerConfig.{TrackerConfig}
use Rattle.table.specs.declared.Table.{Table}
use Rattle.table.specs.Making.{made}
use Rattle.table.specs.Refusals.{first_due}
use Rattle.table.specs.Slots.{table_names, table_initializing}
use Rattle.table.specs.Wholeness.{whole_table}
use Rattle.matching_step.specs.Account.{opened_names, issued_numbers, issued_names}
use Rattle.reid.specs.Step.{absorbed_names}
use Rattle.tracker.specs.Calls.{total_answer}
use Rattle.ledger.specs.History.{Call, Entry, Day, day_of}
use Rattle.ledger.specs.Demand.{Same, Among, opened_in, dropped_in, absorbed_in, issued_in, Demand}
use Rattle.ledger.proofs.Counted.{Counted}
use Rattle.ledger.proofs.Called.{Kept, counted}

module _ {l : List Entry} {t : Table} (c : Counted l t) where
  -- ---- the counts of the table

  pub opened_are : opened_names (opened_in l) ≡ up_from 1 t.counts.opened
  opened_are = rw c.opened_count (rw length-map at (run_up c.opened_run))

  pub initializing_next : t.counts.initializing ≡ t.counts.opened + 1
  initializing_next = omega (arith, run_end c.opened_run, c.opened_count, length-map (opened_in l) (λ o. o.name))

  pub permanent_next : t.counts.permanent ≡ length (issued_in l) + 1
  permanent_next = omega (arith, run_end c.issued_run, length-map (issued_in l) (λ i. i.number))

  -- ---- the permanent IDs

  pub issued_are : issued_numbers (issued_in l) ≡ up_from 1 (length (issued_in l))
  issued_are = rw length-map at (run_up c.issued_run)

  pub holders : Among (issued_names (issued_in l)) (opened_names (opened_in l))
  holders x = omega (arith, c.weighed (mark x), weight_mark x (issued_names (issued_in l)), weight_mark x (opened_names (opened_in l)))

  -- no more are issued than opened, those that wait among them
  pub issued_few : length (issued_in l) + length (table_initializing t) ≤ t.counts.opened
  issued_few =
      omega (
        arith,
        c.weighed (λ y. 1),
        c.opened_count,
        weight-one (issued_names (issued_in l)),
        weight-one (table_initializing t),
        weight-one (opened_names (opened_in l)),
        length-map (opened_in l) (λ o. o.name),
        length-map (issued_in l) (λ i. i.name),
      )

  pub permanent_most : t.counts.permanent ≤ t.counts.opened + 1
  permanent_most = omega (arith, permanent_next, issued_few)

  pub total_is : whole_table t ≡ true → total_answer t ≡ Ok (length (issued_in l))
  unfolding total_answer first_due
  total_is whole =
      let less : t.counts.permanent - 1 ≡ length (issued_in l) = omega (arith, permanent_next) in
      rw (whole, less)

  -- ---- where everyone is

  placed_whole : Same (table_names t ++ (dropped_in l ++ absorbed_names (absorbed_in l))) (opened_names (opened_in l))
  placed_whole x =
      let dropped = dropped_in l in
      let absorbed = absorbed_names (absorbed_in l) in
      omega (arith, c.placed x, times-append x (table_names t) (dropped ++ absorbed), times-append x dropped absorbed)

-- ---- demand 3, of a day whose table is whole

pub demanded : (d : Day) → Kept d → whole_table d.world.table ≡ true → Demand d
demanded d k whole =
    record {
      detections = k.detections;
      records = k.records;
      hit = k.hit;
      known = k.known;
      opened = run_once k.opened_run;
      placed = placed_whole k;
      dropped = k.dropped;
      absorbed = k.absorbed;
      numbers = issued_are k;
      holders = λ x. omega (arith, holders k x, run_once k.opened_run x);
      holders_opened = holders k;
      total = total_is k whole;
    }

-- ---- any sequence of calls from a fresh tracker

module _ (c : TrackerConfig) (s : List Float) (made-well : (made c (length s)).refusal ≡ None) (calls : List Call) where
  pub permanent_few : (day_of c s calls).world.table.counts.permanent ≤ (day_of c s calls).world.table.counts.opened + 1
  permanent_few = permanent_most (counted c s made-well calls)

  pub demand_3 : whole_table (day_of c s calls).world.table ≡ true → Demand (day_of c s calls)
  demand_3 = demanded (day_of c s calls) (counted c s made-well calls)
