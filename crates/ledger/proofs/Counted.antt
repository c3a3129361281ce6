-- Rule 75: what every call keeps of the history and the table, by counting and by weight.
use mathlib.Core.Path.{◌≡◌, ◌∙◌, ap}
use mathlib.Core.List.{List, [], ◌∷◌, ◌++◌, map, map-append}
use Prim.Native.Nat.{ℕ, ◌+◌, ◌≤◌}
use native.Mathlib.Nat.{le_trans}
use native.Mathlib.Omega.{arith}
use lib.ListN.{length, length-append}
use Rattle.laws.specs.Every.{Every, none, one}
use Rattle.laws.specs.Lists.{below, times, weight}
use Rattle.laws.proofs.Counting.{times-append}
use Rattle.laws.proofs.Every.{every_append, every_weaker}
use Rattle.laws.proofs.Weighing.{weight-append, Run, run_append}
use Rattle.laws.proofs.Weights.{run_once}
use Rattle.table.specs.declared.Table.{Table}
use Rattle.table.specs.Slots.{table_names, table_initializing}
use Rattle.matching_step.specs.Account.{Opened, Issue, opened_names, opened_globals, issued_numbers, issued_names}
use Rattle.reid.specs.Step.{absorbed_names}
use Rattle.ledger.specs.History.{Entry}
use Rattle.ledger.specs.Demand.{Once, Same, Among, opened_in, dropped_in, absorbed_in, issued_in, detections_of, hit_by, records_of, left_in}
use Rattle.ledger.proofs.Entries.{gather_snoc}
use Rattle.ledger.proofs.Fairness.{Ordered, Fairly}

-- ---- the entries so far, and the table

pub record Counted (l : List Entry) (t : Table) : Type 0 where
  pub ordered : Ordered t
  -- opened and issued so far: 1, 2 and so on, up to the next
  pub opened_run : Run 1 (opened_names (opened_in l)) t.counts.initializing
  pub globals_run : Run 1 (opened_globals (opened_in l)) t.counts.global
  pub issued_run : Run 1 (issued_numbers (issued_in l)) t.counts.permanent
  pub opened_count : t.counts.opened ≡ length (opened_in l)
  pub placed : (x : ℕ)
      → times x (table_names t) + times x (dropped_in l) + times x (absorbed_names (absorbed_in l)) ≡ times x (opened_names (opened_in l))
  -- who was issued a permanent ID or still may be
  pub weighed : (w : ℕ → ℕ) → weight w (issued_names (issued_in l)) + weight w (table_initializing t) ≤ weight w (opened_names (opened_in l))
  pub detections : Every (λ e. Same (detections_of e) (below e.detections)) l
  pub records : Every (λ e. Once (records_of e)) l
  pub hit : Every (λ e. Among (hit_by e) e.before) l
  pub known : Every (λ e. Among e.before (opened_names (opened_in l))) l
  pub dropped : Every (λ e. Same e.dropped (left_in 1 e)) l
  pub absorbed : Every (λ e. Same (absorbed_names e.absorbed) (left_in 3 e)) l

-- no record stands twice in the table
pub named_once : {l : List Entry} {t : Table} → Counted l t → Once (table_names t)
named_once c x = omega (arith, c.placed x, run_once c.opened_run x)

-- ---- an entry more, if it is fair

module _ {l : List Entry} {t u : Table} {e : Entry} (c : Counted l t) (f : Fairly t e u) where
  abbrev more : List Entry
  more = l ++ (e ∷ [])

  more_opened : {B : Type 0} (g : Opened → B) → map g (opened_in more) ≡ map g (opened_in l) ++ map g e.opened
  more_opened g = ap (map g) (gather_snoc (λ e. e.opened) l e) ∙ map-append g (opened_in l) e.opened

  more_issued : {B : Type 0} (g : Issue → B) → map g (issued_in more) ≡ map g (issued_in l) ++ map g e.issued
  more_issued g = ap (map g) (gather_snoc (λ e. e.issued) l e) ∙ map-append g (issued_in l) e.issued

  more_absorbed : absorbed_names (absorbed_in more) ≡ absorbed_names (absorbed_in l) ++ absorbed_names e.absorbed
  more_absorbed = ap absorbed_names (gather_snoc (λ e. e.absorbed) l e) ∙ map-append (λ a. a.name) (absorbed_in l) e.absorbed

  run_opened : Run 1 (opened_names (opened_in more)) u.counts.initializing
  run_opened = rw (more_opened (λ o. o.name)) (run_append c.opened_run f.opened_run)

  -- what was opened stays opened
  still_opened : Among (opened_names (opened_in l)) (opened_names (opened_in more))
  still_opened x = rw (more_opened (λ o. o.name)) (omega (arith, times-append x (opened_names (opened_in l)) (opened_names e.opened)))

  placed_on : (x : ℕ)
      → times x (table_names u) + times x (dropped_in more) + times x (absorbed_names (absorbed_in more)) ≡ times x (opened_names (opened_in more))
  placed_on x =
      rw (more_opened (λ o. o.name), gather_snoc (λ e. e.dropped) l e, more_absorbed)
      (omega (
        arith,
        c.placed x,
        f.placed x,
        times-append x (opened_names (opened_in l)) (opened_names e.opened),
        times-append x (dropped_in l) e.dropped,
        times-append x (absorbed_names (absorbed_in l)) (absorbed_names e.absorbed),
      ))

  before_once : Once e.before
  before_once x = omega (arith, ap (times x) f.before, named_once c x)

  before_known : Among e.before (opened_names (opened_in more))
  before_known x = omega (arith, ap (times x) f.before, c.placed x, still_opened x)

  pub counted_on : Counted more u
  counted_on =
      record {
        ordered = f.ordered;
        opened_run = run_opened;
        globals_run = rw (more_opened (λ o. o.global_id)) (run_append c.globals_run f.globals_run);
        issued_run = rw (more_issued (λ i. i.number)) (run_append c.issued_run f.issued_run);
        opened_count = rw (gather_snoc (λ e. e.opened) l e) (omega (arith, f.opened, c.opened_count, length-append (opened_in l) e.opened));
        placed = placed_on;
        weighed =
            λ w.
            rw (more_opened (λ o. o.name), more_issued (λ i. i.name))
            (omega (
              arith,
              c.weighed w,
              f.moved w,
              weight-append w (opened_names (opened_in l)) (opened_names e.opened),
              weight-append w (issued_names (issued_in l)) (issued_names e.issued),
            ));
        detections = every_append c.detections (one f.detections none);
        records = every_append c.records (one (λ x. omega (arith, f.records x, placed_on x, run_once run_opened x)) none);
        hit = every_append c.hit (one f.hit none);
        known = every_append (every_weaker (λ e known x. le_trans (known x) (still_opened x)) c.known) (one before_known none);
        dropped = every_append c.dropped (one (f.dropped before_once) none);
        absorbed = every_append c.absorbed (one (f.absorbed before_once) none);
      }
