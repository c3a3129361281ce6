-- Rule 75: what a call's entry tells of the tables before and after it, whichever call it is.
use mathlib.Core.Path.{◌≡◌, refl}
use mathlib.Core.Bool.{Bool, true, false, not, cond}
use mathlib.Core.List.{List, []}
use Prim.Native.Nat.{ℕ, ◌+◌, ◌≤◌}
use native.Mathlib.Omega.{arith}
use lib.ListN.{length}
use Rattle.laws.specs.Lists.{below, keep, holds, times, weight}
use Rattle.laws.proofs.Counting.{times-keep, held, not_held}
use Rattle.laws.proofs.Weighing.{Run, ended}
use Rattle.table.specs.declared.Table.{Table}
use Rattle.table.specs.Slots.{table_names, table_initializing}
use Rattle.passes.specs.Passes.{numbers}
use Rattle.matching_step.specs.Account.{opened_names, opened_globals, issued_numbers, issued_names}
use Rattle.reid.specs.Step.{Absorbed, absorbed_names}
use Rattle.ledger.specs.History.{Entry, letting}
use Rattle.ledger.specs.Demand.{Once, Same, Among, detections_of, hit_by, records_of, left_in}

-- the array is whole, the records counted lie in it, and no place is listed twice for the passes
pub record Ordered (t : Table) : Type 0 where
  pub long : length t.records ≡ 64
  pub fit : t.counts.records ≤ 64
  pub apart : (x : ℕ) → times x (numbers t.lists.alive) + times x (numbers t.lists.initializing) ≤ 1

pub within : {t : Table} → Ordered t → t.counts.records ≤ length t.records
within o = omega arith

-- from t to u
pub record Fairly (t : Table) (e : Entry) (u : Table) : Type 0 where
  pub ordered : Ordered u
  pub before : e.before ≡ table_names t
  pub opened_run : Run t.counts.initializing (opened_names e.opened) u.counts.initializing
  pub globals_run : Run t.counts.global (opened_globals e.opened) u.counts.global
  pub issued_run : Run t.counts.permanent (issued_numbers e.issued) u.counts.permanent
  pub opened : u.counts.opened ≡ t.counts.opened + length e.opened
  -- who was there or was opened is there, dropped or absorbed
  pub placed : (x : ℕ)
      → times x (table_names u) + times x e.dropped + times x (absorbed_names e.absorbed) ≡ times x (table_names t) + times x (opened_names e.opened)
  -- who stops to initialize is issued a permanent ID, or leaves
  pub moved : (w : ℕ → ℕ)
      → weight w (table_initializing u) + weight w (issued_names e.issued) ≤ weight w (table_initializing t) + weight w (opened_names e.opened)
  pub detections : Same (detections_of e) (below e.detections)
  pub records : Among (records_of e) (table_names u)
  pub hit : Among (hit_by e) e.before
  -- of a table that names nobody twice
  pub dropped : Once e.before → Same e.dropped (left_in 1 e)
  pub absorbed : Once e.before → Same (absorbed_names e.absorbed) (left_in 3 e)

-- ---- a call that only lets records go

-- who left is who is there no more
pub who_left : (before now left : List ℕ) → ((x : ℕ) → times x before ≡ times x now + times x left) → Once before
    → Same left (keep (λ x. not (holds x now)) before)
who_left before now left all once x = rw (times-keep x (λ y. not (holds y now)) before) (go (holds x now) refl)
  where
    go : (b : Bool) → holds x now ≡ b → times x left ≡ cond (not b) (times x before) 0
    go true h = omega (arith, all x, once x, held x now h)
    go false h = omega (arith, all x, not_held x now h)

module _ (step : ℕ) (t u : Table) (dropped : List ℕ) (absorbed : List Absorbed) (active : List ℕ) where
  pub fairly_letting : Ordered u
      → u.counts.initializing ≡ t.counts.initializing → u.counts.permanent ≡ t.counts.permanent
      → u.counts.opened ≡ t.counts.opened → u.counts.global ≡ t.counts.global
      → ((x : ℕ) → times x (table_names t) ≡ times x (table_names u) + (times x dropped + times x (absorbed_names absorbed)))
      → ((w : ℕ → ℕ) → weight w (table_initializing u) ≤ weight w (table_initializing t))
      → (Once (table_names t) → Same dropped (left_in 1 (letting step t u dropped absorbed active)))
      → (Once (table_names t) → Same (absorbed_names absorbed) (left_in 3 (letting step t u dropped absorbed active)))
      → Fairly t (letting step t u dropped absorbed active) u
  unfolding below times weight
  fairly_letting ordered initializing permanent opened global placed lighter left-1 left-3 =
      record {
        ordered = ordered;
        before = refl;
        opened_run = rw initializing ended;
        globals_run = rw global ended;
        issued_run = rw permanent ended;
        opened = omega arith;
        placed = λ x. omega (arith, placed x);
        moved = λ w. omega (arith, lighter w);
        detections = λ x. refl;
        records = λ x. omega arith;
        hit = λ x. omega arith;
        dropped = left-1;
        absorbed = left-3;
      }

-- a call that does nothing
pub fairly_still : (t : Table) → Ordered t → Fairly t (letting 0 t t [] [] []) t
unfolding times
fairly_still t ordered =
    fairly_letting 0 t t [] [] [] ordered refl refl refl refl (λ x. omega arith) (λ w. omega arith) (λ once x. refl) (λ once x. refl)
