-- Rule 75, step 3: its entry is fair.
use mathlib.Core.Path.{◌≡◌, refl, ◌∙◌}
use mathlib.Core.List.{List, []}
use Prim.Native.Nat.{ℕ, ◌≤◌}
use native.Mathlib.Omega.{arith}
use lib.Ieee.{Float}
use lib.ListN.{length}
use Rattle.laws.specs.Lists.{times}
use Rattle.table.specs.declared.Table.{Table}
use Rattle.table.specs.Slots.{records_back, table_names}
use Rattle.table.proofs.SlotLaws.{records_length}
use Rattle.reid.specs.Step.{slots_merged, slots_staying, reid_table, absorbed, absorbed_names}
use Rattle.ledger.specs.History.{absorbed_by}
use Rattle.reid.proofs.Composing.{merged_length}
use Rattle.reid.proofs.StepLaws.{fair, staying_initializing, records_fall, opened_stay, permanent_stay, global_stay, initializing_stay}
use Rattle.ledger.proofs.Fairness.{Ordered, within, Fairly, who_left, fairly_letting}

module _ (t : Table) (s ds : List Float) (o : Ordered t) where
  fewer : length (slots_staying t s ds) ≤ t.counts.records
  unfolding reid_table
  fewer = omega (arith, records_fall t s ds)

  -- the records merged stand in the array, and those that stay over them
  long : length (reid_table t s ds).records ≡ 64
  unfolding reid_table
  long =
      let first = records_length (slots_merged t s ds) t.records (omega (arith, merged_length t s ds, within o)) in
      records_length (slots_staying t s ds) (records_back (slots_merged t s ds) t.records) (omega (arith, fewer, within o, first)) ∙ first ∙ o.long

  ordered : Ordered (reid_table t s ds)
  unfolding reid_table times
  ordered = record { long = long; fit = omega (arith, fewer, o.fit); apart = λ x. omega arith }

  pub fairly_merged : (active : List ℕ) → Fairly t (absorbed_by t (reid_table t s ds) (absorbed t s ds) active) (reid_table t s ds)
  unfolding times
  fairly_merged active =
      fairly_letting 3 t (reid_table t s ds) [] (absorbed t s ds) active
      ordered
      (initializing_stay t s ds)
      (permanent_stay t s ds)
      (opened_stay t s ds)
      (global_stay t s ds)
      (λ x. omega (arith, fair t s ds (within o) x))
      (λ w. omega (arith, staying_initializing t s ds (within o) w))
      (λ once x. refl)
      (who_left (table_names t) (table_names (reid_table t s ds)) (absorbed_names (absorbed t s ds)) (fair t s ds (within o)))
