-- Rule 75, step 1: its entry is fair, and after it no place is listed twice for the passes.
use mathlib.Core.Path.{◌≡◌, refl, sym, ◌∙◌}
use mathlib.Core.Bool.{Bool, true, false, not, ◌&&◌, and-false}
use mathlib.Core.List.{List, [], map-map}
use Prim.Native.Nat.{ℕ, ◌+◌, ◌≤◌}
use native.Mathlib.Omega.{arith}
use lib.Dec.{ltb}
use lib.IntN.{pos}
use lib.Signed.{le_z}
use lib.Ieee.{Float}
use lib.ListN.{length, get_or, drop}
use lib.Seq.{take_at}
use Rattle.laws.specs.Lists.{holds, times, weight}
use Rattle.laws.proofs.Counting.{not_held}
use Rattle.laws.proofs.Weighing.{keep-map}
use Rattle.parts.specs.declared.TrackerConfig.{TrackerConfig}
use Rattle.parts.specs.Layout.{block_size}
use Rattle.parts.specs.Life.{life_predicted}
use Rattle.tracked_object.specs.Object.{object_predicted}
use Rattle.table.specs.declared.Table.{Table}
use Rattle.table.specs.Making.{zero_object}
use Rattle.table.specs.Slots.{Slot, objects_of, table_slots, name_of, table_objects, table_names, table_initializing}
use Rattle.table.proofs.SlotLaws.{objects_length, slots_objects, records_length}
use Rattle.predict.specs.declared.Sort.TheVariants.{Alive, Initializing}
use Rattle.predict.specs.Step.{gone, slot_predicted, each_predicted, slots_kept, slots_after, predict_table, dropped}
use Rattle.predict.proofs.Dropping.{kept_most}
use Rattle.predict.proofs.Predicting.{predicted_length}
use Rattle.predict.proofs.StepLaws.{fair, listed, membership, listed_once, opened_stay, permanent_stay, global_stay, initializing_stay}
use Rattle.matching_step.proofs.AccountLaws.{initializing_names}
use Rattle.laws.proofs.Weights.{kept_lighter}
use Rattle.laws.specs.Every.{Every}
use Rattle.laws.proofs.Every.{every_keep, every_map, every_unmap}
use Rattle.reid.proofs.StepLaws.{Who, who}
use Rattle.ledger.specs.History.{dropped_by}
use Rattle.ledger.proofs.Fairness.{Ordered, within, Fairly, who_left, fairly_letting}

-- ---- who is initializing

of_slots : (t : Table) (l : List Slot) → table_objects t ≡ objects_of l → table_initializing t ≡ initializing_names l
of_slots t l e = rw e (simp (keep-map, map-map))

-- predicting renames nobody and marks nobody
names_predicted : (c : TrackerConfig) (l : List Slot) → initializing_names (each_predicted c l) ≡ initializing_names l
unfolding object_predicted life_predicted
names_predicted c l = simp (keep-map, map-map)

-- ---- the table

-- of two lists, one of the marked and one of the unmarked
in_one : (x : ℕ) (a b marked : Bool) (l m : List ℕ) → holds x l ≡ (a && (b && not marked)) → holds x m ≡ (a && marked) → times x l ≤ 1
    → times x m ≤ 1 → times x l + times x m ≤ 1
in_one x a b true l m p q once also = omega (arith, not_held x l (p ∙ rw (and-false b) (and-false a)))
in_one x a b false l m p q once also = omega (arith, not_held x m (q ∙ and-false a))

module _ (t : Table) (s : List Float) where
  one_list : (x : ℕ) → times x (listed t s Alive) + times x (listed t s Initializing) ≤ 1
  one_list x =
      let o = get_or (objects_of (slots_kept t s)) x zero_object in
      in_one x (ltb x (predict_table t s).counts.records) (le_z (pos 0) o.life.hit_counter) o.life.is_initializing
      (listed t s Alive)
      (listed t s Initializing)
      (membership t s Alive x)
      (membership t s Initializing x)
      (listed_once t s Alive x)
      (listed_once t s Initializing x)

  fewer : length (slots_kept t s) ≤ t.counts.records
  fewer = kept_most t.config t.records s t.counts.records

  pub objects_after : table_objects (predict_table t s) ≡ objects_of (slots_after t s)
  unfolding predict_table
  objects_after =
      let after = slots_after t s in
      take_at (objects_of after) (drop (length after) t.records) (length (slots_kept t s))
      (objects_length after ∙ predicted_length t.config (slots_kept t s))

  -- what is so of everyone, by IDs, initial period and mark, stays so
  pub everyone_stays : t.counts.records ≤ length t.records → (P : Who → Type 0) → Every (λ o. P (who o)) (table_objects t)
      → Every (λ o. P (who o)) (table_objects (predict_table t s))
  unfolding object_predicted life_predicted
  everyone_stays most P all =
      let before : Every (λ o. P (who o)) (objects_of (table_slots t s)) =
      rw (slots_objects (block_size t.config) t.records s t.counts.records most) all in
      rw objects_after
      (every_map (λ x. x.object)
      (every_map (slot_predicted t.config)
      (every_keep (λ x. not (gone t.config x.object)) (every_unmap (λ x. x.object) (table_slots t s) before))))

  module _ (o : Ordered t) where
    ordered : Ordered (predict_table t s)
    unfolding predict_table
    ordered =
        record {
          long = records_length (slots_after t s) t.records (omega (arith, predicted_length t.config (slots_kept t s), fewer, within o)) ∙ o.long;
          fit = omega (arith, fewer, o.fit);
          apart = one_list;
        }

    lighter : (w : ℕ → ℕ) → weight w (table_initializing (predict_table t s)) ≤ weight w (table_initializing t)
    lighter w =
        let before = slots_objects (block_size t.config) t.records s t.counts.records (within o) in
        rw (
          of_slots (predict_table t s) (slots_after t s) objects_after,
          names_predicted t.config (slots_kept t s),
          of_slots t (table_slots t s) (sym before),
        )
        (kept_lighter w (λ y. name_of y.object) (λ y. y.object.life.is_initializing) (λ y. not (gone t.config y.object)) (table_slots t s))

    pub fairly_predicted : Fairly t (dropped_by t (predict_table t s) (dropped t s)) (predict_table t s)
    unfolding times
    fairly_predicted =
        fairly_letting 1 t (predict_table t s) (dropped t s) [] []
        ordered
        (initializing_stay t s)
        (permanent_stay t s)
        (opened_stay t s)
        (global_stay t s)
        (λ x. omega (arith, fair t s (within o) x))
        lighter
        (who_left (table_names t) (table_names (predict_table t s)) (dropped t s) (fair t s (within o)))
        (λ once x. refl)
