-- Rules 14 and 30 to 33: step 1 keeps a table sound.
use Rattle.std.specs.Prelude.{None}
use mathlib.Core.Path.{◌≡◌, ◌∙◌}
use mathlib.Core.Bool.{Bool, true, not}
use mathlib.Core.List.{List}
use Prim.Native.Nat.{ℕ, ◌+◌, ◌≤◌}
use native.Mathlib.Nat.{le_trans}
use native.Mathlib.Omega.{arith}
use borrow.Author.Tests.{leb-false, le-ltb, not-true}
use lib.Ieee.{Float}
use lib.ListN.{length, get_or}
use Rattle.laws.specs.Lists.{below, keep}
use Rattle.laws.proofs.Counting.{kept_at_most, times_below, below_once}
use Rattle.laws.proofs.Growing.{at_most}
use Rattle.table.specs.declared.Table.{Table}
use Rattle.table.specs.Making.{zero_object}
use Rattle.table.specs.Refusals.{first_due, predict_checks}
use Rattle.table.specs.Slots.{objects_of}
use Rattle.table.specs.Wholeness.{list_whole}
use Rattle.table.proofs.Due.{none_due}
use Rattle.table.proofs.SlotLaws.{records_length}
use Rattle.predict.specs.declared.Sort.{Sort}
use Rattle.predict.specs.declared.Sort.TheVariants.{Alive, Initializing, Dead}
use Rattle.predict.specs.Step.{gone, belongs, places_of, slot_predicted, slots_kept, slots_after, predict_table}
use Rattle.predict.proofs.Dropping.{kept_most}
use Rattle.predict.proofs.Predicting.{predicted_length}
use Rattle.laws.proofs.Every.{every_map, every_kept}
use Rattle.ledger.proofs.Sound.{Sound, SoundSlots, sound_settings, sound_fit, sound_most, sound_slots, sound_back}
use Rattle.ledger.proofs.SoundLists.{Distinct, list_whole_lem, empty_whole, no_candidates_whole, lists_whole_lem}
use Rattle.ledger.proofs.SoundChanges.{sound_predicted}

-- of the numbers below n those that pass a test
kept_distinct : (p : ℕ → Bool) (n : ℕ) → n ≤ 64 → Distinct 64 n (keep p (below n))
kept_distinct p n h =
    record {
      few = le_trans (at_most p n) h;
      once = λ x. le_trans (kept_at_most x p (below n)) (below_once x n);
      inside = λ x past. omega (arith, kept_at_most x p (below n), rw (le-ltb x n past) at (times_below x n));
    }

module _ (t : Table) (s : List Float) (sound : Sound t) where
  kept_few : length (slots_kept t s) ≤ t.counts.records
  kept_few = kept_most t.config t.records s t.counts.records

  each_predicted_lem : SoundSlots t.config (t.counts.frames + 1) (slots_after t s)
  each_predicted_lem =
      every_map (slot_predicted t.config)
      (every_kept (λ x. not (gone t.config x.object))
      (λ x old stays. sound_predicted t.config t.counts.frames x.object (sound_settings sound).reid (not-true _ stays) old)
      (sound_slots sound s))

  placed_whole : (sort : Sort) → list_whole (length (slots_kept t s)) (places_of t.config sort (length (slots_kept t s)) (objects_of (slots_kept t s))) ≡ true
  placed_whole sort =
      list_whole_lem (kept_distinct (λ i. belongs t.config sort (get_or (objects_of (slots_kept t s)) i zero_object)) (length (slots_kept t s)) (omega (arith, kept_few, sound_fit sound)))

  pub sound_predict : first_due (predict_checks t (length s)) ≡ None → Sound (predict_table t s)
  unfolding predict_table
  sound_predict none =
      let due = none_due (predict_checks t (length s)) none in
      let n = sound.counts in
      let same = predicted_length t.config (slots_kept t s) in
      record {
        settings = sound.settings;
        long = records_length (slots_after t s) t.records (omega (arith, same, kept_few, sound_most sound)) ∙ sound.long;
        counts =
            record {
              records = le_trans kept_few n.records;
              frames = omega (arith, leb-false 200000000 t.counts.frames due.1.1.1.0);
              opened = n.opened;
              permanent = n.permanent;
              global = n.global;
              initializing = n.initializing;
            };
        objects = sound_back (slots_after t s) t.records same each_predicted_lem;
        lists =
            lists_whole_lem (length (slots_kept t s)) _ (placed_whole Alive) (placed_whole Initializing) (placed_whole Dead)
            (empty_whole (length (slots_kept t s))) (no_candidates_whole (length (slots_kept t s)));
      }
