-- Rules 14 and 60 to 65: step 3 keeps a table sound.
use mathlib.Core.Path.{refl, ◌∙◌}
use mathlib.Core.Bool.{not}
use mathlib.Core.List.{List}
use Prim.Native.Nat.{ℕ, ◌≤◌}
use native.Mathlib.Nat.{le_trans}
use native.Mathlib.Omega.{arith}
use lib.Ieee.{Float}
use lib.ListN.{length, get_or, get_or-replicate}
use Rattle.laws.specs.Lists.{holds}
use Rattle.laws.proofs.Every.{every_weaker, every_set, every_at, every_keep, every_map, every_below, every_anywhere}
use Rattle.laws.proofs.Through.{through_hold}
use Rattle.matching.specs.Greedy.{Pick, rows_of}
use Rattle.parts.specs.declared.TrackerConfig.{TrackerConfig}
use Rattle.parts.specs.Ranges.{PointsInRange}
use Rattle.table.specs.declared.Table.{Table}
use Rattle.table.specs.Making.{no_lists}
use Rattle.table.specs.Slots.{Slot, no_slot, records_back, table_slots}
use Rattle.table.proofs.Facts.{SettingsFacts}
use Rattle.table.proofs.SlotLaws.{records_length}
use Rattle.reid.specs.Step.{merge_one, merges, slots_merged, slots_staying, reid_table}
use Rattle.reid.proofs.Composing.{merged_length}
use Rattle.reid.proofs.StepLaws.{records_fall}
use Rattle.ledger.proofs.Sound.{Sound, SoundSlots, sound_settings, sound_fit, sound_most, sound_slots, sound_back}
use Rattle.ledger.proofs.SoundLists.{empty_whole, no_candidates_whole, lists_whole_lem}
use Rattle.ledger.proofs.SoundChanges.{sound_merged}

module _ (c : TrackerConfig) (facts : SettingsFacts c) (frames : ℕ) where
  -- past the end of the table no point was seen
  seen_anywhere : (l : List Slot) (i : ℕ) → SoundSlots c frames l → PointsInRange c.points (get_or l i no_slot).object.point_hit_counter
  seen_anywhere l i all =
      every_anywhere {P = λ x. PointsInRange c.points x.object.point_hit_counter} i no_slot (every_weaker (λ x h. h.points) all)
      (λ k h. rw (get_or-replicate {A = ℕ} 16 k 0 0 (omega (arith, facts.points.1))) (omega arith))

  merge_sound : (p : Pick) (l : List Slot) → SoundSlots c frames l → SoundSlots c frames (merge_one c p l)
  merge_sound p l all =
      let from = get_or l p.row no_slot in
      let old = get_or l p.col no_slot in
      every_set (λ x h. h) p.col _ no_slot all
      (sound_merged c frames from.object from.block old.object old.block facts.history (seen_anywhere l p.row all))

module _ (t : Table) (s ds : List Float) (sound : Sound t) where
  each_merged : SoundSlots t.config t.counts.frames (slots_merged t s ds)
  unfolding slots_merged
  each_merged =
      through_hold (merge_one t.config) (SoundSlots t.config t.counts.frames) (merges t ds) (table_slots t s)
      (merge_sound t.config (sound_settings sound) t.counts.frames)
      (sound_slots sound s)

  each_staying : SoundSlots t.config t.counts.frames (slots_staying t s ds)
  unfolding slots_staying
  each_staying =
      let l = slots_merged t s ds in
      every_map (λ i. get_or l i no_slot)
      (every_keep (λ i. not (holds i (rows_of (merges t ds)))) (every_below (length l) (λ i h. every_at i no_slot each_merged h)))

  staying_few : length (slots_staying t s ds) ≤ t.counts.records
  unfolding reid_table
  staying_few = omega (arith, records_fall t s ds)

  -- whatever was lent
  pub sound_reid : Sound (reid_table t s ds)
  unfolding reid_table
  sound_reid =
      let n = sound.counts in
      let more = merged_length t s ds in
      let long = records_length (slots_merged t s ds) t.records (omega (arith, more, sound_most sound)) ∙ sound.long in
      let left = length (slots_staying t s ds) in
      record {
        settings = sound.settings;
        long = records_length (slots_staying t s ds) (records_back (slots_merged t s ds) t.records) (omega (arith, long, staying_few, sound_fit sound)) ∙ long;
        counts =
            record {
              records = le_trans staying_few n.records;
              frames = n.frames;
              opened = n.opened;
              permanent = n.permanent;
              global = n.global;
              initializing = n.initializing;
            };
        objects = sound_back (slots_staying t s ds) (records_back (slots_merged t s ds) t.records) refl each_staying;
        lists = lists_whole_lem left no_lists (empty_whole left) (empty_whole left) (empty_whole left) (empty_whole left) (no_candidates_whole left);
      }
