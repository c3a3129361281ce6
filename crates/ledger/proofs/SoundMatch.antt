-- Rules 14 and 43 to 48: step 2 keeps a table sound, as long as no more permanent IDs are issued than records were opened.
use Rattle.std.specs.Prelude.{None}
use mathlib.Core.Path.{◌≡◌, refl, ◌∙◌}
use mathlib.Core.Bool.{true, false}
use mathlib.Core.List.{List, [], ◌∷◌}
use Prim.Native.Nat.{ℕ, ◌+◌, ◌≤◌}
use native.Mathlib.Nat.{le_trans}
use native.Mathlib.Omega.{arith}
use borrow.Author.Tests.{leb-true, ltb-false, not-false}
use lib.Dec.{leb}
use lib.Ieee.{Float}
use lib.IntN.{pos}
use lib.ListN.{length, get_or, length-map}
use lib.Signed.{le_z}
use Rattle.laws.specs.Every.{none, one}
use Rattle.laws.specs.Turns.{through}
use Rattle.laws.proofs.Every.{every_append, every_set, every_map}
use Rattle.laws.proofs.Through.{through_hold}
use Rattle.matching.specs.Greedy.{Pick, rows_of, cols_of}
use Rattle.matching.proofs.Taken.{taken_once, past_not_taken}
use Rattle.parts.specs.declared.TrackerConfig.{TrackerConfig}
use Rattle.table.specs.declared.Table.{Table}
use Rattle.table.specs.Ranges.{delay_negative}
use Rattle.table.specs.Slots.{no_slot}
use Rattle.table.specs.Wholeness.{lists_whole}
use Rattle.table.proofs.Chain.{parts}
use Rattle.table.proofs.Due.{none_due}
use Rattle.table.proofs.Facts.{SettingsFacts, settings_whole_lem}
use Rattle.table.proofs.SlotLaws.{records_length}
use Rattle.passes.specs.Checks.{Frame, match_checks}
use Rattle.passes.specs.Passes.{numbers, old_ones}
use Rattle.passes.proofs.PassLaws.{second_passed, old_once, old_below, old_few}
use Rattle.matching_step.specs.Step.{State, lent_detection, distance_of, hit_one, open_one, matrix_of, first_hits, second_hits, to_open, start, after_first, after_second, after_opening, match_table, match_refusal}
use Rattle.matching_step.proofs.AccountLaws.{opened_length, slots_after_lem, frames_stay, records_after, opened_after, initializing_after, global_after, permanent_after, objects_after}
use Rattle.matching_step.proofs.Deciding.{few_hits}
use Rattle.matching_step.proofs.Readiness.{ready}
use Rattle.ledger.proofs.Sound.{Sound, SoundSlots, sound_settings, sound_fit, sound_slots}
use Rattle.ledger.proofs.SoundLists.{Distinct, list_whole_lem, empty_whole, lists_whole_lem}
use Rattle.ledger.proofs.SoundChanges.{sound_hit, sound_opened}

-- ---- what the step has of its checks

record Checked (t : Table) (detections : ℕ) (f : Frame) : Type 0 where
  some : 1 ≤ f.period
  often : f.period ≤ 1000
  room : t.counts.records + length (to_open t detections f) ≤ t.config.capacity
  numbers : t.counts.opened + length (to_open t detections f) ≤ 2000000000

checked : (t : Table) (s : List Float) (detections : ℕ) (f : Frame) (places : ℕ) → match_refusal t s detections f places ≡ None → Checked t detections f
checked t s detections f places none_is =
    let more = length (to_open t detections f) in
    let due =
    none_due (match_checks t (length s) detections f places more) none_is in
    let period = parts (leb 1 f.period) (leb f.period 1000 ∷ []) (not-false _ due.1.1.1.0) in
    record {
      some = leb-true 1 f.period period.0;
      often = leb-true f.period 1000 period.1;
      room = ltb-false t.config.capacity (t.counts.records + more) due.1.1.1.1.1.1.1.1.0;
      numbers = ltb-false 2000000000 (t.counts.opened + more) due.1.1.1.1.1.1.1.1.1.0;
    }

-- ---- the records

module _ (c : TrackerConfig) (f : Frame) (frames : ℕ) where
  hits_sound : SettingsFacts c → le_z (pos 0) c.hit_counter_max ≡ true → delay_negative c ≡ false
      → (n : ℕ) (l : List Pick) (st : State) → SoundSlots c frames st.slots → SoundSlots c frames (through (hit_one c f n) l st).slots
  hits_sound facts from delayed n l st =
      through_hold (hit_one c f n) (λ now. SoundSlots c frames now.slots) l st
      (λ p now all.
      every_set (λ x h. h) p.col _ no_slot all
      (sound_hit c frames (lent_detection c f p.row) f.period (distance_of f n p) now.counts.permanent (get_or now.slots p.col no_slot).object facts from delayed))

  opens_sound : c.points ≤ 16 → 1 ≤ f.period → f.period ≤ 1000 → (s : List Float) (l : List ℕ) (st : State) → SoundSlots c frames st.slots
      → SoundSlots c frames (through (open_one c f s) l st).slots
  opens_sound few some often s l st =
      through_hold (open_one c f s) (λ now. SoundSlots c frames now.slots) l st
      (λ d now all.
      every_append all
      (one (sound_opened c frames (lent_detection c f d) f.period now.counts.global now.counts.initializing now.counts.permanent few some often) none))

-- ---- the step

module _ (t : Table) (s : List Float) (detections : ℕ) (f : Frame) (places : ℕ) (sound : Sound t) (none_is : match_refusal t s detections f places ≡ None) where
  passed : Checked t detections f
  passed = checked t s detections f places none_is

  each_after : SoundSlots t.config t.counts.frames (after_opening t s detections f).slots
  unfolding after_first after_second after_opening
  each_after =
      let c = t.config in
      let from = (ready t s detections f places sound.long none_is).holding.from in
      let delayed = (settings_whole_lem c sound.settings).1 in
      let hit = hits_sound c f t.counts.frames (sound_settings sound) from delayed t.counts.records in
      opens_sound c f t.counts.frames (sound_settings sound).points.1 passed.some passed.often s (to_open t detections f) (after_second t s detections f)
      (hit (second_hits t detections f) (after_first t s detections f)
      (hit (first_hits t detections f) (start t s) (sound_slots sound s)))

  -- ---- the lists: of records that were in the table before

  old_distinct : {n : ℕ} → t.counts.records ≤ n
      → Distinct 64 n (old_ones t.counts.records (numbers t.lists.alive) (numbers t.lists.dead) (cols_of (first_hits t detections f)))
  old_distinct h =
      let alive = numbers t.lists.alive in
      let dead = numbers t.lists.dead in
      let hit = cols_of (first_hits t detections f) in
      let once = (ready t s detections f places sound.long none_is).dead.1 in
      record {
        few = le_trans (old_few t.counts.records alive dead hit once) (sound_fit sound);
        once = old_once t.counts.records alive dead hit once;
        inside = λ x past. old_below t.counts.records alive dead hit once x (le_trans h past);
      }

  candidates_distinct : {n : ℕ} → t.counts.records ≤ n → Distinct 32 n (cols_of (second_hits t detections f))
  unfolding second_hits
  candidates_distinct h =
      let taken = (second_passed (matrix_of t detections f) (numbers t.lists.initializing) (rows_of (first_hits t detections f))).cols in
      record {
        few =
            omega (
              arith,
              length-map (second_hits t detections f) (λ p. p.col),
              few_hits t detections f,
              (ready t s detections f places sound.long none_is).decidable.few,
            );
        once = taken_once taken;
        inside = λ x past. past_not_taken taken x (le_trans h past);
      }

  more : t.counts.records ≤ (match_table t s detections f).counts.records
  more = omega (arith, records_after t s detections f)

  lists_sound : lists_whole (match_table t s detections f).counts.records (match_table t s detections f).lists ≡ true
  unfolding match_table
  lists_sound =
      let n = (match_table t s detections f).counts.records in
      lists_whole_lem n (match_table t s detections f).lists (empty_whole n) (empty_whole n) (empty_whole n)
      (list_whole_lem (old_distinct more)) (list_whole_lem (candidates_distinct more))

  long_after : length (match_table t s detections f).records ≡ 64
  unfolding match_table
  long_after =
      let room = passed.room in
      records_length (after_opening t s detections f).slots t.records
      (omega (arith, slots_after_lem t s detections f, opened_length t s detections f, room, (sound_settings sound).capacity.1, sound.long))
      ∙ sound.long

  settings_stay : (match_table t s detections f).config ≡ t.config
  unfolding match_table
  settings_stay = refl

  pub sound_match : (match_table t s detections f).counts.permanent ≤ (match_table t s detections f).counts.opened + 1 → Sound (match_table t s detections f)
  sound_match issued =
      let n = sound.counts in
      let many = opened_length t s detections f in
      let opened = opened_after t s detections f in
      record {
        settings = rw settings_stay sound.settings;
        long = long_after;
        counts =
            record {
              records = rw settings_stay (omega (arith, records_after t s detections f, many, passed.room));
              frames = rw (frames_stay t s detections f) n.frames;
              opened = omega (arith, opened, many, passed.numbers);
              permanent = (omega (arith, permanent_after t s detections f, n.permanent.0), issued);
              global = omega (arith, global_after t s detections f, opened, n.global);
              initializing = omega (arith, initializing_after t s detections f, opened, n.initializing);
            };
        objects = rw (settings_stay, frames_stay t s detections f, objects_after t s detections f) (every_map (λ x. x.object) each_after);
        lists = lists_sound;
      }
