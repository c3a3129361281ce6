-- Rules 14, 20 and 21: the tables that a fresh tracker reaches are sound: a fresh one is, and a sound one is whole.
use Rattle.std.specs.Prelude.{None}
use mathlib.Core.Path.{◌≡◌, refl, ◌∙◌, ap}
use mathlib.Core.Bool.{true, not}
use mathlib.Core.List.{List}
use Prim.Native.Nat.{ℕ, ◌+◌, ◌≤◌}
use native.Mathlib.Omega.{arith}
use borrow.Author.Tests.{le-leb, eq-eqb}
use lib.Ieee.{Float}
use lib.ListN.{length, take, drop}
use lib.Seq.{take_at}
use Rattle.laws.specs.Every.{Every, none}
use Rattle.laws.proofs.Every.{every_weaker, every_map, every_unmap, none_found}
use Rattle.parts.specs.declared.TrackedObject.{TrackedObject}
use Rattle.parts.specs.declared.TrackerConfig.{TrackerConfig}
use Rattle.parts.specs.Layout.{block_size}
use Rattle.table.specs.declared.Counts.{Counts}
use Rattle.table.specs.declared.Table.{Table}
use Rattle.table.specs.Making.{settled, made}
use Rattle.table.specs.Slots.{Slot, objects_of, records_back, table_slots}
use Rattle.table.specs.Wholeness.{settings_whole, counts_whole, record_whole, records_whole, names_below, lists_whole, whole_table}
use Rattle.table.proofs.Facts.{SettingsFacts, settings_facts, settings_whole_lem, CountsFacts}
use Rattle.table.proofs.MakingLaws.{accepted, accepted_fresh}
use Rattle.table.proofs.SlotLaws.{objects_length, slots_objects}
use Rattle.ledger.proofs.SoundTests.{◌also◌, between_whole}
use Rattle.ledger.proofs.SoundRecord.{SoundRecord, sound_record_whole}

pub record Sound (t : Table) : Type 0 where
  pub settings : settings_whole t.config ≡ true
  pub long : length t.records ≡ 64
  pub counts : CountsFacts t.config t.counts
  pub objects : Every (SoundRecord t.config t.counts.frames) (take t.counts.records t.records)
  pub lists : lists_whole t.counts.records t.lists ≡ true

-- ---- a sound table is whole

counts_whole_lem : (c : TrackerConfig) (n : Counts) → CountsFacts c n → counts_whole c n ≡ true
unfolding counts_whole
counts_whole_lem c n f =
    le-leb _ _ f.records
    also le-leb _ _ f.frames
    also le-leb _ _ f.opened
    also between_whole 1 n.permanent (n.opened + 1) f.permanent.0 f.permanent.1
    also eq-eqb _ _ f.global
    also eq-eqb _ _ f.initializing

module _ {t : Table} (sound : Sound t) where
  pub sound_settings : SettingsFacts t.config
  sound_settings = settings_facts t.config (settings_whole_lem t.config sound.settings).0

  records_whole_lem : records_whole t.config t.counts.frames t.counts.records t.records ≡ true
  unfolding records_whole
  records_whole_lem =
      none_found (λ o. not (record_whole t.config t.counts.frames o))
      (every_weaker (λ o s. ap not (sound_record_whole t.config t.counts.frames o sound_settings.reid s)) sound.objects)

  pub sound_whole : whole_table t ≡ true
  unfolding whole_table
  sound_whole = sound.settings also counts_whole_lem t.config t.counts sound.counts also records_whole_lem also sound.lists

-- ---- a fresh table is sound

pub sound_fresh : (c : TrackerConfig) (floats : ℕ) → (made c floats).refusal ≡ None → Sound (made c floats).table
unfolding made lists_whole names_below
sound_fresh c floats none_due =
    let a = accepted (settled c) floats none_due in
    rw (accepted_fresh c floats none_due)
    (record {
      settings = rw (a.in_range, a.delay_from, a.delay_below);
      long = refl;
      counts =
          record { records = omega arith; frames = omega arith; opened = omega arith; permanent = (omega arith, omega arith); global = refl; initializing = refl };
      objects = none;
      lists = refl;
    })

-- ---- the records as slots

abbrev pub SoundSlots : TrackerConfig → ℕ → List Slot → Type 0
SoundSlots c frames l = Every (λ x. SoundRecord c frames x.object) l

module _ {t : Table} (sound : Sound t) where
  pub sound_fit : t.counts.records ≤ 64
  sound_fit = omega (arith, sound.counts.records, (sound_settings sound).capacity.1)

  pub sound_most : t.counts.records ≤ length t.records
  sound_most = omega (arith, sound_fit, sound.long)

  pub sound_slots : (s : List Float) → SoundSlots t.config t.counts.frames (table_slots t s)
  sound_slots s =
      every_unmap (λ x. x.object) (table_slots t s)
      (rw (slots_objects (block_size t.config) t.records s t.counts.records sound_most) sound.objects)

-- put back they are the table's first records
pub sound_back : {c : TrackerConfig} {frames n : ℕ} (l : List Slot) (records : List TrackedObject) → length l ≡ n → SoundSlots c frames l
    → Every (SoundRecord c frames) (take n (records_back l records))
sound_back {n = n} l records e all =
    rw (take_at (objects_of l) (drop (length l) records) n (objects_length l ∙ e)) (every_map (λ x. x.object) all)
