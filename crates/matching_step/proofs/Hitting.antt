-- Rule 45: the hits of a pass: what each keeps of the slots and the counts, and what it makes of the records and floats.
use mathlib.Core.Path.{◌≡◌, sym, ◌∙◌}
use mathlib.Core.Bool.{Bool, true, false}
use mathlib.Core.List.{List, [], ◌∷◌}
use Prim.Native.Nat.{ℕ, ◌+◌, ◌*◌, ◌<◌, ◌≤◌}
use native.Mathlib.Omega.{arith}
use lib.Ieee.{Float}
use lib.IntN.{pos}
use lib.ListN.{length, get_or, set, take, drop, length-set}
use lib.Seq.{paste}
use lib.Signed.{le_z}
use Rattle.laws.specs.Every.{Every, none, one}
use Rattle.laws.specs.Turns.{through}
use Rattle.laws.proofs.Every.{every_at, every_set}
use Rattle.laws.proofs.Through.{through_keep}
use Rattle.matching.specs.Greedy.{Pick}
use Rattle.matching.proofs.Picked.{Inside}
use Rattle.parts.specs.declared.TrackerConfig.{TrackerConfig}
use Rattle.parts.specs.declared.TrackedObject.{TrackedObject}
use Rattle.parts.specs.declared.Changed.{Changed}
use Rattle.parts.specs.Layout.{block_size}
use Rattle.parts.specs.Ranges.{ObjectInRange}
use Rattle.tracked_object.specs.Object.{changed_by_hit, block_hit}
use Rattle.tracked_object.proofs.ObjectLaws.{length-hit}
use Rattle.tracked_object.proofs.HitLaws.{hit_in_range}
use Rattle.table.specs.declared.Counts.{Counts}
use Rattle.table.specs.Making.{zero_object}
use Rattle.table.specs.Slots.{Slot, no_slot, slots}
use Rattle.table.proofs.Ranged.{Ranged, ranged_slots}
use Rattle.table.proofs.SlotLaws.{Sized, slots_length, slots_sized, records_at, records_swap, floats_at, floats_swap}
use Rattle.passes.specs.Checks.{Frame}
use Rattle.matching_step.specs.Step.{State, lent_detection, distance_of, next_permanent, issuing, takes_id, slot_hit, hit_one, Fits, Holds}
use Rattle.matching_step.proofs.Lending.{lent_points, lent_scores}
use Rattle.matching_step.proofs.PutBack.{Put}

-- ---- what is so at every turn

pub record Standing (c : TrackerConfig) (n : ℕ) (st : State) : Type 0 where
  pub long : length st.slots ≡ n
  pub sized : Sized (block_size c) st.slots
  pub ranged : Ranged c st.slots
  pub counted : st.counts.records ≡ n

pub stands_first : {c : TrackerConfig} {n : ℕ} (records : List TrackedObject) (s : List Float) (counts : Counts) → Holds c n records (length s)
    → counts.records ≡ n → Standing c n (record { slots = slots (block_size c) records s n; counts = counts })
stands_first {c = c} {n = n} records s counts h e =
    record {
      long = slots_length (block_size c) records s n;
      sized = slots_sized (block_size c) records s n h.room;
      ranged = ranged_slots c (block_size c) records s n h.ranges;
      counted = e;
    }

module _ {c : TrackerConfig} {f : Frame} (fits : Fits c f)
    (from : le_z (pos 0) c.hit_counter_max ≡ true) (most : le_z c.hit_counter_max (pos 10000) ≡ true) {n : ℕ} where
  -- ---- one hit

  module _ (p : Pick) {st : State} (stands : Standing c n st) (row : p.row < length f.has_scores) (col : p.col < n) where
    abbrev hit_slot : Slot
    hit_slot = get_or st.slots p.col no_slot

    abbrev next : Slot
    next = slot_hit c (lent_detection c f p.row) f.period (distance_of f n p) st.counts.permanent hit_slot

    listed : p.col < length st.slots
    listed = rw stands.long col

    pub in_range : ObjectInRange c hit_slot.object
    in_range = every_at p.col no_slot stands.ranged listed

    block_kept : length next.block ≡ block_size c
    block_kept =
        let whole = every_at p.col no_slot stands.sized listed in
        length-hit c (lent_detection c f p.row) hit_slot.block (lent_points fits row) (lent_scores fits row) whole hit_slot.object.past_count in_range.history
        ∙ whole

    pub stands_hit : Standing c n (hit_one c f n p st)
    stands_hit =
        record {
          long = length-set st.slots p.col next ∙ stands.long;
          sized = every_set (λ x h. h) p.col next no_slot stands.sized (λ h. block_kept);
          ranged =
              every_set (λ x h. h) p.col next no_slot stands.ranged
              (hit_in_range c (lent_detection c f p.row) f.period (distance_of f n p) st.counts.permanent hit_slot.object from most fits.sizes);
          counted = stands.counted;
        }

    module _ {records : List TrackedObject} {s : List Float} {rs : List TrackedObject} {g : List Float} {m : Counts} (put : Put c records s st rs m g) where
      -- the record that is read
      pub object_held : get_or rs p.col zero_object ≡ hit_slot.object
      object_held = rw put.records (records_at st.slots records p.col zero_object no_slot listed)

      block_held : take (block_size c) (drop (p.col * block_size c) g) ≡ hit_slot.block
      block_held = rw put.floats (floats_at stands.sized s p.col no_slot listed)

      pub put_hit : {o : TrackedObject} {r : Changed} {h : List Float} → o ≡ get_or rs p.col zero_object
          → r ≡ changed_by_hit c (lent_detection c f p.row) f.period (distance_of f n p) m.permanent o
          → h ≡ paste g (p.col * block_size c) (block_hit c (lent_detection c f p.row) o.past_count (take (block_size c) (drop (p.col * block_size c) g))) (block_size c)
          → Put c records s (hit_one c f n p st) (set rs p.col r.object) (issuing r.issued m) h
      put_hit read hit pasted =
          let object = read ∙ object_held in
          record {
            records = rw (hit, object, put.counts, put.records) (sym (records_swap st.slots records p.col next listed));
            floats = pasted ∙ rw (block_held, object, put.floats) (sym (floats_swap stands.sized s p.col next listed block_kept));
            counts = rw (hit, object, put.counts);
          }

  -- ---- a pass

  pub hits_stand : {l : List Pick} {st : State} → Every (Inside (length f.has_scores) n) l → Standing c n st → Standing c n (through (hit_one c f n) l st)
  unfolding through
  hits_stand none stands = stands
  hits_stand (one {x = p} h rest) stands = hits_stand rest (stands_hit p stands h.0 h.1)

-- no hit adds or drops a slot
pub hits_length : (c : TrackerConfig) (f : Frame) (n : ℕ) (l : List Pick) (st : State) → length (through (hit_one c f n) l st).slots ≡ length st.slots
hits_length c f n = through_keep (hit_one c f n) (λ st. length st.slots) (λ p st. length-set st.slots p.col _)

-- a hit or an opening takes at most one permanent ID
pub next_most : (took : Bool) (k : ℕ) → next_permanent took k ≤ k + 1
next_most true k = omega arith
next_most false k = omega arith

pub hits_permanent : (c : TrackerConfig) (f : Frame) (n : ℕ) (l : List Pick) (st : State)
    → (through (hit_one c f n) l st).counts.permanent ≤ st.counts.permanent + length l
unfolding through
hits_permanent c f n [] st = omega arith
hits_permanent c f n (p ∷ l) st = omega (arith, next_most (takes_id c f.period (get_or st.slots p.col no_slot).object) st.counts.permanent, hits_permanent c f n l (hit_one c f n p st))
