-- Rules 43 to 46: what a pass put back is found again by the next part, as if the step had gone on from its state.
use mathlib.Core.Path.{◌≡◌, sym, ◌∙◌}
use mathlib.Core.List.{List}
use Prim.Native.Nat.{ℕ, ◌<◌}
use native.Mathlib.Omega.{arith}
use lib.Ieee.{Float}
use lib.ListN.{length}
use Rattle.laws.specs.Turns.{through}
use Rattle.laws.proofs.Every.{every_at}
use Rattle.matching.specs.Greedy.{Pick}
use Rattle.parts.specs.declared.TrackerConfig.{TrackerConfig}
use Rattle.parts.specs.declared.TrackedObject.{TrackedObject}
use Rattle.parts.specs.Layout.{block_size}
use Rattle.table.specs.declared.Counts.{Counts}
use Rattle.table.specs.Making.{zero_object}
use Rattle.table.specs.Slots.{no_slot, floats_back}
use Rattle.table.proofs.SlotLaws.{records_at}
use Rattle.passes.specs.Checks.{Frame}
use Rattle.matching_step.specs.declared.Stepped.{Stepped}
use Rattle.matching_step.specs.Step.{State, hit_one, stepped_of, Holds}
use Rattle.matching_step.proofs.Hitting.{Standing, hits_length}
use Rattle.matching_step.proofs.PutBack.{found, Put, put_long, part_again}

module _ {c : TrackerConfig} {n : ℕ} {st : State} (stands : Standing c n st) {records : List TrackedObject} {s : List Float}
    {rs : List TrackedObject} {m : Counts} {g : List Float} (put : Put c records s st rs m g) where
  pub counted_again : m.records ≡ n
  counted_again = rw put.counts stands.counted

  pub all_counted : length st.slots ≡ st.counts.records
  all_counted = stands.long ∙ sym stands.counted

  -- it may lean on what the part before it leant on
  pub holds_again : Holds c n records (length s) → Holds c m.records rs (length g)
  holds_again old =
      record {
        from = old.from;
        most = old.most;
        fit = rw counted_again old.fit;
        room = rw (counted_again, put_long put stands.sized (rw stands.long old.room)) old.room;
        ranges =
            rw (counted_again, put.records)
            (λ i h.
            let listed : i < length st.slots = rw stands.long h in
            rw (records_at st.slots records i zero_object no_slot listed) (every_at i no_slot stands.ranged listed));
      }

  -- the hits of the second pass
  pub hits_again : (f : Frame) (l : List Pick) {two : Stepped} {h : List Float}
      → two ≡ stepped_of (through (hit_one c f m.records) l (found c rs g m)) rs
      → h ≡ floats_back (block_size c) (through (hit_one c f m.records) l (found c rs g m)).slots g
      → Put c records s (through (hit_one c f n) l st) two.records two.counts h
  hits_again f l made floats =
      let k = m.records in
      rw counted_again at (part_again put stands.sized all_counted (through (hit_one c f k) l) (omega (arith, hits_length c f k l st)) made floats)
