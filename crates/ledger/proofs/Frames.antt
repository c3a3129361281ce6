-- Rules 11, 33 and 75: there are as many frames in the history as were begun, and before the first one nothing was done.
use Rattle.std.specs.Prelude.{None, is_none}
use mathlib.Core.Path.{◌≡◌, refl, sym, ◌∙◌}
use mathlib.Core.Bool.{Bool, true, false, true≢false, cond}
use mathlib.Core.List.{List, [], ◌∷◌, ◌++◌}
use Prim.Native.Nat.{ℕ, ◌+◌}
use native.Mathlib.Omega.{arith}
use borrow.Author.Tests.{eqb-true, not-false}
use lib.Ieee.{Float}
use lib.ListN.{length, length-append}
use Rattle.laws.specs.Every.{Every, none, one}
use Rattle.laws.proofs.Every.{every_append}
use Rattle.laws.proofs.Through.{through_hold}
use Rattle.parts.specs.declared.TrackerConfig.{TrackerConfig}
use Rattle.table.specs.declared.Phase.{Phase}
use Rattle.table.specs.declared.Phase.TheVariants.{Match, Reid}
use Rattle.table.specs.declared.Table.{Table}
use Rattle.table.specs.Making.{made}
use Rattle.table.specs.Refusals.{Check, first_due, phase_number, step_checks}
use Rattle.table.proofs.Due.{after_step, none_due, none_is}
use Rattle.table.proofs.MakingLaws.{accepted_fresh}
use Rattle.predict.proofs.StepLaws.{frames_rise}
use Rattle.matching_step.proofs.AccountLaws as matching
use Rattle.reid.proofs.StepLaws as merging
use Rattle.ledger.specs.History.{Call, predict, match, reid, total, current, World, after, refusal_of, Entry, did, entry_of, begins, joined, waiting, Day, goes_on, fresh, day_of}
use Rattle.ledger.proofs.Calling.{done, called}

-- ---- an accepted step is the next one

next_step : (step : Phase) (t : Table) (floats : ℕ) (l : List Check) → first_due (step_checks step t floats ++ l) ≡ None
    → phase_number t.phase ≡ phase_number step
next_step step t floats l h = go (is_none (first_due (step_checks step t floats))) refl (sym (after_step step t floats l) ∙ h)
  where
    go : (b : Bool) → is_none (first_due (step_checks step t floats)) ≡ b → cond b (first_due l) (first_due (step_checks step t floats)) ≡ None
        → phase_number t.phase ≡ phase_number step
    go true e h =
        let due = none_due (step_checks step t floats) (none_is _ e) in
        eqb-true (phase_number t.phase) (phase_number step) (not-false _ due.1.1.0)
    go false e h = absurd (true≢false (rw h at e))

-- ---- one call: it begins a frame, or leaves their number; and where step 1 is next it begins one or does nothing

record Going (w : World) (e : Entry) (u : World) : Type 0 where
  frames : u.table.counts.frames ≡ w.table.counts.frames + cond (begins e) 1 0
  idle : phase_number w.table.phase ≡ 1 → begins e ≡ false → (e.step ≡ 0) × (phase_number u.table.phase ≡ 1)

still : (w : World) (e : Entry) → e.step ≡ 0 → Going w e w
still w e idly = record { frames = rw idly (omega arith); idle = λ first more. (idly, first) }

going_did : (call : Call) (w : World) → refusal_of call w ≡ None → Going w (did call w (done call w)) (done call w)
going_did predict w accepted = record { frames = frames_rise w.table w.storage; idle = λ first more. absurd (true≢false more) }
going_did (match n f l) w accepted =
    record {
      frames = omega (arith, matching.frames_stay w.table w.storage n f);
      idle = λ first more. absurd (omega (arith, next_step Match w.table (length w.storage) _ accepted));
    }
going_did (reid ds l) w accepted =
    record {
      frames = omega (arith, merging.frames_stay w.table w.storage ds);
      idle = λ first more. absurd (omega (arith, next_step Reid w.table (length w.storage) _ accepted));
    }
going_did total w accepted = still w _ refl
going_did current w accepted = still w _ refl

-- ---- a day

record Begun (d : Day) : Type 0 where
  frames : length d.frames ≡ d.world.table.counts.frames
  -- before the first frame step 1 is next
  first : length d.frames ≡ 0 → phase_number d.world.table.phase ≡ 1
  early : Every (λ e. e.step ≡ 0) d.early

joined_length : (e : Entry) (l : List (List Entry)) → length (joined e l) ≡ length l
unfolding joined
joined_length e [] = refl
joined_length e (f ∷ []) = refl
joined_length e (f ∷ (g ∷ l)) = omega (arith, joined_length e (g ∷ l))

-- who waits did nothing
waits : (e : Entry) (l : List (List Entry)) → (length l ≡ 0 → e.step ≡ 0) → Every (λ e. e.step ≡ 0) (waiting e l)
unfolding waiting
waits e [] idle = one (idle refl) none
waits e (f ∷ l) idle = none

begun_on : (call : Call) (d : Day) → Begun d → Begun (goes_on call d)
unfolding goes_on
begun_on call d b = go (begins e) refl
  where
    e : Entry
    e = entry_of call d.world

    going : Going d.world e (after call d.world)
    going = called (Going d.world) call d.world (still d.world _ refl) (going_did call d.world)

    go : (v : Bool) → begins e ≡ v
        → Begun (record {
          early = cond v d.early (d.early ++ waiting e d.frames);
          frames = cond v (d.frames ++ ((e ∷ []) ∷ [])) (joined e d.frames);
          world = after call d.world;
        })
    go true h =
        let more = length-append d.frames ((e ∷ []) ∷ []) in
        record { frames = omega (arith, more, b.frames, rw h at going.frames); first = λ z. absurd (omega (arith, more)); early = b.early }
    go false h =
        let same = joined_length e d.frames in
        let idle : length d.frames ≡ 0 → (e.step ≡ 0) × (phase_number (after call d.world).table.phase ≡ 1) = λ z. going.idle (b.first z) h in
        record {
          frames = omega (arith, same, b.frames, rw h at going.frames);
          first = λ z. (idle (omega (arith, same))).1;
          early = every_append b.early (waits e d.frames (λ z. (idle z).0));
        }

module _ (c : TrackerConfig) (s : List Float) (accepted : (made c (length s)).refusal ≡ None) (calls : List Call) where
  begun : Begun (day_of c s calls)
  unfolding day_of
  begun =
      through_hold goes_on Begun calls (fresh c s) begun_on
      (rw (accepted_fresh c (length s) accepted) (record { frames = refl; first = λ z. refl; early = none }))

  pub frames_begun : length (day_of c s calls).frames ≡ (day_of c s calls).world.table.counts.frames
  frames_begun = begun.frames

  -- before the first frame there are only counts and refused calls
  pub early_nothing : Every (λ e. e.step ≡ 0) (day_of c s calls).early
  early_nothing = begun.early
