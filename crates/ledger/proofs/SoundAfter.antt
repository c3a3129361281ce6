-- Rules 11, 14 and 75: every public call, accepted or refused, keeps its table sound, and so does any sequence of them from a fresh tracker.
use Rattle.std.specs.Prelude.{None}
use mathlib.Core.Path.{◌≡◌}
use mathlib.Core.List.{List}
use Prim.Native.Nat.{ℕ, ◌+◌, ◌≤◌}
use native.Mathlib.Omega.{arith}
use lib.Ieee.{Float}
use lib.ListN.{length}
use Rattle.laws.proofs.Through.{through_hold}
use Rattle.parts.specs.declared.TrackerConfig.{TrackerConfig}
use Rattle.table.specs.declared.Table.{Table}
use Rattle.table.specs.Making.{made}
use Rattle.ledger.specs.History.{Call, predict, match, reid, total, current, World, after, refusal_of, goes_on, fresh, day_of}
use Rattle.ledger.proofs.Calling.{done, called}
use Rattle.ledger.proofs.Sound.{Sound, sound_most, sound_fresh}
use Rattle.ledger.proofs.SoundPredict.{sound_predict}
use Rattle.ledger.proofs.SoundMatch.{sound_match}
use Rattle.ledger.proofs.SoundReid.{sound_reid}
use Rattle.ledger.proofs.SoundIssued.{Unspent, unspent_fresh, unspent_predict, unspent_match, unspent_reid}

-- ---- no more permanent IDs than records opened: as a premise

abbrev pub IssuedWithin : Table → Type 0
IssuedWithin t = t.counts.permanent ≤ t.counts.opened + 1

sound_done : (call : Call) (w : World) → Sound w.table → refusal_of call w ≡ None → IssuedWithin (done call w).table → Sound (done call w).table
sound_done predict w sound accepted i = sound_predict w.table w.storage sound accepted
sound_done (match n f l) w sound accepted i = sound_match w.table w.storage n f (length l) sound accepted i
sound_done (reid ds l) w sound accepted i = sound_reid w.table w.storage ds sound
sound_done total w sound accepted i = sound
sound_done current w sound accepted i = sound

pub sound_after : (call : Call) (w : World) → Sound w.table → IssuedWithin (after call w).table → Sound (after call w).table
sound_after call w sound = called (λ e u. IssuedWithin u.table → Sound u.table) call w (λ i. sound) (sound_done call w sound)

-- ---- and kept besides

pub record Reached (t : Table) : Type 0 where
  pub sound : Sound t
  pub unspent : Unspent t

pub reached_fresh : (c : TrackerConfig) (floats : ℕ) → (made c floats).refusal ≡ None → Reached (made c floats).table
reached_fresh c floats none = record { sound = sound_fresh c floats none; unspent = unspent_fresh c floats none }

unspent_done : (call : Call) (w : World) → w.table.counts.records ≤ length w.table.records → Unspent w.table → Unspent (done call w).table
unspent_done predict w most old = unspent_predict w.table w.storage most old
unspent_done (match n f l) w most old = unspent_match w.table w.storage most old n f
unspent_done (reid ds l) w most old = unspent_reid w.table w.storage most old ds
unspent_done total w most old = old
unspent_done current w most old = old

pub reached_after : (call : Call) (w : World) → Reached w.table → Reached (after call w).table
reached_after call w r =
    let kept = called (λ e u. Unspent u.table) call w r.unspent (λ accepted. unspent_done call w (sound_most r.sound) r.unspent) in
    record { sound = sound_after call w r.sound (omega (arith, kept)); unspent = kept }

-- any sequence of calls
pub reached_day : (c : TrackerConfig) (s : List Float) (calls : List Call) → (made c (length s)).refusal ≡ None → Reached (day_of c s calls).world.table
unfolding day_of goes_on
reached_day c s calls none =
    through_hold goes_on (λ d. Reached d.world.table) calls (fresh c s) (λ call d. reached_after call d.world) (reached_fresh c (length s) none)
