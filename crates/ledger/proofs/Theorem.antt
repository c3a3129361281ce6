-- Rule 75: demand 3, with nothing assumed, and what a hatchery reads off it.
use Rattle.std.specs.Prelude.{None}
use mathlib.Core.Path.{◌≡◌, ◌∙◌, ap}
use mathlib.Core.List.{List, [], ◌∷◌, ◌++◌}
use Prim.Native.Nat.{◌+◌, ◌≤◌}
use native.Mathlib.Omega.{arith}
use lib.Ieee.{Float}
use lib.ListN.{length, length-append}
use Rattle.laws.specs.Turns.{through}
use Rattle.laws.proofs.Through.{through-append}
use Rattle.parts.specs.declared.TrackerConfig.{TrackerConfig}
use Rattle.table.specs.Making.{made}
use Rattle.tracker.specs.Calls.{counted}
use Rattle.ledger.specs.History.{Call, Entry, entry_of, Day, goes_on, fresh, day_of}
use Rattle.ledger.specs.Demand.{Demand, ever_issued, reported}
use Rattle.ledger.proofs.Demanded as counting
use Rattle.ledger.proofs.Entries.{gather_snoc, entries_on}
use Rattle.ledger.proofs.Sound.{sound_whole}
use Rattle.ledger.proofs.SoundAfter.{reached_day}

-- from any accepted making, over any list of calls with any inputs
pub demand_3 : (c : TrackerConfig) (s : List Float) → (made c (length s)).refusal ≡ None → (calls : List Call) → Demand (day_of c s calls)
demand_3 c s accepted calls = counting.demand_3 c s accepted calls (sound_whole (reached_day c s calls accepted).sound)

-- ---- what the total does

pub issued_on : (call : Call) (d : Day) → ever_issued (goes_on call d) ≡ ever_issued d ++ (entry_of call d.world).issued
issued_on call d = rw (entries_on call d) (gather_snoc (λ (e : Entry). e.issued) _ (entry_of call d.world))

module _ (c : TrackerConfig) (s : List Float) (accepted : (made c (length s)).refusal ≡ None) (calls : List Call) (call : Call) where
  -- one call more
  pub next_day : day_of c s (calls ++ (call ∷ [])) ≡ goes_on call (day_of c s calls)
  unfolding day_of through
  next_day = through-append goes_on calls (call ∷ []) (fresh c s)

  -- it rises in a step by exactly the permanent IDs issued in it
  pub total_rises : counted (reported (day_of c s (calls ++ (call ∷ []))))
      ≡ counted (reported (day_of c s calls)) + length (entry_of call (day_of c s calls).world).issued
  total_rises =
      let before = ap counted (demand_3 c s accepted calls).total in
      let after = ap counted (demand_3 c s accepted (calls ++ (call ∷ []))).total in
      let grown : length (ever_issued (day_of c s (calls ++ (call ∷ [])))) ≡ length (ever_issued (day_of c s calls)) + length (entry_of call (day_of c s calls).world).issued =
      rw (next_day, issued_on call (day_of c s calls)) (length-append (ever_issued (day_of c s calls)) (entry_of call (day_of c s calls).world).issued) in
      after ∙ grown ∙ rw before

  -- it never falls
  pub total_never_falls : counted (reported (day_of c s calls)) ≤ counted (reported (day_of c s (calls ++ (call ∷ []))))
  total_never_falls = omega (arith, total_rises)
