-- Rules 45, 46 and 75: over any sequence of calls from a fresh tracker, each record in the table bears the permanent ID that the history issued to it, and none while it initializes.
use Rattle.std.specs.Prelude.{Option, Some, None}
use mathlib.Core.Path.{◌≡◌}
use mathlib.Core.Bool.{Bool}
use mathlib.Core.List.{List, ◌++◌, Memᴰ}
use Prim.Native.Nat.{ℕ, ◌≤◌}
use lib.Ieee.{Float}
use lib.ListN.{length}
use Rattle.laws.specs.Every.{Every, none, one}
use Rattle.laws.proofs.Through.{through_hold}
use Rattle.parts.specs.declared.TrackedObject.{TrackedObject}
use Rattle.parts.specs.declared.TrackerConfig.{TrackerConfig}
use Rattle.table.specs.declared.Table.{Table}
use Rattle.table.specs.Making.{made}
use Rattle.table.specs.Slots.{name_of, table_objects}
use Rattle.table.proofs.MakingLaws.{accepted_fresh}
use Rattle.predict.specs.Step.{predict_table}
use Rattle.matching_step.specs.Account.{Issue, issue, Standing, waits, has, Borne}
use Rattle.matching_step.proofs.Bearing.{borne_on}
use Rattle.matching_step.proofs.AccountLaws.{table_borne}
use Rattle.reid.specs.Step.{reid_table}
use Rattle.reid.proofs.StepLaws.{name_in, every_stays}
use Rattle.ledger.specs.History.{Call, predict, match, reid, total, current, World, after, did, entry_of, Day, goes_on, fresh, day_of}
use Rattle.ledger.specs.Demand.{ever_issued}
use Rattle.ledger.proofs.Calling.{done, called}
use Rattle.ledger.proofs.Predicted.{everyone_stays}
use Rattle.ledger.proofs.Sound.{sound_most}
use Rattle.ledger.proofs.SoundAfter.{Reached, reached_fresh, reached_after}
use Rattle.ledger.proofs.Theorem.{issued_on}

-- ---- one call

module _ (issued : List Issue) (t : Table) (s : List Float) (most : t.counts.records ≤ length t.records) (borne : Borne issued (table_objects t)) where
  -- predicting changes neither name, mark nor ID
  predict_borne : Borne issued (table_objects (predict_table t s))
  predict_borne = everyone_stays t s most (λ v. Standing issued (name_in v) v.initializing v.id) borne

  -- merging neither
  reid_borne : (ds : List Float) → Borne issued (table_objects (reid_table t s ds))
  reid_borne ds = every_stays t s ds most (λ v. Standing issued (name_in v) v.initializing v.id) borne

borne_did : (issued : List Issue) (call : Call) (w : World) → w.table.counts.records ≤ length w.table.records
    → Borne issued (table_objects w.table) → Borne (issued ++ (did call w (done call w)).issued) (table_objects (done call w).table)
borne_did issued predict w most old = borne_on _ (predict_borne issued w.table w.storage most old)
borne_did issued (match n f l) w most old = table_borne w.table w.storage n f most issued old
borne_did issued (reid ds l) w most old = borne_on _ (reid_borne issued w.table w.storage most old ds)
borne_did issued total w most old = borne_on _ old
borne_did issued current w most old = borne_on _ old

borne_called : (issued : List Issue) (call : Call) (w : World) → w.table.counts.records ≤ length w.table.records
    → Borne issued (table_objects w.table) → Borne (issued ++ (entry_of call w).issued) (table_objects (after call w).table)
borne_called issued call w most old =
    called (λ e u. Borne (issued ++ e.issued) (table_objects u.table)) call w (borne_on _ old) (λ accepted. borne_did issued call w most old)

-- ---- a day

record Kept (d : Day) : Type 0 where
  reached : Reached d.world.table
  borne : Borne (ever_issued d) (table_objects d.world.table)

kept_on : (call : Call) (d : Day) → Kept d → Kept (goes_on call d)
unfolding goes_on
kept_on call d k =
    record {
      reached = reached_after call d.world k.reached;
      borne = rw (issued_on call d) (borne_called (ever_issued d) call d.world (sound_most k.reached.sound) k.borne);
    }

fresh_kept : (c : TrackerConfig) (s : List Float) → (made c (length s)).refusal ≡ None → Kept (fresh c s)
fresh_kept c s made-well = record { reached = reached_fresh c (length s) made-well; borne = rw (accepted_fresh c (length s) made-well) none }

-- after each call every record in the table that initializes no more bears a permanent ID that the history issued to it, and one that initializes bears none
pub ids_borne : (c : TrackerConfig) (s : List Float) → (made c (length s)).refusal ≡ None → (calls : List Call)
    → Borne (ever_issued (day_of c s calls)) (table_objects (day_of c s calls).world.table)
unfolding day_of
ids_borne c s made-well calls = (through_hold goes_on Kept calls (fresh c s) kept_on (fresh_kept c s made-well)).borne

-- ---- so an ID shown is one issued to that record

abbrev IfIssued : List Issue → ℕ → Option ℕ → Type 0
IfIssued issued name None = Unit {0}
IfIssued issued name (Some k) = Memᴰ (issue k name) issued

if_issued : {issued : List Issue} {name : ℕ} {i : Bool} {d : Option ℕ} → Standing issued name i d → IfIssued issued name d
if_issued waits = tt
if_issued (has m) = m

every_member : {A : Type 0} {P : A → Type 0} {x : A} {l : List A} → Every P l → Memᴰ x l → P x
every_member none m = elim m [ ]
every_member (one p r) (Memᴰ.head e) = rw e p
every_member (one p r) (Memᴰ.tail m) = every_member r m

pub shown_as_issued : (c : TrackerConfig) (s : List Float) → (made c (length s)).refusal ≡ None → (calls : List Call) (o : TrackedObject) (k : ℕ)
    → Memᴰ o (table_objects (day_of c s calls).world.table) → o.life.id ≡ Some k → Memᴰ (issue k (name_of o)) (ever_issued (day_of c s calls))
shown_as_issued c s made-well calls o k there e = rw e at (if_issued (every_member (ids_borne c s made-well calls) there))
