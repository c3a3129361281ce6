-- Rules 11, 12 and 75: a call is accepted or refused: what holds of nothing done and of what was done holds of the call. Every law over calls cites this.
use Rattle.table.proofs.Due.{none_is}
use Rattle.std.specs.Prelude.{None, is_none}
use mathlib.Core.Path.{◌≡◌, refl}
use mathlib.Core.Bool.{Bool, true, false, cond}
use Rattle.predict.specs.Step.{predict_table, predict_floats}
use Rattle.matching_step.specs.Step.{match_table, match_floats, matched_floats}
use Rattle.reid.specs.Step.{reid_table, reid_floats}
use Rattle.tracker.specs.Calls.{predict_answer, predict_storage, match_answer, reid_answer, reid_storage}
use Rattle.ledger.specs.History.{Call, predict, match, reid, total, current, World, after, refusal_of, Entry, nothing, did, entry_of}

-- the world that an accepted call leaves
abbrev pub done : Call → World → World
done predict w = record { table = predict_table w.table w.storage; storage = predict_floats w.table w.storage }
done (match n f l) w = record { table = match_table w.table w.storage n f; storage = match_floats w.table w.storage n f }
done (reid ds l) w = record { table = reid_table w.table w.storage ds; storage = reid_floats w.table w.storage ds }
done total w = w
done current w = w

either : (b : Bool) (u : World) (w : World)
    → ◌≡◌ {A = World} (record { table = cond b u.table w.table; storage = cond b u.storage w.storage }) (cond b u w)
either true u w = refl
either false u w = refl

unmoved : (b : Bool) (w : World) → w ≡ cond b w w
unmoved true w = refl
unmoved false w = refl

-- what the contracts say: an accepted call leaves that world, a refused one the world as it was
pub after_is : (call : Call) (w : World) → after call w ≡ cond (is_none (refusal_of call w)) (done call w) w
unfolding after predict_answer predict_storage match_answer matched_floats reid_answer reid_storage
after_is predict w = either (is_none (refusal_of predict w)) (done predict w) w
after_is (match n f l) w = either (is_none (refusal_of (match n f l) w)) (done (match n f l) w) w
after_is (reid ds l) w = either (is_none (refusal_of (reid ds l) w)) (done (reid ds l) w) w
after_is total w = unmoved (is_none (refusal_of total w)) w
after_is current w = unmoved (is_none (refusal_of current w)) w

pub called : (P : Entry → World → Type 0) (call : Call) (w : World) → P (nothing w) w
    → (refusal_of call w ≡ None → P (did call w (done call w)) (done call w)) → P (entry_of call w) (after call w)
unfolding entry_of
called P call w still step = go (is_none (refusal_of call w)) (after call w) (after_is call w) refl
  where
    go : (b : Bool) (u : World) → u ≡ cond b (done call w) w → is_none (refusal_of call w) ≡ b → P (cond b (did call w u) (nothing w)) u
    go true u e h = rw e (step (none_is (refusal_of call w) h))
    go false u e h = rw e still

-- a refused call changes nothing in the ledger: no entry, and the same table and storage
pub refused_nothing : (call : Call) (w : World) → (refusal_of call w ≡ None → ⊥) → (entry_of call w ≡ nothing w) × (after call w ≡ w)
refused_nothing call w refused = called (λ e u. (e ≡ nothing w) × (u ≡ w)) call w (refl, refl) (λ accepted. absurd (refused accepted))
