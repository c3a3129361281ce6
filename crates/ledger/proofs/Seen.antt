-- Rules 46, 47 and 64: what one call tells the host: each record shows the global ID given at its opening, pairs tell the hits, an active list names who is there.
use Rattle.std.specs.Prelude.{None}
use mathlib.Core.Path.{◌≡◌, refl}
use mathlib.Core.List.Memᴰ
use mathlib.Core.List.{List, [], ◌∷◌, ◌++◌, map, Memᴰ}
use Prim.Native.Nat.{ℕ, ◌<◌, ◌≤◌}
use native.Mathlib.Omega.{arith}
use borrow.Author.Tests.{eq-eqb}
use lib.Ieee.{Float}
use lib.ListN.{length}
use lib.Seq.{length-take-le, get_or-take}
use Rattle.laws.specs.Every.{Every, none, one}
use Rattle.laws.specs.Lists.{times}
use Rattle.laws.proofs.Every.{every_weaker, every_append, every_at, every_keep, every_map, every_unmap, every_and}
use Rattle.matching.specs.Greedy.{Pick}
use Rattle.parts.specs.declared.TrackedObject.{TrackedObject}
use Rattle.table.specs.declared.Table.{Table}
use Rattle.table.specs.Making.{zero_object}
use Rattle.table.specs.Slots.{table_slots, name_of, table_objects, table_names}
use Rattle.passes.specs.Checks.{Frame}
use Rattle.predict.specs.Step.{predict_table}
use Rattle.matching_step.specs.Step.{match_table, pair_of, pairs_of}
use Rattle.matching_step.specs.Account.{hit_of, match_account, Given, given, given_to, shown_by}
use Rattle.matching_step.proofs.AccountLaws.{table_shown}
use Rattle.matching_step.proofs.PairLaws.{record_at, first_below, second_below, at_place}
use Rattle.reid.specs.Step.{reid_table, active, active_ids}
use Rattle.reid.proofs.StepLaws.{name_in, every_stays}
use Rattle.ledger.specs.History.{Call, predict, match, reid, total, current, World, after, refusal_of, Entry, matched_by, did, entry_of}
use Rattle.ledger.specs.Shown.{strikes, Tells, Each, done, also}
use Rattle.ledger.proofs.Calling as calling
use Rattle.ledger.proofs.Predicted.{everyone_stays}

-- ---- lists

every_self : {A : Type 0} (l : List A) → Every (λ x. Memᴰ x l) l
every_self [] = none
every_self (x ∷ l) = one (Memᴰ.head refl) (every_weaker (λ y m. Memᴰ.tail m) (every_self l))

-- what is read off an element stands in what is read off all
pub self_counted : {A : Type 0} (f : A → ℕ) (l : List A) → Every (λ x. 0 < times (f x) (map f l)) l
unfolding times
self_counted f [] = none
self_counted f (x ∷ l) =
    let here : 0 < times (f x) (f x ∷ map f l) = rw (eq-eqb (f x) (f x) refl) (omega arith) in
    one here (every_weaker (λ y h. omega (arith, h)) (self_counted f l))

module _ {A B C D : Type 0} {R : A → B → Type 0} (f : C → A) (g : D → B) (h : C → D) where
  each_read : {l : List C} → Every (λ x. R (f x) (g (h x))) l → Each R (map f l) (map g (map h l))
  each_read none = done
  each_read (one p r) = also p (each_read r)

each_append : {A B : Type 0} {R : A → B → Type 0} {l k : List A} {m n : List B} → Each R l m → Each R k n → Each R (l ++ k) (m ++ n)
each_append done s = s
each_append (also p r) s = also p (each_append r s)

-- ---- what a call tells, with these IDs given before it

-- an ID was given to a record that is among these
pub record Named (l : List Given) (among : List ℕ) (id : ℕ) : Type 0 where
  pub name : ℕ
  pub is_given : Memᴰ (given name id) l
  pub is_there : 0 < times name among

abbrev pub ShownIn : List Given → Table → Type 0
ShownIn l t = Every (λ o. Memᴰ (shown_by o) l) (table_objects t)

pub record Telling (l : List Given) (e : Entry) (u : Table) : Type 0 where
  pub table : ShownIn (l ++ map given_to e.opened) u
  pub pairs : Each (Tells l) e.pairs (strikes e)
  pub active : Every (Named (l ++ map given_to e.opened) e.now) e.active

-- what was given stays given
pub shown_on : (more : List Given) {l : List Given} {os : List TrackedObject} → Every (λ o. Memᴰ (shown_by o) l) os
    → Every (λ o. Memᴰ (shown_by o) (l ++ more)) os
shown_on more = every_weaker (λ o m. Memᴰ.append_left more m)

module _ (l : List Given) (t : Table) (s : List Float) (most : t.counts.records ≤ length t.records) (shown : ShownIn l t) where
  -- steps 1 and 3 change no ID
  predict_shown : ShownIn l (predict_table t s)
  predict_shown = everyone_stays t s most (λ v. Memᴰ (given (name_in v) v.origin.global_id) l) shown

  reid_shown : (ds : List Float) → ShownIn l (reid_table t s ds)
  reid_shown ds = every_stays t s ds most (λ v. Memᴰ (given (name_in v) v.origin.global_id) l) shown

  -- step 2 adds those that it opens
  match_shown : (n : ℕ) (f : Frame) → ShownIn (l ++ map given_to (match_account t s n f).opened) (match_table t s n f)
  match_shown n f =
      let new = map given_to (match_account t s n f).opened in
      every_unmap {P = λ g. Memᴰ g (l ++ new)} shown_by (table_objects (match_table t s n f))
      (rw (table_shown t s n f most)
      (every_append (every_map shown_by (shown_on new shown)) (every_weaker (λ g m. Memᴰ.append_right l m) (every_self new))))

  -- ---- pairs

  at_record : (i : ℕ) → i < t.counts.records → Memᴰ (shown_by (record_at t i)) l
  at_record i h =
      let n = t.counts.records in
      rw (get_or-take n t.records i zero_object h) at (every_at i zero_object shown (rw (length-take-le n t.records most) h))

  tells : (f : Frame) (pass : ℕ) (p : Pick) → p.col < t.counts.records
      → Tells l (pair_of t.records f t.counts.records pass p) (record { pass = pass; hit = hit_of (table_slots t s) p })
  tells f pass p h = record { detection = refl; shown = rw (at_place t s 0 f p.col h) (at_record p.col h); pass = refl }

  tells_pairs : (n : ℕ) (f : Frame) → Each (Tells l) (pairs_of t n f) (strikes (matched_by t t n (match_account t s n f) []))
  unfolding pairs_of match_account
  tells_pairs n f =
      each_append
      (each_read (pair_of t.records f t.counts.records 1) (λ h. record { pass = 1; hit = h }) (hit_of (table_slots t s)) (every_weaker (tells f 1) (first_below t n f)))
      (each_read (pair_of t.records f t.counts.records 2) (λ h. record { pass = 2; hit = h }) (hit_of (table_slots t s)) (every_weaker (tells f 2) (second_below t n f)))

-- ---- the active list

names_active : (l : List Given) (u : Table) → ShownIn l u → Every (Named l (table_names u)) (active_ids u.counts.records u.records)
names_active l u shown =
    every_map (λ o. o.origin.global_id)
    (every_keep active
    (every_weaker (λ o both. record { name = name_of o; is_given = both.0; is_there = both.1 }) (every_and shown (self_counted name_of (table_objects u)))))

-- ---- any call

telling_did : (l : List Given) (call : Call) (w : World) → w.table.counts.records ≤ length w.table.records → ShownIn l w.table
    → refusal_of call w ≡ None → Telling l (did call w (calling.done call w)) (calling.done call w).table
telling_did l predict w most shown accepted =
    record { table = shown_on [] (predict_shown l w.table w.storage most shown); pairs = done; active = none }
telling_did l (match n f places) w most shown accepted =
    record {
      table = match_shown l w.table w.storage most shown n f;
      pairs = rw accepted (tells_pairs l w.table w.storage most shown n f);
      active = none;
    }
telling_did l (reid ds places) w most shown accepted =
    let after = shown_on [] (reid_shown l w.table w.storage most shown ds) in
    record { table = after; pairs = done; active = rw accepted (names_active (l ++ []) (reid_table w.table w.storage ds) after) }
telling_did l total w most shown accepted = record { table = shown_on [] shown; pairs = done; active = none }
telling_did l current w most shown accepted = record { table = shown_on [] shown; pairs = done; active = none }

pub telling_called : (l : List Given) (call : Call) (w : World) → w.table.counts.records ≤ length w.table.records → ShownIn l w.table
    → Telling l (entry_of call w) (after call w).table
telling_called l call w most shown =
    calling.called (λ e u. Telling l e u.table) call w
    (record { table = shown_on [] shown; pairs = done; active = none })
    (telling_did l call w most shown)
