-- Rules 46, 47, 64 and 75: what the host sees, over any sequence of calls, with nothing assumed.
use Rattle.std.specs.Prelude.{None}
use mathlib.Core.Path.{◌≡◌, sym, ◌∙◌, ap}
use mathlib.Core.List.Memᴰ
use mathlib.Core.List.{List, [], ◌∷◌, ◌++◌, map, map-append, map-map, Memᴰ}
use Prim.Native.Nat.{ℕ, ◌<◌}
use native.Mathlib.Omega.{arith}
use borrow.Author.Tests.{eq-eqb}
use lib.Ieee.{Float}
use lib.ListN.{length, length-map}
use Rattle.laws.specs.Every.{Every, none, one}
use Rattle.laws.specs.Lists.{times}
use Rattle.laws.proofs.Every.{every_weaker, every_append, every_and}
use Rattle.laws.proofs.Through.{through_hold}
use Rattle.laws.proofs.Weighing.{Run, run_up}
use Rattle.laws.proofs.Weights.{run_once}
use Rattle.parts.specs.declared.TrackerConfig.{TrackerConfig}
use Rattle.table.specs.declared.Table.{Table}
use Rattle.table.specs.Making.{made}
use Rattle.table.proofs.MakingLaws.{accepted_fresh}
use Rattle.pairs.specs.declared.Pair.{Pair}
use Rattle.matching_step.specs.Account.{Given, given, given_to}
use Rattle.ledger.specs.History.{Call, Entry, Day, goes_on, fresh, day_of}
use Rattle.ledger.specs.Demand.{gather, entries, opened_in, Among, hit_by}
use Rattle.ledger.specs.Shown.{given_in, globals, NamesOne, Struck, strikes, Tells, Each, done, also, Shown}
use Rattle.ledger.proofs.Called.{counted}
use Rattle.ledger.proofs.Counted.{Counted}
use Rattle.ledger.proofs.Entries.{gather_snoc, entries_on}
use Rattle.ledger.proofs.Seen.{self_counted, Named, ShownIn, Telling, telling_called}
use Rattle.ledger.proofs.Sound.{sound_most}
use Rattle.ledger.proofs.SoundAfter.{Reached, reached_fresh, reached_after}

-- ---- the entries so far, and the table

record Seen (l : List Entry) (t : Table) : Type 0 where
  table : ShownIn (given_in l) t
  pairs : Every (λ e. Each (Tells (given_in l)) e.pairs (strikes e)) l
  active : Every (λ e. Every (Named (given_in l) e.now) e.active) l

module _ (more : List Given) {l : List Given} where
  tells_on : {p : Pair} {s : Struck} → Tells l p s → Tells (l ++ more) p s
  tells_on t = record { detection = t.detection; shown = Memᴰ.append_left more t.shown; pass = t.pass }

  each_on : {ps : List Pair} {m : List Struck} → Each (Tells l) ps m → Each (Tells (l ++ more)) ps m
  each_on done = done
  each_on (also t r) = also (tells_on t) (each_on r)

  named_on : {among : List ℕ} (id : ℕ) → Named l among id → Named (l ++ more) among id
  named_on id n = record { name = n.name; is_given = Memᴰ.append_left more n.is_given; is_there = n.is_there }

module _ {l : List Entry} {t u : Table} {e : Entry} (seen : Seen l t) (tells : Telling (given_in l) e u) where
  grown : given_in (l ++ (e ∷ [])) ≡ given_in l ++ map given_to e.opened
  grown = ap (map given_to) (gather_snoc (λ e. e.opened) l e) ∙ map-append given_to (opened_in l) e.opened

  seen_on : Seen (l ++ (e ∷ [])) u
  seen_on =
      let new = map given_to e.opened in
      record {
        table = rw grown tells.table;
        pairs = rw grown (every_append (every_weaker (λ e p. each_on new p) seen.pairs) (one (each_on new tells.pairs) none));
        active = rw grown (every_append (every_weaker (λ e a. every_weaker (named_on new) a) seen.active) (one tells.active none));
      }

-- ---- a global ID given stands among them once

given_counted : {name id : ℕ} {l : List Given} → Memᴰ (given name id) l → 0 < times id (globals l)
unfolding times
given_counted {id = id} (Memᴰ.head e) = rw (eq-eqb _ id (ap (λ (g : Given). g.global_id) (sym e))) (omega arith)
given_counted (Memᴰ.tail m) = omega (arith, given_counted m)

module _ {l : List Entry} {t : Table} (c : Counted l t) where
  run : Run 1 (globals (given_in l)) t.counts.global
  run = simp map-map c.globals_run

  names_one : {among : List ℕ} (id : ℕ) → Named (given_in l) among id → NamesOne (given_in l) among id
  names_one id n =
      record { name = n.name; is_given = n.is_given; no_other = omega (arith, given_counted n.is_given, run_once run id); is_there = n.is_there }

  -- a pair's ID: of a record that was hit, so that it stood in the table
  paired : (e : Entry) → Each (Tells (given_in l)) e.pairs (strikes e) → Among (hit_by e) e.before
      → Every (λ p. NamesOne (given_in l) e.before p.global_id) e.pairs
  paired e told hit = go told (every_weaker (λ s h. omega (arith, h, hit s.hit.name)) struck)
    where
      struck : Every (λ s. 0 < times s.hit.name (hit_by e)) (strikes e)
      struck = simp (map-append, map-map) at (self_counted (λ (s : Struck). s.hit.name) (strikes e))

      go : {ps : List Pair} {m : List Struck} → Each (Tells (given_in l)) ps m → Every (λ s. 0 < times s.hit.name e.before) m
          → Every (λ p. NamesOne (given_in l) e.before p.global_id) ps
      go done none = none
      go (also {x} {y} t r) (one there rest) = one (names_one x.global_id (record { name = y.hit.name; is_given = t.shown; is_there = there })) (go r rest)

-- ---- a day

record Kept (d : Day) : Type 0 where
  reached : Reached d.world.table
  seen : Seen (entries d) d.world.table

kept_on : (call : Call) (d : Day) → Kept d → Kept (goes_on call d)
unfolding goes_on
kept_on call d k =
    record {
      reached = reached_after call d.world k.reached;
      seen = rw (entries_on call d) (seen_on k.seen (telling_called (given_in (entries d)) call d.world (sound_most k.reached.sound) k.seen.table));
    }

fresh_kept : (c : TrackerConfig) (s : List Float) → (made c (length s)).refusal ≡ None → Kept (fresh c s)
unfolding gather
fresh_kept c s made-well =
    record {
      reached = reached_fresh c (length s) made-well;
      seen = record { table = rw (accepted_fresh c (length s) made-well) none; pairs = none; active = none };
    }

-- from any accepted making, over any list of calls with any inputs
pub shown : (c : TrackerConfig) (s : List Float) → (made c (length s)).refusal ≡ None → (calls : List Call) → Shown (day_of c s calls)
unfolding day_of
shown c s made-well calls =
    let k = (through_hold goes_on Kept calls (fresh c s) kept_on (fresh_kept c s made-well)).seen in
    let n = counted c s made-well calls in
    record {
      ids = rw length-map at (run_up (run n));
      table = k.table;
      pairs = k.pairs;
      paired = every_weaker (λ e both. paired n e both.0 both.1) (every_and k.pairs n.hit);
      active = every_weaker (λ e a. every_weaker (names_one n) a) k.active;
    }
