-- Rules 46, 47, 64 and 75: what the host sees: over any sequence of calls a global ID names one record, and the pairs listed are the hits.
use Rattle.std.specs.Prelude.{◌≡◌, ℕ, ◌<◌, length}
use mathlib.Core.List.{List, [], ◌∷◌, ◌++◌, map, Memᴰ}
use Rattle.laws.specs.Every.{Every}
use Rattle.laws.specs.Lists.{times, up_from}
use Rattle.table.specs.Slots.{table_objects}
use Rattle.pairs.specs.declared.Pair.{Pair}
use Rattle.matching_step.specs.Account.{Hit, Given, given, given_to, shown_by}
use Rattle.ledger.specs.History.{Entry, Day}
use Rattle.ledger.specs.Demand.{entries, opened_in}

-- the records opened, each with the global ID given to it, in the order of opening
abbrev pub given_in : List Entry → List Given
given_in l = map given_to (opened_in l)

abbrev pub ever_given : Day → List Given
ever_given d = given_in (entries d)

abbrev pub globals : List Given → List ℕ
globals l = map (λ g. g.global_id) l

-- a global ID names one record: it was given to it, to no other, and the record is among these
pub record NamesOne (l : List Given) (among : List ℕ) (id : ℕ) : Type 0 where
  pub name : ℕ
  pub is_given : Memᴰ (given name id) l
  pub no_other : times id (globals l) ≡ 1
  pub is_there : 0 < times name among

-- ---- pairs and hits

-- a hit with its pass
pub record Struck : Type 0 where
  pub pass : ℕ
  pub hit : Hit

abbrev pub strikes : Entry → List Struck
strikes e = map (λ h. record { pass = 1; hit = h }) e.first ++ map (λ h. record { pass = 2; hit = h }) e.second

-- a pair tells a hit: detection and pass, and the record by the global ID given to it
pub record Tells (l : List Given) (p : Pair) (s : Struck) : Type 0 where
  pub detection : p.detection ≡ s.hit.detection
  pub shown : Memᴰ (given s.hit.name p.global_id) l
  pub pass : p.pass ≡ s.pass

-- one by one, in order
pub data Each {A B : Type 0} (R : A → B → Type 0) : List A → List B → Type 0 where
  done : Each R [] []
  also : {x : A} {y : B} {l : List A} {m : List B} → R x y → Each R l m → Each R (x ∷ l) (y ∷ m)

-- ---- the statement

pub record Shown (d : Day) : Type 0 where
  -- the global IDs given are 1 to n, in the order of opening
  pub ids : globals (ever_given d) ≡ up_from 1 (length (ever_given d))
  -- each record in the table shows the one given at its opening
  pub table : Every (λ o. Memᴰ (shown_by o) (ever_given d)) (table_objects d.world.table)
  -- the pairs listed in a step are its hits, in order, under those IDs
  pub pairs : Every (λ e. Each (Tells (ever_given d)) e.pairs (strikes e)) (entries d)
  -- each ID of a pair list names one record, which stood in the table; each of an active list one that stands there
  pub paired : Every (λ e. Every (λ p. NamesOne (ever_given d) e.before p.global_id) e.pairs) (entries d)
  pub active : Every (λ e. Every (NamesOne (ever_given d) e.now) e.active) (entries d)
