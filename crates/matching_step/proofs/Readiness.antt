-- Rules 11 and 14: what step 2 has once none of its refusals is due, and what it answers where one is.
use mathlib.Core.Path.{◌≡◌, refl, sym, ◌∙◌, ap}
use mathlib.Core.Bool.{true, false, cond}
use mathlib.Core.List.{List, [], ◌∷◌, ◌++◌, map}
use Prim.Native.Nat.{ℕ, ◌+◌, ◌*◌, ◌≤◌}
use native.Mathlib.Nat.{le_trans}
use native.Mathlib.Omega.{arith}
use borrow.Author.Tests.{leb-true, ltb-false, eqb-true, not-false, le-leb}
use lib.Dec.{leb, eqb}
use lib.Ieee.{Float}
use lib.IntN.{ℤ, pos, negsuc}
use lib.ListN.{length, length-append, length-map}
use lib.Signed.{le_z, lt_z}
use Rattle.laws.specs.Lists.{EachBelow, filled}
use Rattle.laws.proofs.Growing.{length-keep}
use Rattle.matching.specs.Greedy.{rows_of}
use Rattle.matching.specs.Lent.{picked}
use Rattle.matching.specs.Unmatched.{unmatched}
use Rattle.matching.proofs.Left.{at_most_total}
use Rattle.matching.proofs.Picked.{picked_of}
use Rattle.parts.specs.Layout.{coords}
use Rattle.pairs.specs.declared.Pair.{Pair}
use Rattle.table.specs.declared.Table.{Table}
use Rattle.table.specs.Making.{zero_object}
use Rattle.std.specs.Prelude.{Option, Some, None, is_none, Result, Ok, Err}
use Rattle.table.specs.declared.refusals.Refusal.{Refusal}
use Rattle.table.specs.Refusals.{first_due, checked, storage_need}
use Rattle.table.proofs.Chain.{parts}
use Rattle.table.proofs.Due.{checked_refused, checked_passed, due_after, none_due}
use Rattle.table.proofs.Facts.{WholeFacts, whole_facts, sizes_of, blocks_fit, object_in_range}
use Rattle.passes.specs.declared.frame.LentLengths.{LentLengths}
use Rattle.passes.specs.Checks.{Frame, lengths_of, given_checks, decided_checks}
use Rattle.passes.specs.Passes.{numbers, among}
use Rattle.passes.proofs.PassLaws.{first_passed, second_passed, rows_inside, cols_inside, names_once}
use Rattle.matching_step.specs.declared.Decided.{Decided}
use Rattle.matching_step.specs.declared.Matched.{Matched}
use Rattle.matching_step.specs.Step.{matrix_of, first_hits, second_hits, to_open, match_table, match_floats, pair_of, pairs_of, match_refusal, no_pair, refused_with, matched, matched_floats, decided_of, Decidable, Ready}
use Rattle.matching_step.proofs.Deciding.{few_hits}

-- ---- none is due before the picks

pub record GivenFacts (t : Table) (floats period detections : ℕ) (l : LentLengths) : Type 0 where
  pub whole : WholeFacts t
  pub storage : storage_need t.config ≤ floats
  pub often : period ≤ 1000
  pub few : detections ≤ 32
  pub points : l.points ≡ detections * coords t.config
  pub scores : l.scores ≡ detections * t.config.points
  pub marks : l.has_scores ≡ detections
  pub distances : l.distances ≡ detections * t.counts.records
  pub places : 32 ≤ l.pairs

module _ (t : Table) (floats period detections : ℕ) (l : LentLengths) (none : first_due (given_checks t floats period detections l) ≡ None) where
  pub given_facts : GivenFacts t floats period detections l
  given_facts =
      let c = t.config in
      let due = none_due (given_checks t floats period detections l) none in
      let fit =
      parts (eqb l.points (detections * coords c)) (
      eqb l.scores (detections * c.points) ∷ eqb l.has_scores detections ∷ eqb l.distances (detections * t.counts.records) ∷ []
      ) (not-false _ due.1.1.1.1.1.0)
      in
      record {
        whole = whole_facts t (not-false _ due.0);
        storage = ltb-false floats (storage_need c) due.1.0;
        often = leb-true period 1000 (parts (leb 1 period) (leb period 1000 ∷ []) (not-false _ due.1.1.1.0)).1;
        few = ltb-false 32 detections due.1.1.1.1.0;
        points = eqb-true _ _ fit.0;
        scores = eqb-true _ _ fit.1.0;
        marks = eqb-true _ _ fit.1.1.0;
        distances = eqb-true _ _ fit.1.1.1;
        places = ltb-false l.pairs 32 due.1.1.1.1.1.1.0;
      }

  pub decidable : Decidable t detections l.distances
  decidable =
      let g = given_facts in
      let w = g.whole in
      record {
        few = g.few;
        fit = omega (arith, w.counts.records, w.settings.capacity.1);
        distances = g.distances;
        alive = (w.alive.count, w.alive.named);
        initializing = (w.initializing.count, w.initializing.named);
      }

-- ---- what is decided

module _ (t : Table) (detections : ℕ) (f : Frame) where
  few_open : length (to_open t detections f) ≤ detections
  unfolding to_open
  few_open =
      let first = rows_of (first_hits t detections f) in
      le_trans (length-keep (among false (rows_of (second_hits t detections f))) (unmatched detections first)) (at_most_total detections first)

  -- the refusal that waits for them
  abbrev pub decided_due : Option Refusal
  decided_due = first_due (decided_checks t.config t.counts f.points (length (to_open t detections f)))

  roomy : decided_due ≡ None → t.counts.records + length (to_open t detections f) ≤ t.config.capacity
  roomy none =
      let more = length (to_open t detections f) in
      let due = none_due (decided_checks t.config t.counts f.points more) none in
      ltb-false t.config.capacity (t.counts.records + more) due.1.0

-- ---- the refusals in their order

-- where the one that comes first is not due the other decides
apart : (first second : Option Refusal) → cond (is_none first) second first ≡ None → (first ≡ None) × (second ≡ None)
apart None second e = (refl, e)
apart (Some r) second e = cc

-- the delay lies from 0 to below the maximum
above_delay : (maximum delay : ℤ) → lt_z delay (pos 0) ≡ false → le_z maximum delay ≡ false → le_z (pos 0) maximum ≡ true
above_delay (pos m) delay from below = le-leb 0 m (omega arith)
above_delay (negsuc m) (pos d) from below = sym below
above_delay (negsuc m) (negsuc d) from below = sym from

module _ (t : Table) (s : List Float) (detections : ℕ) (f : Frame) (places : ℕ) where
  -- the refusal that does not wait for the picks
  abbrev pub given_due : Option Refusal
  given_due = first_due (given_checks t (length s) f.period detections (lengths_of f places))

  pub given_first : match_refusal t s detections f places ≡ cond (is_none given_due) (decided_due t detections f) given_due
  given_first =
      let l = lengths_of f places in
      due_after (given_checks t (length s) f.period detections l) (decided_checks t.config t.counts f.points (length (to_open t detections f)))

  none_apart : match_refusal t s detections f places ≡ None → (given_due ≡ None) × (decided_due t detections f ≡ None)
  none_apart none = apart given_due (decided_due t detections f) (sym given_first ∙ none)

  pub facts : match_refusal t s detections f places ≡ None → GivenFacts t (length s) f.period detections (lengths_of f places)
  facts none = given_facts t (length s) f.period detections (lengths_of f places) (none_apart none).0

  pub ready : length t.records ≡ 64 → match_refusal t s detections f places ≡ None → Ready t (length s) detections f
  ready long none =
      let c = t.config in
      let g = facts none in
      let w = g.whole in
      let n = w.counts in
      let p = decidable t (length s) f.period detections (lengths_of f places) (none_apart none).0 in
      let room = roomy t detections f (none_apart none).1 in
      record {
        fits =
            record {
              sizes = sizes_of c w.in_range;
              detections = rw g.marks g.few;
              points = rw g.marks g.points;
              scores = rw g.marks g.scores;
              period = g.often;
            };
        holding =
            record {
              from = above_delay c.hit_counter_max c.initialization_delay w.delay_from w.delay_below;
              most = w.settings.maximum;
              fit = p.fit;
              room = blocks_fit c n.records g.storage;
              ranges = λ i h. object_in_range c t.counts.frames _ (w.object i zero_object h (omega (arith, p.fit))) n.frames;
            };
        decidable = p;
        dead = (w.dead.count, names_once w.dead);
        places = le_trans room w.settings.capacity.1;
        room = blocks_fit c room g.storage;
        opened = n.opened;
        permanent = omega (arith, n.permanent.1, n.opened);
        global = omega (arith, n.global, n.opened);
        initializing = omega (arith, n.initializing, n.opened);
      }

  -- the first check's answer, told the lengths of what is lent
  pub told_given : {l : LentLengths} {r : Result (Unit {0}) Refusal} → l ≡ lengths_of f places
      → r ≡ checked (first_due (given_checks t (length s) f.period detections l)) → checked given_due ≡ r
  told_given {l} e told = sym (told ∙ ap (λ k. checked (first_due (given_checks t (length s) f.period detections k))) e)

  -- ---- a refusal is the answer, and nothing changes

  pub due_given : {r : Refusal} → checked given_due ≡ Err r → match_refusal t s detections f places ≡ Some r
  due_given e = given_first ∙ rw (checked_refused given_due e)

  pub refused_value : {r : Refusal} {m : Matched} → match_refusal t s detections f places ≡ Some r → m ≡ refused_with (Some r) t
      → m ≡ matched t s detections f places
  unfolding matched
  refused_value due same = rw (same, due)

  pub refused_floats : {r : Refusal} → match_refusal t s detections f places ≡ Some r → s ≡ matched_floats t s detections f places
  unfolding matched_floats
  refused_floats due = rw due

-- ---- once the picks are decided: no refusal came before them, and they are the definition's

pub record Picking (t : Table) (s : List Float) (detections : ℕ) (f : Frame) (places : ℕ) (d : Decided) : Type 0 where
  pub none : given_due t s detections f places ≡ None
  pub made : d ≡ decided_of t detections f

module _ {t : Table} {s : List Float} {detections : ℕ} {f : Frame} {places : ℕ} {d : Decided} (came : Picking t s detections f places d) where
  passed : GivenFacts t (length s) f.period detections (lengths_of f places)
  passed = given_facts t (length s) f.period detections (lengths_of f places) came.none

  standing : Decidable t detections (length f.distances)
  standing = decidable t (length s) f.period detections (lengths_of f places) came.none

  -- what decided_refusal asks
  pub askable : (t.counts.records ≤ 64) × (t.counts.opened ≤ 2000000000) × (d.left.count ≤ 64)
  askable = (standing.fit, passed.whole.counts.opened, rw came.made (omega (arith, few_open t detections f, passed.few)))

  few_pairs : d.first.count + d.second.count ≤ 32
  few_pairs = rw came.made (le_trans (few_hits t detections f) passed.few)

  pub pairs_bound : (d.first.count + d.second.count ≤ 32) × (d.first.count + d.second.count ≤ places)
  pairs_bound = (few_pairs, le_trans few_pairs passed.places)

  -- what pairs_of asks: every hit lies in the matrix
  pub pairable : (d.first.count + d.second.count ≤ 32) × (detections ≤ 32) × (t.counts.records ≤ 64)
      × (length f.distances ≡ detections * t.counts.records)
      × EachBelow detections d.first.count d.first.rows × EachBelow t.counts.records d.first.count d.first.cols
      × EachBelow detections d.second.count d.second.rows × EachBelow t.counts.records d.second.count d.second.cols
  unfolding first_hits second_hits
  pairable =
      let m = matrix_of t detections f in
      let one = first_passed m (numbers t.lists.alive) in
      let two = second_passed m (numbers t.lists.initializing) (rows_of (first_hits t detections f)) in
      let p = standing in
      rw came.made (rw came.made at few_pairs, p.few, p.fit, p.distances, rows_inside one, cols_inside one, rows_inside two, cols_inside two)

  -- the pairs listed are one for each hit
  listed : map (pair_of t.records f t.counts.records 1) (picked d.first) ++ map (pair_of t.records f t.counts.records 2) (picked d.second)
      ≡ pairs_of t detections f
  unfolding pairs_of
  listed = rw (came.made, picked_of (first_hits t detections f), picked_of (second_hits t detections f))

  counted : d.first.count + d.second.count ≡ length (pairs_of t detections f)
  unfolding pairs_of
  counted = rw came.made (simp (length-append, length-map))

  -- the refusal that waits for them, as it is asked
  abbrev pub asked_due : Option Refusal
  asked_due = first_due (decided_checks t.config t.counts f.points d.left.count)

  due_is : match_refusal t s detections f places ≡ asked_due
  due_is = given_first t s detections f places ∙ rw (came.none, came.made)

  pub due_decided : {r : Refusal} → checked asked_due ≡ Err r → match_refusal t s detections f places ≡ Some r
  due_decided e = due_is ∙ checked_refused asked_due e

  module _ {u : Unit {0}} (nor : checked asked_due ≡ Ok u) where
    none_is : match_refusal t s detections f places ≡ None
    none_is = due_is ∙ checked_passed asked_due nor

    -- what match_step asks, which counts the detections by their marks
    pub startable : length t.records ≡ 64 → Ready t (length s) (length f.has_scores) f × (d ≡ decided_of t (length f.has_scores) f)
    startable long = rw passed.marks (ready t s detections f places long none_is, came.made)

    pub accepted_value : {pairs : List Pair} {table : Table}
        → pairs
        ≡ filled 32 no_pair
        (map (pair_of t.records f t.counts.records 1) (picked d.first) ++ map (pair_of t.records f t.counts.records 2) (picked d.second))
        → table ≡ match_table t s (length f.has_scores) f
        → ◌≡◌ {A = Matched} (record { pairs = pairs; count = d.first.count + d.second.count; refusal = None; table = table }) (matched t s detections f places)
    unfolding matched
    accepted_value paired stepped = rw (none_is, paired, listed, counted, stepped, passed.marks)

    pub accepted_floats : {floats : List Float} → floats ≡ match_floats t s (length f.has_scores) f → floats ≡ matched_floats t s detections f places
    unfolding matched_floats
    accepted_floats written = rw (none_is, written, passed.marks)
