-- Rule 60: who is picked, by places in the table: each is a record's.
use Rattle.std.specs.Prelude.{Ok}
use mathlib.Core.Path.{◌≡◌, ◌∙◌}
use mathlib.Core.Bool.{Bool, true, false, cond}
use mathlib.Core.List.{List, map, map-map}
use Prim.Native.Nat.{ℕ, ◌+◌, ◌*◌, ◌<◌, ◌≤◌}
use native.Mathlib.Nat.{le_trans, mul-le-mul}
use native.Mathlib.Omega.{arith}
use borrow.Author.Tests.{not-false}
use lib.Ieee.{Float}
use lib.ListN.{length, get_or, set, replicate, length-map}
use Rattle.laws.specs.Every.{Every}
use Rattle.laws.specs.Lists.{below, padded, EachBelow}
use Rattle.laws.proofs.Every.{every_weaker, every_map, every_unmap, every_and, each_padded}
use Rattle.laws.proofs.Growing.{length-below, filled_below}
use Rattle.matching.specs.declared.Numbers.{Numbers}
use Rattle.matching.specs.declared.Picks.{Picks}
use Rattle.matching.specs.Greedy.{Pick, rows_of, cols_of, picks}
use Rattle.matching.specs.Lent.{lent, picks_of, picked}
use Rattle.matching.proofs.Laws.{rows_taken, cols_taken, at_most_rows}
use Rattle.matching.proofs.Picked.{Inside, picked_of}
use Rattle.matching.proofs.Taken.{taken_below}
use Rattle.table.specs.declared.Phase.TheVariants.{Reid}
use Rattle.table.specs.declared.Table.{Table}
use Rattle.table.specs.Refusals.{first_due, checked, step_checks}
use Rattle.table.proofs.Due.{checked_passed, none_due}
use Rattle.table.proofs.Facts.{whole_facts}
use Rattle.reid.specs.Step.{candidates_met, reid_matrix, placed, merges, Meets}

-- ---- as the loop of `places_of` lists them

abbrev row_at : Numbers 32 → Picks → ℕ → ℕ
row_at candidates p k = get_or candidates.at (get_or p.rows k 0) 0

abbrev col_at : Numbers 64 → Picks → ℕ → ℕ
col_at old p k = get_or old.at (get_or p.cols k 0) 0

-- the places of the first i picks
abbrev pub places_below : Numbers 32 → Numbers 64 → Picks → ℕ → Picks
places_below candidates old p i =
    record { rows = padded 32 (map (row_at candidates p) (below i)); cols = padded 32 (map (col_at old p) (below i)); count = p.count }

pub places_next : (candidates : Numbers 32) (old : Numbers 64) (p q : Picks) (i : ℕ) → i < 32 → q ≡ places_below candidates old p i
    → record { rows = set q.rows i (row_at candidates p i); cols = set q.cols i (col_at old p i); count = q.count }
    ≡ places_below candidates old p (i + 1)
places_next candidates old p q i h e =
    rw (e, ← filled_below 32 0 (row_at candidates p) i h, ← filled_below 32 0 (col_at old p) i h)

pub all_placed : (candidates : Numbers 32) (old : Numbers 64) (p : Picks) → picks_of (map (placed candidates old) (picked p)) ≡ places_below candidates old p p.count
all_placed candidates old p = simp (map-map, length-map, length-below)

-- ---- what `decide` asks of the matching, and gets

-- few enough picks, rows and columns each below a limit, as a struct lists them
pub record Bounded (m n : ℕ) (r : Picks) : Type 0 where
  pub few : r.count ≤ 32
  pub rows : EachBelow m r.count r.rows
  pub cols : EachBelow n r.count r.cols

bounded : {m n : ℕ} (l : List Pick) → length l ≤ 32 → Every (Inside m n) l → Bounded m n (picks_of l)
bounded l few all =
    record {
      few = few;
      rows = each_padded 32 (rows_of l) (length-map l (λ p. p.row)) (every_map (λ p. p.row) (every_weaker (λ p w. w.0) all));
      cols = each_padded 32 (cols_of l) (length-map l (λ p. p.col)) (every_map (λ p. p.col) (every_weaker (λ p w. w.1) all));
    }

pub met_most : (b : Bool) (n : ℕ) → cond b n 0 ≤ n
met_most true n = omega arith
met_most false n = omega arith

module _ (t : Table) (ds : List Float) (meets : Meets t (length ds)) where
  rows_few : candidates_met t ≤ t.lists.candidates.count
  rows_few = met_most t.config.has_reid_distance t.lists.candidates.count

  rows_most : candidates_met t ≤ 32
  rows_most = le_trans rows_few meets.candidates.0

  abbrev found : List Pick
  found = picks (reid_matrix t ds) (replicate 32 false) (replicate 64 false)

  found_within : Every (Inside (candidates_met t) t.lists.old.count) found
  found_within =
      let ur = replicate 32 false in
      let uc = replicate 64 false in
      every_and
      (every_unmap (λ p. p.row) found (taken_below (rows_taken (reid_matrix t ds) ur uc)))
      (every_unmap (λ p. p.col) found (taken_below (cols_taken (reid_matrix t ds) ur uc)))

  found_few : length found ≤ 32
  found_few = le_trans (at_most_rows (reid_matrix t ds) (replicate 32 false) (replicate 64 false)) rows_most

  -- the picks that the matching returned
  module _ {rows : ℕ} {r : Picks} (e : rows ≡ candidates_met t)
      (picked-by : r ≡ picks_of (picks (lent ds rows t.lists.old.count t.config.reid_distance_threshold) (replicate 32 false) (replicate 64 false))) where
    same : r ≡ picks_of found
    same = rw e at picked-by

    pub picks_bounded : Bounded 32 64 r
    picks_bounded =
        rw same
        (bounded found found_few (every_weaker (λ p w. (omega (arith, w.0, rows_most), omega (arith, w.1, meets.old.0))) found_within))

    pub places_merges : {q : Picks} → q ≡ picks_of (map (placed t.lists.candidates t.lists.old) (picked r)) → q ≡ picks_of (merges t ds)
    unfolding merges
    places_merges at = at ∙ rw (same, picked_of found)

  -- ---- the merges name records of the table

  pub merges_within : Every (Inside t.counts.records t.counts.records) (merges t ds)
  unfolding merges
  merges_within =
      every_map (placed t.lists.candidates t.lists.old)
      (every_weaker (λ p w. (meets.candidates.1 p.row (omega (arith, w.0, rows_few)), meets.old.1 p.col w.1)) found_within)

  merges_few : length (merges t ds) ≤ 32
  unfolding merges
  merges_few = rw (length-map found (placed t.lists.candidates t.lists.old)) found_few

  pub merges_bounded : {q : Picks} → q ≡ picks_of (merges t ds) → Bounded t.counts.records t.counts.records q
  merges_bounded e = rw e (bounded (merges t ds) merges_few merges_within)

-- ---- where no refusal of a step is due, the entries asked for are few

pub asked_few : (t : Table) (floats : ℕ) {rows : ℕ} → rows ≡ candidates_met t → checked (first_due (step_checks Reid t floats)) ≡ Ok tt
    → rows * t.lists.old.count ≤ 32 * 64
asked_few t floats met e =
    let none = none_due (step_checks Reid t floats) (checked_passed (first_due (step_checks Reid t floats)) e) in
    let f = whole_facts t (not-false _ none.0) in
    rw met (mul-le-mul (le_trans (met_most t.config.has_reid_distance t.lists.candidates.count) f.candidates.count) f.old.count)
