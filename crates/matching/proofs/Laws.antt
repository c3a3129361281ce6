-- Rule 42: each pick is the first smallest of those then free, no row or column is picked twice, and none is left at the end.
use mathlib.Core.Path.{◌≡◌, refl}
use mathlib.Core.Bool.{Bool, true, false, not-eq-not}
use mathlib.Core.List.{List, [], ◌∷◌, ◌++◌}
use Prim.Native.Nat.{ℕ, zero, suc, ◌<◌, ◌≤◌}
use native.Mathlib.Omega.{arith}
use lib.ListN.{length, set, length-map}
use Rattle.laws.specs.Lists.{times}
use Rattle.laws.specs.Turns.{through}
use Rattle.std.specs.Prelude.{Some, None}
use Rattle.matching.specs.Greedy.{Place, Matrix, free, marked, eligible, next_pick, Pick, rows_of, cols_of, pick_then, greedy, picks}
use Rattle.matching.proofs.NextPick.{Finite, FirstSmallest, Pickable, eligible_parts, next_is_pickable, next_is_first_smallest, next_is_none}
use Rattle.matching.proofs.Taken.{free_below, free_below_at_most, falls, free-before, Taken, none, next, taken_at_most, taken_once, used_not_taken, past_not_taken}

-- l is what at most k turns pick, from these flags on: the laws are proved by going along it
data Run (m : Matrix) : ℕ → List Bool → List Bool → List Pick → Type 0 where
  out_of_turns : {ur uc : List Bool} → Run m 0 ur uc []
  no_place : {k : ℕ} {ur uc : List Bool} → next_pick m ur uc ≡ None → Run m (suc k) ur uc []
  pick : {k : ℕ} {ur uc : List Bool} {p : Pick} {l : List Pick} → next_pick m ur uc ≡ Some (p.row, p.col)
      → Run m k (set ur p.row true) (set uc p.col true) l → Run m (suc k) ur uc (p ∷ l)

greedy_run : (m : Matrix) (k : ℕ) (ur uc : List Bool) → Run m k ur uc (greedy m k ur uc)
unfolding greedy pick_then
greedy_run m zero ur uc = out_of_turns
greedy_run m (suc k) ur uc = go (next_pick m ur uc) refl (greedy_run m k)
  where
    go : (q : Place) → next_pick m ur uc ≡ q → ((vr vc : List Bool) → Run m k vr vc (greedy m k vr vc))
        → Run m (suc k) ur uc (pick_then q (λ i j. greedy m k (set ur i true) (set uc j true)))
    go None e rest = no_place e
    go (Some (i, j)) e rest = pick e (rest (set ur i true) (set uc j true))

module _ {m : Matrix} where
  -- the pick after some picks is the next one at the flags that these leave
  run_next : {k : ℕ} (ur uc : List Bool) (before : List Pick) (p : Pick) (after : List Pick) → Run m k ur uc (before ++ (p ∷ after))
      → next_pick m (marked (rows_of before) ur) (marked (cols_of before) uc) ≡ Some (p.row, p.col)
  unfolding through
  run_next ur uc [] p after (pick e r) = e
  run_next ur uc (q ∷ before) p after (pick e r) = run_next (set ur q.row true) (set uc q.col true) before p after r

  run_taken : {k : ℕ} {ur uc : List Bool} {l : List Pick} → Run m k ur uc l → Taken m.rows ur (rows_of l) × Taken m.cols uc (cols_of l)
  run_taken out_of_turns = (none, none)
  run_taken (no_place e) = (none, none)
  run_taken (pick {ur = ur} {uc = uc} e r) =
      let f = next_is_pickable m ur uc e in
      let (rows, cols) = run_taken r in
      (next f.row_in_range f.row_free rows, next f.col_in_range f.col_free cols)

  -- each pick uses a free row up, so that as many turns as there are free rows suffice to leave none
  run_ends : {k : ℕ} {ur uc : List Bool} {l : List Pick} → Run m k ur uc l → free_below m.rows ur ≤ k
      → (a b : ℕ) → a < m.rows → b < m.cols → eligible m (marked (rows_of l) ur) (marked (cols_of l) uc) a b ≡ false
  unfolding through
  run_ends (out_of_turns {ur} {uc}) few =
      λ a b ha hb. (not-eq-not {b = false}).0 λ t. omega (arith, falls m.rows ur a ha (eligible_parts m ur uc a b t).1)
  run_ends (no_place {ur = ur} {uc = uc} e) few = next_is_none m ur uc e
  run_ends (pick {ur = ur} {uc = uc} {p = p} e r) few =
      let f = next_is_pickable m ur uc e in
      run_ends r (omega (arith, falls m.rows ur p.row f.row_in_range f.row_free))

module _ (m : Matrix) (ur uc : List Bool) where
  abbrev run : Run m m.rows ur uc (picks m ur uc)
  run = greedy_run m m.rows ur uc

  each_next : (before : List Pick) (p : Pick) (after : List Pick) → picks m ur uc ≡ before ++ (p ∷ after)
      → next_pick m (marked (rows_of before) ur) (marked (cols_of before) uc) ≡ Some (p.row, p.col)
  each_next before p after e = run_next ur uc before p after (rw e at run)

  pub each_first_smallest : Finite m → (before : List Pick) (p : Pick) (after : List Pick) → picks m ur uc ≡ before ++ (p ∷ after)
      → FirstSmallest m (marked (rows_of before) ur) (marked (cols_of before) uc) p.row p.col
  each_first_smallest F before p after e =
      next_is_first_smallest m (marked (rows_of before) ur) (marked (cols_of before) uc) F (each_next before p after e)

  -- it was pickable at entry too
  pub each_was_free : (before : List Pick) (p : Pick) (after : List Pick) → picks m ur uc ≡ before ++ (p ∷ after) → Pickable m ur uc p.row p.col
  each_was_free before p after e =
      let f = next_is_pickable m (marked (rows_of before) ur) (marked (cols_of before) uc) (each_next before p after e) in
      record {
        row_in_range = f.row_in_range;
        col_in_range = f.col_in_range;
        counted = f.counted;
        row_free = free-before (rows_of before) ur p.row f.row_free;
        col_free = free-before (cols_of before) uc p.col f.col_free;
      }

  -- the rows, and the columns, of the picks: each was free when it was picked
  pub rows_taken : Taken m.rows ur (rows_of (picks m ur uc))
  rows_taken = (run_taken run).0

  pub cols_taken : Taken m.cols uc (cols_of (picks m ur uc))
  cols_taken = (run_taken run).1

  pub no_row_twice : (x : ℕ) → times x (rows_of (picks m ur uc)) ≤ 1
  no_row_twice = taken_once rows_taken

  pub no_col_twice : (x : ℕ) → times x (cols_of (picks m ur uc)) ≤ 1
  no_col_twice = taken_once cols_taken

  pub used_row_unpicked : (x : ℕ) → free ur x ≡ false → times x (rows_of (picks m ur uc)) ≡ 0
  used_row_unpicked = used_not_taken rows_taken

  pub used_col_unpicked : (x : ℕ) → free uc x ≡ false → times x (cols_of (picks m ur uc)) ≡ 0
  used_col_unpicked = used_not_taken cols_taken

  pub row_past_unpicked : (x : ℕ) → m.rows ≤ x → times x (rows_of (picks m ur uc)) ≡ 0
  row_past_unpicked = past_not_taken rows_taken

  pub col_past_unpicked : (x : ℕ) → m.cols ≤ x → times x (cols_of (picks m ur uc)) ≡ 0
  col_past_unpicked = past_not_taken cols_taken

  pub at_most_rows : length (picks m ur uc) ≤ m.rows
  at_most_rows = rw length-map at (taken_at_most rows_taken)

  pub at_most_cols : length (picks m ur uc) ≤ m.cols
  at_most_cols = rw length-map at (taken_at_most cols_taken)

  pub none_left : (a b : ℕ) → a < m.rows → b < m.cols
      → eligible m (marked (rows_of (picks m ur uc)) ur) (marked (cols_of (picks m ur uc)) uc) a b ≡ false
  none_left = run_ends run (free_below_at_most m.rows ur)
