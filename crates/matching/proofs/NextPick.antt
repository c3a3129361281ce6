-- Rule 42: the scan finds the smallest counting entry whose row and column are free, and of several equal ones the first in row-major order.
use mathlib.Core.Path.{◌≡◌, refl, sym, ◌∙◌, subst, subst₂}
use mathlib.Core.Logic.{◌⊎◌, inl, inr}
use mathlib.Core.Bool.{Bool, true, false, true≢false, not-eq-not, and-eq-true_iff, ◌&&◌, cond}
use mathlib.Core.List.{List}
use Prim.Native.Nat.{ℕ, zero, suc, ◌<◌, ◌≤◌}
use native.Mathlib.Decide.{ℕ_discrete}
use native.Mathlib.Nat.{le_refl}
use native.Mathlib.Omega.{arith}
use lib.Ieee.{lt}
use Rattle.laws.specs.Float64.{finite}
use Rattle.laws.proofs.FloatOrder.{lt_irreflexive, lt_asymmetric, lt_cotransitive}
use Rattle.std.specs.Prelude.{Some, None}
use Rattle.matching.specs.Greedy.{Place, Matrix, free, eligible, smaller, look, scan_row, scan_rows, next_pick}

-- (a, b) stands before (i, j) in row-major order
abbrev pub Before : ℕ → ℕ → ℕ → ℕ → Type 0
Before a b i j = (a < i) ⊎ ((a ≡ i) × (b < j))

-- what counts is finite
abbrev pub Finite : Matrix → Type 0
Finite m = (i j : ℕ) → m.counts i j ≡ true → finite (m.entry i j) ≡ true

-- the entry at (i, j) is the smallest eligible one, and strictly smaller than those before it
pub record FirstSmallest (m : Matrix) (ur uc : List Bool) (i j : ℕ) : Type 0 where
  pub row_in_range : i < m.rows
  pub col_in_range : j < m.cols
  pub is_eligible : eligible m ur uc i j ≡ true
  pub smallest : (a b : ℕ) → a < m.rows → b < m.cols → eligible m ur uc a b ≡ true → lt (m.entry a b) (m.entry i j) ≡ false
  pub first : (a b : ℕ) → b < m.cols → Before a b i j → eligible m ur uc a b ≡ true → lt (m.entry i j) (m.entry a b) ≡ true

-- (i, j) is in range and counts, and its row and column are free
pub record Pickable (m : Matrix) (ur uc : List Bool) (i j : ℕ) : Type 0 where
  pub row_in_range : i < m.rows
  pub col_in_range : j < m.cols
  pub counted : m.counts i j ≡ true
  pub row_free : free ur i ≡ true
  pub col_free : free uc j ≡ true

-- what `eligible` says
pub eligible_parts : (m : Matrix) (ur uc : List Bool) (i j : ℕ) → eligible m ur uc i j ≡ true
    → (m.counts i j ≡ true) × (free ur i ≡ true) × (free uc j ≡ true)
eligible_parts m ur uc i j e =
    let (c, f) = (and-eq-true_iff (m.counts i j) (free ur i && free uc j)).0 e in
    let (r, s) = (and-eq-true_iff (free ur i) (free uc j)).0 f in
    (c, r, s)

-- every place (a, b) within the columns that stands before (i, j): what the scan has looked at when it comes to (i, j)
abbrev AllBefore : Matrix → ℕ → ℕ → (ℕ → ℕ → Type 0) → Type 0
AllBefore m i j P = (a b : ℕ) → b < m.cols → Before a b i j → P a b

-- nothing at the start, then place by place, and from a row's end to the next row
at_start : (m : Matrix) (P : ℕ → ℕ → Type 0) → AllBefore m 0 0 P
at_start m P a b hb (inl h) = absurd (omega arith)
at_start m P a b hb (inr h) = absurd (omega arith)

one_more : (m : Matrix) (i j : ℕ) (P : ℕ → ℕ → Type 0) → AllBefore m i j P → P i j → AllBefore m i (suc j) P
one_more m i j P before here a b hb (inl h) = before a b hb (inl h)
one_more m i j P before here a b hb (inr h) = go (ℕ_discrete b j)
  where
    go : Dec (b ≡ j) → P a b
    go (yes e) = subst₂ P (sym h.0) (sym e) here
    go (no n) = before a b hb (inr (h.0, omega arith))

next_row : (m : Matrix) (i : ℕ) (P : ℕ → ℕ → Type 0) → AllBefore m i m.cols P → AllBefore m (suc i) 0 P
next_row m i P before a b hb (inr h) = absurd (omega arith)
next_row m i P before a b hb (inl h) = go (ℕ_discrete a i)
  where
    go : Dec (a ≡ i) → P a b
    go (yes e) = before a b hb (inr (e, hb))
    go (no n) = before a b hb (inl (omega arith))

module _ (m : Matrix) (ur uc : List Bool) where
  abbrev NotEligible : ℕ → ℕ → Type 0
  NotEligible a b = eligible m ur uc a b ≡ false

  -- no eligible entry at (a, b) is below that at (x, y)
  abbrev NotBelow : ℕ → ℕ → ℕ → ℕ → Type 0
  NotBelow x y a b = eligible m ur uc a b ≡ true → lt (m.entry a b) (m.entry x y) ≡ false

  -- an eligible entry at (a, b) is above that at (x, y)
  abbrev Above : ℕ → ℕ → ℕ → ℕ → Type 0
  Above x y a b = eligible m ur uc a b ≡ true → lt (m.entry x y) (m.entry a b) ≡ true

  -- of what stands before (i, j), the entry at (x, y) is the first smallest. Only the order of the entries wants them finite
  record Best (i j x y : ℕ) : Type 0 where
    row_in_range : x < m.rows
    col_in_range : y < m.cols
    is_eligible : eligible m ur uc x y ≡ true
    smallest : Finite m → AllBefore m i j (NotBelow x y)
    first : Finite m → AllBefore m x y (Above x y)

  -- the scan's invariant, when it comes to (i, j)
  abbrev Found : ℕ → ℕ → Place → Type 0
  Found i j (Some (x, y)) = Best i j x y
  Found i j None = AllBefore m i j NotEligible

  -- the place found stays where no more of what was looked at is below it
  stays : {i j i' j' x y : ℕ} → (AllBefore m i j (NotBelow x y) → AllBefore m i' j' (NotBelow x y)) → Best i j x y → Best i' j' x y
  stays more b =
      record {
        row_in_range = b.row_in_range;
        col_in_range = b.col_in_range;
        is_eligible = b.is_eligible;
        smallest = λ F. more (b.smallest F);
        first = b.first;
      }

  -- an eligible entry strictly below those before it is the new first smallest
  wins : (i j : ℕ) → i < m.rows → j < m.cols → eligible m ur uc i j ≡ true
      → (Finite m → AllBefore m i j (Above i j)) → Best i (suc j) i j
  wins i j hi hj e above =
      record {
        row_in_range = hi;
        col_in_range = hj;
        is_eligible = e;
        smallest = λ F. one_more m i j (NotBelow i j)
            (λ a b hb h t. lt_asymmetric (m.entry i j) (m.entry a b) (above F a b hb h t))
            (λ t. lt_irreflexive (m.entry i j));
        first = above;
      }

  -- what is below the smallest so far is below all that was looked at: here a finite middle is needed
  below_all : (i j x y : ℕ) → Best i j x y → lt (m.entry i j) (m.entry x y) ≡ true → Finite m → AllBefore m i j (Above i j)
  below_all i j x y f l F a b hb h t =
      let fin : finite (m.entry a b) ≡ true = F a b (eligible_parts m ur uc a b t).0 in
      (not-eq-not {b = true}).0 λ n. true≢false (sym l ∙ lt_cotransitive (m.entry i j) (m.entry a b) (m.entry x y) fin n (f.smallest F a b hb h t))

  -- one more place looked at: a tie leaves the earlier one
  look_found : (i j : ℕ) → i < m.rows → j < m.cols → (p : Place) → Found i j p → Found i (suc j) (look m ur uc i j p)
  unfolding smaller
  look_found i j hi hj p f = go (eligible m ur uc i j) refl p f
    where
      compared : (x y : ℕ) → eligible m ur uc i j ≡ true → Best i j x y → (v : Bool) → lt (m.entry i j) (m.entry x y) ≡ v → Found i (suc j) (cond v (Some (i, j)) (Some (x, y)))
      compared x y e f true l = wins i j hi hj e (below_all i j x y f l)
      compared x y e f false l = stays (λ s. one_more m i j (NotBelow x y) s (λ t. l)) f

      go : (e : Bool) → eligible m ur uc i j ≡ e → (p : Place) → Found i j p → Found i (suc j) (cond (e && smaller m.entry (m.entry i j) p) (Some (i, j)) p)
      go false e None f = one_more m i j NotEligible f e
      go false e (Some (x, y)) f = stays (λ s. one_more m i j (NotBelow x y) s (λ t. cc)) f
      go true e None f = wins i j hi hj e (λ F a b hb h t. cc (f a b hb h))
      go true e (Some (x, y)) f = compared x y e f (lt (m.entry i j) (m.entry x y)) refl

  scan_row_found : (i : ℕ) → i < m.rows → (k : ℕ) → k ≤ m.cols → (p : Place) → Found i 0 p → Found i k (scan_row m ur uc i k p)
  unfolding scan_row
  scan_row_found i hi zero hk p f = f
  scan_row_found i hi (suc k) hk p f = look_found i k hi hk (scan_row m ur uc i k p) (scan_row_found i hi k (omega arith) p f)

  next_row_found : (i : ℕ) (p : Place) → Found i m.cols p → Found (suc i) 0 p
  next_row_found i (Some (x, y)) f = stays (next_row m i (NotBelow x y)) f
  next_row_found i None f = next_row m i NotEligible f

  scan_rows_found : (k : ℕ) → k ≤ m.rows → Found k 0 (scan_rows m ur uc k)
  unfolding scan_rows
  scan_rows_found zero hk = at_start m NotEligible
  scan_rows_found (suc k) hk =
      next_row_found k (scan_row m ur uc k m.cols (scan_rows m ur uc k))
      (scan_row_found k hk m.cols (le_refl m.cols) (scan_rows m ur uc k) (scan_rows_found k (omega arith)))

  next_found : (p : Place) → next_pick m ur uc ≡ p → Found m.rows 0 p
  next_found p e = subst (Found m.rows 0) e (scan_rows_found m.rows (le_refl m.rows))

  pub next_is_eligible : {i j : ℕ} → next_pick m ur uc ≡ Some (i, j) → eligible m ur uc i j ≡ true
  next_is_eligible {i} {j} e = (next_found (Some (i, j)) e).is_eligible

  pub next_is_pickable : {i j : ℕ} → next_pick m ur uc ≡ Some (i, j) → Pickable m ur uc i j
  next_is_pickable {i} {j} e =
      let f = next_found (Some (i, j)) e in
      let (c, r, s) = eligible_parts m ur uc i j f.is_eligible in
      record { row_in_range = f.row_in_range; col_in_range = f.col_in_range; counted = c; row_free = r; col_free = s }

  pub next_in_range : {i j : ℕ} → next_pick m ur uc ≡ Some (i, j) → (i < m.rows) × (j < m.cols)
  next_in_range e = let f = next_is_pickable e in (f.row_in_range, f.col_in_range)

  pub next_is_first_smallest : {i j : ℕ} → Finite m → next_pick m ur uc ≡ Some (i, j) → FirstSmallest m ur uc i j
  next_is_first_smallest {i} {j} F e =
      let f = next_found (Some (i, j)) e in
      record {
        row_in_range = f.row_in_range;
        col_in_range = f.col_in_range;
        is_eligible = f.is_eligible;
        smallest = λ a b ha hb. f.smallest F a b hb (inl ha);
        first = f.first F;
      }

  pub next_is_none : next_pick m ur uc ≡ None → (a b : ℕ) → a < m.rows → b < m.cols → eligible m ur uc a b ≡ false
  next_is_none e a b ha hb = next_found None e a b hb (inl ha)
