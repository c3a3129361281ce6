-- Rule 42: what a struct of picks lists, pick by pick: within the matrix, and a list of picks found again.
use mathlib.Core.Path.{◌≡◌, refl, ◌∙◌}
use mathlib.Core.List.{List, [], ◌∷◌, map, map-append}
use Prim.Native.Nat.{ℕ, ◌+◌, ◌-◌, ◌<◌, ◌≤◌}
use native.Mathlib.Numerals.{add-one}
use native.Mathlib.Omega.{arith}
use lib.ListN.{length, get_or, take, replicate, length-map, get_or-map}
use lib.Seq.{take_at, take-length}
use Rattle.laws.specs.Every.{Every}
use Rattle.laws.specs.Lists.{below, padded, EachBelow}
use Rattle.laws.specs.Turns.{through}
use Rattle.laws.proofs.Every.{every_map, every_below}
use Rattle.laws.proofs.Growing.{filled_at, by_elements}
use Rattle.laws.proofs.Through.{through-append}
use Rattle.matching.specs.declared.Picks.{Picks}
use Rattle.matching.specs.Greedy.{Pick, rows_of, cols_of}
use Rattle.matching.specs.Lent.{picked, picks_of}

abbrev pub pick_at : Picks → ℕ → Pick
pick_at l i = record { row = get_or l.rows i 0; col = get_or l.cols i 0 }

-- the first i; all of them are `picked`
abbrev pub first_picks : Picks → ℕ → List Pick
first_picks l i = map (pick_at l) (below i)

pub picks_next : {A : Type 0} (turn : Pick → A → A) (l : Picks) (i : ℕ) (a : A)
    → through turn (first_picks l (i + 1)) a ≡ turn (pick_at l i) (through turn (first_picks l i) a)
unfolding below through
picks_next turn l i a = rw (add-one i, map-append, through-append turn (first_picks l i) (pick_at l i ∷ []) a)

-- ---- picks in a matrix of so many rows and columns

abbrev pub Inside : ℕ → ℕ → Pick → Type 0
Inside rows cols p = (p.row < rows) × (p.col < cols)

pub picks_inside : {rows cols : ℕ} (l : Picks) → EachBelow rows l.count l.rows → EachBelow cols l.count l.cols
    → (i : ℕ) → i ≤ l.count → Every (Inside rows cols) (first_picks l i)
picks_inside l rows cols i h = every_map (pick_at l) (every_below i (λ k lt. (rows k (omega arith), cols k (omega arith))))

-- ---- picks in a struct are found again

module _ (l : List Pick) where
  pub picked_rows : take (picks_of l).count (picks_of l).rows ≡ rows_of l
  picked_rows = take_at (rows_of l) (replicate (32 - length (rows_of l)) 0) (length l) (length-map l (λ p. p.row))

  pub picked_cols : take (picks_of l).count (picks_of l).cols ≡ cols_of l
  picked_cols = take_at (cols_of l) (replicate (32 - length (cols_of l)) 0) (length l) (length-map l (λ p. p.col))

  in_front : (f : Pick → ℕ) (i : ℕ) (d : Pick) → f d ≡ 0 → i < length l → get_or (padded 32 (map f l)) i 0 ≡ f (get_or l i d)
  in_front f i d e h = filled_at 32 0 (map f l) i 0 (omega (arith, length-map l f)) ∙ rw e at (get_or-map f l i d)

  pub picked_of : picked (picks_of l) ≡ l
  picked_of =
      let d : Pick = record { row = 0; col = 0 } in
      by_elements (pick_at (picks_of l)) l d (λ i h. rw (in_front (λ p. p.row) i d refl h, in_front (λ p. p.col) i d refl h)) (length l) (omega arith)
      ∙ take-length l
