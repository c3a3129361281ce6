-- Rule 42: the smallest counting entry whose row and column are free, ties in row-major order; mark both used; until none is left.
-- What counts and what an entry is are parameters, so that a further condition on what counts changes nothing here.
use Rattle.std.specs.Prelude.{Bool, true, false, not, ◌&&◌, cond, List, [], ◌∷◌, map, ℕ, zero, suc, get_or, set, Float, Option, Some, None}
use Rattle.std.specs.Float.Ieee.{lt}
use Rattle.laws.specs.Turns.{through}

-- a row and a column, or nothing
abbrev pub Place : Type 0
Place = Option (ℕ × ℕ)

-- a matrix of that many rows and columns, its entries, and which of them count
pub record Matrix : Type 0 where
  pub rows : ℕ
  pub cols : ℕ
  pub entry : ℕ → ℕ → Float
  pub counts : ℕ → ℕ → Bool

-- a row or column is free if its flag is not set; past the flags none is
abbrev pub free : List Bool → ℕ → Bool
free used i = not (get_or used i true)

-- the flags of a list of rows or columns set, or cleared
abbrev pub marked : List ℕ → List Bool → List Bool
marked l used = through (λ i u. set u i true) l used

abbrev pub cleared : List ℕ → List Bool → List Bool
cleared l used = through (λ i u. set u i false) l used

-- an entry that counts and whose row and column are free
abbrev pub eligible : Matrix → List Bool → List Bool → ℕ → ℕ → Bool
eligible m ur uc i j = m.counts i j && (free ur i && free uc j)

-- whether x is strictly smaller than the entry at the place found so far; any is where none was found
unfoldable pub smaller : (ℕ → ℕ → Float) → Float → Place → Bool
smaller entry x None = true
smaller entry x (Some (a, b)) = lt x (entry a b)

-- the place found once (i, j) was looked at: a tie keeps the earlier one
abbrev pub look : Matrix → List Bool → List Bool → ℕ → ℕ → Place → Place
look m ur uc i j p = cond (eligible m ur uc i j && smaller m.entry (m.entry i j) p) (Some (i, j)) p

-- the column scan: the first k entries of row i
unfoldable pub scan_row : Matrix → List Bool → List Bool → ℕ → ℕ → Place → Place
scan_row m ur uc i zero p = p
scan_row m ur uc i (suc k) p = look m ur uc i k (scan_row m ur uc i k p)

-- the row scan: the first k rows
unfoldable pub scan_rows : Matrix → List Bool → List Bool → ℕ → Place
scan_rows m ur uc zero = None
scan_rows m ur uc (suc k) = scan_row m ur uc k m.cols (scan_rows m ur uc k)

-- the next pick
abbrev pub next_pick : Matrix → List Bool → List Bool → Place
next_pick m ur uc = scan_rows m ur uc m.rows

pub record Pick : Type 0 where
  pub row : ℕ
  pub col : ℕ

abbrev pub rows_of : List Pick → List ℕ
rows_of l = map (λ p. p.row) l

abbrev pub cols_of : List Pick → List ℕ
cols_of l = map (λ p. p.col) l

unfoldable pub pick_then : Place → (ℕ → ℕ → List Pick) → List Pick
pick_then None rest = []
pick_then (Some (i, j)) rest = record { row = i; col = j } ∷ rest i j

-- at most k picks in order, each followed by marking its row and column used
unfoldable pub greedy : Matrix → ℕ → List Bool → List Bool → List Pick
unfolding pick_then
greedy m zero ur uc = []
greedy m (suc k) ur uc = pick_then (next_pick m ur uc) (λ i j. greedy m k (set ur i true) (set uc j true))

-- until none is left: each pick uses a row up, so that there are at most as many as rows
abbrev pub picks : Matrix → List Bool → List Bool → List Pick
picks m ur uc = greedy m m.rows ur uc
