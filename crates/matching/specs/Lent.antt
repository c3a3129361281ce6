-- Rule 41: a lent matrix, row by row; an entry counts if finite and strictly below the threshold. And the picks as the struct that is returned.
use Rattle.std.specs.Prelude.{Bool, ◌&&◌, List, map, ℕ, ◌+◌, ◌*◌, length, get_or, Float}
use Rattle.std.specs.Float.{nan}
use Rattle.std.specs.Float.Ieee.{lt}
use Rattle.laws.specs.Float64.{finite}
use Rattle.laws.specs.Lists.{below, padded}
use Rattle.matching.specs.declared.Picks.{Picks}
use Rattle.matching.specs.declared.matrix.LentMatrix.{LentMatrix}
use Rattle.matching.specs.Greedy.{Matrix, Pick, rows_of, cols_of}

abbrev pub counts_below : Float → Float → Bool
counts_below threshold x = finite x && lt x threshold

abbrev pub lent : List Float → ℕ → ℕ → Float → Matrix
lent l r c threshold =
    record {
      rows = r;
      cols = c;
      entry = λ i j. get_or l (i * c + j) nan;
      counts = λ i j. counts_below threshold (get_or l (i * c + j) nan);
    }

abbrev pub lent_matrix : LentMatrix → Matrix
lent_matrix m = lent m.entries.now m.rows m.cols m.threshold

-- the picks that a struct lists
abbrev pub picked : Picks → List Pick
picked l = map (λ k. record { row = get_or l.rows k 0; col = get_or l.cols k 0 }) (below l.count)

-- the picks in order, 0 behind the last
abbrev pub picks_of : List Pick → Picks
picks_of l = record { rows = padded 32 (rows_of l); cols = padded 32 (cols_of l); count = length l }
