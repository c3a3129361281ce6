-- `matching::next_pick`: the column scan holds `scan_row`, the row scan `scan_rows`, and the outer loop has one turn.
use mathlib.Core.Path.{◌≡◌}
use Rattle.matching.specs.Greedy.{scan_row, scan_rows}
use Rattle.matching.specs.Lent.{lent_matrix}
use Rattle.matching.proofs.Best.{Best}
use Rattle.matching.proofs.next_pick.Given as goal

abbrev pub invariant-loop-j : goal.invariant-loop-j
invariant-loop-j l = (l.place ≡ scan_row (lent_matrix l.m) l.used_rows l.used_cols l.i l.j l.initial.place) × Best (lent_matrix l.m) l.place l.best

abbrev pub invariant-loop-i : goal.invariant-loop-i
invariant-loop-i l = (l.place ≡ scan_rows (lent_matrix l.m) l.used_rows l.used_cols l.i) × Best (lent_matrix l.m) l.place l.best

abbrev pub decreases-loop-used_rows : goal.decreases-loop-used_rows
decreases-loop-used_rows l = 0
