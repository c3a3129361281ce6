-- `matching::match_detections_and_objects`: each turn holds the picks done and the rest still to come.
use mathlib.Core.Path.{◌≡◌}
use Rattle.matching.specs.Lent.{lent_matrix}
use Rattle.matching.proofs.Held.{Held}
use Rattle.matching.proofs.match_detections_and_objects.Given as goal

abbrev pub invariant-loop-n : goal.invariant-loop-n
invariant-loop-n l =
    (l.picks.count ≡ l.n) × Held (lent_matrix l.m) l.fn.used_rows l.fn.used_cols l.n l.used_rows l.used_cols l.picks.rows l.picks.cols
