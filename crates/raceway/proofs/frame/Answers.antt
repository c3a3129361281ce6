-- `raceway::frame` is safe: the hits and the active stand within the lists that it lends.
use Rattle.std.proofs.Common.{sym}
use Rattle.std.proofs.lemmas.List.{length-take-le}
use Rattle.raceway.proofs.Listed.{pairs_fit, active_fit}
use Rattle.raceway.proofs.frame.Goals as goal

pub slice_bounds-pairs-end : goal.slice_bounds-pairs-end
slice_bounds-pairs-end g c =
    let step = c.match_detections-matched.ensures in
    rw (step.value, step.pairs_after) (pairs_fit _ _ _ _ _)

pub slice_bounds-hits-end : goal.slice_bounds-hits-end
slice_bounds-hits-end g c =
    let step = c.match_detections-matched.ensures in
    sym (length-take-le _ _ (rw (step.value, step.pairs_after) (pairs_fit _ _ _ _ _)))

pub slice_bounds-active-end : goal.slice_bounds-active-end
slice_bounds-active-end g c =
    let step = c.reid-last.ensures in
    rw (step.value, step.active_after) (active_fit _ _ _ _)

pub slice_bounds-active-end-2 : goal.slice_bounds-active-end-2
slice_bounds-active-end-2 g c =
    let step = c.reid-last.ensures in
    sym (length-take-le _ _ (rw (step.value, step.active_after) (active_fit _ _ _ _)))
