use Rattle.reid.proofs.Places.{picks_bounded, places_merges}
use Rattle.reid.proofs.decide.Goals as goal

pub places_of-requires : goal.places_of-requires
places_of-requires c =
    let n = picks_bounded c.args.t.now c.args.distances.now c.requires.0 c.candidates_met.ensures c.match_detections_and_objects-picks.ensures in
    (n.few, n.rows, n.cols)

pub returns : goal.returns
returns c =
    places_merges c.args.t.now c.args.distances.now c.requires.0 c.candidates_met.ensures c.match_detections_and_objects-picks.ensures c.places_of.ensures
