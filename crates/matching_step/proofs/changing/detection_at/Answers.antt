-- Detection d's parts lie in the frame.
use Rattle.matching_step.proofs.Lending.{coords_inside, lent_points, lent_scores}
use Rattle.matching_step.proofs.changing.detection_at.Goals as goal

pub part_of-requires : goal.part_of-requires
part_of-requires c = rw c.layout_of.ensures (coords_inside c.requires.0 c.requires.1)

pub returns-clause-points : goal.returns-clause-points
returns-clause-points c = rw (c.part_of.ensures, c.layout_of.ensures) (lent_points c.requires.0 c.requires.1)

pub returns-clause-scores : goal.returns-clause-scores
returns-clause-scores c = rw c.part_of-2.ensures (lent_scores c.requires.0 c.requires.1)
