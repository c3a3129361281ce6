-- Rules 45 and 46: what detection_at lends on: detection d's coordinates and scores.
use mathlib.Core.Path.{◌≡◌}
use Prim.Native.Nat.{ℕ, ◌+◌, ◌*◌, ◌<◌, ◌≤◌}
use lib.ListN.{length}
use Rattle.laws.proofs.Pasting.{length_part}
use Rattle.parts.specs.declared.TrackerConfig.{TrackerConfig}
use Rattle.parts.specs.Layout.{coords}
use Rattle.table.proofs.SlotLaws.{block_fits}
use Rattle.passes.specs.Checks.{Frame}
use Rattle.matching_step.specs.Step.{Fits, lent_detection}

module _ {c : TrackerConfig} {f : Frame} (fits : Fits c f) {d : ℕ} (few : d < length f.has_scores) where
  pub coords_inside : d * coords c + coords c ≤ length f.points
  coords_inside = rw fits.points (block_fits (coords c) d (length f.has_scores) few)

  marks_inside : d * c.points + c.points ≤ length f.scores
  marks_inside = rw fits.scores (block_fits c.points d (length f.has_scores) few)

  pub lent_points : length (lent_detection c f d).points ≡ coords c
  lent_points = length_part f.points (d * coords c) (coords c) coords_inside

  pub lent_scores : length (lent_detection c f d).scores ≡ c.points
  lent_scores = length_part f.scores (d * c.points) c.points marks_inside
