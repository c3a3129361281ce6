-- Rule 3: how large the parts of a block can be: 48 coordinates, 64 floats of a stored detection, 512 of a history, 864 in all; and that each lies in the block.
use Prim.Native.Nat.{ℕ, ◌+◌, ◌*◌, ◌<◌, ◌≤◌}
use native.Mathlib.Nat.{mul-le-mul}
use native.Mathlib.Omega.{arith}
use Rattle.parts.specs.declared.TrackerConfig.{TrackerConfig}
use Rattle.parts.specs.Layout.{coords, width, last_place, past_place, block_size}
use Rattle.parts.specs.Ranges.{Sizes}
use Rattle.parts.specs.Past.{place_of}
use Rattle.parts.proofs.PastLaws.{inside}

module _ (c : TrackerConfig) (h : Sizes c) where
  pub coords-most : coords c ≤ 48
  coords-most = mul-le-mul h.points_most h.dims_most

  pub width-most : width c ≤ 64
  width-most = omega (arith, coords-most, h.points_most)

  pub history_most : c.past_detections_length * width c ≤ 512
  history_most = mul-le-mul h.past_most width-most

  pub block_most : block_size c ≤ 864
  block_most = omega (arith, coords-most, width-most, history_most)

module _ (c : TrackerConfig) where
  pub filter_inside : 6 * coords c ≤ block_size c
  filter_inside = omega arith

  pub last_inside : last_place c + width c ≤ block_size c
  last_inside = omega arith

  pub place_inside : (count : ℕ) → 0 < c.past_detections_length
      → place_of c.past_detections_length (width c) (past_place c) count + width c ≤ block_size c
  place_inside count some = omega (arith, inside c.past_detections_length (width c) count some)
