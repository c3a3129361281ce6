-- Rules 32, 45 and 46: what becomes of a record and of each part of its block: the coordinates, the last detection, the history.
use Rattle.std.specs.Prelude.{None}
use mathlib.Core.Path.{◌≡◌, refl, sym, ◌∙◌, ap}
use mathlib.Core.Bool.{Bool, true, false, cond}
use mathlib.Core.List.{List, [], ◌∷◌, ◌++◌}
use Prim.Native.Nat.{ℕ, ◌+◌, ◌-◌, ◌*◌, ◌/◌, ◌<◌, ◌≤◌, min}
use native.Mathlib.Nat.{mul-one}
use native.Mathlib.Omega.{arith}
use borrow.Author.Tests.{ltb-true, lt-ltb}
use lib.Dec.{ltb}
use lib.Ieee.{Float, nan}
use lib.ListN.{length, get_or, take, drop, length-append}
use lib.Seq.{paste, length-paste, length-take-le, take-add, take_all, drop_at, drop-drop, get_or-take}
use Rattle.laws.proofs.Pasting.{paste_front, paste_behind, paste_here}
use Rattle.filter.specs.declared.Coordinate.{Coordinate}
use Rattle.filter.specs.Coordinate.{started, updated}
use Rattle.filter.specs.Mask.{mask_exists, observed}
use Rattle.filter.specs.Block.{coordinate_at, each, start_of, predict_of, update_of}
use Rattle.filter.proofs.Block.{length-each, each_coordinate, each_rest}
use Rattle.parts.specs.declared.TrackerConfig.{TrackerConfig}
use Rattle.parts.specs.declared.TrackedObject.{TrackedObject}
use Rattle.parts.specs.Layout.{coords, width, last_place, past_place, block_size}
use Rattle.parts.specs.Past.{pushed}
use Rattle.tracked_object.specs.Object.{Detection, stored, object_hit, block_predicted, block_hit, block_opened}
use Rattle.parts.proofs.Bounds.{filter_inside, last_inside}
use Rattle.parts.proofs.PastLaws.{length-pushed, history_after, history_elsewhere}

-- ---- the record

module _ (c : TrackerConfig) (d : Detection) (period : ℕ) (distance : Float) (next : ℕ) (o : TrackedObject) where
  -- a hit does not change who a record is
  pub origin_hit : (object_hit c d period distance next o).origin ≡ o.origin
  unfolding object_hit
  origin_hit = refl

  -- the history of marks: of the old one and the new mark behind it, the last L
  pub marks_hit_lem : 0 < c.past_detections_length → o.past_count ≤ c.past_detections_length → c.past_detections_length ≤ length o.past
      → take (object_hit c d period distance next o).past_count (object_hit c d period distance next o).past
      ≡ drop (o.past_count + 1 - c.past_detections_length) (take o.past_count o.past ++ (record { age = None; has_scores = d.has_scores } ∷ []))
  unfolding object_hit
  marks_hit_lem some full fits =
      let most = c.past_detections_length in
      let count = o.past_count in
      let left : (count + 1 - min (count + 1) most) * 1 ≡ count + 1 - most = omega arith in
      rw (lt-ltb 0 most some)
      (rw (mul-one (min (count + 1) most), mul-one count, left) at (history_after most 1 0 count o.past some full (omega arith) (record { age = None; has_scores = d.has_scores } ∷ []) refl))

-- ---- a block's parts are read in front of where two blocks differ

module _ (x y : List Float) (m : ℕ) (e : take m x ≡ take m y) where
  same_at : (p : ℕ) → p < m → get_or x p nan ≡ get_or y p nan
  same_at p h = sym (get_or-take m x p nan h) ∙ ap (λ (l : List Float). get_or l p nan) e ∙ get_or-take m y p nan h

  same_coordinate : (n j : ℕ) → j < n → 6 * n ≤ m → coordinate_at n j x ≡ coordinate_at n j y
  same_coordinate n j h hm =
      rw
      (same_at j (omega arith), same_at (n + j) (omega arith), same_at (2 * n + j) (omega arith), same_at (3 * n + j) (omega arith), same_at (4 * n + j) (omega arith), same_at (5 * n + j) (omega arith))

same_part : (x y : List Float) (at w : ℕ) → take (at + w) x ≡ take (at + w) y → at ≤ length x → at ≤ length y → take w (drop at x) ≡ take w (drop at y)
same_part x y at w e hx hy = sym (cut x hx) ∙ ap (drop at) e ∙ cut y hy
  where
    cut : (l : List Float) → at ≤ length l → drop at (take (at + w) l) ≡ take w (drop at l)
    cut l h = rw (take-add at w l) (drop_at (take at l) (take w (drop at l)) at (length-take-le at l h))

-- ---- each coordinate changed by g, then the detection stored as the last: what a hit and an opening have in common

module _ (c : TrackerConfig) (d : Detection) (l : List Float)
    (points_long : length d.points ≡ coords c) (scores_long : length d.scores ≡ c.points) (block_long : length l ≡ block_size c) where
  long : length (stored d) ≡ width c
  long = length-append d.points d.scores ∙ rw (points_long, scores_long)

  module _ (g : ℕ → Coordinate → Coordinate) where
    abbrev changed : List Float
    changed = paste (each g (coords c) l) (last_place c) (stored d) (width c)

    room : last_place c + width c ≤ length (each g (coords c) l)
    room = rw (length-each g (coords c) l, block_long) (last_inside c)

    length_changed : length changed ≡ length l
    length_changed = length-paste (each g (coords c) l) (last_place c) (stored d) (width c) room (omega (arith, long)) ∙ length-each g (coords c) l

    last_changed : take (width c) (drop (last_place c) changed) ≡ stored d
    last_changed =
        paste_here (each g (coords c) l) (last_place c) (stored d) (width c) (omega (arith, room)) (omega (arith, long))
        ∙ take_all (width c) (stored d) (omega (arith, long))

    coordinate_changed : (j : ℕ) → j < coords c → coordinate_at (coords c) j changed ≡ g j (coordinate_at (coords c) j l)
    coordinate_changed j h =
        same_coordinate changed (each g (coords c) l) (last_place c)
        (paste_front (each g (coords c) l) (last_place c) (stored d) (width c) (last_place c) (omega arith) (omega (arith, room)))
        (coords c) j h (omega arith)
        ∙ each_coordinate g (coords c) l j h (rw block_long (filter_inside c))

    history_unchanged : drop (past_place c) changed ≡ drop (past_place c) l
    history_unchanged =
        paste_behind (each g (coords c) l) (last_place c) (stored d) (width c) (past_place c) (omega arith) (omega (arith, room)) (omega (arith, long))
        ∙ sym (drop-drop (width c) (last_place c) (each g (coords c) l))
        ∙ ap (drop (width c)) (each_rest g (coords c) l)
        ∙ drop-drop (width c) (last_place c) l

  -- ---- a block that is opened

  pub length-opened : length (block_opened c d l) ≡ length l
  unfolding block_opened
  length-opened = length_changed (start_of c.filter d.points)

  pub last_opened : take (width c) (drop (last_place c) (block_opened c d l)) ≡ stored d
  unfolding block_opened
  last_opened = last_changed (start_of c.filter d.points)

  pub coordinate_opened : (j : ℕ) → j < coords c → coordinate_at (coords c) j (block_opened c d l) ≡ started c.filter (get_or d.points j nan)
  unfolding block_opened
  coordinate_opened = coordinate_changed (start_of c.filter d.points)

  -- ---- a block that is hit

  module _ (count : ℕ) (full : count ≤ c.past_detections_length) where
    abbrev update : ℕ → Coordinate → Coordinate
    update = update_of c.filter c.dims d.points (mask_exists d.has_scores c.detection_threshold d.scores) c.detection_threshold d.scores

    -- the history lies in the block
    fits : past_place c + c.past_detections_length * width c ≤ length (changed update)
    fits = omega (arith, length_changed update)

    abbrev grown : Bool → List Float
    grown b = cond b (pushed c.past_detections_length (width c) (past_place c) count (stored d) (changed update)) (changed update)

    -- the history grows behind all other parts
    behind : (b : Bool) → ltb 0 c.past_detections_length ≡ b → (length (grown b) ≡ length l) × (take (past_place c) (grown b) ≡ take (past_place c) (changed update))
    behind true t =
        let some = ltb-true 0 c.past_detections_length t in (
          length-pushed c.past_detections_length (width c) (past_place c) count (changed update) some full fits (stored d) long ∙ length_changed update,
          (history_elsewhere c.past_detections_length (width c) (past_place c) count (changed update) some full fits (stored d) long).0,
        )
    behind false t = (length_changed update, refl)

    pub length-hit : length (block_hit c d count l) ≡ length l
    unfolding block_hit
    length-hit = (behind (ltb 0 c.past_detections_length) refl).0

    front_hit : take (past_place c) (block_hit c d count l) ≡ take (past_place c) (changed update)
    unfolding block_hit
    front_hit = (behind (ltb 0 c.past_detections_length) refl).1

    pub last_hit : take (width c) (drop (last_place c) (block_hit c d count l)) ≡ stored d
    last_hit =
        same_part (block_hit c d count l) (changed update) (last_place c) (width c) front_hit (omega (arith, length-hit)) (omega (arith, length_changed update))
        ∙ last_changed update

    pub coordinate_hit : (j : ℕ) → j < coords c → coordinate_at (coords c) j (block_hit c d count l)
        ≡ updated c.filter (get_or d.points j nan) (observed (mask_exists d.has_scores c.detection_threshold d.scores) c.detection_threshold (get_or d.scores (j / c.dims) nan)) (coordinate_at (coords c) j l)
    coordinate_hit j h =
        same_coordinate (block_hit c d count l) (changed update) (past_place c) front_hit (coords c) j h (omega arith) ∙ coordinate_changed update j h

    -- the history of floats: of the one before the hit and the detection behind it, the last L entries
    pub history_hit : 0 < c.past_detections_length
        → take (min (count + 1) c.past_detections_length * width c) (drop (past_place c) (block_hit c d count l))
        ≡ drop ((count + 1 - c.past_detections_length) * width c) (take (count * width c) (drop (past_place c) l) ++ stored d)
    unfolding block_hit
    history_hit some =
        let most = c.past_detections_length in
        let left : count + 1 - min (count + 1) most ≡ count + 1 - most = omega arith in
        rw (lt-ltb 0 most some)
        (rw (left, history_unchanged update) at (history_after most (width c) (past_place c) count (changed update) some full fits (stored d) long))

-- ---- a block that is predicted

pub length-predicted : (c : TrackerConfig) (l : List Float) → length (block_predicted c l) ≡ length l
length-predicted c l = length-each predict_of (coords c) l
