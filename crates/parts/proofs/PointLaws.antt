-- Rules 32, 45 and 46: what becomes of each point's counter and seen flag.
use mathlib.Core.Path.{◌≡◌, refl, sym, ◌∙◌, ap}
use mathlib.Core.Bool.{Bool, true, false, cond, ◌||◌}
use mathlib.Core.List.{List, [], ◌∷◌, ◌++◌}
use mathlib.Core.Logic.{◌≢◌}
use Prim.Native.Nat.{ℕ, zero, suc, ◌+◌, ◌-◌, ◌<◌, ◌≤◌, min}
use native.Mathlib.Omega.{arith}
use lib.Dec.{eqb}
use lib.Ieee.{Float, nan, lt}
use lib.ListN.{length, get_or, get_or-append, set, length-set, take, drop, take-append-drop}
use lib.Seq.{get_or-set_same, get_or-set_other, set-append_left, length-take-le}
use Rattle.laws.specs.Float64.{f1}
use Rattle.laws.specs.Turns.{turns}
use Rattle.laws.proofs.Flags.{bit_here, bit_there}
use Rattle.laws.proofs.Turns.{turns_keep, turns_hold, turns_once, turns_part}
use Rattle.parts.specs.Points.{above, with_flag, has_flag, points_fallen, points_hit, flags_set}
use Rattle.parts.specs.Ranges.{PointsInRange}

-- ---- the seen flags

set_here : (b : Bool) (i f : ℕ) → has_flag i (cond b (with_flag i f) f) ≡ (b || has_flag i f)
set_here true i f = ap (λ (n : ℕ). eqb n 1) (bit_here f i)
set_here false i f = refl

set_there : (b : Bool) (i k f : ℕ) → i ≢ k → has_flag i (cond b (with_flag k f) f) ≡ has_flag i f
set_there true i k f h = ap (λ (n : ℕ). eqb n 1) (bit_there f k i (omega arith))
set_there false i k f h = refl

module _ (n : ℕ) (has : Bool) (t : Float) (without : Bool) (scores : List Float) (flags : ℕ) where
  abbrev turn_flags : ℕ → ℕ → ℕ
  turn_flags i f = cond (above has t without (get_or scores i nan)) (with_flag i f) f

  -- set by this hit or before
  pub flag_after : (i : ℕ) → i < n → has_flag i (flags_set n has t without scores flags) ≡ (above has t without (get_or scores i nan) || has_flag i flags)
  unfolding flags_set
  flag_after i h =
      turns_part turn_flags has_flag (λ k b. above has t without (get_or scores k nan) || b) n flags
      (λ k hk. set_here (above has t without (get_or scores k nan)) k (turns turn_flags k flags))
      (λ j k f hj hk q. set_there (above has t without (get_or scores k nan)) j k f q)
      n i h (omega arith)

  pub flag_behind : (i : ℕ) → n ≤ i → has_flag i (flags_set n has t without scores flags) ≡ has_flag i flags
  unfolding flags_set
  flag_behind i h =
      turns_keep turn_flags (has_flag i) n flags
      (λ k f hk. set_there (above has t without (get_or scores k nan)) i k f (omega arith))

-- ---- the counters

-- a turn stores v at k, or nothing
module _ (v : ℕ) where
  store_length : (b : Bool) (r : List ℕ) (k : ℕ) → length (cond b (set r k v) r) ≡ length r
  store_length true r k = length-set r k v
  store_length false r k = refl

  store_here : (b : Bool) (r : List ℕ) (k : ℕ) → k < length r → get_or (cond b (set r k v) r) k 0 ≡ cond b v (get_or r k 0)
  store_here true r k h = get_or-set_same r k v 0 h
  store_here false r k h = refl

  store_there : (b : Bool) (r : List ℕ) (i k : ℕ) → i ≢ k → get_or (cond b (set r k v) r) i 0 ≡ get_or r i 0
  store_there true r i k h = get_or-set_other r k i v 0 h
  store_there false r i k h = refl

  store_bounded : (b : Bool) (r : List ℕ) (i k m : ℕ) → (i ≡ k → v ≤ m) → get_or r i 0 ≤ m → get_or (cond b (set r k v) r) i 0 ≤ m
  store_bounded false r i k m hv h = h
  store_bounded true [] i k m hv h = h
  store_bounded true (x ∷ r) zero zero m hv h = hv refl
  store_bounded true (x ∷ r) zero (suc k) m hv h = h
  store_bounded true (x ∷ r) (suc i) zero m hv h = h
  store_bounded true (x ∷ r) (suc i) (suc k) m hv h = store_bounded true r i k m (λ e. hv (ap suc e)) h

abbrev fall : ℕ → List ℕ → List ℕ
fall i r = set r i (get_or r i 0 - 1)

pub length_fallen : (n : ℕ) (l : List ℕ) → length (points_fallen n l) ≡ length l
unfolding points_fallen
length_fallen n l = turns_keep fall length n l (λ k r h. store_length (get_or r k 0 - 1) true r k)

pub counter_fallen : (n : ℕ) (l : List ℕ) (i : ℕ) → i < n → i < length l → get_or (points_fallen n l) i 0 ≡ get_or l i 0 - 1
unfolding points_fallen
counter_fallen n l i h hl =
    turns_once fall (λ r. get_or r i 0) (λ v. v - 1) i n l h
    (store_here (get_or (turns fall i l) i 0 - 1) true (turns fall i l) i (rw (length_fallen i l) hl))
    (λ k r hk. store_there (get_or r k 0 - 1) true r i k)

-- the first n counters, lent as a part and put back
pub fallen_part : (k n : ℕ) (l : List ℕ) → k ≤ n → n ≤ length l → points_fallen k (take n l) ++ drop n l ≡ points_fallen k l
unfolding points_fallen turns
fallen_part zero n l h hl = take-append-drop n l
fallen_part (suc k) n l h hl =
    let part = points_fallen k (take n l) in
    let long : k < length part = rw (length_fallen k (take n l)) (omega (arith, length-take-le n l hl)) in
    let e = fallen_part k n l (omega arith) hl in
    sym (set-append_left part (drop n l) k (get_or part k 0 - 1) long)
    ∙ ap (λ (v : ℕ). set (part ++ drop n l) k (v - 1)) (sym (get_or-append part (drop n l) 0 k long))
    ∙ ap (λ (r : List ℕ). set r k (get_or r k 0 - 1)) e

pub fallen_in_range : (n : ℕ) (l : List ℕ) (m : ℕ) → PointsInRange m l → PointsInRange m (points_fallen n l)
unfolding points_fallen
fallen_in_range n l m p i h =
    turns_hold fall (λ r. get_or r i 0 ≤ 10000) n l
    (λ k r hk q. store_bounded (get_or r k 0 - 1) true r i k 10000 (λ e. rw (← e) (omega arith)) q)
    (p i h)

module _ (n : ℕ) (has : Bool) (t : Float) (scores : List Float) (period maximum : ℕ) (l : List ℕ) where
  abbrev saw : ℕ → Bool
  saw i = above has t (lt t f1) (get_or scores i nan)

  abbrev up : ℕ → ℕ
  up v = min (v + period) maximum

  abbrev hit : ℕ → List ℕ → List ℕ
  hit i r = cond (saw i) (set r i (up (get_or r i 0))) r

  length-turns : (k : ℕ) → length (turns hit k l) ≡ length l
  length-turns k = turns_keep hit length k l (λ i r h. store_length (up (get_or r i 0)) (saw i) r i)

  pub length-hit : length (points_hit n has t scores period maximum l) ≡ length l
  unfolding points_hit
  length-hit = length-turns n

  pub counter_after : (i : ℕ) → i < n → i < length l
      → get_or (points_hit n has t scores period maximum l) i 0
      ≡ cond (above has t (lt t f1) (get_or scores i nan)) (min (get_or l i 0 + period) maximum) (get_or l i 0)
  unfolding points_hit
  counter_after i h hl =
      turns_once hit (λ r. get_or r i 0) (λ v. cond (saw i) (up v) v) i n l h
      (store_here (up (get_or (turns hit i l) i 0)) (saw i) (turns hit i l) i (rw (length-turns i) hl))
      (λ k r hk. store_there (up (get_or r k 0)) (saw k) r i k)

  pub hit_in_range : maximum ≤ 10000 → (m : ℕ) → PointsInRange m l → PointsInRange m (points_hit n has t scores period maximum l)
  unfolding points_hit
  hit_in_range hm m p i h =
      turns_hold hit (λ r. get_or r i 0 ≤ 10000) n l
      (λ k r hk q. store_bounded (up (get_or r k 0)) (saw k) r i k 10000 (λ e. omega arith) q)
      (p i h)
