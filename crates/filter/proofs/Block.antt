-- Rules 51 to 53: what make, predict and update do to a block, one coordinate at a time. The laws of `each` hold of any step on one coordinate.
use mathlib.Core.Path.{◌≡◌, refl, sym, ◌∙◌, ap}
use mathlib.Core.Logic.{◌≢◌}
use mathlib.Core.Bool.{Bool, true, false}
use mathlib.Core.List.{List}
use Prim.Native.Nat.{ℕ, ◌+◌, ◌*◌, ◌-◌, ◌/◌, ◌<◌, ◌≤◌}
use native.Mathlib.Omega.{arith}
use borrow.Author.Tests.{ltb-true, ltb-false}
use lib.Dec.{ltb}
use lib.ListN.{length, get_or, set, drop, length-set}
use lib.Seq.{get_or-set_same, get_or-set_other, drop-set-lt, get_or-drop, ext_get_or}
use lib.Ieee.{Float, nan}
use Rattle.laws.specs.Turns.{turns}
use Rattle.laws.proofs.Turns.{turns_keep, turns_part}
use Rattle.filter.specs.declared.Coordinate.{Coordinate}
use Rattle.filter.specs.declared.FilterSettings.{FilterSettings}
use Rattle.filter.specs.Coordinate.{started, predicted, updated}
use Rattle.filter.specs.Mask.{mask_exists, observed}
use Rattle.filter.specs.Block.{coordinate_at, with_coordinate, turn, each, start_of, made_block, predict_of, predicted_block, update_of, updated_block}

-- a place in front of a store is untouched
past : (p q : ℕ) → p < q → (l : List Float) (a : Float) → get_or (set l q a) p nan ≡ get_or l p nan
past p q h l a = get_or-set_other l q p a nan (omega arith)

module _ (n j : ℕ) (c : Coordinate) (l : List Float) where
  length_with : length (with_coordinate n j c l) ≡ length l
  unfolding with_coordinate
  length_with = simp length-set

  -- a place that differs from all six is untouched
  untouched : (p : ℕ) → (p ≢ j) × (p ≢ n + j) × (p ≢ 2 * n + j) × (p ≢ 3 * n + j) × (p ≢ 4 * n + j) × (p ≢ 5 * n + j)
      → get_or (with_coordinate n j c l) p nan ≡ get_or l p nan
  unfolding with_coordinate
  untouched p (h₀, h₁, h₂, h₃, h₄, h₅) = simp get_or-set_other

  -- the other coordinates stay
  pub other : (i : ℕ) → i < n → j < n → i ≢ j → coordinate_at n i (with_coordinate n j c l) ≡ coordinate_at n i l
  other i hi hj d =
      rw
      (untouched i (omega arith), untouched (n + i) (omega arith), untouched (2 * n + i) (omega arith), untouched (3 * n + i) (omega arith), untouched (4 * n + i) (omega arith), untouched (5 * n + i) (omega arith))

  -- what was stored is there, also after stores that kept the length
  stored : (p : ℕ) → p < length l → (m : List Float) (a : Float) → length m ≡ length l → get_or (set m p a) p nan ≡ a
  stored p h m a e = get_or-set_same m p a nan (omega arith)

  -- coordinate j is c: the six places ascend, so each is read past the later stores
  pub same : j < n → 6 * n ≤ length l → coordinate_at n j (with_coordinate n j c l) ≡ c
  unfolding with_coordinate
  same h f =
      simp (
        length-set,
        stored j (omega arith),
        past j (n + j) (omega arith),
        past j (2 * n + j) (omega arith),
        past j (3 * n + j) (omega arith),
        past j (4 * n + j) (omega arith),
        past j (5 * n + j) (omega arith),
        stored (n + j) (omega arith),
        past (n + j) (2 * n + j) (omega arith),
        past (n + j) (3 * n + j) (omega arith),
        past (n + j) (4 * n + j) (omega arith),
        past (n + j) (5 * n + j) (omega arith),
        stored (2 * n + j) (omega arith),
        past (2 * n + j) (3 * n + j) (omega arith),
        past (2 * n + j) (4 * n + j) (omega arith),
        past (2 * n + j) (5 * n + j) (omega arith),
        stored (3 * n + j) (omega arith),
        past (3 * n + j) (4 * n + j) (omega arith),
        past (3 * n + j) (5 * n + j) (omega arith),
        stored (4 * n + j) (omega arith),
        past (4 * n + j) (5 * n + j) (omega arith),
        stored (5 * n + j) (omega arith),
      )

  -- what lies behind all six is untouched
  behind : (m : ℕ) → (j < m) × (n + j < m) × (2 * n + j < m) × (3 * n + j < m) × (4 * n + j < m) × (5 * n + j < m)
      → drop m (with_coordinate n j c l) ≡ drop m l
  unfolding with_coordinate
  behind m (h₀, h₁, h₂, h₃, h₄, h₅) = simp drop-set-lt

-- ---- every coordinate in turn

module _ (g : ℕ → Coordinate → Coordinate) (n : ℕ) (l : List Float) where
  length-after : (k : ℕ) → length (turns (turn g n) k l) ≡ length l
  length-after k = turns_keep (turn g n) length k l (λ j b h. length_with n j (g j (coordinate_at n j b)) b)

  pub length-each : length (each g n l) ≡ length l
  length-each = length-after n

  -- coordinate j afterwards is the step of coordinate j before
  pub each_coordinate : (j : ℕ) → j < n → 6 * n ≤ length l → coordinate_at n j (each g n l) ≡ g j (coordinate_at n j l)
  each_coordinate j h f =
      turns_part (turn g n) (coordinate_at n) g n l
      (λ k hk. same n k (g k (coordinate_at n k (turns (turn g n) k l))) (turns (turn g n) k l) hk (omega (arith, length-after k)))
      (λ i k b hi hk d. other n k (g k (coordinate_at n k b)) b i hi hk d)
      n j h (omega arith)

  -- what lies behind the coordinates stays
  pub each_rest : drop (6 * n) (each g n l) ≡ drop (6 * n) l
  each_rest =
      turns_keep (turn g n) (drop (6 * n)) n l (λ j b h. behind n j (g j (coordinate_at n j b)) b (6 * n) (omega arith))

-- ---- nothing else is in a block: its coordinates and what lies behind them determine it

abbrev Alike : List Float → List Float → ℕ → Type 0
Alike l₁ l₂ m = (p : ℕ) → p < m → get_or l₁ p nan ≡ get_or l₂ p nan

-- lists alike below m, and at the w places from m on, are alike below m + w
alike_on : (l₁ l₂ : List Float) (m w k : ℕ) → k ≤ m + w → Alike l₁ l₂ m → ((j : ℕ) → j < w → get_or l₁ (m + j) nan ≡ get_or l₂ (m + j) nan) → Alike l₁ l₂ k
alike_on l₁ l₂ m w k hk a s p h = go (ltb p m) refl
  where
    go : (b : Bool) → ltb p m ≡ b → get_or l₁ p nan ≡ get_or l₂ p nan
    go true t = a p (ltb-true p m t)
    go false t =
        let q : m ≤ p = ltb-false p m t in
        let e : m + (p - m) ≡ p = omega arith in
        rw e at (s (p - m) (omega arith))

pub block_ext : (n : ℕ) (l₁ l₂ : List Float) → length l₁ ≡ length l₂ → 6 * n ≤ length l₁
    → ((j : ℕ) → j < n → coordinate_at n j l₁ ≡ coordinate_at n j l₂) → drop (6 * n) l₁ ≡ drop (6 * n) l₂ → l₁ ≡ l₂
block_ext n l₁ l₂ e f same_at rest =
    let on = alike_on l₁ l₂ in
    ext_get_or nan l₁ l₂ e
    (on (6 * n) (length l₁ - 6 * n) (length l₁) (omega arith)
    (on (5 * n) n (6 * n) (omega arith)
    (on (4 * n) n (5 * n) (omega arith)
    (on (3 * n) n (4 * n) (omega arith)
    (on (2 * n) n (3 * n) (omega arith)
    (on n n (2 * n) (omega arith)
    (λ j h. ap (λ (c : Coordinate). c.x) (same_at j h))
    (λ j h. ap (λ (c : Coordinate). c.velocity) (same_at j h)))
    (λ j h. ap (λ (c : Coordinate). c.pos) (same_at j h)))
    (λ j h. ap (λ (c : Coordinate). c.cov) (same_at j h)))
    (λ j h. ap (λ (c : Coordinate). c.vel) (same_at j h)))
    (λ j h. ap (λ (c : Coordinate). c.shown) (same_at j h)))
    (λ j h. sym (get_or-drop (6 * n) l₁ j nan) ∙ ap (λ (l : List Float). get_or l j nan) rest ∙ get_or-drop (6 * n) l₂ j nan))

-- ---- in the words of the page

module _ (n j : ℕ) (l : List Float) (h : j < n) (fits : 6 * n ≤ length l) where
  pub made_coordinate : (f : FilterSettings) (z : List Float) → coordinate_at n j (made_block f z n l) ≡ started f (get_or z j nan)
  made_coordinate f z = each_coordinate (start_of f z) n l j h fits

  pub predicted_coordinate : coordinate_at n j (predicted_block n l) ≡ predicted (coordinate_at n j l)
  predicted_coordinate = each_coordinate predict_of n l j h fits

  pub updated_coordinate : (f : FilterSettings) (k : ℕ) (z : List Float) (has : Bool) (t : Float) (scores : List Float)
      → coordinate_at n j (updated_block f k z has t scores n l)
      ≡ updated f (get_or z j nan) (observed (mask_exists has t scores) t (get_or scores (j / k) nan)) (coordinate_at n j l)
  updated_coordinate f k z has t scores = each_coordinate (update_of f k z (mask_exists has t scores) t scores) n l j h fits
