-- Rules 14, 32, 45 and 46: how far the hit counter and the ReID counter of a record go up and down, by sign.
use Rattle.std.specs.Prelude.{Option, Some, None}
use mathlib.Core.Path.{◌≡◌, refl, sym, ap}
use mathlib.Core.Bool.{Bool, true, false, true≢false, cond}
use mathlib.Core.List.{[], ◌∷◌}
use Prim.Native.Nat.{ℕ, zero, suc, ◌+◌, ◌-◌, ◌<◌, ◌≤◌}
use native.Mathlib.Omega.{arith}
use borrow.Author.Tests.{ltb-true, leb-true, le-leb, le-ltb}
use lib.Dec.{ltb, leb}
use lib.IntN.{ℤ, pos, negsuc, ◌+ℤ◌, ◌-ℤ◌}
use lib.Signed.{le_z, lt_z}
use Rattle.parts.specs.declared.TrackedObject.{TrackedObject}
use Rattle.parts.specs.Life.{smaller_of, reid_predicted, reid_cleared}
use Rattle.table.specs.Ranges.{signed_between, optional_between}
use Rattle.table.proofs.Chain.{parts}
use Rattle.predict.specs.Step.{below_zero, gone_by}

-- ---- bounds

-- at least -n
abbrev pub AtLeast : ℕ → ℤ → Type 0
AtLeast n (pos a) = Unit {0}
AtLeast n (negsuc a) = a < n

abbrev pub AtMost : ℕ → ℤ → Type 0
AtMost n (pos a) = a ≤ n
AtMost n (negsuc a) = Unit {0}

pub least_more : {m n : ℕ} (z : ℤ) → m ≤ n → AtLeast m z → AtLeast n z
least_more (pos a) h p = tt
least_more (negsuc a) h p = omega arith

pub most_more : {m n : ℕ} (z : ℤ) → m ≤ n → AtMost m z → AtMost n z
most_more (pos a) h p = omega arith
most_more (negsuc a) h p = tt

-- as a test
pub between_is : (low high : ℕ) (z : ℤ) → AtLeast (suc low) z → AtMost high z → signed_between (negsuc low) z (pos high) ≡ true
between_is low high (pos a) least most = le-leb a high most
between_is low high (negsuc a) least most = rw (le-leb a low (omega arith))

not_below : (z : ℤ) → lt_z z (pos 0) ≡ false → AtLeast 0 z
not_below (pos a) h = tt
not_below (negsuc a) h = absurd (true≢false h)

over_zero : (z : ℤ) → le_z z (pos 0) ≡ false → AtLeast 0 z
over_zero (pos a) h = tt
over_zero (negsuc a) h = absurd (true≢false h)

from_zero : (n : ℕ) (z : ℤ) → le_z (pos 0) z ≡ true → AtLeast n z
from_zero n (pos a) h = tt
from_zero n (negsuc a) h = absurd (true≢false (sym h))

pub no_more : (n : ℕ) (z : ℤ) → le_z z (pos n) ≡ true → AtMost n z
no_more n (pos a) h = leb-true a n h
no_more n (negsuc a) h = tt

-- above a number that is not negative
pub above : (x y : ℤ) → lt_z x (pos 0) ≡ false → lt_z x y ≡ true → AtLeast 0 y
above (negsuc a) y from h = absurd (true≢false from)
above (pos a) (pos b) from h = tt
above (pos a) (negsuc b) from h = absurd (true≢false (sym h))

under : (n : ℕ) (x y : ℤ) → lt_z x y ≡ true → AtMost n y → AtMost n x
under n (negsuc a) y h most = tt
under n (pos a) (pos b) h most = omega (arith, ltb-true a b h)
under n (pos a) (negsuc b) h most = absurd (true≢false (sym h))

-- ---- one less

fallen_least : (n : ℕ) (z : ℤ) → AtLeast n z → AtLeast (suc n) (z -ℤ pos 1)
fallen_least n (pos a) h = go (ltb a 1)
  where
    go : (b : Bool) → AtLeast (suc n) (cond b (negsuc (1 - suc a)) (pos (a - 1)))
    go true = omega arith
    go false = tt
fallen_least n (negsuc a) h = omega arith

pub fallen_most : (n : ℕ) (z : ℤ) → AtMost n z → AtMost n (z -ℤ pos 1)
fallen_most n (pos a) h = go (ltb a 1)
  where
    go : (b : Bool) → AtMost n (cond b (negsuc (1 - suc a)) (pos (a - 1)))
    go true = tt
    go false = omega arith
fallen_most n (negsuc a) h = tt

fallen_suc : (a : ℕ) → pos (suc a) -ℤ pos 1 ≡ pos a
fallen_suc a =
    let e : suc a - 1 ≡ a = omega arith in
    rw (le-ltb (suc a) 1 (omega arith)) (ap pos e)

-- ---- a hit's rise, and not beyond the maximum

sum_least : (n rise : ℕ) (z : ℤ) → AtLeast n z → AtLeast n (z +ℤ pos rise)
sum_least n rise (pos a) h = tt
sum_least n rise (negsuc a) h = go (ltb rise (suc a))
  where
    go : (b : Bool) → AtLeast n (cond b (negsuc (suc a - suc rise)) (pos (rise - suc a)))
    go true = omega arith
    go false = tt

pub raised_least : (n rise : ℕ) (maximum z : ℤ) → le_z (pos 0) maximum ≡ true → AtLeast n z → AtLeast n (smaller_of (z +ℤ pos rise) maximum)
raised_least n rise maximum z from h = go (lt_z (z +ℤ pos rise) maximum)
  where
    go : (b : Bool) → AtLeast n (cond b (z +ℤ pos rise) maximum)
    go true = sum_least n rise z h
    go false = from_zero n maximum from

pub smaller_most : (n : ℕ) (x maximum : ℤ) → le_z maximum (pos n) ≡ true → AtMost n (smaller_of x maximum)
smaller_most n x maximum most = go (lt_z x maximum) refl
  where
    go : (b : Bool) → lt_z x maximum ≡ b → AtMost n (cond b x maximum)
    go true h = under n x maximum h (no_more n maximum most)
    go false h = no_more n maximum most

-- ---- the ReID counter and the hit counter

-- present with maximum r: from -1 to r, and the hit counter at least the counter less r + 2
abbrev pub Falling : ℕ → ℤ → ℤ → Type 0
Falling r (pos a) h = (a ≤ r) × AtLeast (r + 2 - a) h
Falling r (negsuc zero) h = AtLeast (r + 3) h
Falling r (negsuc (suc a)) h = ⊥

-- absent: the hit counter at least -1; without a maximum always absent
abbrev pub Counters : Option ℤ → Option ℤ → ℤ → Type 0
Counters maximum None h = AtLeast 1 h
Counters None (Some v) h = ⊥
Counters (Some (pos r)) (Some v) h = Falling r v h
Counters (Some (negsuc r)) (Some v) h = ⊥

falling_raised : (r : ℕ) (v h k : ℤ) → ((n : ℕ) → AtLeast n h → AtLeast n k) → Falling r v h → Falling r v k
falling_raised r (pos a) h k up f = (f.0, up (r + 2 - a) f.1)
falling_raised r (negsuc zero) h k up f = up (r + 3) f
falling_raised r (negsuc (suc a)) h k up f = f

-- a hit counter that is bounded below as another one was
pub counters_raised : (maximum c : Option ℤ) (h k : ℤ) → ((n : ℕ) → AtLeast n h → AtLeast n k) → Counters maximum c h → Counters maximum c k
counters_raised maximum None h k up f = up 1 f
counters_raised None (Some v) h k up f = f
counters_raised (Some (pos r)) (Some v) h k up f = falling_raised r v h k up f
counters_raised (Some (negsuc r)) (Some v) h k up f = f

pub counters_cleared : (maximum c : Option ℤ) (h k : ℤ) → AtLeast 1 k → Counters maximum c h → Counters maximum (reid_cleared c maximum) k
counters_cleared None None h k least f = least
counters_cleared None (Some v) h k least f = f
counters_cleared (Some m) c h k least f = least

-- ---- predict

falling_predicted : (r : ℕ) (v h : ℤ) → lt_z v (pos 0) ≡ false → Falling r v h → Falling r (v -ℤ pos 1) (h -ℤ pos 1)
falling_predicted r (pos zero) h from f = least_more (h -ℤ pos 1) (omega arith) (fallen_least (r + 2 - 0) h f.1)
falling_predicted r (pos (suc a)) h from f =
    rw (fallen_suc a) (omega (arith, f.0), least_more (h -ℤ pos 1) (omega (arith, f.0)) (fallen_least (r + 2 - suc a) h f.1))
falling_predicted r (negsuc a) h from f = absurd (true≢false from)

-- no ReID maximum: a hit counter that is not below 0 falls to -1 at most
without : (c : Option ℤ) (h : ℤ) → lt_z h (pos 0) ≡ false → Counters None c h → Counters None (reid_predicted c h None) (h -ℤ pos 1)
without None h stays f = go (le_z h (pos 0))
  where
    go : (b : Bool) → Counters None (cond b None None) (h -ℤ pos 1)
    go true = fallen_least 0 h (not_below h stays)
    go false = fallen_least 0 h (not_below h stays)
without (Some v) h stays f = f

-- an absent ReID counter starts at the maximum where the hit counter is at most 0
within : (r : ℕ) (c : Option ℤ) (h : ℤ) → below_zero c ≡ false → Counters (Some (pos r)) c h
    → Counters (Some (pos r)) (reid_predicted c h (Some (pos r))) (h -ℤ pos 1)
within r None h stays f = go (le_z h (pos 0)) refl
  where
    go : (b : Bool) → le_z h (pos 0) ≡ b → Counters (Some (pos r)) (cond b (Some (pos r)) None) (h -ℤ pos 1)
    go true e = (omega arith, least_more (h -ℤ pos 1) (omega arith) (fallen_least 1 h f))
    go false e = fallen_least 0 h (over_zero h e)
within r (Some v) h stays f = falling_predicted r v h stays f

-- a ReID maximum that is set is not negative, and at most 10,000
reid_from : {A : Type 0} (r : ℕ) → optional_between (pos 0) (Some (negsuc r)) (pos 10000) ≡ true → A
unfolding optional_between
reid_from r range = absurd (true≢false (sym range))

reid_most : (r : ℕ) → optional_between (pos 0) (Some (pos r)) (pos 10000) ≡ true → r ≤ 10000
unfolding optional_between
reid_most r range = leb-true r 10000 (parts (leb 0 r) (leb r 10000 ∷ []) range).1

-- of a record that is not dropped
pub counters_predicted : (maximum : Option ℤ) (o : TrackedObject) → optional_between (pos 0) maximum (pos 10000) ≡ true → gone_by maximum o ≡ false
    → Counters maximum o.life.reid_hit_counter o.life.hit_counter
    → Counters maximum (reid_predicted o.life.reid_hit_counter o.life.hit_counter maximum) (o.life.hit_counter -ℤ pos 1)
counters_predicted None o range stays f = without o.life.reid_hit_counter o.life.hit_counter stays f
counters_predicted (Some (pos r)) o range stays f = within r o.life.reid_hit_counter o.life.hit_counter stays f
counters_predicted (Some (negsuc r)) o range stays f = reid_from r range

-- ---- whole

falling_within : (r : ℕ) (v h : ℤ) → r ≤ 10000 → Falling r v h → AtLeast 10003 h × (AtLeast 1 v × AtMost 10000 v)
falling_within r (pos a) h most f = (least_more h (omega arith) f.1, (tt, omega (arith, f.0)))
falling_within r (negsuc zero) h most f = (least_more h (omega arith) f, (omega arith, tt))
falling_within r (negsuc (suc a)) h most f = absurd f

pub counters_low : (maximum c : Option ℤ) (h : ℤ) → optional_between (pos 0) maximum (pos 10000) ≡ true → Counters maximum c h → AtLeast 10003 h
counters_low maximum None h range f = least_more h (omega arith) f
counters_low None (Some v) h range f = absurd f
counters_low (Some (pos r)) (Some v) h range f = (falling_within r v h (reid_most r range) f).0
counters_low (Some (negsuc r)) (Some v) h range f = absurd f

pub counters_reid : (maximum c : Option ℤ) (h : ℤ) → optional_between (pos 0) maximum (pos 10000) ≡ true → Counters maximum c h
    → optional_between (negsuc 0) c (pos 10000) ≡ true
unfolding optional_between
counters_reid maximum None h range f = refl
counters_reid None (Some v) h range f = absurd f
counters_reid (Some (pos r)) (Some v) h range f =
    let b = (falling_within r v h (reid_most r range) f).1 in
    between_is 0 10000 v b.0 b.1
counters_reid (Some (negsuc r)) (Some v) h range f = absurd f
