-- Rule 2: on finite floats < is a strict weak order.
-- Two finite floats are compared as signed fractions with positive denominators, by cross multiplication. Three of them are brought to one denominator, and there a chain of comparisons is linear arithmetic.
use mathlib.Core.Path.{◌≡◌, refl, sym, ◌∙◌}
use mathlib.Core.Bool.{Bool, true, false, not, ◌&&◌, cond}
use Prim.Native.Nat.{ℕ, suc, ◌*◌, ◌+◌, ◌<◌, zero-le}
use native.Mathlib.Nat.{le_refl, zero-lt-suc, add-zero, zero-add, zero-mul, add-mul, mul_right_comm, mul-le-mul_right, mul-lt-mul_of_pos_right}
use native.Mathlib.Omega.{arith}
use borrow.Author.Tests.{ltb-true, ltb-false, lt-ltb, le-ltb}
use lib.Dec.{ltb}
use lib.IntN.{ℤ, pos, negsuc}
use lib.Ieee.{Float, nan, inf, fin, up, down, below, lt}
use lib.Pow.{pow_pos}
use Rattle.laws.specs.Float64.{finite}

down_positive : (e : ℤ) → 0 < down e
down_positive (pos k) = zero-lt-suc 0
down_positive (negsuc k) = pow_pos (suc k)

-- ---- signed numbers ±a, with s true for a negative one

below_irreflexive : (s : Bool) (a : ℕ) → below s a s a ≡ false
below_irreflexive true a = le-ltb a a (le_refl a)
below_irreflexive false a = le-ltb a a (le_refl a)

-- ±a is plus s a - minus s a
abbrev plus : Bool → ℕ → ℕ
plus s a = cond s 0 a

abbrev minus : Bool → ℕ → ℕ
minus s a = cond s a 0

below_is : (s : Bool) (a : ℕ) (t : Bool) (b : ℕ) → below s a t b ≡ ltb (plus s a + minus t b) (minus s a + plus t b)
below_is false a false b = rw (add-zero, zero-add)
below_is false a true b = sym (le-ltb (a + b) 0 zero-le)
below_is true a false b = refl
below_is true a true b = rw (zero-add, add-zero)

-- if a - a' < b - b' and b - b' < c - c' both hold (v is true), or both fail, then so does a - a' < c - c'
difference_chain : (v : Bool) (a a' b b' c c' : ℕ) → ltb (a + b') (a' + b) ≡ v → ltb (b + c') (b' + c) ≡ v → ltb (a + c') (a' + c) ≡ v
difference_chain true a a' b b' c c' p q = lt-ltb (a + c') (a' + c) (omega (arith, ltb-true))
difference_chain false a a' b b' c c' p q = le-ltb (a + c') (a' + c) (omega (arith, ltb-false))

below_chain : (v s : Bool) (a : ℕ) (t : Bool) (b : ℕ) (u : Bool) (c : ℕ) → below s a t b ≡ v → below t b u c ≡ v → below s a u c ≡ v
below_chain v s a t b u c p q =
    below_is s a u c ∙ difference_chain v (plus s a) (minus s a) (plus t b) (minus t b) (plus u c) (minus u c) (sym (below_is s a t b) ∙ p) (sym (below_is t b u c) ∙ q)

-- a common positive factor changes no comparison
ltb_scale : (k a b : ℕ) → 0 < k → ltb (a * k) (b * k) ≡ ltb a b
ltb_scale k a b K = go (ltb a b) refl
  where
    go : (v : Bool) → ltb a b ≡ v → ltb (a * k) (b * k) ≡ v
    go true e = lt-ltb (a * k) (b * k) (mul-lt-mul_of_pos_right (ltb-true a b e) K)
    go false e = le-ltb (a * k) (b * k) (mul-le-mul_right k (ltb-false a b e))

below_scale : (k : ℕ) (s : Bool) (a : ℕ) (t : Bool) (b : ℕ) → 0 < k → below s (a * k) t (b * k) ≡ below s a t b
below_scale k false a false b K = ltb_scale k a b K
below_scale k false a true b K = refl
below_scale k true a false b K = rw (zero-mul, add-mul) at (ltb_scale k 0 (a + b) K)
below_scale k true a true b K = ltb_scale k b a K

-- `below_chain` for the signed fractions ±a / p, ±b / q and ±c / r, compared by cross multiplication: over p * q * r all three are whole
fraction_chain : (v s : Bool) (a p : ℕ) (t : Bool) (b q : ℕ) (u : Bool) (c r : ℕ) → 0 < p → 0 < q → 0 < r
    → below s (a * q) t (b * p) ≡ v → below t (b * r) u (c * q) ≡ v → below s (a * r) u (c * p) ≡ v
fraction_chain v s a p t b q u c r P Q R f g =
    sym (below_scale q s (a * r) u (c * p) Q)
    ∙ rw (mul_right_comm a r q) (below_chain v s (a * q * r) t (b * p * r) u (c * p * q)
    (below_scale r s (a * q) t (b * p) R ∙ f)
    (rw (mul_right_comm b p r, mul_right_comm c p q) (below_scale p t (b * r) u (c * q) P ∙ g)))

-- ---- floats
pub lt_irreflexive : (x : Float) → lt x x ≡ false
unfolding lt
lt_irreflexive nan = refl
lt_irreflexive (inf true) = refl
lt_irreflexive (inf false) = refl
lt_irreflexive (fin s m e) = below_irreflexive s (m * up e * down e)

and_same : (v a b : Bool) → a ≡ v → b ≡ v → (a && b) ≡ v
and_same v true b p q = q
and_same v false b p q = p

-- a chain whose middle is finite: transitivity is v = true, cotransitivity is v = false
lt_chain : (v : Bool) (x : Float) (t : Bool) (n : ℕ) (d : ℤ) (z : Float) → lt x (fin t n d) ≡ v → lt (fin t n d) z ≡ v → lt x z ≡ v
unfolding lt
lt_chain v nan t n d z p q = p
lt_chain v (inf s) t n d nan p q = q
lt_chain v (inf s) t n d (inf u) p q = and_same v s (not u) p q
lt_chain v (inf s) t n d (fin u o c) p q = p
lt_chain v (fin s m e) t n d nan p q = q
lt_chain v (fin s m e) t n d (inf u) p q = q
lt_chain v (fin s m e) t n d (fin u o c) p q =
    fraction_chain v s (m * up e) (down e) t (n * up d) (down d) u (o * up c) (down c) (down_positive e) (down_positive d) (down_positive c) p q

-- nothing is below minus infinity or above plus infinity
none_below : (x : Float) → lt x (inf true) ≡ false
unfolding lt
none_below nan = refl
none_below (inf true) = refl
none_below (inf false) = refl
none_below (fin s m e) = refl

none_above : (z : Float) → lt (inf false) z ≡ false
unfolding lt
none_above nan = refl
none_above (inf u) = refl
none_above (fin u o c) = refl

-- of any floats, NaN and the infinities included
pub lt_transitive : (x y z : Float) → lt x y ≡ true → lt y z ≡ true → lt x z ≡ true
unfolding lt
lt_transitive x nan z p q = cc
lt_transitive x (inf true) z p q = cc (none_below x)
lt_transitive x (inf false) z p q = cc (none_above z)
lt_transitive x (fin t n d) z p q = lt_chain true x t n d z p q

-- the ends may be any floats. The middle may not be NaN, which is neither below nor above anything
pub lt_cotransitive : (x y z : Float) → finite y ≡ true → lt x y ≡ false → lt y z ≡ false → lt x z ≡ false
unfolding finite
lt_cotransitive x nan z f p q = cc
lt_cotransitive x (inf t) z f p q = cc
lt_cotransitive x (fin t n d) z f p q = lt_chain false x t n d z p q

pub lt_asymmetric : (x y : Float) → lt x y ≡ true → lt y x ≡ false
lt_asymmetric x y p = go (lt y x) refl
  where
    go : (v : Bool) → lt y x ≡ v → v ≡ false
    go true q = cc (lt_transitive x y x p q, lt_irreflexive x)
    go false q = refl
