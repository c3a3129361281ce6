-- A loop that counts how many numbers it has put in the front of an array of n places: one number more, and one that a test keeps or leaves out.
use mathlib.Core.Path.{◌≡◌}
use mathlib.Core.Bool.{Bool, true, false}
use mathlib.Core.List.{List, [], ◌∷◌, ◌++◌}
use Prim.Native.Nat.{ℕ, ◌+◌, ◌<◌}
use native.Mathlib.Omega.{arith}
use native.Mathlib.Numerals.{add-one}
use mathlib.Core.Logic.{◌≢◌}
use lib.ListN.{length, get_or, set}
use lib.Seq.{get_or-set_same, get_or-set_other}
use Rattle.std.proofs.Common.{below_more}
use Rattle.laws.specs.Lists.{below, keep, padded}
use Rattle.laws.proofs.Growing.{length_snoc, filled_snoc, length-below, length-keep, joins, stays_out}

-- an array of n places and a count stand for a list
abbrev pub Stands : ℕ → List ℕ → List ℕ → ℕ → Type 0
Stands n l at count = (count ≡ length l) × (at ≡ padded n l)

module _ (n : ℕ) {at : List ℕ} {count : ℕ} where
  pub stands_more : (l : List ℕ) (x : ℕ) → length l < n → Stands n l at count → Stands n (l ++ (x ∷ [])) (set at count x) (count + 1)
  stands_more l x h held = (omega (arith, held.0, length_snoc l x), rw (held.0, held.1) (filled_snoc n 0 l x h))

  -- ---- what a test keeps of a list, one number more looked at

  module _ (p : ℕ → Bool) (l : List ℕ) (x : ℕ) where
    pub stands_joins : length l < n → p x ≡ true → Stands n (keep p l) at count
        → Stands n (keep p (l ++ (x ∷ []))) (set at count x) (count + 1)
    stands_joins h e held = rw (joins p l x e) (stands_more (keep p l) x (omega (arith, length-keep p l)) held)

    pub stands_stays : p x ≡ false → Stands n (keep p l) at count → Stands n (keep p (l ++ (x ∷ []))) at count
    stands_stays e held = rw (stays_out p l x e) held

  -- ---- what it keeps of the numbers below a count

  module _ (p : ℕ → Bool) (i : ℕ) where
    pub below_joins : i < n → p i ≡ true → Stands n (keep p (below i)) at count → Stands n (keep p (below (i + 1))) (set at count i) (count + 1)
    unfolding below
    below_joins h e held = rw (add-one i) (stands_joins p (below i) i (omega (arith, length-below i)) e held)

    pub below_stays : p i ≡ false → Stands n (keep p (below i)) at count → Stands n (keep p (below (i + 1))) at count
    unfolding below
    below_stays e held = rw (add-one i) (stands_stays p (below i) i e held)

-- ---- flags that say of each number below a count whether a test holds

abbrev pub Flagged : (ℕ → Bool) → List Bool → ℕ → Type 0
Flagged p flags i = (k : ℕ) → k < i → get_or flags k false ≡ p k

pub flagged_next : (p : ℕ → Bool) (flags : List Bool) (i : ℕ) {b : Bool} → i < length flags → b ≡ p i → Flagged p flags i
    → Flagged p (set flags i b) (i + 1)
flagged_next p flags i h e told =
    below_more _ _
    (λ k lt. let ne : k ≢ i = omega arith in rw get_or-set_other (told k lt))
    (rw get_or-set_same e)
