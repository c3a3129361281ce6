-- Rules 14, 45 and 62: the ages of a history stay in range as an entry joins it.
use mathlib.Core.Path.{◌≡◌, refl}
use mathlib.Core.Bool.{Bool, true, false, cond}
use mathlib.Core.List.{List, [], ◌∷◌, ◌++◌}
use Prim.Native.Nat.{ℕ, zero, suc, ◌+◌, ◌-◌, ◌*◌, ◌<◌, ◌≤◌, min}
use native.Mathlib.Nat.{zero-add, mul-one, le_of_suc-le-suc}
use native.Mathlib.Numerals.{add-one}
use native.Mathlib.Omega.{arith}
use borrow.Author.Tests.{ltb-false}
use lib.Dec.{ltb}
use lib.ListN.{get_or, take, drop}
use lib.Seq.{paste}
use Rattle.parts.specs.declared.PastDetection.{PastDetection}
use Rattle.parts.specs.Ranges.{AgeInRange, AgesInRange, unaged}
use Rattle.parts.specs.Past.{pushed, room_made}

-- ---- what the first elements of a list have, whatever its length: past the end stands z, which has it too

module _ {A : Type 0} (P : A → Type 0) (z : A) (nowhere : P z) where
  abbrev Each : ℕ → List A → Type 0
  Each n l = (i : ℕ) → i < n → P (get_or l i z)

  -- an element put behind the first
  each_put : (at : ℕ) (e : A) (l : List A) → P e → Each at l → Each (suc at) (take at l ++ (e ∷ []) ++ drop (suc at) l)
  each_put zero e l new old zero h = new
  each_put zero e l new old (suc i) h = absurd (omega arith)
  each_put (suc at) e [] new old zero h = new
  each_put (suc at) e [] new old (suc i) h = nowhere
  each_put (suc at) e (x ∷ l) new old zero h = old zero (omega arith)
  each_put (suc at) e (x ∷ l) new old (suc i) h = each_put at e l new (λ j q. old (suc j) (omega arith)) i (le_of_suc-le-suc h)

  -- all but the first moved down by one
  each_moved : (n : ℕ) (l : List A) → Each (suc n) l → Each n (take n (drop 1 l) ++ drop n l)
  each_moved zero l old i h = absurd (omega arith)
  each_moved (suc n) [] old i h = nowhere
  each_moved (suc n) (x ∷ l) old i h = behind n l (λ j q. old (suc j) (omega arith)) i h
    where
      behind : (n : ℕ) (l : List A) → Each (suc n) l → Each (suc n) (take (suc n) l ++ drop n l)
      behind zero [] old i h = nowhere
      behind (suc n) [] old i h = nowhere
      behind n (x ∷ l) old zero h = old zero h
      behind zero (x ∷ l) old (suc i) h = absurd (omega arith)
      behind (suc n) (x ∷ l) old (suc i) h = behind n l (λ j q. old (suc j) (omega arith)) i (le_of_suc-le-suc h)

-- ---- a history

abbrev Young : PastDetection → Type 0
Young e = AgeInRange e.age

-- the entries that stay
room_kept : (most count : ℕ) (marks : List PastDetection) (b : Bool) → ltb count most ≡ b → 0 < most → count ≤ most → AgesInRange count marks
    → AgesInRange (min count (most - 1)) (cond b marks (paste marks 0 (drop (0 + 1) marks) ((most - 1) * 1)))
room_kept most count marks true t some full ages i h = ages i (omega arith)
room_kept most count marks false t some full ages i h =
    let beyond = ltb-false count most t in
    rw (mul-one (most - 1), zero-add (most - 1))
    (each_moved Young unaged (omega arith) (most - 1) marks (λ j q. ages j (omega arith)) i (omega arith))

pub ages_kept : (most count : ℕ) (e : PastDetection) (marks : List PastDetection) → 0 < most → count ≤ most → AgeInRange e.age
    → AgesInRange count marks → AgesInRange (min (count + 1) most) (pushed most 1 0 count (e ∷ []) marks)
ages_kept most count e marks some full young ages i h =
    let at = min count (most - 1) in
    let stay = room_kept most count marks (ltb count most) refl some full ages in
    rw (mul-one at, zero-add at, add-one at)
    (each_put Young unaged (omega arith) at e (room_made most 1 0 count marks) young stay i (omega arith))
