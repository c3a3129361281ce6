-- Tests of every element: what std's `all` answers in the words of the definitions, and what a list that passes tells of each element.
use mathlib.Core.Path.{◌≡◌, refl, sym}
use mathlib.Core.Bool.{Bool, true, false, not, ◌||◌, ◌&&◌}
use mathlib.Core.List.{List, [], ◌∷◌}
use Prim.Native.Nat.{ℕ, zero, suc, ◌<◌, ◌≤◌}
use native.Mathlib.Omega.{arith}
use lib.Dec.{leb, ltb}
use lib.IntN.{ℤ, pos}
use lib.ListN.{length, take, get_or}
use lib.Seq.{take_all}
use Rattle.std.specs.List.{list_all}
use Rattle.std.proofs.lemmas.Bool.Decides.{nat_tests}
use Rattle.laws.specs.Lists.{any}
use Rattle.parts.specs.declared.PastDetection.{PastDetection}
use Rattle.parts.specs.declared.TrackedObject.{TrackedObject}
use Rattle.parts.specs.declared.TrackerConfig.{TrackerConfig}
use Rattle.table.specs.Ranges.{optional_between}
use Rattle.table.specs.Wholeness.{points_whole, ages_whole, record_whole, records_whole}

not_or : (a b : Bool) → not (a || b) ≡ (not a && not b)
not_or true b = refl
not_or false b = refl

not_not : (a : Bool) → a ≡ not (not a)
not_not true = refl
not_not false = refl

-- where the test and its opposite go together
all_is : {A : Type 0} (p bad : A → Bool) → ((x : A) → p x ≡ not (bad x)) → (l : List A) → list_all p l ≡ not (any bad (take (length l) l))
unfolding any
all_is p bad e [] = refl
all_is p bad e (x ∷ l) = rw (e x, all_is p bad e l, not_or (bad x) (any bad (take (length l) l)))

at_most : (x : ℕ) → leb x 10000 ≡ not (ltb 10000 x)
at_most x = grind (arith, nat_tests)

pub points_all : (l : List ℕ) → list_all (λ x. leb x 10000) l ≡ points_whole (length l) l
unfolding points_whole
points_all l = all_is (λ x. leb x 10000) (λ x. ltb 10000 x) at_most l

pub ages_all : (frames : ℤ) (l : List PastDetection) → list_all (λ e. optional_between (pos 0) e.age frames) l ≡ ages_whole (length l) frames l
unfolding ages_whole
ages_all frames l =
    all_is (λ e. optional_between (pos 0) e.age frames) (λ e. not (optional_between (pos 0) e.age frames)) (λ e. not_not _) l

pub records_all : (c : TrackerConfig) (frames : ℕ) (l : List TrackedObject) → list_all (record_whole c frames) l ≡ records_whole c frames (length l) l
unfolding records_whole
records_all c frames l = all_is (record_whole c frames) (λ o. not (record_whole c frames o)) (λ o. not_not _) l

-- ---- the front of an array

whole : {A : Type 0} (l : List A) → take (length l) l ≡ l
whole l = take_all (length l) l (omega arith)

pub points_front : (n : ℕ) (l : List ℕ) → points_whole (length (take n l)) (take n l) ≡ points_whole n l
unfolding points_whole
points_front n l = rw (whole (take n l))

pub ages_front : (n : ℕ) (frames : ℤ) (l : List PastDetection) → ages_whole (length (take n l)) frames (take n l) ≡ ages_whole n frames l
unfolding ages_whole
ages_front n frames l = rw (whole (take n l))

pub records_front : (c : TrackerConfig) (frames n : ℕ) (l : List TrackedObject)
    → records_whole c frames (length (take n l)) (take n l) ≡ records_whole c frames n l
unfolding records_whole
records_front c frames n l = rw (whole (take n l))

-- ---- what a list that passes tells

neither : (a b : Bool) → not (a || b) ≡ true → (a ≡ false) × (not b ≡ true)
neither true b h = (sym h, cc)
neither false b h = (refl, h)

-- where the test finds none among the first n, it does not find the one at i: nor the default, where i is behind the end
pub none_found : {A : Type 0} (bad : A → Bool) (n : ℕ) (l : List A) (d : A) → not (any bad (take n l)) ≡ true
    → (i : ℕ) → i < n → (length l ≤ i → bad d ≡ false) → bad (get_or l i d) ≡ false
unfolding any
none_found bad zero l d h i lt out = absurd (omega arith)
none_found bad (suc n) [] d h i lt out = out (omega arith)
none_found bad (suc n) (x ∷ l) d h zero lt out = (neither (bad x) (any bad (take n l)) h).0
none_found bad (suc n) (x ∷ l) d h (suc i) lt out =
    none_found bad n l d (neither (bad x) (any bad (take n l)) h).1 i (omega arith) (λ behind. out (omega arith))
