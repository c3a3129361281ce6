-- Rules 43, 44 and 48: no detection and no record is hit twice, who is left over, and the old ones name each record once.
use mathlib.Core.Path.{◌≡◌, refl, sym, ◌∙◌, ap}
use mathlib.Core.Bool.{Bool, true, false, true≢false, not, ◌&&◌, ◌||◌, cond}
use mathlib.Core.List.{List, [], ◌∷◌, ◌++◌}
use Prim.Native.Nat.{ℕ, zero, suc, ◌+◌, ◌<◌, ◌≤◌, zero-le}
use native.Mathlib.Nat.{le_refl, le_trans}
use native.Mathlib.Omega.{arith}
use borrow.Author.Tests.{eqb-true, eqb-false, ltb-true, ltb-false, lt-ltb, le-ltb}
use lib.Dec.{eqb, ltb}
use lib.ListN.{length, get_or, set, take, replicate, length-append, length-map}
use lib.Seq.{get_or-set_other, take-suc, take_all}
use Rattle.laws.specs.Lists.{below, keep, any, holds, times, EachBelow}
use Rattle.laws.specs.Turns.{through}
use Rattle.laws.proofs.Every.{each_padded}
use Rattle.laws.proofs.Growing.{take-filled}
use Rattle.matching.specs.declared.Numbers.{Numbers}
use Rattle.matching.specs.Greedy.{Matrix, Pick, free, marked, cleared, rows_of, cols_of}
use Rattle.matching.specs.Lent.{picks_of}
use Rattle.matching.specs.Unmatched.{unmatched, numbers_of}
use Rattle.matching.proofs.Laws.{rows_taken, cols_taken}
use Rattle.matching.proofs.Taken.{Taken, taken_append, taken_at_most, taken_below, taken_times, taken_once, used_not_taken}
use Rattle.table.proofs.Facts.{ListFacts}
use Rattle.passes.specs.Passes.{numbers, first_pass, second_pass, among, left_over, alive_left, old_ones, NamesOnce}
use Rattle.laws.proofs.Counting.{times-append, times-keep, kept_at_most, times_below, below_once, not_held, no_times, held, few_below}

-- ---- a struct of numbers lists what it was made of

pub numbers-numbers_of : (l : List ℕ) → numbers (numbers_of l) ≡ l
numbers-numbers_of l = take-filled 64 0 l

-- a struct that was made of some numbers is made of those that it lists
listed_again : (l : List ℕ) {r : Numbers 64} → r ≡ numbers_of l → r ≡ numbers_of (numbers r)
listed_again l e = rw (e, numbers-numbers_of l)

-- ---- a pass from these flags on: each row and column was free when it was picked

pub record Passed (m : Matrix) (ur uc : List Bool) (l : List Pick) : Type 0 where
  pub rows : Taken m.rows ur (rows_of l)
  pub cols : Taken m.cols uc (cols_of l)

pub first_passed : (m : Matrix) (alive : List ℕ) → Passed m (replicate 32 false) (cleared alive (replicate 64 true)) (first_pass m alive)
unfolding first_pass
first_passed m alive =
    let uc = cleared alive (replicate 64 true) in
    record { rows = rows_taken m (replicate 32 false) uc; cols = cols_taken m (replicate 32 false) uc }

pub second_passed : (m : Matrix) (initializing rows : List ℕ)
    → Passed m (marked rows (replicate 32 false)) (cleared initializing (replicate 64 true)) (second_pass m initializing rows)
unfolding second_pass
second_passed m initializing rows =
    let ur = marked rows (replicate 32 false) in
    let uc = cleared initializing (replicate 64 true) in
    record { rows = rows_taken m ur uc; cols = cols_taken m ur uc }

-- what is taken stands below n, once
taken_within : {n : ℕ} {u : List Bool} {l : List ℕ} → Taken n u l → (x : ℕ) → times x l ≤ times x (below n)
taken_within {n} {u} t x = rw (times_below x n) (le_trans (taken_times t x) (go (free u x)))
  where
    go : (b : Bool) → cond (b && ltb x n) 1 0 ≤ cond (ltb x n) 1 0
    go true = le_refl (cond (ltb x n) 1 0)
    go false = zero-le

module _ {m : Matrix} {ur uc : List Bool} {l : List Pick} (p : Passed m ur uc l) where
  -- as the struct that is returned
  pub rows_inside : EachBelow m.rows (picks_of l).count (picks_of l).rows
  rows_inside = each_padded 32 (rows_of l) (length-map l (λ q. q.row)) (taken_below p.rows)

  pub cols_inside : EachBelow m.cols (picks_of l).count (picks_of l).cols
  cols_inside = each_padded 32 (cols_of l) (length-map l (λ q. q.col)) (taken_below p.cols)

  -- and as the one that `second_pass` takes
  pub rows_within : m.rows ≤ 32 → EachBelow 32 (picks_of l).count (picks_of l).rows
  rows_within few i h = le_trans (rows_inside i h) few

-- ---- which columns a pass can hit: those listed

-- no flag of a list of set flags is free, past its end neither
none_free : (n x : ℕ) → free (replicate n true) x ≡ false
none_free zero x = refl
none_free (suc n) zero = refl
none_free (suc n) (suc x) = none_free n x

neither : (a b : Bool) → (a || b) ≡ false → (a ≡ false) × (b ≡ false)
neither true b h = absurd (true≢false h)
neither false b h = (refl, h)

unlisted : (l : List ℕ) (u : List Bool) (x : ℕ) → holds x l ≡ false → free (cleared l u) x ≡ free u x
unfolding through any
unlisted [] u x h = refl
unlisted (i ∷ l) u x h =
    let (here, there) = neither (eqb i x) (holds x l) h in
    unlisted l (set u i false) x there ∙ ap not (get_or-set_other u i x false true (λ e. eqb-false i x here (sym e)))

unlisted_unhit : {m : Matrix} {ur : List Bool} {l : List Pick} (list : List ℕ) → Passed m ur (cleared list (replicate 64 true)) l
    → (x : ℕ) → holds x list ≡ false → times x (cols_of l) ≡ 0
unlisted_unhit list p x h = used_not_taken p.cols x (unlisted list (replicate 64 true) x h ∙ none_free 64 x)

pub first_alive : (m : Matrix) (alive : List ℕ) (x : ℕ) → holds x alive ≡ false → times x (cols_of (first_pass m alive)) ≡ 0
first_alive m alive = unlisted_unhit alive (first_passed m alive)

pub second_initializing : (m : Matrix) (initializing rows : List ℕ) (x : ℕ) → holds x initializing ≡ false
    → times x (cols_of (second_pass m initializing rows)) ≡ 0
second_initializing m initializing rows = unlisted_unhit initializing (second_passed m initializing rows)

-- ---- who is left

-- of two lists that name a number at most as often as it stands below n, and what neither names: all of them
parted : (n : ℕ) (a b : List ℕ) (d : ℕ) → times d a + times d b ≤ times d (below n)
    → times d a + times d b + times d (left_over n a b) ≡ times d (below n)
parted n a b d most =
    rw (times-keep d (among false b) (unmatched n a), times-keep d (λ i. not (holds i a)) (below n)) (go (holds d a) (holds d b) refl refl)
  where
    go : (u v : Bool) → holds d a ≡ u → holds d b ≡ v
        → times d a + times d b + cond (not v) (cond (not u) (times d (below n)) 0) 0 ≡ times d (below n)
    go true true e f = omega (arith, held d a e, below_once d n)
    go true false e f = omega (arith, held d a e, below_once d n)
    go false true e f = omega (arith, held d b f, below_once d n)
    go false false e f = omega (arith, not_held d a e, not_held d b f)

-- ---- both passes

module _ (m : Matrix) (alive initializing : List ℕ) where
  abbrev first : List Pick
  first = first_pass m alive

  abbrev second : List Pick
  second = second_pass m initializing (rows_of first)

  -- pass 2 takes on from the rows that pass 1 left free
  pub rows_taken_both : Taken m.rows (replicate 32 false) (rows_of first ++ rows_of second)
  rows_taken_both = taken_append (first_passed m alive).rows (second_passed m initializing (rows_of first)).rows

  pub hits_few : length first + length second ≤ m.rows
  hits_few = omega (arith, simp (length-append, length-map) at (taken_at_most rows_taken_both))

  -- hit in pass 1, hit in pass 2 or left over, exactly one
  pub each_detection_once : (d : ℕ)
      → times d (rows_of first) + times d (rows_of second) + times d (left_over m.rows (rows_of first) (rows_of second)) ≡ times d (below m.rows)
  each_detection_once d =
      parted m.rows (rows_of first) (rows_of second) d (rw (times-append d (rows_of first) (rows_of second)) at (taken_within rows_taken_both d))

  -- lists without overlap: no record is hit twice
  pub no_place_twice : ((x : ℕ) → times x alive + times x initializing ≤ 1) → (x : ℕ) → times x (cols_of first) + times x (cols_of second) ≤ 1
  no_place_twice apart x = go (holds x alive) refl
    where
      go : (b : Bool) → holds x alive ≡ b → times x (cols_of first) + times x (cols_of second) ≤ 1
      go true h =
          let away = no_times x initializing (omega (arith, apart x, held x alive h)) in
          omega (arith, second_initializing m initializing (rows_of first) x away, taken_once (first_passed m alive).cols x)
      go false h = omega (arith, first_alive m alive x h, taken_once (second_passed m initializing (rows_of first)).cols x)

-- ---- the old ones

-- a list, then what of another it does not name: a number stands there no more often than in either
then_others : (x k : ℕ) (a l : List ℕ) → times x a ≤ k → times x l ≤ k → times x (a ++ keep (among false a) l) ≤ k
then_others x k a l most also = rw (times-append x a (keep (among false a) l), times-keep x (among false a) l) (go (holds x a) refl)
  where
    go : (v : Bool) → holds x a ≡ v → times x a + cond (not v) (times x l) 0 ≤ k
    go true h = omega arith
    go false h = omega (arith, not_held x a h)

module _ (records : ℕ) (alive dead hit : List ℕ) (named : NamesOnce records dead) where
  old_most : NamesOnce records (old_ones records alive dead hit)
  old_most x =
      then_others x (times x (below records)) (alive_left records alive hit) dead
      (le_trans (kept_at_most x (among true alive) (unmatched records hit)) (kept_at_most x (λ i. not (holds i hit)) (below records)))
      (named x)

  pub old_once : (x : ℕ) → times x (old_ones records alive dead hit) ≤ 1
  old_once x = le_trans (old_most x) (below_once x records)

  pub old_below : (x : ℕ) → records ≤ x → times x (old_ones records alive dead hit) ≡ 0
  old_below x h = omega (arith, old_most x, rw (le-ltb x records h) at (times_below x records))

  pub old_few : length (old_ones records alive dead hit) ≤ records
  old_few = few_below records (old_ones records alive dead hit) old_most

  -- as the code finds them: together they are few enough for an array, and the first of them are all that their struct lists
  pub old_fit : {free left unnamed : Numbers 64} → records ≤ 64 → free ≡ numbers_of (unmatched records hit)
      → left ≡ numbers_of (keep (among true alive) (numbers free)) → unnamed ≡ numbers_of (keep (among false (numbers left)) dead)
      → (left.count + length (numbers unnamed) ≤ 64) × (left ≡ numbers_of (numbers left))
  old_fit few e f g =
      let l = alive_left records alive hit in (
        rw (g, f, e, numbers-numbers_of (unmatched records hit), numbers-numbers_of l, numbers-numbers_of (keep (among false l) dead))
            (omega (arith, old_few, length-append l (keep (among false l) dead))),
        listed_again _ f,
      )

-- ---- a list of a whole table names each place once

module _ {places records n : ℕ} {at : List ℕ} (facts : ListFacts places records n at) where
  -- one name more, which is new and a place in the table
  next_once : (k : ℕ) → k < n → NamesOnce records (take k at) → NamesOnce records (take k at ++ (get_or at k 0 ∷ []))
  unfolding times
  next_once k h before x = rw (times-append x (take k at) (get_or at k 0 ∷ [])) (go (eqb (get_or at k 0) x) refl)
    where
      go : (b : Bool) → eqb (get_or at k 0) x ≡ b → times x (take k at) + (cond b 1 0 + 0) ≤ times x (below records)
      go true e =
          let q : get_or at k 0 ≡ x = eqb-true _ _ e in
          rw (times_below x records, lt-ltb x records (rw q at (facts.named k h))) (omega (arith, not_held x (take k at) (rw q at (facts.new k h))))
      go false e = omega (arith, before x)

  first_once : (k : ℕ) → k ≤ n → NamesOnce records (take k at)
  unfolding times
  first_once zero h = λ x. zero-le
  first_once (suc k) h = go (first_once k (omega arith)) (ltb k (length at)) refl
    where
      go : NamesOnce records (take k at) → (b : Bool) → ltb k (length at) ≡ b → NamesOnce records (take (suc k) at)
      go before true e = rw (take-suc at k 0 (ltb-true _ _ e)) (next_once k h before)
      go before false e =
          let past = ltb-false k (length at) e in
          rw (take_all (suc k) at (omega arith)) (rw (take_all k at past) at before)

  pub names_once : NamesOnce records (take n at)
  names_once = first_once n (le_refl n)
