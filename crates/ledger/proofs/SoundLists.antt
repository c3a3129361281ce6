-- Rules 14, 31 and 48: a list of numbers below a count, none twice, is whole.
use mathlib.Core.Path.{◌≡◌, refl, sym, ◌∙◌, ap}
use mathlib.Core.Bool.{Bool, true, false}
use mathlib.Core.List.{List}
use Prim.Native.Nat.{ℕ, zero, suc, ◌+◌, ◌-◌, ◌<◌, ◌≤◌}
use native.Mathlib.Numerals.{add-one}
use native.Mathlib.Omega.{arith}
use borrow.Author.Tests.{eq-eqb, ltb-true, ltb-false, le-leb}
use lib.Dec.{ltb}
use lib.ListN.{length, get_or, take, drop, replicate, take-append-drop, get_or-append}
use lib.Seq.{drop-cons, take-append-le}
use Rattle.laws.specs.Lists.{holds, times, padded}
use Rattle.laws.proofs.Counting.{times-append, no_times}
use Rattle.table.specs.declared.Lists.{Lists}
use Rattle.table.specs.Making.{no_numbers, no_candidates}
use Rattle.table.specs.Wholeness.{names_below, places_whole, list_whole, candidates_whole, lists_whole}
use Rattle.table.proofs.Names.{new_name}
use Rattle.ledger.proofs.SoundTests.{◌also◌}

-- of numbers below n, none twice, as many as there are places
pub record Distinct (places n : ℕ) (l : List ℕ) : Type 0 where
  pub few : length l ≤ places
  pub once : (x : ℕ) → times x l ≤ 1
  pub inside : (x : ℕ) → n ≤ x → times x l ≡ 0

-- at its place a number stands once
stands : (l : List ℕ) (i : ℕ) → i < length l → times (get_or l i 0) l ≡ times (get_or l i 0) (take i l) + suc (times (get_or l i 0) (drop (suc i) l))
unfolding times
stands l i h =
    let x = get_or l i 0 in
    ap (times x) (sym (take-append-drop i l)) ∙ times-append x (take i l) (drop i l)
    ∙ rw (drop-cons l i 0 h, eq-eqb x x refl) (omega arith)

module _ {places n : ℕ} {l : List ℕ} (d : Distinct places n l) where
  named : (i : ℕ) → i < length l → get_or l i 0 < n
  named i h = go (ltb (get_or l i 0) n) refl
    where
      go : (b : Bool) → ltb (get_or l i 0) n ≡ b → get_or l i 0 < n
      go true e = ltb-true _ _ e
      go false e = absurd (omega (arith, stands l i h, d.inside (get_or l i 0) (ltb-false _ _ e)))

  new : (i : ℕ) → i < length l → holds (get_or l i 0) (take i l) ≡ false
  new i h = no_times (get_or l i 0) (take i l) (omega (arith, stands l i h, d.once (get_or l i 0)))

  -- as an array lists them
  names_whole : (i : ℕ) → i ≤ length l → names_below n i (padded places l) ≡ true
  unfolding names_below
  names_whole zero h = refl
  names_whole (suc i) h =
      let rest = replicate {A = ℕ} (places - length l) 0 in
      let at = get_or-append l rest 0 i h in
      rw (add-one i) at
      (new_name n (padded places l) i (names_whole i (omega arith)) (rw at (named i h)) (rw (at, take-append-le i l rest (omega arith)) (new i h)))

  pub list_whole_lem : places_whole places n (length l) (padded places l) ≡ true
  list_whole_lem = le-leb _ places d.few also names_whole (length l) (omega arith)

-- ---- the five lists

pub empty_whole : (n : ℕ) → list_whole n no_numbers ≡ true
unfolding names_below
empty_whole n = refl

pub no_candidates_whole : (n : ℕ) → candidates_whole n no_candidates ≡ true
unfolding names_below
no_candidates_whole n = refl

module _ (n : ℕ) (l : Lists) where
  pub lists_whole_lem : list_whole n l.alive ≡ true → list_whole n l.initializing ≡ true → list_whole n l.dead ≡ true → list_whole n l.old ≡ true
      → candidates_whole n l.candidates ≡ true → lists_whole n l ≡ true
  unfolding lists_whole
  lists_whole_lem alive initializing dead old candidates = alive also initializing also dead also old also candidates
