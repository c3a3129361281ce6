-- Rule 44: what the loops hold that fill a struct of numbers: one number more is looked at, or put behind a front.
use mathlib.Core.Path.{◌≡◌, refl, sym, ◌∙◌, ap}
use mathlib.Core.Bool.{Bool, true, false, not, beq, cond}
use mathlib.Core.List.{List, [], ◌∷◌, ◌++◌, append_assoc}
use Prim.Native.Nat.{ℕ, ◌+◌, ◌<◌, ◌≤◌}
use native.Mathlib.Numerals.{add-one}
use native.Mathlib.Omega.{arith}
use lib.Dec.{eqb}
use lib.ListN.{length, get_or, set, take, length-append}
use lib.Seq.{length-take-le, take-suc}
use Rattle.std.specs.List.{list_any}
use Rattle.laws.specs.Lists.{keep}
use Rattle.laws.proofs.Growing.{length-keep, stays_out}
use Rattle.laws.proofs.Search.{any_is_list_any}
use Rattle.laws.proofs.Standing.{Stands, stands_more, stands_joins}
use Rattle.matching.specs.declared.Numbers.{Numbers}
use Rattle.matching.specs.Unmatched.{numbers_of}
use Rattle.passes.specs.Passes.{numbers, among}

-- a struct that lists some numbers stands for them
stands : (l : List ℕ) {n : Numbers 64} → n ≡ numbers_of l → Stands 64 l n.at n.count
stands l e = (ap (λ (n : Numbers 64). n.count) e, ap (λ (n : Numbers 64). n.at) e)

-- ---- those of the first i numbers that are, or are not, in a list

module _ (wanted : Bool) (list of : List ℕ) (i : ℕ) {kept : Numbers 64}
    (held : kept ≡ numbers_of (keep (among wanted list) (take i of))) where
  pub at_most_looked_at : i ≤ length of → kept.count ≤ i
  at_most_looked_at h = omega (arith, ap (λ (n : Numbers 64). n.count) held, length-keep (among wanted list) (take i of), length-take-le i of h)

  -- `among` is how the code compares
  compared : (w b : Bool) → beq b w ≡ cond w b (not b)
  compared true true = refl
  compared true false = refl
  compared false true = refl
  compared false false = refl

  asked : (x : ℕ) {v : Bool} → beq (list_any (λ y. eqb y x) list) wanted ≡ v → among wanted list x ≡ v
  asked x e = rw (← any_is_list_any (λ y. eqb y x) list) (sym (compared wanted (list_any (λ y. eqb y x) list)) ∙ e)

  next : i < length of → take (i + 1) of ≡ take i of ++ (get_or of i 0 ∷ [])
  next h = rw (add-one i) (take-suc of i 0 h)

  pub looked_joins : i < length of → length of ≤ 64 → beq (list_any (λ y. eqb y (get_or of i 0)) list) wanted ≡ true
      → ◌≡◌ {A = Numbers 64} (record { at = set kept.at kept.count (get_or of i 0); count = kept.count + 1 }) (numbers_of (keep (among wanted list) (take (i + 1) of)))
  looked_joins h few e =
      let x = get_or of i 0 in
      let room : length (take i of) < 64 = omega (arith, length-take-le i of (omega arith)) in
      let (count, at) = stands_joins 64 (among wanted list) (take i of) x room (asked x e) (stands (keep (among wanted list) (take i of)) held) in
      rw (next h, count, at)

  pub looked_stays : i < length of → beq (list_any (λ y. eqb y (get_or of i 0)) list) wanted ≡ false
      → kept ≡ numbers_of (keep (among wanted list) (take (i + 1) of))
  looked_stays h e =
      let x = get_or of i 0 in
      let same : keep (among wanted list) (take (i + 1) of) ≡ keep (among wanted list) (take i of) =
      rw (next h) (stays_out (among wanted list) (take i of) x (asked x e)) in
      held ∙ ap numbers_of (sym same)

-- ---- the first i of a list behind a front

pub appended_next : (front : Numbers 64) (list : List ℕ) (i : ℕ) {n : Numbers 64} → front ≡ numbers_of (numbers front) → n ≡ numbers_of (numbers front ++ take i list)
    → i < length list → front.count + length list ≤ 64
    → ◌≡◌ {A = Numbers 64} (record { at = set n.at n.count (get_or list i 0); count = n.count + 1 }) (numbers_of (numbers front ++ take (i + 1) list))
appended_next front list i whole held h few =
    let x = get_or list i 0 in
    let l = numbers front ++ take i list in
    let next : numbers front ++ take (i + 1) list ≡ l ++ (x ∷ []) = rw (add-one i, take-suc list i 0 h) (sym (append_assoc (numbers front) (take i list) (x ∷ []))) in
    let (count, at) = stands_more 64 l x (omega (arith, ap (λ (n : Numbers 64). n.count) whole, length-append (numbers front) (take i list), length-take-le i list (omega arith))) (stands l held) in
    rw (next, count, at)
