-- Rule 44: one number more is looked at, and no more are unmatched than were looked at.
use mathlib.Core.Path.{◌≡◌, sym, ◌∙◌, ap}
use mathlib.Core.Bool.{Bool, true, false, not}
use mathlib.Core.List.{List}
use Prim.Native.Nat.{ℕ, ◌+◌, ◌<◌, ◌≤◌}
use native.Mathlib.Numerals.{add-one}
use lib.Dec.{eqb}
use lib.ListN.{length, set}
use Rattle.std.specs.List.{list_any}
use Rattle.laws.specs.Lists.{below, holds}
use Rattle.laws.proofs.Growing.{at_most, stays_out}
use Rattle.laws.proofs.Search.{any_is_list_any}
use Rattle.laws.proofs.Standing.{below_joins}
use Rattle.matching.specs.declared.Numbers.{Numbers}
use Rattle.matching.specs.Unmatched.{unmatched, numbers_of}

pub at_most_total : (total : ℕ) (matched : List ℕ) → length (unmatched total matched) ≤ total
at_most_total total matched = at_most (λ i. not (holds i matched)) total

module _ (left : Numbers 64) (i : ℕ) (matched : List ℕ) where
  pub at_most_looked_at : left ≡ numbers_of (unmatched i matched) → left.count ≤ i
  at_most_looked_at held = rw held (at_most_total i matched)

  told : {v : Bool} → list_any (λ y. eqb y i) matched ≡ v → not (holds i matched) ≡ not v
  told e = ap not (sym (any_is_list_any (λ y. eqb y i) matched) ∙ e)

  pub unmatched_joins : left ≡ numbers_of (unmatched i matched) → i < 64 → list_any (λ y. eqb y i) matched ≡ false
      → ◌≡◌ {A = Numbers 64} (record { at = set left.at left.count i; count = left.count + 1 }) (numbers_of (unmatched (i + 1) matched))
  unmatched_joins held h e =
      let (count, at) = below_joins 64 (λ k. not (holds k matched)) i h (told e) (ap (λ (n : Numbers 64). n.count) held, ap (λ (n : Numbers 64). n.at) held) in
      rw (count, at)

  pub matched_stays : left ≡ numbers_of (unmatched i matched) → list_any (λ y. eqb y i) matched ≡ true → left ≡ numbers_of (unmatched (i + 1) matched)
  unfolding below
  matched_stays held e =
      let same : unmatched (i + 1) matched ≡ unmatched i matched = rw (add-one i) (stays_out (λ k. not (holds k matched)) (below i) i (told e)) in
      held ∙ ap numbers_of (sym same)
