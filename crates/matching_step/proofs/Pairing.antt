-- Rule 47: one pair more behind those that stand in an array's front.
use mathlib.Core.Path.{◌≡◌, sym, ◌∙◌}
use mathlib.Core.List.{List, [], ◌∷◌, ◌++◌, map, map-append, append_assoc}
use Prim.Native.Nat.{ℕ, suc, ◌+◌, ◌<◌}
use native.Mathlib.Numerals.{add-one}
use lib.ListN.{length, set, take, length-append, length-map}
use Rattle.laws.specs.Lists.{below, filled}
use Rattle.laws.proofs.Growing.{length-below, filled_next, take-filled}
use Rattle.matching.specs.declared.Picks.{Picks}
use Rattle.matching.specs.Greedy.{Pick}
use Rattle.matching.specs.Lent.{picked}
use Rattle.matching.proofs.Picked.{pick_at, first_picks}

-- the picks before i, each as f makes it, behind l
abbrev pub behind : {A : Type 0} → List A → (Pick → A) → Picks → ℕ → List A
behind l f picks i = l ++ map f (first_picks picks i)

module _ {A : Type 0} (l : List A) (f : Pick → A) (picks : Picks) (i : ℕ) where
  length_behind : length (behind l f picks i) ≡ length l + i
  length_behind = simp (length-append, length-map, length-below)

  one_behind : behind l f picks (suc i) ≡ behind l f picks i ++ (f (pick_at picks i) ∷ [])
  unfolding below
  one_behind = simp (map-append, append_assoc)

  pub pair_put : (n : ℕ) (d : A) {k : ℕ} {r : List A} {x : A} → k ≡ length l + i → k < n → r ≡ filled n d (behind l f picks i) → x ≡ f (pick_at picks i)
      → set r k x ≡ filled n d (behind l f picks (i + 1))
  pair_put n d e h held same =
      rw (add-one i, one_behind, held, same) (filled_next n d (behind l f picks i) (f (pick_at picks i)) (length_behind ∙ sym e) h)

-- what stands in front is found there
pub length-picked : {A : Type 0} (f : Pick → A) (picks : Picks) → length (map f (picked picks)) ≡ picks.count
length-picked f picks = simp (length-map, length-below)

pub in_front : {A : Type 0} (n : ℕ) (d : A) (l : List A) {k : ℕ} {r : List A} → length l ≡ k → r ≡ filled n d l → take k r ≡ l
in_front n d l e held = rw (held, ← e) (take-filled n d l)
