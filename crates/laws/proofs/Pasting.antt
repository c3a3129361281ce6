-- A copy into a list, the kit's `paste`: what it leaves, what it makes, one copy behind another, a copy from further up the same list, and a part lent and put back.
use mathlib.Core.Path.{◌≡◌, sym, ◌∙◌, ap}
use mathlib.Core.List.{List, [], ◌∷◌, ◌++◌, append_assoc}
use Prim.Native.Nat.{ℕ, suc, ◌+◌, ◌-◌, ◌<◌, ◌≤◌}
use native.Mathlib.Nat.{zero-add, add-zero}
use native.Mathlib.Numerals.{add-one}
use native.Mathlib.Omega.{arith}
use lib.ListN.{length, get_or, set, take, drop, length-drop}
use lib.Seq.{paste, set_split, append_snoc, drop-paste, length_paste_head, length-take-le, take-append-le, take_all, take-take, take-add, take_at, drop_at, drop-drop, get_or-drop}

module _ {A : Type 0} (d : List A) (at : ℕ) (s : List A) (n k : ℕ) where
  -- what lies in front stays
  pub paste_front : k ≤ at → at ≤ length d → take k (paste d at s n) ≡ take k d
  paste_front h hd =
      let e = length-take-le at d hd in
      rw append_assoc (take-append-le k (take at d) (take n s ++ drop (at + n) d) (omega arith) ∙ take-take k at d h)

  -- what lies behind stays
  pub paste_behind : at + n ≤ k → at ≤ length d → n ≤ length s → drop k (paste d at s n) ≡ drop k d
  paste_behind h hd hs =
      let e : at + n + (k - (at + n)) ≡ k = omega arith in
      let further = drop-drop (k - (at + n)) (at + n) in
      rw e at (sym (further (paste d at s n)) ∙ ap (drop (k - (at + n))) (drop-paste d at s n hd hs) ∙ further d)

  pub get_or-behind : (z : A) → at + n ≤ k → at ≤ length d → n ≤ length s → get_or (paste d at s n) k z ≡ get_or d k z
  get_or-behind z h hd hs =
      rw add-zero at (sym (get_or-drop k (paste d at s n) 0 z) ∙ ap (λ (r : List A). get_or r 0 z) (paste_behind h hd hs) ∙ get_or-drop k d 0 z)

module _ {A : Type 0} where
  -- from a place in front on: what lies between, then the copy
  pub paste_part : (d : List A) (at k : ℕ) (s : List A) (n : ℕ) → at + k ≤ length d → n ≤ length s
      → take (k + n) (drop at (paste d (at + k) s n)) ≡ take k (drop at d) ++ take n s
  paste_part d at k s n hd hs =
      let middle = take k (drop at d) ++ take n s in
      let rest = drop (at + k + n) d in
      let cut : paste d (at + k) s n ≡ take at d ++ (middle ++ rest) = simp (take-add, append_assoc) in
      ap (λ (r : List A). take (k + n) (drop at r)) cut
      ∙ ap (take (k + n)) (drop_at (take at d) (middle ++ rest) at (length-take-le at d (omega arith)))
      ∙ take_at middle rest (k + n) (length_paste_head (drop at d) k s n (omega (arith, length-drop at d)) hs)

  -- what a copy makes stands where it was put
  pub paste_here : (l : List A) (at : ℕ) (s : List A) (n : ℕ) → at ≤ length l → n ≤ length s → take n (drop at (paste l at s n)) ≡ take n s
  paste_here l at s n hl hs = rw (zero-add, add-zero) at (paste_part l at 0 s n (omega arith) hs)

  -- one element
  pub paste_one : (d : List A) (k : ℕ) (x : A) → k < length d → set d k x ≡ paste d k (x ∷ []) 1
  paste_one d k x h = rw add-one (set_split d k x h ∙ sym (append_snoc (take k d) x (drop (suc k) d)))

-- ---- n elements from a place on, as a lent part is cut out

module _ {A : Type 0} (l : List A) (at n : ℕ) where
  part : at + n - at ≡ n
  part = omega arith

  pub part_same : take (at + n - at) (drop at l) ≡ take n (drop at l)
  part_same = rw part

  pub length_part : at + n ≤ length l → length (take n (drop at l)) ≡ n
  length_part h = length-take-le n (drop at l) (omega (arith, length-drop at l))

  pub part_long : at + n ≤ length l → length (take (at + n - at) (drop at l)) ≡ n
  part_long h = rw part (length_part h)

  -- as many put back
  pub part_back : (ys : List A) → length ys ≡ n → take at l ++ (ys ++ drop (at + n - at) (drop at l)) ≡ paste l at ys n
  part_back ys e = rw (part, drop-drop n at l, take_all n ys (omega arith)) (sym (append_assoc (take at l) ys (drop (at + n) l)))
