-- A list put over the front of another: how long, what stays behind, what a copy makes of it, and two fronts alike.
use mathlib.Core.Path.{◌≡◌, sym, ◌∙◌, ap}
use mathlib.Core.List.{List, [], ◌∷◌, ◌++◌, append_assoc}
use Prim.Native.Nat.{ℕ, zero, suc, ◌+◌, ◌-◌, ◌<◌, ◌≤◌}
use native.Mathlib.Nat.{zero-add, suc-add}
use native.Mathlib.Omega.{arith}
use lib.ListN.{length, get_or, set, take, drop}
use lib.Seq.{paste, length_front, length-take-le, take_at, take_all, take-nil, take-take, take-append-le, drop-append-le, drop-append-add, drop-drop, drop-cons, set_at, append_snoc, get_or-append-add, get_or-drop}

module _ {A : Type 0} (f : List A) (n : ℕ) (l : List A) (e : length f ≡ n) where
  pub front_length : n ≤ length l → length (f ++ drop n l) ≡ length l
  front_length h = length_front l f n (e ∙ sym (length-take-le n l h))

  pub front_behind : (k : ℕ) → n ≤ k → drop k (f ++ drop n l) ≡ drop k l
  front_behind k h =
      let i : length f + (k - n) ≡ k = omega arith in
      let j : n + (k - n) ≡ k = omega arith in
      rw (i, j) at (drop-append-add f (drop n l) (k - n) ∙ drop-drop (k - n) n l)

  pub front_get_or_behind : (k : ℕ) (z : A) → n ≤ k → get_or (f ++ drop n l) k z ≡ get_or l k z
  front_get_or_behind k z h =
      let i : length f + (k - n) ≡ k = omega arith in
      let j : n + (k - n) ≡ k = omega arith in
      rw (i, j) at (get_or-append-add f (drop n l) (k - n) z ∙ get_or-drop n l (k - n) z)

  -- one element more, and several
  pub front_set : (x : A) → n < length l → f ++ (x ∷ []) ++ drop (suc n) l ≡ set (f ++ drop n l) n x
  front_set x h = rw (drop-cons l n x h) (append_snoc f x (drop (suc n) l) ∙ sym (set_at f (get_or l n x) (drop (suc n) l) x n e))

  pub front_put : (g : List A) (k : ℕ) → length g ≡ k → f ++ g ++ drop (n + k) l ≡ paste (f ++ drop n l) n g k
  front_put g k h = rw (take_at f (drop n l) n e, take_all k g (omega arith), front_behind (n + k) (omega arith))

  -- a copy within the front
  pub front_paste : (k : ℕ) (g : List A) (m : ℕ) → k + m ≤ n → paste f k g m ++ drop n l ≡ paste (f ++ drop n l) k g m
  front_paste k g m h =
      rw (take-append-le k f (drop n l) (omega arith), drop-append-le (k + m) f (drop n l) (omega arith))
      (append_assoc (take k f ++ take m g) (drop (k + m) f) (drop n l))

module _ {A : Type 0} where
  -- a part of a front, cut out before or after
  pub drop-take : (k m : ℕ) (l : List A) → drop k (take (k + m) l) ≡ take m (drop k l)
  drop-take zero m l = rw zero-add
  drop-take (suc k) m [] = rw suc-add (sym (take-nil m))
  drop-take (suc k) m (x ∷ l) = rw suc-add (drop-take k m l)

  -- lists alike in their first n are alike in their first m
  pub take_fewer : (m n : ℕ) (a b : List A) → m ≤ n → take n a ≡ take n b → take m a ≡ take m b
  take_fewer m n a b h e = sym (take-take m n a h) ∙ ap (take m) e ∙ take-take m n b h
