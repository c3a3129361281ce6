-- A list that is being put over the front of another: a turn writes element i behind the first i.
use Rattle.std.proofs.Common.{◌≡◌, ℕ, ◌+◌, ◌<◌, ◌≤◌, List, ◌++◌, length, get_or, set, take, drop, add-one, sym, arith}
use Rattle.std.proofs.Math.Seq.{take-suc, length-take-le}
use Rattle.laws.proofs.Fronts.{front_set}

pub front_turn : {A : Type 0} (xs l : List A) (i : ℕ) (d : A) → i < length xs → length xs ≤ length l
    → set (take i xs ++ drop i l) i (get_or xs i d) ≡ take (i + 1) xs ++ drop (i + 1) l
front_turn xs l i d h fits =
    let done = length-take-le i xs (omega arith) in
    rw (add-one, take-suc xs i d h) (sym (front_set (take i xs) i l done (get_or xs i d) (omega arith)))
