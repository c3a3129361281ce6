-- What stands at a place of a list: within the list the default does not matter.
use mathlib.Core.Path.{◌≡◌, refl}
use mathlib.Core.List.{List, [], ◌∷◌}
use Prim.Native.Nat.{ℕ, zero, suc, ◌<◌}
use native.Mathlib.Nat.{le_of_suc-le-suc}
use native.Mathlib.Omega.{arith}
use lib.ListN.{length, get_or}

pub get_or-any : {A : Type 0} (l : List A) (i : ℕ) (a b : A) → i < length l → get_or l i a ≡ get_or l i b
get_or-any [] i a b h = absurd (omega arith)
get_or-any (x ∷ l) zero a b h = refl
get_or-any (x ∷ l) (suc i) a b h = get_or-any l i a b (le_of_suc-le-suc h)
