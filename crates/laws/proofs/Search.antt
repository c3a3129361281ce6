-- A search in a list for an element that passes a test.
use mathlib.Core.Path.{◌≡◌, refl, ap}
use mathlib.Core.Bool.{Bool, ◌||◌}
use mathlib.Core.List.{List, [], ◌∷◌}
use Rattle.std.specs.List.{list_any}
use Rattle.laws.specs.Lists.{any}

-- what std's `contains` and `any` answer, in this page's words
pub any_is_list_any : {A : Type 0} (p : A → Bool) (l : List A) → list_any p l ≡ any p l
unfolding any
any_is_list_any p [] = refl
any_is_list_any p (x ∷ l) = ap (λ b. p x || b) (any_is_list_any p l)
