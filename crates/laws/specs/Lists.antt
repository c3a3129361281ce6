-- Lists that definitions speak of: the numbers below a count, those that pass a test, whether one does, how often a number stands in a list, and a list in a fixed array.
use Rattle.std.specs.Prelude.{Bool, false, ◌||◌, cond, List, [], ◌∷◌, ◌++◌, ℕ, zero, suc, ◌+◌, ◌-◌, ◌<◌, eqb, length, get_or, replicate}

-- 0, 1 and so on below n, ascending
unfoldable pub below : ℕ → List ℕ
below zero = []
below (suc n) = below n ++ (n ∷ [])

-- the elements that pass the test, order kept
unfoldable pub keep : {A : Type 0} → (A → Bool) → List A → List A
keep p [] = []
keep p (x ∷ l) = cond (p x) (x ∷ keep p l) (keep p l)

-- whether some element passes the test
unfoldable pub any : {A : Type 0} → (A → Bool) → List A → Bool
any p [] = false
any p (x ∷ l) = p x || any p l

-- whether x stands in the list
abbrev pub holds : ℕ → List ℕ → Bool
holds x l = any (λ y. eqb y x) l

-- how often x stands in the list
unfoldable pub times : ℕ → List ℕ → ℕ
times x [] = 0
times x (y ∷ l) = cond (eqb y x) 1 0 + times x l

-- what the numbers of a list weigh together
unfoldable pub weight : (ℕ → ℕ) → List ℕ → ℕ
weight w [] = 0
weight w (x ∷ l) = w x + weight w l

-- n numbers from a first one on
unfoldable pub up_from : ℕ → ℕ → List ℕ
up_from first zero = []
up_from first (suc n) = first ∷ up_from (suc first) n

-- the first n are below a limit
abbrev pub EachBelow : ℕ → ℕ → List ℕ → Type 0
EachBelow limit n l = (i : ℕ) → i < n → get_or l i 0 < limit

-- a list in an array of n places: the same element in all places behind its end
abbrev pub filled : {A : Type 0} → ℕ → A → List A → List A
filled n x l = l ++ replicate (n - length l) x

-- of numbers: 0 behind its end
abbrev pub padded : ℕ → List ℕ → List ℕ
padded n l = filled n 0 l
