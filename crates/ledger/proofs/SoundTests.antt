-- Rule 14: tests put together to a chain.
use mathlib.Core.Path.{◌≡◌}
use mathlib.Core.Bool.{Bool, true, ◌&&◌}
use Prim.Native.Nat.{ℕ, ◌≤◌}
use borrow.Author.Tests.{le-leb}
use Rattle.table.specs.Ranges.{between}

infixr 4 ◌also◌
pub ◌also◌ : {a b : Bool} → a ≡ true → b ≡ true → (a && b) ≡ true
p also q = rw p q

pub between_whole : (low x high : ℕ) → low ≤ x → x ≤ high → between low x high ≡ true
between_whole low x high from most = le-leb low x from also le-leb x high most
