-- A matrix of at most 8 rows and 8 columns has at most 64 entries.
use Rattle.std.specs.Prelude.{Result}
use Rattle.std.specs.Result.{IfOk}
use Rattle.std.proofs.lemmas.Result.{IfOk-weaker}
use Prim.Native.Nat.{ℕ, ◌*◌, ◌≤◌}
use native.Mathlib.Nat.{mul-le-mul_right, le_trans}
use native.Mathlib.Omega.{arith}
use mathlib.Core.Path.{◌≡◌}

-- by what counts the entries of a matrix
pub few_entries : {M E : Type 0} {rows columns : ℕ} (r : Result M E) (count : M → ℕ) → rows ≤ 8 → columns ≤ 8
    → IfOk r (λ m. count m ≡ rows * columns) → IfOk r (λ m. count m ≤ 64)
few_entries {rows = rows} {columns = columns} r count low narrow =
    let most : rows * columns ≤ 64 = le_trans (mul-le-mul_right {m = rows} {n = 8} columns low) (omega (arith, narrow)) in
    IfOk-weaker r (λ m. count m ≡ rows * columns) (λ m. count m ≤ 64) (λ m e. rw e most)
