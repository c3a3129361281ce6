-- Rule 40: a matrix is lent row by row, so that entry (i, j) stands at i * cols + j.
use Prim.Native.Nat.{ℕ, ◌+◌, ◌*◌, ◌<◌, ◌≤◌}
use native.Mathlib.Nat.{mul-le-mul_right, suc-mul}
use native.Mathlib.Omega.{arith}

pub cell_below : {rows cols len i j : ℕ} → i < rows → j < cols → rows * cols ≤ len → i * cols + j < len
cell_below {rows} {cols} {len} {i} {j} hi hj h = omega (arith, mul-le-mul_right cols hi, suc-mul i cols)
