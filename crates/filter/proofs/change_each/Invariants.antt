-- Before the turn at j, the block is that of j turns of whatever f the calls agree with.
use Rattle.std.proofs.Common.{◌≡◌, ℕ, ◌<◌}
use Rattle.laws.specs.Turns.{turns}
use Rattle.filter.specs.declared.Coordinate.{Coordinate}
use Rattle.filter.specs.Block.{turn}
use Rattle.filter.proofs.change_each.Given as goal

abbrev pub invariant-loop-j : goal.invariant-loop-j
invariant-loop-j g l =
    (f : ℕ → Coordinate → Coordinate)
    → ((j : ℕ) (c r : Coordinate) → j < l.n → goal.F-post g l.step j c r → r ≡ f j c)
    → l.block ≡ turns (turn f l.n) l.j l.fn.block
