use Rattle.std.proofs.Common.{◌≡◌, ◌≤◌, length, arith}
use Rattle.std.proofs.Math.Seq.{length-take-le}
use Rattle.parts.proofs.PointLaws.{fallen_part}
use Rattle.parts.proofs.points.fall_points.Goals as goal

-- the part lent is put back in front of the rest
pub returns : goal.returns
returns c =
    let a = c.args in
    let room : a.n ≤ length a.counters = omega arith in
    let end : c.loop-counter.counter-index ≡ a.n = omega (arith, length-take-le a.n a.counters room) in
    rw (c.loop-counter.invariant, end) (fallen_part a.n a.n a.counters (omega arith) room)
