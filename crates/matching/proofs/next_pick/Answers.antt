-- `matching::next_pick` meets its contract.
use mathlib.Core.Path.{refl}
use native.Mathlib.Numerals.{add-one}
use native.Mathlib.Omega.{arith}
use Rattle.matching.specs.Greedy.{scan_row}
use Rattle.matching.specs.Lent.{lent_matrix}
use Rattle.matching.proofs.Best.{test_is, look_taken, look_left}
use Rattle.matching.proofs.next_pick.Goals as goal
use Rattle.matching.proofs.next_pick.Goals.{then-counts-free, else-counts-free}

pub loop-j-preserved : goal.loop-j-preserved
unfolding scan_row
loop-j-preserved c =
    let m = lent_matrix c.args.m in
    let ur = c.args.used_rows in
    let uc = c.args.used_cols in
    let i = c.loop-i.i in
    let j = c.loop-j.j in
    let p = c.loop-j.place in
    let test = test_is m ur uc i j p c.loop-j.best c.counts.result c.beats.result (omega arith) (omega arith) c.loop-j.invariant.1 c.counts.ensures c.beats.ensures in
    elim c.if-counts-free.branch [
      | then-counts-free w ↦ (rw (add-one, w.place-is, ← c.loop-j.invariant.0) (look_taken m ur uc i j p test w.if-counts-free.true), rw (w.place-is, w.best-is) refl)
      | else-counts-free w ↦ (
        rw (add-one, w.place-is, ← c.loop-j.invariant.0) (look_left m ur uc i j p test w.if-counts-free.false),
        rw (w.place-is, w.best-is) c.loop-j.invariant.1,
      )
    ]
