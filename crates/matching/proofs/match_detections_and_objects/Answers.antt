-- `matching::match_detections_and_objects` meets its contract.
use mathlib.Core.Path.{◌≡◌, refl, sym, ◌∙◌}
use Prim.Native.Nat.{◌-◌}
use native.Mathlib.Omega.{arith}
use Rattle.std.specs.Prelude.{Some}
use Rattle.matching.specs.Greedy.{greedy, next_pick}
use Rattle.matching.specs.Lent.{lent_matrix}
use Rattle.matching.proofs.NextPick.{next_in_range}
use Rattle.matching.proofs.Held.{held_next, held_last, greedy_ends}
use Rattle.matching.proofs.match_detections_and_objects.Goals as goal

-- the place found is the next pick
found : (c : goal.In-Some) → next_pick (lent_matrix c.args.m) c.loop-n.used_rows c.loop-n.used_cols ≡ Some (c.in-Some.i, c.in-Some.j)
found c = sym c.next_pick.ensures ∙ c.in-Some.is

pub bounds-used_rows-i : goal.bounds-used_rows-i
bounds-used_rows-i c = omega (arith, (next_in_range (lent_matrix c.args.m) c.loop-n.used_rows c.loop-n.used_cols (found c)).0)

pub bounds-used_cols-j : goal.bounds-used_cols-j
bounds-used_cols-j c = omega (arith, (next_in_range (lent_matrix c.args.m) c.loop-n.used_rows c.loop-n.used_cols (found c)).1)

pub loop-n-preserved : goal.loop-n-preserved
loop-n-preserved c = (
  refl,
  held_next (lent_matrix c.args.m) c.args.used_rows c.args.used_cols c.in-Some.i c.in-Some.j c.loop-n-test.true c.args.m.few_rows (found c)
      c.loop-n.invariant.1,
)

pub returns-after-loop-n : goal.returns-after-loop-n
unfolding greedy
returns-after-loop-n c =
    let none-to-come : c.args.m.rows - c.loop-n.n ≡ 0 = omega arith in
    held_last (lent_matrix c.args.m) c.args.used_rows c.args.used_cols c.loop-n.picks c.loop-n.invariant.0 (rw none-to-come) c.loop-n.invariant.1

pub returns-in_default : goal.returns-in_default
returns-in_default c =
    held_last (lent_matrix c.args.m) c.args.used_rows c.args.used_cols c.loop-n.picks c.loop-n.invariant.0
    (greedy_ends (lent_matrix c.args.m) _ c.loop-n.used_rows c.loop-n.used_cols (sym c.next_pick.ensures ∙ c.in_default.is))
    c.loop-n.invariant.1
