-- The alive ones left and the dead ones not named are few enough for the array.
use Rattle.passes.specs.Passes.{numbers, cols_picked}
use Rattle.passes.proofs.PassLaws.{old_fit}
use Rattle.passes.proofs.lists.old_ones.Goals as goal

pub append-requires : goal.append-requires
append-requires c =
    let a = c.args in
    old_fit a.records (numbers a.alive.now) (numbers a.dead.now) (cols_picked a.first.now) c.requires.4 c.requires.0
    c.get_unmatched-unmatched.ensures
    c.keep_among-left.ensures
    c.keep_among-unnamed.ensures
