-- One name that is too large, or not new, decides.
use Rattle.std.proofs.Common.{sym, ◌∙◌}
use Rattle.laws.proofs.Search.{any_is_list_any}
use Rattle.table.proofs.Names.{too_large, twice}
use Rattle.table.proofs.listed.are_names.Goals as goal
use Rattle.table.proofs.listed.are_names.Goals.{then-limit-x-via-then-limit-x, then-limit-x-via-else-limit-x+then-contains}

pub returns-then-limit-x : goal.returns-then-limit-x
returns-then-limit-x c =
    let l = c.args.at.now in
    let i = c.loop-i.i in
    elim c.then-limit-x.branch [
      | then-limit-x-via-then-limit-x w ↦ sym (too_large c.args.limit l i _ c.loop-i-test.true w.if-limit-x.true)
      | then-limit-x-via-else-limit-x+then-contains w ↦
          sym (twice c.args.limit l i _ c.loop-i-test.true (sym (any_is_list_any _ _) ∙ sym w.contains.ensures.value ∙ w.if-contains.true))
    ]
