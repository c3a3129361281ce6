-- What `all` answers, in the definition's words.
use Rattle.std.proofs.Common.{leb, ◌∙◌, rules, tests}
use Rattle.std.proofs.lemmas.Iterator.{YieldsList-from_slice}
use Rattle.std.proofs.lemmas.Iterator.Search.{all_from_yields_List}
use Rattle.table.proofs.Passing.{points_all}
use Rattle.table.proofs.wholeness.are_points_whole.Goals as goal

pub returns : goal.returns
returns c =
    let l = c.args.counters.now in
    all_from_yields_List (λ x. leb x 10000) _ _ _ c.all.ensures.ran (YieldsList-from_slice l cc) (λ x b q k. search (rules, tests)) ∙ points_all l
