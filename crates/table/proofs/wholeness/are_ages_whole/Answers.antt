-- What `all` answers, in the definition's words.
use Rattle.std.proofs.Common.{pos, ◌∙◌, rules, tests}
use Rattle.std.proofs.lemmas.Iterator.{YieldsList-from_slice}
use Rattle.std.proofs.lemmas.Iterator.Search.{all_from_yields_List}
use Rattle.table.specs.Ranges.{optional_between}
use Rattle.table.proofs.Passing.{ages_all}
use Rattle.table.proofs.wholeness.are_ages_whole.Goals as goal

pub returns : goal.returns
returns c =
    let l = c.args.past.now in
    let frames = c.args.frames in
    all_from_yields_List (λ e. optional_between (pos 0) e.age frames) _ _ _ c.all.ensures.ran (YieldsList-from_slice l cc) (λ x b q k. search (rules, tests))
    ∙ ages_all frames l
