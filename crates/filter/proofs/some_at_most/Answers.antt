-- What std's `any` answers, in the words of the page.
use Rattle.std.proofs.Common.{◌∙◌, rules, tests, Float}
use Rattle.std.proofs.lemmas.Iterator.{YieldsList-from_slice}
use Rattle.std.proofs.lemmas.Iterator.Search.{any_from_yields_List}
use Rattle.std.specs.Float.Ieee.{le}
use Rattle.laws.proofs.Search.{any_is_list_any}
use Rattle.filter.proofs.some_at_most.Goals as goal

pub returns : goal.returns
returns c =
    let low = λ (s : Float). le s c.args.threshold in
    let scores = c.args.scores.now in
    any_from_yields_List low _ _ c.any.result c.any.ensures.ran (YieldsList-from_slice scores cc) (λ x b q k. search (rules, tests))
    ∙ any_is_list_any low scores
