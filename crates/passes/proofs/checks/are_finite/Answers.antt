-- What `all` answers, in the definition's words.
use Rattle.std.proofs.Common.{◌∙◌, rules, tests}
use Rattle.std.proofs.lemmas.Iterator.{YieldsList-from_slice}
use Rattle.std.proofs.lemmas.Iterator.Search.{all_from_yields_List}
use Rattle.laws.specs.Float64.{finite}
use Rattle.laws.proofs.Finite.{finite_is}
use Rattle.passes.proofs.CheckLaws.{all_finite}
use Rattle.passes.proofs.checks.are_finite.Goals as goal

pub returns : goal.returns
returns c =
    let l = c.args.points.now in
    all_from_yields_List finite _ _ _ c.all.ensures.ran (YieldsList-from_slice l cc) (λ x b q k. search (rules, tests, finite_is)) ∙ all_finite l
