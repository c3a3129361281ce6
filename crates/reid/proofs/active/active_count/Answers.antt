use Rattle.std.proofs.Common.{◌∙◌, sym, rules, tests}
use Rattle.std.proofs.lemmas.Iterator.{YieldsList-from_slice}
use Rattle.std.proofs.lemmas.Iterator.Consumers.{YieldsList-from_filter, count_from_yields_List}
use Rattle.reid.specs.Step.{active}
use Rattle.reid.proofs.Listing.{active_counted}
use Rattle.reid.proofs.active.active_count.Goals as goal

pub returns : goal.returns
returns c =
    let xs = c.args.records.now in
    count_from_yields_List _ _ c.count.ensures.ran
    (YieldsList-from_filter _ active (YieldsList-from_slice xs cc) c.filter.ensures.closure (λ x r q k. search (rules, tests)))
    ∙ sym (active_counted xs)
