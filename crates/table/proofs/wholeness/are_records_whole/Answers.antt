-- What `all` answers, in the definition's words.
use Rattle.std.proofs.Common.{◌∙◌, rules, tests}
use Rattle.std.proofs.lemmas.Iterator.{YieldsList-from_slice}
use Rattle.std.proofs.lemmas.Iterator.Search.{all_from_yields_List}
use Rattle.table.specs.Wholeness.{record_whole}
use Rattle.table.proofs.Passing.{records_all}
use Rattle.table.proofs.wholeness.are_records_whole.Goals as goal

pub returns : goal.returns
returns c =
    let l = c.args.records.now in
    let test = record_whole c.args.config c.args.frames in
    all_from_yields_List test _ _ _ c.all.ensures.ran (YieldsList-from_slice l cc) (λ x b q k. search (rules, tests))
    ∙ records_all c.args.config c.args.frames l
