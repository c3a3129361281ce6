use Rattle.std.proofs.Common.{◌∙◌, ap, ◌++◌, length, take}
use lib.ListN.{drop}
use Rattle.matching_step.specs.declared.Matched.{Matched}
use Rattle.tracker.specs.Calls.{answer_from}
use Rattle.tracker.proofs.Listing.{answer_is, pairs_are}
use Rattle.tracker.proofs.match_detections.Goals as goal

pub returns-clause-value : goal.returns-clause-value
returns-clause-value c = c.answer_of.ensures ∙ ap answer_from c.match_table-m.ensures.value ∙ answer_is _ _ _ _ _

pub returns-clause-pairs_after : goal.returns-clause-pairs_after
returns-clause-pairs_after c =
    let list = c.args.pairs.now in
    c.put_pairs.ensures
    ∙ ap (λ (m : Matched). take m.count m.pairs ++ drop (length (take m.count m.pairs)) list) c.match_table-m.ensures.value
    ∙ pairs_are _ _ _ _ list
