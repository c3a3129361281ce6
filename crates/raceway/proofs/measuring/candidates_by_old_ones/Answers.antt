use Rattle.std.proofs.Common.{◌∙◌, ◌*◌, arith, vec_len}
use lib.ListN.{length-map}
use Rattle.std.proofs.lemmas.Iterator.{length_from_collect, YieldsList-from_any_map, YieldsList-from_range}
use Rattle.std.proofs.lemmas.List.FromFn.{length-range_with_len}
use Rattle.raceway.proofs.Few.{few_entries}
use Rattle.raceway.proofs.measuring.candidates_by_old_ones.Goals as goal

-- as many entries as the numbers that the chain runs through
pub returns : goal.returns
returns c =
    let entries = c.min-rows.result * c.min-columns.result in
    let runs = YieldsList-from_any_map _ (YieldsList-from_range 0 _ entries c.map.ensures.source (omega arith)) in
    few_entries c.collect.result vec_len (omega (arith, c.min-rows.ensures)) (omega (arith, c.min-columns.ensures))
    (length_from_collect _ _ c.collect.ensures.ran runs (length-map _ _ ∙ length-range_with_len _ _))
