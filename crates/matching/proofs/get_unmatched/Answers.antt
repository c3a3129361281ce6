-- A number is listed where it is not among the matched ones,
-- as `contains` answers.
use Rattle.std.proofs.Common.{arith}
use Rattle.matching.proofs.Left.{at_most_looked_at, unmatched_joins, matched_stays}
use Rattle.matching.proofs.get_unmatched.Goals as goal

pub loop-i-preserved : goal.loop-i-preserved
loop-i-preserved c =
    let among = c.contains.ensures.value in
    grind (arith, among, at_most_looked_at, unmatched_joins, matched_stays)
