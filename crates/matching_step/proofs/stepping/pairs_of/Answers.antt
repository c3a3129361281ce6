-- The pairs of pass 2 stand behind those of pass 1.
use Rattle.std.proofs.Common.{◌∙◌, map}
use Rattle.matching.specs.Lent.{picked}
use Rattle.passes.specs.Checks.{lent_frame}
use Rattle.matching_step.specs.Step.{pair_of, no_pair}
use Rattle.matching_step.proofs.Pairing.{in_front, length-picked}
use Rattle.matching_step.proofs.stepping.pairs_of.Goals as goal

pub add_pairs-requires : goal.add_pairs-requires
add_pairs-requires c =
    let a = c.args in
    let p = c.requires in
    let one = map (pair_of a.records.now (lent_frame a.f) a.n 1) (picked a.first.now) in
    let front = in_front 32 no_pair one (length-picked (pair_of a.records.now (lent_frame a.f) a.n 1) a.first.now) c.add_pairs-front.ensures in
    (p.0, p.1, p.2, p.3, p.6, p.7, rw front c.add_pairs-front.ensures)

pub returns : goal.returns
returns c =
    let a = c.args in
    let one = map (pair_of a.records.now (lent_frame a.f) a.n 1) (picked a.first.now) in
    let front = in_front 32 no_pair one (length-picked (pair_of a.records.now (lent_frame a.f) a.n 1) a.first.now) c.add_pairs-front.ensures in
    c.add_pairs.ensures ∙ rw front
