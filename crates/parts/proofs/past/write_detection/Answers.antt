use Rattle.std.proofs.Common.{◌∙◌, refl, arith}
use Rattle.std.proofs.lemmas.List.Edits.{paste-paste}
use Rattle.parts.proofs.past.write_detection.Goals as goal

-- a copy right behind a copy
pub returns : goal.returns
returns c =
    let a = c.args in
    c.write_at-2.ensures ∙ rw c.write_at.ensures (paste-paste a.s.now a.at a.d.points.now a.d.scores.now _ _ refl refl (omega arith))
