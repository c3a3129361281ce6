use Rattle.std.proofs.Common.{◌*◌, pos, ◌+ℤ◌, ◌∙◌, arith}
use Rattle.std.proofs.lemmas.Int.{ints, clamps}
use Rattle.parts.proofs.LifeLaws.{min_is_smaller}
use Rattle.parts.proofs.counters.raised.Goals as goal

pub returns : goal.returns
returns c = omega (arith, ints, clamps) ∙ min_is_smaller (c.args.l.hit_counter +ℤ pos (2 * c.args.period)) c.args.maximum
