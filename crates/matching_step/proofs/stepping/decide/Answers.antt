-- What both passes and the search for leftovers return is what the definition decides.
use Rattle.std.proofs.Common.{arith}
use Rattle.passes.specs.Checks.{lent_frame}
use Rattle.matching_step.proofs.Deciding.{first-few, first_rows, decided}
use Rattle.matching_step.proofs.stepping.decide.Goals as goal

pub second_pass-second-requires : goal.second_pass-second-requires
second_pass-second-requires c =
    let t = c.args.t.now in
    let n = c.args.detections in
    let f = lent_frame c.args.f in
    let few = first-few t n f c.first_pass-first.ensures in (
      c.requires.initializing.0,
      λ i h. omega (arith, c.requires.initializing.1 i h),
      omega arith,
      first_rows t n f c.first_pass-first.ensures c.requires.few,
    )

pub returns : goal.returns
returns c =
    decided c.args.t.now c.args.detections (lent_frame c.args.f) c.first_pass-first.ensures c.second_pass-second.ensures c.left_over-left.ensures
