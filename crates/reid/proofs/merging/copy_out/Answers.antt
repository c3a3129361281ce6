use Rattle.reid.proofs.Lending.{copied_out}
use Rattle.reid.proofs.merging.copy_out.Goals as goal

pub returns : goal.returns
returns c = copied_out c.args.s.now c.args.start c.args.size c.requires.0 c.requires.1 c.copy_from_slice.ensures.after
