-- The settings of a whole table are in range.
use Rattle.table.proofs.Facts.{whole_facts}
use Rattle.table.proofs.making.step_refusal.Goals as goal

pub storage_need-requires : goal.storage_need-requires
storage_need-requires c = (whole_facts c.args.t.now cc).in_range
