use Rattle.tracked_object.specs.Object.{object_merged, block_merged}
use Rattle.reid.proofs.Lending.{Lends, by_blocks, block_back}
use Rattle.reid.proofs.merging.merge_at.Goals as goal

-- both blocks lie in the floats
pub returns : goal.returns
returns c =
    let a = c.args in
    let config = a.settings.config in
    let lends : Lends config c.layout_of-size.result a.s.now a.a a.b = record { layout = c.layout_of-size.ensures; from = c.requires.2; on = c.requires.3 } in
    let merged = c.merge.ensures in
    record {
      value = by_blocks lends c.copy_out-from.ensures (λ from on. object_merged config a.candidate from a.o on) merged.value;
      s_after = block_back lends c.copy_out-from.ensures (λ from on. block_merged config a.candidate from a.o on) c.merge.auto.s merged.s_after;
    }
