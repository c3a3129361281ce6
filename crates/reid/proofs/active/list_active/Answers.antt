use Rattle.std.proofs.Common.{◌<◌, length, refl, sym, ◌∙◌, arith}
use Rattle.laws.specs.Lists.{keep}
use Rattle.reid.specs.Step.{active_ids}
use Rattle.reid.proofs.Listing.{active_few, listed_long, listed_more, listed_same}
use Rattle.reid.proofs.active.list_active.Goals as goal
use Rattle.reid.proofs.active.list_active.Goals.{then-is_active, else-is_active}

pub loop-o-init : goal.loop-o-init
unfolding keep
loop-o-init c = (refl, refl)

pub bounds-list-count : goal.bounds-list-count
bounds-list-count c =
    let a = c.args in
    let i = c.loop-o.o-index in
    let few = active_few i a.records.now in
    omega (arith, listed_long a.records.now i a.list.now c.loop-o.invariant (omega arith))

pub loop-o-preserved : goal.loop-o-preserved
loop-o-preserved c =
    let records = c.args.records.now in
    let list = c.args.list.now in
    let i = c.loop-o.o-index in
    let few : length (active_ids i records) < length list = omega (arith, active_few i records) in
    elim c.if-is_active.branch [
      | then-is_active w ↦
          let next = listed_more records i _ (omega arith) list c.loop-o.invariant (sym c.is_active.ensures ∙ w.if-is_active.true) few in
          (w.count-is ∙ next.0, w.list-is ∙ next.1)
      | else-is_active w ↦
          let same = listed_same records i _ (omega arith) list c.loop-o.invariant (sym c.is_active.ensures ∙ w.if-is_active.false) in
          (w.count-is ∙ same.0, w.list-is ∙ same.1)
    ]
