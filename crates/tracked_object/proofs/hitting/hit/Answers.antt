-- `tracked_object::hitting::hit` meets its contract: a record took the next permanent ID if it was initializing and is not now.
use Rattle.parts.proofs.LifeLaws.{issued_hit}
use Rattle.tracked_object.specs.Object.{object_hit}
use Rattle.tracked_object.proofs.hitting.hit.Goals as goal

pub returns-then-o-clause-value : goal.returns-then-o-clause-value
unfolding object_hit
returns-then-o-clause-value c =
    let a = c.args in
    let config = a.settings.config in
    let issued = issued_hit a.period config.hit_counter_max config.initialization_delay config.reid_hit_counter_max a.next_id a.o.life in
    rw (c.hit_record-object.ensures, ← issued, c.if-o.true)
