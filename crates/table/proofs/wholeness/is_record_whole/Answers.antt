-- The parts in the definition's order: points and ages are asked of the fronts of their arrays.
use Rattle.std.proofs.Common.{◌≡◌, Bool, true, false, refl, arith}
use Rattle.std.proofs.lemmas.Int.{ints, to_z_pos}
use Rattle.std.proofs.lemmas.Grind.{common_steps}
use Rattle.table.specs.Wholeness.{record_whole}
use Rattle.table.proofs.Passing.{points_front, ages_front}
use Rattle.table.proofs.wholeness.is_record_whole.Goals as goal

either_way : {G : Type 0} (b : Bool) → (b ≡ true → G) → (b ≡ false → G) → G
either_way true f g = f refl
either_way false f g = g refl

pub returns-then-o-config : goal.returns-then-o-config
unfolding record_whole
returns-then-o-config c = grind (arith, common_steps, ints, points_front, ages_front, to_z_pos)

pub returns-else-o-config : goal.returns-else-o-config
unfolding record_whole
returns-else-o-config c =
    either_way c.if-are_points_whole.value
    (λ h. grind (arith, common_steps, ints, points_front, ages_front, to_z_pos))
    (λ h. either_way c.if-o-frames.value
    (λ k. grind (arith, common_steps, ints, points_front, ages_front, to_z_pos))
    (λ k. grind (arith, common_steps, ints, points_front, ages_front, to_z_pos)))
