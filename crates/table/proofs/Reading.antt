-- A record read out of the table's array: the code's default is another one, and not met. And what the machine tells of every record there.
use Rattle.std.specs.Prelude.{None}
use mathlib.Core.Path.{◌≡◌}
use mathlib.Core.Bool.{false}
use mathlib.Core.List.{List, [], ◌∷◌}
use Prim.Native.Nat.{ℕ, ◌<◌}
use lib.IntN.{pos}
use lib.ListN.{length, get_or}
use mir.Val.{Val}
use denote.RattleType.{RattleType}
use denote.Laws.{Is}
use denote.Shadow.{shadow}
use denote.Array.{Array, each}
use denote.Struct.Declared.{row}
use Rattle.laws.proofs.Elements.{get_or-any}
use Rattle.laws.specs.Every.{Every, none, one}
use Rattle.parts.specs.declared.TrackedObject.{TrackedObject}
use Rattle.parts.specs.contracts.TrackedObject.{the_type}
use Rattle.table.specs.Making.{zero_object}

abbrev pub blank : TrackedObject
blank =
    record {
      past = [];
      past_count = 0;
      point_hit_counter = [];
      detected_at_least_once_points = 0;
      last = record { distance = None; has_scores = false };
      life = record { age = 0; hit_counter = pos 0; reid_hit_counter = None; is_initializing = false; id = None };
      origin = record { global_id = 0; initializing_id = 0; initial_period = 0 };
    }

pub read : (records : List TrackedObject) (i : ℕ) → i < length records → get_or records i blank ≡ get_or records i zero_object
read records i h = get_or-any records i blank zero_object h

-- ---- what the machine tells of every element of an array

module _ (R : RattleType) (P : R.Denot → Type 0) (tells : (x : R.Denot) (vs : List Val) → Is R x vs → P x) where
  told_each : (xs : List R.Denot) (us : List Val) → shadow (each R.Denot R.own_val xs us) → Every P xs
  told_each [] us s = none
  told_each (x ∷ xs) [] s = absurd s
  told_each (x ∷ xs) (u ∷ us) s = one (tells x (u ∷ []) s.0) (told_each xs us s.1)

  pub told : (n : ℕ) (xs : List R.Denot) (vs : List Val) → Is (Array R n) xs vs → Every P xs
  told n xs vs p = told_each xs p.0 p.1.1

-- of every record that its history has 8 places
pub eights : (n : ℕ) (xs : List TrackedObject) (vs : List Val) → Is (Array (row the_type) n) xs vs → Every (λ o. length o.past ≡ 8) xs
eights = told (row the_type) (λ o. length o.past ≡ 8) (λ o vs p. p.1.1.0.1.0.1)
