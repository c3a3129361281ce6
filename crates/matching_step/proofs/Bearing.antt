-- Rules 45 and 46: a record has no permanent ID while it is initializing, and then bears the one issued to it.
use Rattle.std.specs.Prelude.{Option, Some, None}
use mathlib.Core.Path.{refl}
use mathlib.Core.Bool.{Bool, true, false, cond}
use mathlib.Core.List.Memᴰ
use mathlib.Core.List.{List, [], ◌∷◌, ◌++◌, map-append, Memᴰ}
use Prim.Native.Nat.{ℕ}
use lib.IntN.{ℤ}
use lib.Ieee.{Float}
use lib.ListN.{get_or, get_or-map}
use Rattle.laws.proofs.Mapped.{map-set}
use Rattle.matching.specs.Greedy.{Pick}
use Rattle.parts.specs.declared.Life.{Life}
use Rattle.parts.specs.declared.TrackedObject.{TrackedObject}
use Rattle.parts.specs.declared.TrackerConfig.{TrackerConfig}
use Rattle.parts.specs.Life.{raised, promotes, promoted, raised_only, life_hit, is_zero, life_opened}
use Rattle.tracked_object.specs.Object.{object_hit, object_opened}
use Rattle.table.specs.Making.{zero_object}
use Rattle.table.specs.Slots.{objects_of, name_of}
use Rattle.passes.specs.Checks.{Frame}
use Rattle.matching_step.specs.Step.{State, hit_one, open_one}
use Rattle.table.specs.Slots.{no_slot}
use Rattle.matching_step.specs.Account.{Issue, issue, issued_by_hit, issued_by_opening, Standing, waits, has, Bears, Borne}
use Rattle.laws.specs.Every.{none, one}
use Rattle.laws.proofs.Every.{every_append, every_set, every_weaker}

-- what was issued stays issued
standing_on : (more : List Issue) {issued : List Issue} {name : ℕ} {i : Bool} {d : Option ℕ} → Standing issued name i d → Standing (issued ++ more) name i d
standing_on more waits = waits
standing_on more (has m) = has (Memᴰ.append_left more m)

pub borne_on : (more : List Issue) {issued : List Issue} {l : List TrackedObject} → Borne issued l → Borne (issued ++ more) l
borne_on more = every_weaker (λ o b. standing_on more b)

-- ---- a record

module _ (issued : List Issue) (name next : ℕ) where
  newest : Memᴰ (issue next name) (issued ++ (issue next name ∷ []))
  newest = Memᴰ.append_right issued (Memᴰ.head refl)

  -- a hit that issues no ID changes neither mark nor ID
  bears_hit : (period : ℕ) (maximum delay : ℤ) (reid_max : Option ℤ) (l : Life) → Bears issued name l
      → Bears (issued ++ cond (promotes period maximum delay l) (issue next name ∷ []) []) name (life_hit period maximum delay reid_max next l)
  unfolding life_hit
  bears_hit period maximum delay reid_max l b = go (promotes period maximum delay l) (raised period maximum l)
    where
      go : (t : Bool) (h : ℤ) → Bears (issued ++ cond t (issue next name ∷ []) []) name (cond t (promoted h reid_max next l) (raised_only h l))
      go true h = has newest
      go false h = standing_on [] b

  bears_opened : (period : ℕ) (delay : ℤ) → Bears (issued ++ cond (is_zero delay) (issue next name ∷ []) []) name (life_opened period delay next)
  unfolding life_opened
  bears_opened period delay = go (is_zero delay)
    where
      go : (t : Bool) → Standing (issued ++ cond t (issue next name ∷ []) []) name (cond t false true) (cond t (Some next) None)
      go true = has newest
      go false = waits

-- ---- the records of a state

module _ (c : TrackerConfig) (f : Frame) (issued : List Issue) (st : State) (borne : Borne issued (objects_of st.slots)) where
  pub borne_hit : (n : ℕ) (p : Pick) → Borne (issued ++ issued_by_hit c f p st) (objects_of (hit_one c f n p st).slots)
  unfolding object_hit
  borne_hit n p =
      let o = (get_or st.slots p.col no_slot).object in
      let hit = bears_hit issued (name_of o) st.counts.permanent f.period c.hit_counter_max c.initialization_delay c.reid_hit_counter_max o.life in
      rw map-set
      (every_set (λ o b. standing_on _ b) p.col _ zero_object borne (rw (get_or-map (λ s. s.object) st.slots p.col no_slot) hit))

  pub borne_opening : (s : List Float) (d : ℕ) → Borne (issued ++ issued_by_opening c d st) (objects_of (open_one c f s d st).slots)
  unfolding object_opened
  borne_opening s d =
      rw map-append
      (every_append (borne_on _ borne) (one (bears_opened issued st.counts.initializing st.counts.permanent f.period c.initialization_delay) none))
