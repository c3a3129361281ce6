-- Rules 14, 45 and 46: permanent IDs issued and records that initialize are together at most the records opened: so no more IDs are issued than records were opened.
use Rattle.std.specs.Prelude.{None}
use mathlib.Core.Path.{◌≡◌, refl, ◌∙◌}
use mathlib.Core.Bool.{Bool, true, false, not, cond}
use mathlib.Core.List.{List, [], ◌∷◌, map}
use Prim.Native.Nat.{ℕ, ◌+◌, ◌≤◌}
use native.Mathlib.Omega.{arith}
use lib.Ieee.{Float}
use lib.ListN.{length, drop}
use lib.Seq.{take_at}
use Rattle.laws.specs.Lists.{keep, weight}
use Rattle.parts.specs.declared.TrackedObject.{TrackedObject}
use Rattle.parts.specs.declared.TrackerConfig.{TrackerConfig}
use Rattle.parts.specs.Layout.{block_size}
use Rattle.parts.specs.Life.{life_predicted}
use Rattle.tracked_object.specs.Object.{object_predicted}
use Rattle.table.specs.declared.Table.{Table}
use Rattle.table.specs.Making.{made}
use Rattle.table.specs.Slots.{Slot, objects_of, table_slots, name_of}
use Rattle.table.proofs.MakingLaws.{accepted_fresh}
use Rattle.table.proofs.SlotLaws.{objects_length, slots_objects}
use Rattle.predict.specs.Step.{gone, each_predicted, slots_kept, slots_after, predict_table}
use Rattle.predict.proofs.Predicting.{predicted_length}
use Rattle.passes.specs.Checks.{Frame}
use Rattle.matching_step.specs.Step.{match_table}
use Rattle.matching_step.specs.Account.{match_account}
use Rattle.matching_step.proofs.AccountLaws.{opened_after, permanent_after, table_moved}
use Rattle.table.specs.Slots.{table_initializing}
use Rattle.reid.specs.Step.{reid_table}
use Rattle.laws.proofs.Weighing.{load_cons}
use Rattle.reid.proofs.StepLaws.{opened_stay, permanent_stay, staying_initializing}

-- ---- how many records initialize

abbrev one : ℕ → ℕ
one x = 1

each_one : {A : Type 0} (g : A → ℕ) (l : List A) → weight one (map g l) ≡ length l
unfolding weight
each_one g [] = refl
each_one g (x ∷ l) = omega (arith, each_one g l)

abbrev pub initializing_count : Table → ℕ
initializing_count t = weight one (table_initializing t)

abbrev pub Unspent : Table → Type 0
Unspent t = t.counts.permanent + initializing_count t ≤ t.counts.opened + 1

-- ---- of a fresh table, and after each step

pub unspent_fresh : (c : TrackerConfig) (floats : ℕ) → (made c floats).refusal ≡ None → Unspent (made c floats).table
unfolding weight keep
unspent_fresh c floats none_due = rw (accepted_fresh c floats none_due) (omega arith)

abbrev initializes : TrackedObject → Bool
initializes o = o.life.is_initializing

abbrev count_in : List TrackedObject → ℕ
count_in l = weight one (map name_of (keep initializes l))

count_more : (o : TrackedObject) (l : List TrackedObject) → count_in (o ∷ l) ≡ cond (initializes o) 1 0 + count_in l
count_more = load_cons one name_of initializes

-- predicting changes no mark
count_predicted : (c : TrackerConfig) (o : TrackedObject) (l : List TrackedObject) → count_in (object_predicted c o ∷ l) ≡ cond (initializes o) 1 0 + count_in l
unfolding object_predicted life_predicted
count_predicted c o l = count_more (object_predicted c o) l

-- and who leaves counts no more
predicted_few : (c : TrackerConfig) (q : Slot → Bool) (l : List Slot) → count_in (objects_of (each_predicted c (keep q l))) ≤ count_in (objects_of l)
unfolding keep
predicted_few c q [] = omega arith
predicted_few c q (x ∷ l) = go (q x) (predicted_few c q l)
  where
    go : (b : Bool) → count_in (objects_of (each_predicted c (keep q l))) ≤ count_in (objects_of l)
        → count_in (objects_of (each_predicted c (cond b (x ∷ keep q l) (keep q l)))) ≤ count_in (objects_of (x ∷ l))
    go true h =
        omega (arith, count_more x.object (objects_of l), count_predicted c x.object (objects_of (each_predicted c (keep q l))))
    go false h = omega (arith, count_more x.object (objects_of l))

module _ (t : Table) (s : List Float) (most : t.counts.records ≤ length t.records) (unspent : Unspent t) where
  pub unspent_predict : Unspent (predict_table t s)
  unfolding predict_table
  unspent_predict =
      let l = slots_after t s in
      let few = predicted_few t.config (λ x. not (gone t.config x.object)) (table_slots t s) in
      rw (take_at (objects_of l) (drop (length l) t.records) (length (slots_kept t s)) (objects_length l ∙ predicted_length t.config (slots_kept t s)))
      (omega (arith, rw (slots_objects (block_size t.config) t.records s t.counts.records most) at few))

  pub unspent_match : (detections : ℕ) (f : Frame) → Unspent (match_table t s detections f)
  unspent_match d f =
      let a = match_account t s d f in
      omega (
        arith,
        table_moved t s d f most one,
        each_one (λ i. i.name) a.issued,
        each_one (λ o. o.name) a.opened,
        opened_after t s d f,
        permanent_after t s d f,
      )

  pub unspent_reid : (ds : List Float) → Unspent (reid_table t s ds)
  unspent_reid ds =
      omega (arith, staying_initializing t s ds most one, opened_stay t s ds, permanent_stay t s ds)
