-- Rules 43 to 46: step 2's account is fair: the opened stand at the table's end, all IDs are consecutive, and a permanent ID is issued where a record stops to initialize.
use mathlib.Core.Path.{◌≡◌, refl, sym, ◌∙◌, ap}
use mathlib.Core.Bool.{Bool, true, false, cond, ◌&&◌}
use mathlib.Core.List.{List, [], ◌∷◌, ◌++◌, map, map-append, map-map, append-nil, append_assoc}
use Prim.Native.Nat.{ℕ, ◌+◌, ◌≤◌}
use native.Mathlib.Omega.{arith}
use lib.Ieee.{Float}
use lib.ListN.{length, get_or, drop, length-append, length-map}
use lib.Seq.{take_at, map-set_same}
use lib.Signed.{lt_z}
use Rattle.laws.specs.Lists.{keep, weight, up_from}
use Rattle.matching.specs.Greedy.{Pick}
use Rattle.parts.specs.declared.Life.{Life}
use Rattle.parts.specs.declared.Origin.{Origin}
use Rattle.parts.specs.declared.TrackerConfig.{TrackerConfig}
use Rattle.parts.specs.Layout.{block_size}
use Rattle.parts.specs.Life.{is_zero, raised, life_hit, life_opened}
use Rattle.tracked_object.specs.Object.{object_hit, object_opened}
use Rattle.tracked_object.proofs.ObjectLaws.{origin_hit}
use Rattle.table.specs.declared.Table.{Table}
use Rattle.table.specs.Slots.{Slot, no_slot, objects_of, table_slots, name_of, names, table_objects, table_names, table_initializing}
use Rattle.table.proofs.SlotLaws.{objects_length, slots_length, slots_objects}
use Rattle.passes.specs.Checks.{Frame}
use Rattle.matching_step.specs.Step.{State, lent_detection, distance_of, next_permanent, issuing, takes_id, hit_one, open_one, first_hits, second_hits, to_open, start, hit_all, open_all, after_first, after_second, after_opening, match_table}
use Rattle.matching_step.specs.Account.{Opened, Issue, issue, opened_names, opened_globals, issued_numbers, issued_names, Given, given, given_to, shown_by, Borne, issued_by_hit, issued_by_hits, opened_by, issued_by_opening, in_opening, match_account}
use Rattle.laws.proofs.Weighing.{weight-append, keep-map, load_snoc, load_set, Run, ended, run_one, run_append, run_up, run_end}
use Rattle.laws.proofs.Through.{gathered_each, gathered_told}
use Rattle.matching_step.proofs.Bearing.{borne_on, borne_hit, borne_opening}

-- ---- what is read off slots and accounts

abbrev pub initializing_names : List Slot → List ℕ
initializing_names l = names (keep (λ s. s.object.life.is_initializing) l)

abbrev pub shown_in : List Slot → List Given
shown_in l = map (λ s. shown_by s.object) l

-- ---- hits change nobody's origin: what is read off it stays

abbrev pub read_off : {B : Type 0} → (Origin → B) → List Slot → List B
read_off g l = map (λ s. g s.object.origin) l

module _ (c : TrackerConfig) (f : Frame) (n : ℕ) where
  hit_read : {B : Type 0} (g : Origin → B) (p : Pick) (st : State) → read_off g (hit_one c f n p st).slots ≡ read_off g st.slots
  hit_read g p st =
      map-set_same (λ s. g s.object.origin) st.slots p.col _ no_slot
      (ap g (origin_hit c (lent_detection c f p.row) f.period (distance_of f n p) st.counts.permanent (get_or st.slots p.col no_slot).object))

-- ---- a record's weight among the initializing goes over to the issued

module _ (w : ℕ → ℕ) (number name : ℕ) where
  -- i: it is initializing; d: its counter exceeds the delay
  spent : (i d : Bool) (after before : Life) → after.is_initializing ≡ false → before.is_initializing ≡ i
      → cond (cond (i && d) after before).is_initializing (w name) 0 + weight w (issued_names (cond (i && d) (issue number name ∷ []) [])) ≡ cond i (w name) 0
  unfolding weight
  spent true true after before p q = rw p (omega arith)
  spent true false after before p q = rw q (omega arith)
  spent false d after before p q = rw q (omega arith)

  begun : (z : Bool) → cond (cond z false true) (w name) 0 + weight w (issued_names (cond z (issue number name ∷ []) [])) ≡ weight w (name ∷ [])
  unfolding weight
  begun true = omega arith
  begun false = omega arith

-- ---- an account is fair between two states

pub record Fair (a : State) (opened : List Opened) (issued : List Issue) (b : State) : Type 0 where
  pub frames : b.counts.frames ≡ a.counts.frames
  pub records : b.counts.records ≡ a.counts.records + length opened
  pub ever_opened_lem : b.counts.opened ≡ a.counts.opened + length opened
  pub names_run : Run a.counts.initializing (opened_names opened) b.counts.initializing
  pub globals_run : Run a.counts.global (opened_globals opened) b.counts.global
  pub numbers_run : Run a.counts.permanent (issued_numbers issued) b.counts.permanent
  pub shown_behind : shown_in b.slots ≡ shown_in a.slots ++ map given_to opened
  pub moved : (w : ℕ → ℕ)
      → weight w (initializing_names b.slots) + weight w (issued_names issued) ≡ weight w (initializing_names a.slots) + weight w (opened_names opened)
  pub borne : (old : List Issue) → Borne old (objects_of a.slots) → Borne (old ++ issued) (objects_of b.slots)

-- nobody opened: the slots are others, and the next permanent ID is taken, or not
fair_unopened : (st : State) (l : List Slot) (took : Bool) (issued : List Issue)
    → Run st.counts.permanent (issued_numbers issued) (next_permanent took st.counts.permanent)
    → shown_in l ≡ shown_in st.slots
    → ((w : ℕ → ℕ) → weight w (initializing_names l) + weight w (issued_names issued) ≡ weight w (initializing_names st.slots))
    → ((old : List Issue) → Borne old (objects_of st.slots) → Borne (old ++ issued) (objects_of l))
    → Fair st [] issued (record { slots = l; counts = issuing took st.counts })
unfolding weight
fair_unopened st l took issued run same moved borne =
    record {
      frames = refl;
      records = omega arith;
      ever_opened_lem = omega arith;
      names_run = ended;
      globals_run = ended;
      numbers_run = run;
      shown_behind = same ∙ sym (append-nil (shown_in st.slots));
      moved = λ w. omega (arith, moved w);
      borne = borne;
    }

fair_stays : (a : State) → Fair a [] [] a
unfolding weight
fair_stays a = fair_unopened a a.slots false [] ended refl (λ w. omega arith) (λ old h. borne_on [] h)

-- a list that grew twice
grown : {A B : Type 0} (g : A → B) (k : List B) {m n : List B} (l r : List A) → m ≡ k ++ map g l → n ≡ m ++ map g r → n ≡ k ++ map g (l ++ r)
grown g k l r p q = rw (map-append g l r, ← append_assoc k (map g l) (map g r), ← p) q

fair_joined : (a b c : State) (l m : List Opened) (k n : List Issue) → Fair a l k b → Fair b m n c → Fair a (l ++ m) (k ++ n) c
fair_joined a b c l m k n p q =
    record {
      frames = q.frames ∙ p.frames;
      records = omega (arith, length-append l m);
      ever_opened_lem = omega (arith, length-append l m);
      names_run = rw map-append (run_append p.names_run q.names_run);
      globals_run = rw map-append (run_append p.globals_run q.globals_run);
      numbers_run = rw map-append (run_append p.numbers_run q.numbers_run);
      shown_behind = grown given_to (shown_in a.slots) l m p.shown_behind q.shown_behind;
      moved = λ w. simp (map-append, weight-append) (omega (arith, p.moved w, q.moved w));
      borne = λ old h. rw append_assoc at (q.borne (old ++ k) (p.borne old h));
    }

-- the next permanent ID, if one is issued
run_issued : (b : Bool) (next name : ℕ) → Run next (issued_numbers (cond b (issue next name ∷ []) [])) (next_permanent b next)
run_issued true next name = run_one next
run_issued false next name = ended

module _ (c : TrackerConfig) (f : Frame) where
  hit_moved : (w : ℕ → ℕ) (n : ℕ) (p : Pick) (st : State)
      → weight w (initializing_names (hit_one c f n p st).slots) + weight w (issued_names (issued_by_hit c f p st)) ≡ weight w (initializing_names st.slots)
  unfolding object_hit life_hit
  hit_moved w n p st =
      let o = (get_or st.slots p.col no_slot).object in
      let high = lt_z c.initialization_delay (raised f.period c.hit_counter_max o.life) in
      load_set w (λ s. name_of s.object) (λ s. s.object.life.is_initializing) st.slots p.col _ no_slot _
      (spent w st.counts.permanent (name_of o) o.life.is_initializing high _ _ refl refl)
      refl

  opening_moved : (w : ℕ → ℕ) (s : List Float) (d : ℕ) (st : State)
      → weight w (initializing_names (open_one c f s d st).slots) + weight w (issued_names (issued_by_opening c d st))
      ≡ weight w (initializing_names st.slots) + weight w (opened_names (opened_by d st))
  unfolding object_opened life_opened
  opening_moved w s d st =
      load_snoc w (λ s. name_of s.object) (λ s. s.object.life.is_initializing) st.slots _ _
      (begun w st.counts.permanent st.counts.initializing (is_zero c.initialization_delay))

  fair_hit : (n : ℕ) (p : Pick) (st : State) → Fair st [] (issued_by_hit c f p st) (hit_one c f n p st)
  fair_hit n p st =
      let o = (get_or st.slots p.col no_slot).object in
      let took = takes_id c f.period o in
      fair_unopened st (hit_one c f n p st).slots took (issued_by_hit c f p st)
      (run_issued took st.counts.permanent (name_of o))
      (hit_read c f n (λ r. given r.initializing_id r.global_id) p st)
      (λ w. hit_moved w n p st)
      (λ old h. borne_hit c f old st h n p)

  fair_opening : (s : List Float) (d : ℕ) (st : State) → Fair st (opened_by d st) (issued_by_opening c d st) (open_one c f s d st)
  unfolding object_opened life_opened
  fair_opening s d st =
      record {
        frames = refl;
        records = refl;
        ever_opened_lem = refl;
        names_run = run_one st.counts.initializing;
        globals_run = run_one st.counts.global;
        numbers_run = run_issued (is_zero c.initialization_delay) st.counts.permanent st.counts.initializing;
        shown_behind = rw map-append;
        moved = λ w. opening_moved w s d st;
        borne = λ old h. borne_opening c f old st h s d;
      }

-- ---- so it is over all hits of a pass, over all openings, and over the step

module _ (t : Table) (f : Frame) where
  fair_hits : (l : List Pick) (st : State) → Fair st [] (issued_by_hits t f l st) (hit_all t f l st)
  fair_hits =
      gathered_told (hit_one t.config f t.counts.records) (issued_by_hit t.config f) (issued_by_hit t.config f)
      (λ a _ issued b. Fair a [] issued b)
      fair_stays
      (λ a b c _ _ k n. fair_joined a b c [] [] k n)
      (fair_hit t.config f t.counts.records)

  fair_openings : (s : List Float) (l : List ℕ) (st : State)
      → Fair st (in_opening t f s opened_by l st) (in_opening t f s (issued_by_opening t.config) l st) (open_all t f s l st)
  fair_openings s =
      gathered_told (open_one t.config f s) opened_by (issued_by_opening t.config) Fair fair_stays fair_joined (fair_opening t.config f s)

module _ (t : Table) (s : List Float) (d : ℕ) (f : Frame) where
  pub fair : Fair (start t s) (match_account t s d f).opened (match_account t s d f).issued (after_opening t s d f)
  unfolding match_account after_first after_second after_opening
  fair =
      fair_joined _ _ _ _ _ _ _
      (fair_hits t f (first_hits t d f) (start t s))
      (fair_joined _ _ _ _ _ _ _ (fair_hits t f (second_hits t d f) (after_first t s d f)) (fair_openings t f s (to_open t d f) (after_second t s d f)))

  -- ---- who was opened

  pub opened_appended : names (after_opening t s d f).slots ≡ names (table_slots t s) ++ opened_names (match_account t s d f).opened
  opened_appended = simp (map-append, map-map) at (ap (map (λ g. g.name)) fair.shown_behind)

  pub opened_names_lem : opened_names (match_account t s d f).opened ≡ up_from t.counts.initializing (length (match_account t s d f).opened)
  opened_names_lem = rw length-map at (run_up fair.names_run)

  pub opened_globals_lem : opened_globals (match_account t s d f).opened ≡ up_from t.counts.global (length (match_account t s d f).opened)
  opened_globals_lem = rw length-map at (run_up fair.globals_run)

  pub opened_detections : map (λ o. o.detection) (match_account t s d f).opened ≡ to_open t d f
  unfolding match_account
  opened_detections = gathered_each (open_one t.config f s) opened_by (λ o. o.detection) (λ x st. refl) (to_open t d f) (after_second t s d f)

  pub opened_length : length (match_account t s d f).opened ≡ length (to_open t d f)
  opened_length = rw length-map at (ap length opened_detections)

  pub slots_after_lem : length (after_opening t s d f).slots ≡ t.counts.records + length (match_account t s d f).opened
  slots_after_lem = simp (length-map, length-append, slots_length) at (ap length opened_appended)

  -- ---- the permanent IDs issued

  pub issued_consecutive : issued_numbers (match_account t s d f).issued ≡ up_from t.counts.permanent (length (match_account t s d f).issued)
  issued_consecutive = rw length-map at (run_up fair.numbers_run)

  -- a promotion moves one across
  pub initializing_moved : (w : ℕ → ℕ)
      → weight w (initializing_names (after_opening t s d f).slots) + weight w (issued_names (match_account t s d f).issued)
      ≡ weight w (initializing_names (table_slots t s)) + weight w (opened_names (match_account t s d f).opened)
  initializing_moved = fair.moved

  pub ids_kept : (old : List Issue) → Borne old (objects_of (table_slots t s)) → Borne (old ++ (match_account t s d f).issued) (objects_of (after_opening t s d f).slots)
  ids_kept = fair.borne

  -- ---- the counts

  pub frames_stay : (match_table t s d f).counts.frames ≡ t.counts.frames
  unfolding match_table
  frames_stay = fair.frames

  pub records_after : (match_table t s d f).counts.records ≡ t.counts.records + length (match_account t s d f).opened
  unfolding match_table
  records_after = fair.records

  pub opened_after : (match_table t s d f).counts.opened ≡ t.counts.opened + length (match_account t s d f).opened
  unfolding match_table
  opened_after = fair.ever_opened_lem

  pub initializing_after : (match_table t s d f).counts.initializing ≡ t.counts.initializing + length (match_account t s d f).opened
  unfolding match_table
  initializing_after = rw length-map at (run_end fair.names_run)

  pub global_after : (match_table t s d f).counts.global ≡ t.counts.global + length (match_account t s d f).opened
  unfolding match_table
  global_after = rw length-map at (run_end fair.globals_run)

  pub permanent_after : (match_table t s d f).counts.permanent ≡ t.counts.permanent + length (match_account t s d f).issued
  unfolding match_table
  permanent_after = rw length-map at (run_end fair.numbers_run)

  -- ---- the table

  pub objects_after : table_objects (match_table t s d f) ≡ objects_of (after_opening t s d f).slots
  unfolding match_table
  objects_after =
      let l = (after_opening t s d f).slots in
      take_at (objects_of l) (drop (length l) t.records) (after_opening t s d f).counts.records (objects_length l ∙ slots_after_lem ∙ sym fair.records)

  -- if the array holds as many records as are counted, the slots are those of its records
  module _ (most : t.counts.records ≤ length t.records) where
    objects_before : objects_of (table_slots t s) ≡ table_objects t
    objects_before = slots_objects (block_size t.config) t.records s t.counts.records most

    pub table_names_lem : table_names (match_table t s d f) ≡ table_names t ++ opened_names (match_account t s d f).opened
    table_names_lem = rw (objects_after, ← objects_before) (simp map-map opened_appended)

    -- each record with the global ID that it shows
    pub table_shown : map shown_by (table_objects (match_table t s d f)) ≡ map shown_by (table_objects t) ++ map given_to (match_account t s d f).opened
    table_shown = rw (objects_after, ← objects_before) (simp map-map fair.shown_behind)

    pub table_moved : (w : ℕ → ℕ)
        → weight w (table_initializing (match_table t s d f)) + weight w (issued_names (match_account t s d f).issued)
        ≡ weight w (table_initializing t) + weight w (opened_names (match_account t s d f).opened)
    table_moved w = rw (objects_after, ← objects_before) (simp (keep-map, map-map) (initializing_moved w))

    pub table_borne : (old : List Issue) → Borne old (table_objects t) → Borne (old ++ (match_account t s d f).issued) (table_objects (match_table t s d f))
    table_borne old h = rw objects_after (ids_kept old (rw objects_before h))
