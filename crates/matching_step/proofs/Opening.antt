-- Rule 46: openings one after another: each puts a record with its block behind those of the table.
use mathlib.Core.Path.{◌≡◌, refl, sym, ◌∙◌}
use mathlib.Core.List.{List, [], ◌∷◌}
use Prim.Native.Nat.{ℕ, suc, ◌+◌, ◌*◌, ◌<◌, ◌≤◌}
use native.Mathlib.Nat.{mul-le-mul_right, le_trans}
use native.Mathlib.Omega.{arith}
use lib.Ieee.{Float}
use lib.ListN.{length, get_or, set, take, drop}
use lib.Seq.{paste, length-take-le, get_or-take}
use Rattle.laws.specs.Every.{none, one}
use Rattle.laws.specs.Turns.{through}
use Rattle.laws.proofs.Through.{through_next}
use Rattle.laws.proofs.Every.{every_append}
use Rattle.laws.proofs.Growing.{length_snoc}
use Rattle.laws.proofs.Pasting.{length_part}
use Rattle.matching.specs.declared.Numbers.{Numbers}
use Rattle.parts.specs.declared.TrackerConfig.{TrackerConfig}
use Rattle.parts.specs.declared.TrackedObject.{TrackedObject}
use Rattle.parts.specs.declared.Changed.{Changed}
use Rattle.parts.specs.Layout.{block_size}
use Rattle.parts.specs.Life.{is_zero}
use Rattle.tracked_object.specs.Object.{changed_by_opening, block_opened}
use Rattle.tracked_object.proofs.ObjectLaws.{length-opened}
use Rattle.table.specs.declared.Counts.{Counts}
use Rattle.table.specs.Slots.{floats_back}
use Rattle.table.proofs.SlotLaws.{Sized, slots_length, slots_sized, block_fits, floats_behind, records_put, floats_put}
use Rattle.passes.specs.Checks.{Frame}
use Rattle.passes.specs.Passes.{numbers}
use Rattle.laws.specs.Lists.{EachBelow}
use Rattle.matching_step.specs.Step.{State, Fits, lent_detection, opening, slot_opened, open_one, stepped_of}
use Rattle.matching_step.specs.declared.Stepped.{Stepped}
use Rattle.matching_step.proofs.Hitting.{next_most}
use Rattle.matching_step.proofs.PutBack.{found, Put, put_long, part_again}
use Rattle.matching_step.proofs.Lending.{lent_points, lent_scores}

-- ---- the counts

-- k records more
pub record Raised (k : ℕ) (from to : Counts) : Type 0 where
  pub records : to.records ≡ from.records + k
  pub opened : to.opened ≡ from.opened + k
  pub global : to.global ≡ from.global + k
  pub initializing : to.initializing ≡ from.initializing + k
  pub permanent : to.permanent ≤ from.permanent + k

module _ (c : TrackerConfig) (f : Frame) (s : List Float) where
  abbrev pub opens : List ℕ → State → State
  opens l st = through (open_one c f s) l st

  pub opens_counts : (l : List ℕ) (st : State) → Raised (length l) st.counts (opens l st).counts
  unfolding through
  opens_counts [] st = omega arith
  opens_counts (d ∷ l) st =
      let rest = opens_counts l (open_one c f s d st) in
      let most = next_most (is_zero c.initialization_delay) st.counts.permanent in
      omega arith

  -- ---- the slots

  pub opens_length : (l : List ℕ) (st : State) → length (opens l st).slots ≡ length st.slots + length l
  unfolding through
  opens_length [] st = omega arith
  opens_length (d ∷ l) st = omega (arith, simp length_snoc at (opens_length l (open_one c f s d st)))

  module _ (fits : Fits c f) where
    pub opened_long : (d k : ℕ) → d < length f.has_scores → k * block_size c + block_size c ≤ length s
        → length (block_opened c (lent_detection c f d) (take (block_size c) (drop (k * block_size c) s))) ≡ block_size c
    opened_long d k few room =
        let b = block_size c in
        let block = length_part s (k * b) b room in
        length-opened c (lent_detection c f d) (take b (drop (k * b) s)) (lent_points fits few) (lent_scores fits few) block ∙ block

    pub opens_sized : (l : List ℕ) (st : State) → EachBelow (length f.has_scores) (length l) l → (length st.slots + length l) * block_size c ≤ length s
        → Sized (block_size c) st.slots → Sized (block_size c) (opens l st).slots
    unfolding through
    opens_sized [] st few room sized = sized
    opens_sized (d ∷ l) st few room sized =
        let b = block_size c in
        let k = length st.slots in
        let next = open_one c f s d st in
        let long = opened_long d k (few 0 (omega arith)) (le_trans (block_fits b k (k + suc (length l)) (omega arith)) room) in
        let e : length next.slots + length l ≡ k + suc (length l) = omega (arith, opens_length (d ∷ []) st) in
        opens_sized l next (λ i h. few (suc i) (omega arith)) (rw e room) (every_append sized (one long none))

-- ---- a turn

module _ {c : TrackerConfig} {records₀ : List TrackedObject} {s₀ : List Float} {st : State} {rs : List TrackedObject} {n : Counts} {s : List Float}
    (put : Put c records₀ s₀ st rs n s) (sized : Sized (block_size c) st.slots) where
  -- the floats behind the slots are still the old ones
  pub put_opened : (f : Frame) (d : ℕ) {o : Changed} {t : List Float} → length st.slots ≡ n.records → Fits c f → d < length f.has_scores
      → n.records < length records₀ → n.records * block_size c + block_size c ≤ length s₀
      → o ≡ changed_by_opening c (lent_detection c f d) f.period n.global n.initializing n.permanent
      → t ≡ paste s (n.records * block_size c) (block_opened c (lent_detection c f d) (take (block_size c) (drop (n.records * block_size c) s))) (block_size c)
      → Put c records₀ s₀ (open_one c f s₀ d st) (set rs n.records o.object) (opening o.issued n) t
  put_opened f d here fits few inside room opened floats =
      let k = length st.slots in
      let b = block_size c in
      let y = slot_opened c (lent_detection c f d) f.period st.counts (take b (drop (k * b) s₀)) in
      let long = opened_long c f s₀ fits d k few (rw here room) in
      record {
        records = rw (put.records, opened, ← here, put.counts) (sym (records_put st.slots records₀ y (omega arith)));
        counts = rw (opened, put.counts);
        floats = rw (floats, ← here, put.floats, floats_behind sized s₀ (k * b) (omega arith)) (sym (floats_put sized s₀ y long));
      }

-- ---- the turns of a loop over a list

-- there is room for the detections of l
pub record Openable (c : TrackerConfig) (f : Frame) (s : List Float) (st : State) (l : List ℕ) : Type 0 where
  pub fits : Fits c f
  pub sized : Sized (block_size c) st.slots
  pub count : length st.slots ≡ st.counts.records
  pub few : EachBelow (length f.has_scores) (length l) l
  pub room : (st.counts.records + length l) * block_size c ≤ length s

-- of a table, and the numbers that a struct lists
pub openable : {c : TrackerConfig} {f : Frame} (s : List Float) (records : List TrackedObject) (n : Counts) (left : Numbers 64) → Fits c f
    → left.count ≤ length left.at → EachBelow (length f.has_scores) left.count left.at → (n.records + left.count) * block_size c ≤ length s
    → Openable c f s (found c records s n) (numbers left)
openable {c = c} s records n left fits listed few room =
    let b = block_size c in
    let long = length-take-le left.count left.at listed in
    record {
      fits = fits;
      sized = slots_sized b records s n.records (le_trans (mul-le-mul_right b (omega arith)) room);
      count = slots_length b records s n.records;
      few = λ i h. rw (get_or-take left.count left.at i 0 (omega arith)) (few i (omega arith));
      room = rw long room;
    }

module _ {c : TrackerConfig} {f : Frame} {s₀ : List Float} {st : State} {l : List ℕ} (ready : Openable c f s₀ st l) (i : ℕ) (most : i ≤ length l)
    {records₀ : List TrackedObject} {rs : List TrackedObject} {n : Counts} {s : List Float} (put : Put c records₀ s₀ (opens c f s₀ (take i l) st) rs n s) where
  as_many : length (take i l) ≡ i
  as_many = length-take-le i l most

  pub turn_counts : Raised i st.counts n
  turn_counts = rw put.counts (rw as_many at (opens_counts c f s₀ (take i l) st))

  turn_here : length (opens c f s₀ (take i l) st).slots ≡ n.records
  turn_here = omega (arith, opens_length c f s₀ (take i l) st, as_many, turn_counts.records, ready.count)

  turn_sized : Sized (block_size c) (opens c f s₀ (take i l) st).slots
  turn_sized =
      let fewer : (length st.slots + length (take i l)) ≤ st.counts.records + length l = omega (arith, as_many, ready.count) in
      opens_sized c f s₀ ready.fits (take i l) st
      (λ j h. rw (get_or-take i l j 0 (omega (arith, as_many))) (ready.few j (omega (arith, as_many))))
      (le_trans (mul-le-mul_right (block_size c) fewer) ready.room)
      ready.sized

  pub turn_long : length s ≡ length s₀
  turn_long =
      put_long put turn_sized (le_trans (mul-le-mul_right (block_size c) (omega (arith, turn_here, turn_counts.records))) ready.room)

  pub turn_room : i < length l → n.records * block_size c + block_size c ≤ length s₀
  turn_room h = le_trans (block_fits (block_size c) n.records (st.counts.records + length l) (omega (arith, turn_counts.records))) ready.room

  pub turn_next : {d : ℕ} {o : Changed} {t : List Float} → i < length l → st.counts.records + length l ≤ length records₀ → d ≡ get_or l i 0
      → o ≡ changed_by_opening c (lent_detection c f d) f.period n.global n.initializing n.permanent
      → t ≡ paste s (n.records * block_size c) (block_opened c (lent_detection c f d) (take (block_size c) (drop (n.records * block_size c) s))) (block_size c)
      → Put c records₀ s₀ (opens c f s₀ (take (i + 1) l) st) (set rs n.records o.object) (opening o.issued n) t
  turn_next {d = d} h inside e opened floats =
      rw (sym (through_next (open_one c f s₀) l i 0 st h refl refl), ← e)
      (put_opened put turn_sized f d turn_here ready.fits (rw e (ready.few i h)) (omega (arith, turn_counts.records)) (turn_room h) opened floats)

-- ---- openings behind slots that were put back already

-- only the floats behind the slots are read
opens_alike : (c : TrackerConfig) (f : Frame) (s t : List Float) (m : ℕ) → ((k : ℕ) → m ≤ k → drop k s ≡ drop k t)
    → (l : List ℕ) (st : State) → m ≤ length st.slots * block_size c → opens c f s l st ≡ opens c f t l st
unfolding through
opens_alike c f s t m same [] st h = refl
opens_alike c f s t m same (d ∷ l) st h =
    let next = open_one c f t d st in
    let further : length st.slots ≤ length next.slots = omega (arith, opens_length c f t (d ∷ []) st) in
    rw (same (length st.slots * block_size c) h) (opens_alike c f s t m same l next (le_trans h (mul-le-mul_right (block_size c) further)))

module _ {c : TrackerConfig} {records₀ : List TrackedObject} {s₀ : List Float} {st : State} {rs : List TrackedObject} {n : Counts} {s : List Float}
    (put : Put c records₀ s₀ st rs n s) (sized : Sized (block_size c) st.slots) (count : length st.slots ≡ st.counts.records) (f : Frame) (l : List ℕ) where
  -- what was put back is covered by what is put back now
  pub opens_again : {r : Stepped} {t : List Float} → r ≡ stepped_of (opens c f s l (found c rs s n)) rs
      → t ≡ floats_back (block_size c) (opens c f s l (found c rs s n)).slots s
      → Put c records₀ s₀ (opens c f s₀ l st) r.records r.counts t
  opens_again stepped floats =
      let same : opens c f s l st ≡ opens c f s₀ l st =
      rw put.floats (opens_alike c f (floats_back (block_size c) st.slots s₀) s₀ (length st.slots * block_size c) (floats_behind sized s₀) l st (omega arith)) in
      rw same at (part_again put sized count (opens c f s l) (omega (arith, opens_length c f s l st)) stepped floats)
