-- Rules 43 to 46: the parts of step 2 one after another, on a table that passed its checks: what each leans on, and what it leaves.
use mathlib.Core.Path.{◌≡◌, refl, ◌∙◌}
use mathlib.Core.List.{List}
use Prim.Native.Nat.{ℕ, ◌+◌, ◌<◌, ◌≤◌}
use native.Mathlib.Omega.{arith}
use lib.Ieee.{Float}
use lib.ListN.{length}
use Rattle.laws.specs.Every.{Every}
use Rattle.laws.specs.Lists.{EachBelow}
use Rattle.laws.specs.Turns.{through}
use Rattle.laws.proofs.Every.{every_at, every_keep, every_below, each_padded}
use Rattle.laws.proofs.Through.{through_keep}
use Rattle.matching.specs.Greedy.{Pick}
use Rattle.matching.specs.Lent.{picks_of, picked}
use Rattle.matching.specs.Unmatched.{numbers_of}
use Rattle.matching.proofs.Picked.{Inside, picks_inside, picked_cols, picked_of}
use Rattle.parts.specs.declared.TrackedObject.{TrackedObject}
use Rattle.parts.specs.Layout.{block_size}
use Rattle.table.specs.declared.Counts.{Counts}
use Rattle.table.specs.declared.Lists.{Lists}
use Rattle.table.specs.declared.Phase.TheVariants.{Reid}
use Rattle.table.specs.declared.Table.{Table}
use Rattle.table.specs.Slots.{floats_back}
use Rattle.passes.specs.Checks.{Frame}
use Rattle.passes.specs.Passes.{numbers}
use Rattle.passes.proofs.PassLaws.{first_passed, second_passed, rows_inside, cols_inside, numbers-numbers_of}
use Rattle.matching_step.specs.declared.Decided.{Decided}
use Rattle.matching_step.specs.declared.Stepped.{Stepped}
use Rattle.matching_step.specs.Step.{State, matrix_of, first_hits, second_hits, to_open, hit_one, open_one, start, after_first, after_second, after_opening, match_table, lists_after, decided_of, stepped_of, Ready}
use Rattle.matching_step.proofs.Again.{all_counted, hits_again}
use Rattle.matching_step.proofs.Deciding.{few_hits}
use Rattle.matching_step.proofs.Hitting.{Standing, stands_first, hits_stand, hits_permanent}
use Rattle.matching_step.proofs.Opening.{opens_length, opens_sized, opens_again}
use Rattle.matching_step.proofs.PutBack.{found, Put, put_back, put_long}

module _ (t : Table) (n : ℕ) (f : Frame) where
  -- ---- the picks and the leftovers are in their ranges

  pub first_rows : EachBelow n (picks_of (first_hits t n f)).count (picks_of (first_hits t n f)).rows
  unfolding first_hits
  first_rows = rows_inside (first_passed (matrix_of t n f) (numbers t.lists.alive))

  pub first_cols : EachBelow t.counts.records (picks_of (first_hits t n f)).count (picks_of (first_hits t n f)).cols
  unfolding first_hits
  first_cols = cols_inside (first_passed (matrix_of t n f) (numbers t.lists.alive))

  pub second_rows : EachBelow n (picks_of (second_hits t n f)).count (picks_of (second_hits t n f)).rows
  unfolding second_hits
  second_rows = rows_inside (second_passed (matrix_of t n f) (numbers t.lists.initializing) _)

  pub second_cols : EachBelow t.counts.records (picks_of (second_hits t n f)).count (picks_of (second_hits t n f)).cols
  unfolding second_hits
  second_cols = cols_inside (second_passed (matrix_of t n f) (numbers t.lists.initializing) _)

  left_every : Every (λ i. i < n) (to_open t n f)
  unfolding to_open
  left_every = every_keep _ (every_keep _ (every_below n (λ i h. h)))

  pub left_below : EachBelow n (numbers_of (to_open t n f)).count (numbers_of (to_open t n f)).at
  left_below = each_padded 64 (to_open t n f) refl left_every

  listed : (l : List Pick) → EachBelow n (picks_of l).count (picks_of l).rows → EachBelow t.counts.records (picks_of l).count (picks_of l).cols
      → Every (Inside n t.counts.records) l
  listed l rows cols = rw (picked_of l) at (picks_inside (picks_of l) rows cols (length l) (omega arith))

-- ---- the step on a table that passed its checks

module _ (t : Table) (s : List Float) (f : Frame) (ready : Ready t (length s) (length f.has_scores) f) where
  abbrev n : ℕ
  n = length f.has_scores

  abbrev hits : List Pick → State → State
  hits l st = through (hit_one t.config f t.counts.records) l st

  stays : {l : List Pick} {st : State} → Every (Inside n t.counts.records) l → Standing t.config t.counts.records st
      → Standing t.config t.counts.records (hits l st)
  stays inside stands = hits_stand ready.fits ready.holding.from ready.holding.most inside stands

  pub stands_after_first : Standing t.config t.counts.records (after_first t s n f)
  unfolding after_first
  stands_after_first = stays (listed t n f (first_hits t n f) (first_rows t n f) (first_cols t n f)) (stands_first t.records s t.counts ready.holding refl)

  pub stands_after_second : Standing t.config t.counts.records (after_second t s n f)
  unfolding after_second
  stands_after_second = stays (listed t n f (second_hits t n f) (second_rows t n f) (second_cols t n f)) stands_after_first

  -- hits issue at most one permanent ID each, and count no opening
  pub permanent_first : (after_first t s n f).counts.permanent ≤ t.counts.permanent + length (first_hits t n f)
  unfolding after_first
  permanent_first = hits_permanent t.config f t.counts.records (first_hits t n f) (start t s)

  pub permanent_second : (after_second t s n f).counts.permanent ≤ t.counts.permanent + n
  unfolding after_second
  permanent_second =
      omega (arith, hits_permanent t.config f t.counts.records (second_hits t n f) (after_first t s n f), permanent_first, few_hits t n f)

  unopened : (view : Counts → ℕ) → ((st : State) (p : Pick) → view (hit_one t.config f t.counts.records p st).counts ≡ view st.counts)
      → view (after_second t s n f).counts ≡ view t.counts
  unfolding after_second after_first
  unopened view kept =
      through_keep (hit_one t.config f t.counts.records) (λ st. view st.counts) (λ p st. kept st p) (second_hits t n f) (after_first t s n f)
      ∙ through_keep (hit_one t.config f t.counts.records) (λ st. view st.counts) (λ p st. kept st p) (first_hits t n f) (start t s)

  pub opened_second : (after_second t s n f).counts.opened ≡ t.counts.opened
  opened_second = unopened (λ m. m.opened) (λ st p. refl)

  pub global_second : (after_second t s n f).counts.global ≡ t.counts.global
  global_second = unopened (λ m. m.global) (λ st p. refl)

  pub initializing_second : (after_second t s n f).counts.initializing ≡ t.counts.initializing
  initializing_second = unopened (λ m. m.initializing) (λ st p. refl)

  -- ---- each part put back

  module _ {d : Decided} (decided : d ≡ decided_of t n f) where
    pub put_first : {r : Stepped} {g : List Float} → r ≡ stepped_of (hits (picked d.first) (start t s)) t.records
        → g ≡ floats_back (block_size t.config) (hits (picked d.first) (start t s)).slots s
        → Put t.config t.records s (after_first t s n f) r.records r.counts g
    unfolding after_first
    put_first made floats = rw (decided, picked_of (first_hits t n f)) at (put_back {c = t.config} {records₀ = t.records} {s₀ = s} made floats)

    module _ {rs : List TrackedObject} {m : Counts} {g : List Float} where
      pub put_second : Put t.config t.records s (after_first t s n f) rs m g → {r : Stepped} {h : List Float}
          → r ≡ stepped_of (through (hit_one t.config f m.records) (picked d.second) (found t.config rs g m)) rs
          → h ≡ floats_back (block_size t.config) (through (hit_one t.config f m.records) (picked d.second) (found t.config rs g m)).slots g
          → Put t.config t.records s (after_second t s n f) r.records r.counts h
      unfolding after_second
      put_second put made floats = rw (decided, picked_of (second_hits t n f)) at (hits_again stands_after_first put f (picked d.second) made floats)

      pub put_third : Put t.config t.records s (after_second t s n f) rs m g → {r : Stepped} {h : List Float} →
          let opens = through (open_one t.config f g) (numbers d.left) (found t.config rs g m) in
          r ≡ stepped_of opens rs → h ≡ floats_back (block_size t.config) opens.slots g
          → Put t.config t.records s (after_opening t s n f) r.records r.counts h
      unfolding after_opening
      put_third put made floats =
          rw (decided, numbers-numbers_of (to_open t n f)) at
          (opens_again put stands_after_second.sized (all_counted stands_after_second put) f (numbers d.left) made floats)

      pub whole_length : Put t.config t.records s (after_opening t s n f) rs m g → length g ≡ length s
      unfolding after_opening
      whole_length put =
          let opens = opens_length t.config f s (to_open t n f) (after_second t s n f) in
          let sized =
          opens_sized t.config f s ready.fits (to_open t n f) (after_second t s n f) (λ i h. every_at i 0 (left_every t n f) h)
          (rw stands_after_second.long ready.room) stands_after_second.sized in
          put_long put sized (rw (opens, stands_after_second.long) ready.room)

      pub table_is : Put t.config t.records s (after_opening t s n f) rs m g → {l : Lists} → l ≡ lists_after t d.first d.second
          → ◌≡◌ {A = Table} (record { records = rs; config = t.config; counts = m; phase = Reid; lists = l }) (match_table t s n f)
      unfolding match_table
      table_is put lists =
          rw (put.records, put.counts, lists, decided, picked_cols (first_hits t n f), picked_cols (second_hits t n f))
