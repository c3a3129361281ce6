-- Rule 75, step 2: its entry is fair, if it was accepted.
use Rattle.std.specs.Prelude.{None}
use mathlib.Core.Path.{◌≡◌, refl, sym, ◌∙◌, ap}
use mathlib.Core.List.{List, [], ◌++◌, map, map-append, map-map}
use Prim.Native.Nat.{ℕ, ◌+◌, ◌≤◌}
use native.Mathlib.Omega.{arith}
use lib.Ieee.{Float}
use lib.ListN.{length}
use Rattle.laws.specs.Lists.{below, times}
use Rattle.laws.proofs.Counting.{times-append}
use Rattle.table.specs.declared.Table.{Table}
use Rattle.table.specs.Making.{zero_object}
use Rattle.table.specs.Slots.{name_of, table_names}
use Rattle.table.proofs.SlotLaws.{records_length}
use Rattle.pairs.specs.declared.Pair.{Pair}
use Rattle.passes.specs.Checks.{Frame}
use Rattle.matching_step.specs.Step.{after_opening, match_table, match_refusal}
use Rattle.matching_step.specs.Account.{opened_names, match_account}
use Rattle.matching_step.proofs.Readiness.{ready}
use Rattle.matching_step.proofs.AccountLaws.{fair, opened_length, slots_after_lem, records_after, opened_after, table_names_lem, table_moved}
use Rattle.matching_step.proofs.PairLaws.{record_at, places_below, named_by_place, each_detection_once, no_place_twice}
use Rattle.laws.proofs.Growing.{take_each}
use Rattle.ledger.specs.History.{Entry, matched_by}
use Rattle.ledger.specs.Demand.{Same, Among, detections_of, hit_by, records_of}
use Rattle.laws.proofs.Weights.{read_below}
use Rattle.ledger.proofs.Fairness.{Ordered, within, Fairly}

-- three lists in a row
three : (x : ℕ) (a b c : List ℕ) → times x (a ++ (b ++ c)) ≡ times x a + times x b + times x c
three x a b c = omega (arith, times-append x a (b ++ c), times-append x b c)

module _ (t : Table) (s : List Float) (n : ℕ) (f : Frame) (o : Ordered t) where
  -- ---- who was hit or opened is in the table, and no record is hit twice

  names_at : map (λ i. name_of (record_at t i)) (below t.counts.records) ≡ table_names t
  names_at = sym (map-map name_of (record_at t) (below t.counts.records)) ∙ ap (map name_of) (take_each t.records zero_object t.counts.records (within o))

  hit_names_lem : (x : ℕ) → times x (map (λ h. h.name) ((match_account t s n f).first ++ (match_account t s n f).second)) ≤ times x (table_names t)
  hit_names_lem x =
      rw (named_by_place t s n f, ← names_at)
      (read_below (places_below t n f) (no_place_twice t n f o.apart) (λ i. name_of (record_at t i)) x)

  abbrev entry : List Pair → Entry
  entry pairs = matched_by t (match_table t s n f) n (match_account t s n f) pairs

  -- who was hit stood in the table
  hit : Among (hit_by (entry [])) (table_names t)
  hit x = rw (map-append (λ h. h.name) (match_account t s n f).first (match_account t s n f).second) at (hit_names_lem x)

  records : Among (records_of (entry [])) (table_names (match_table t s n f))
  records x =
      let opened = opened_names (match_account t s n f).opened in
      rw (table_names_lem t s n f (within o))
      (omega (arith, hit x, times-append x (hit_by (entry [])) opened, times-append x (table_names t) opened))

  detections : Same (detections_of (entry [])) (below n)
  detections x =
      let a = match_account t s n f in
      three x (map (λ h. h.detection) a.first) (map (λ h. h.detection) a.second) (map (λ o. o.detection) a.opened)
      ∙ each_detection_once t s n f x

  -- ---- an accepted step

  module _ (places : ℕ) (none : match_refusal t s n f places ≡ None) where
    room : t.counts.records + length (match_account t s n f).opened ≤ 64
    room = omega (arith, (ready t s n f places o.long none).places, opened_length t s n f)

    ordered : Ordered (match_table t s n f)
    unfolding match_table times
    ordered =
        record {
          long = records_length (after_opening t s n f).slots t.records (omega (arith, slots_after_lem t s n f, room, o.long)) ∙ o.long;
          fit = omega (arith, records_after t s n f, room);
          apart = λ x. omega arith;
        }

    pub fairly_matched : (pairs : List Pair) → Fairly t (matched_by t (match_table t s n f) n (match_account t s n f) pairs) (match_table t s n f)
    unfolding match_table times
    fairly_matched pairs =
        record {
          ordered = ordered;
          before = refl;
          opened_run = (fair t s n f).names_run;
          globals_run = (fair t s n f).globals_run;
          issued_run = (fair t s n f).numbers_run;
          opened = opened_after t s n f;
          placed = λ x. rw (table_names_lem t s n f (within o)) (omega (arith, times-append x (table_names t) (opened_names (match_account t s n f).opened)));
          moved = λ w. omega (arith, table_moved t s n f (within o) w);
          detections = detections;
          records = records;
          hit = hit;
          dropped = λ once x. refl;
          absorbed = λ once x. refl;
        }
