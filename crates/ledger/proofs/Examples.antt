-- Rules 14, 32, 61, 63 and 75: a record that is its own old one, two that absorb each other, altered tables that step 1 leaves not whole, and refusal 13 in mid-day: run by the checker.
use Rattle.std.specs.Prelude.{Some, None}
use mathlib.Core.Path.{◌≡◌, refl}
use mathlib.Core.Bool.{true, false}
use mathlib.Core.List.{[], ◌∷◌, map}
use lib.ListN.{replicate}
use lib.Ieee.{lt, of_bits}
use Rattle.laws.specs.Float64.{f0, finite}
use Rattle.laws.specs.Lists.{below, keep, any}
use Rattle.laws.specs.Turns.{turns, through, gathered}
use Rattle.matching.specs.Greedy.{smaller, scan_row, scan_rows, pick_then, greedy}
use Rattle.filter.specs.Block.{with_coordinate}
use Rattle.parts.specs.Life.{life_predicted, life_opened}
use Rattle.parts.specs.Points.{points_fallen, flags_set}
use Rattle.tracked_object.specs.Object.{object_predicted, object_opened, block_opened, object_merged}
use Rattle.table.specs.Ranges.{settings_in_range, optional_between}
use Rattle.table.specs.declared.refusals.Refusal.TheVariants.{TableNotWhole, TableFull}
use Rattle.table.specs.Refusals.{first_due, storage_need}
use Rattle.table.specs.Making.{made}
use Rattle.table.specs.Wholeness.{counts_whole, points_whole, ages_whole, record_whole, records_whole, names_below, lists_whole, whole_table}
use Rattle.table.specs.Slots.{slots, blocks_of, table_names}
use Rattle.predict.specs.Step.{predict_table, predict_floats, dropped}
use Rattle.passes.specs.Passes.{first_pass, second_pass}
use Rattle.matching_step.specs.Step.{first_hits, second_hits, to_open, after_first, after_second, after_opening, match_table, match_floats, matched_floats}
use Rattle.matching_step.specs.Account.{match_account}
use Rattle.reid.specs.Step.{merges, slots_merged, slots_staying, reid_table, reid_floats, absorbed}
use Rattle.tracker.specs.Calls.{predict_answer, predict_storage, match_answer, reid_answer, reid_storage}
use Rattle.ledger.specs.History.{World, predict, after, refusal_of, entry_of, joined, waiting, goes_on, day_of}
use Rattle.ledger.specs.Demand.{gather, entries, ever_opened}
use Rattle.ledger.specs.Examples.{settings, half, far, meeting, floats, lowest_hit, lowest_reid, seen, until_too_many, too_many, carrying_on}

-- record 1 is candidate and old one: it leaves
pub own_old_one : (table_names (reid_table (meeting (0 ∷ []) (0 ∷ [])) floats (half ∷ [])) ≡ 2 ∷ [])
    × (map (λ a. a.name) (absorbed (meeting (0 ∷ []) (0 ∷ [])) floats (half ∷ [])) ≡ 1 ∷ [])
unfolding reid_table slots_staying slots_merged merges absorbed through greedy pick_then scan_rows scan_row smaller finite lt of_bits keep below any slots object_merged
own_old_one = (refl, refl)

-- each is the other's old one: both leave
pub absorb_each_other : (table_names (reid_table (meeting (0 ∷ 1 ∷ []) (1 ∷ 0 ∷ [])) floats (half ∷ far ∷ far ∷ half ∷ [])) ≡ [])
    × (map (λ a. a.name) (absorbed (meeting (0 ∷ 1 ∷ []) (1 ∷ 0 ∷ [])) floats (half ∷ far ∷ far ∷ half ∷ [])) ≡ 1 ∷ 2 ∷ [])
unfolding reid_table slots_staying slots_merged merges absorbed through greedy pick_then scan_rows scan_row smaller finite lt of_bits keep below any slots object_merged
absorb_each_other = (refl, refl)

-- ---- step 1 on a table that was altered: whole and accepted, and what it leaves is not whole, so that the next call answers 5

abbrev LeftUnwhole : World → Type 0
LeftUnwhole w =
    (whole_table w.table ≡ true)
    × (refusal_of predict w ≡ None)
    × (whole_table (after predict w).table ≡ false)
    × (refusal_of (seen 0 []) (after predict w) ≡ Some TableNotWhole)

-- a hit counter falls below -20,000
pub hit_below_range : LeftUnwhole lowest_hit
unfolding after first_due storage_need settings_in_range optional_between whole_table counts_whole records_whole record_whole points_whole ages_whole lists_whole names_below any keep below slots blocks_of predict_answer predict_storage predict_table predict_floats object_predicted life_predicted points_fallen turns
hit_below_range = (refl, refl, refl, refl)

-- a ReID counter falls below -1
pub reid_below_range : LeftUnwhole lowest_reid
unfolding after first_due storage_need settings_in_range optional_between whole_table counts_whole records_whole record_whole points_whole ages_whole lists_whole names_below any keep below slots blocks_of predict_answer predict_storage predict_table predict_floats object_predicted life_predicted points_fallen turns
reid_below_range = (refl, refl, refl, refl)

-- ---- room for one record: the frame that asks for two more is refused with 13, and the day goes on

pub too_many_lem : refusal_of too_many (day_of (settings 1) (replicate 8 f0) until_too_many).world ≡ Some TableFull
unfolding day_of goes_on joined waiting through after entry_of made first_due storage_need settings_in_range optional_between whole_table counts_whole records_whole record_whole points_whole ages_whole lists_whole names_below any keep below slots blocks_of predict_answer predict_storage predict_table predict_floats object_predicted life_predicted points_fallen turns match_answer matched_floats match_table match_floats first_hits second_hits to_open after_first after_second after_opening first_pass second_pass greedy pick_then scan_rows scan_row smaller finite lt of_bits object_opened life_opened flags_set block_opened reid_answer reid_storage reid_table reid_floats slots_staying slots_merged merges with_coordinate
too_many_lem = refl

-- one record was ever opened, and the frame that follows hits it in pass 2
pub carrying_on_lem : (ever_opened (day_of (settings 1) (replicate 8 f0) carrying_on) ≡ 1 ∷ [])
    × (gather (λ e. map (λ h. h.name) e.second) (entries (day_of (settings 1) (replicate 8 f0) carrying_on)) ≡ 1 ∷ [])
unfolding day_of goes_on joined waiting through after entry_of gather gathered match_account dropped absorbed made first_due storage_need settings_in_range optional_between whole_table counts_whole records_whole record_whole points_whole ages_whole lists_whole names_below any keep below slots blocks_of predict_answer predict_storage predict_table predict_floats object_predicted life_predicted points_fallen turns match_answer matched_floats match_table match_floats first_hits second_hits to_open after_first after_second after_opening first_pass second_pass greedy pick_then scan_rows scan_row smaller finite lt of_bits object_opened life_opened flags_set block_opened reid_answer reid_storage reid_table reid_floats slots_staying slots_merged merges with_coordinate
carrying_on_lem = (refl, refl)
