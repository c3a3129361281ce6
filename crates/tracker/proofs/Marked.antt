-- Rule 80: one claim over the list of marked numbers: every definition gives what the page says.
use mathlib.Core.Path.{refl}
use lib.Ieee.{of_bits, to_bits, add, sub, mul, div, lt}
use Rattle.laws.specs.Float64.{finite}
use Rattle.laws.specs.Worked.{Agree}
use Rattle.matching.specs.Greedy.{smaller, scan_row, scan_rows, pick_then, greedy}
use Rattle.parts.specs.Life.{life_opened, life_predicted, life_hit}
use Rattle.table.specs.Ranges.{settings_in_range, optional_between}
use Rattle.table.specs.Refusals.{first_due, storage_need}
use Rattle.table.specs.Making.{made}
use Rattle.tracker.specs.Marked.{spelt_picks, marked_numbers}

pub marked_numbers_lem : Agree marked_numbers
unfolding Agree marked_numbers made first_due storage_need settings_in_range optional_between spelt_picks greedy pick_then scan_rows scan_row smaller finite lt of_bits to_bits add sub mul div life_opened life_predicted life_hit
marked_numbers_lem = (refl, (refl, (refl, (refl, (refl, (refl, (refl, (refl, (refl, (refl, (refl, (refl, tt))))))))))))
