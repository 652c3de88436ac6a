-- The starred cases hold, all of them in one equation: both sides are computed, by the definitions themselves. Assumes nothing.
use mathlib.Core.Path.{◌≡◌, refl}
use mathlib.Core.List.{map}
use Rattle.rows.specs.Row.{row}
use Rattle.rows.specs.Search.{if_lt, outside, or_else, lowest}
use Rattle.sizes.specs.Refusal.{fault_number, number_of, place_of, first, refused_if, refused_at_lem}
use Rattle.sizes.specs.Sizes.{factorial, weight, sizes_verdict}
use Rattle.arrangement.specs.Check.{length_verdict, buffers_verdict, bad_module, repeated, bad_setting, slots_verdict, lent_verdict}
use Rattle.flip.specs.Flip.{raised, source, flipped_modules, flipped_settings}
use Rattle.order.specs.Rank.{raised_by, lowered_by, renamed_module, renamed_setting, restored_module, restored_setting, last_digit_lem, rank, module_of, setting_of, unrank_modules, unrank_settings}
use Rattle.order.specs.Digits.{digit, open_digit, flip_out}
use Rattle.look.specs.Look.{offset, expected_setting, stops, look}
use Rattle.board.specs.Board.{lowest_digit_lem, full, begins, run_end_lem, pointer, pointers}
use Rattle.step.specs.Step.{pointed, closes, step_flip}
use Rattle.stretch.specs.Stretch.{rank_at}
use Rattle.stretch.specs.Pair.{stands_at, pair_at, has_pair, pair_count}
use Rattle.round.specs.Worked.{comes_to, said, starred}

pub starred_hold : map comes_to starred ≡ map said starred
unfolding comes_to said starred row if_lt outside or_else lowest first refused_if refused_at_lem fault_number number_of place_of factorial weight sizes_verdict length_verdict buffers_verdict bad_module repeated bad_setting slots_verdict lent_verdict raised source flipped_modules flipped_settings raised_by lowered_by renamed_module renamed_setting restored_module restored_setting last_digit_lem rank module_of setting_of unrank_modules unrank_settings digit open_digit flip_out offset expected_setting stops look lowest_digit_lem full begins run_end_lem pointer pointers pointed closes step_flip rank_at stands_at pair_at has_pair pair_count
starred_hold = refl
