-- The programs compute, and the test tells of them.
use Rattle.std.proofs.Common.{◌≡◌, ℕ, true, false, List, refl, arith}
use Rattle.std.proofs.lemmas.Bool.{both_ways}
use Rattle.std.specs.Fmt.{digits}
use Rattle.nvm_base.specs.Numbers.{number_of}
use Rattle.nvm_base.specs.Data.{runs_of, data_within, data_text}
use Rattle.word_tables.specs.Bounds.{IsValid}
use Rattle.script_text.specs.Script.{inputs, lines_of, words_of, command_action, line_input}
use Rattle.machine_model.specs.Restarting.{fresh}
use Rattle.machine_model.specs.WorkedScripts.{small, text}
use Rattle.outcomes.specs.Finds.{may_find}
use Rattle.outcomes.specs.Rows.{counted_too_early, one_of_two}
use Rattle.outcomes.specs.Seen.{Seen}
use Rattle.outcome_runs.specs.Examples.{IsFound, IsNeverFound, by_one_sync, of_zeros, one_by_one, renamed_durable, renamed_early, two_together, two_written}
use Rattle.outcome_runs.proofs.CheckLemmas.{are_of_program, of_program}
use Rattle.outcome_runs.proofs.laws.worked_runs.Goals as goal
use Rattle.outcome_runs.proofs.laws.worked_runs.Goals.{After-worked_questions}

valid : IsValid small
valid = record {
  least_blocks = omega arith;
  most_blocks = omega arith;
  whole_lines = refl;
  least_vpages = omega arith;
  most_vpages = omega arith;
  least_fpages = omega arith;
  most_fpages = omega arith;
}

found : (c : After-worked_questions) (lines : List (List ℕ)) (look : List Seen) → are_of_program (inputs (text lines)) ≡ true → may_find (fresh small) (inputs (text lines)) look ≡ true
    → IsFound lines look
found c lines look right may = (c.the_test_tells_what_is_found.ensures.scripts small (text lines) look valid (of_program (inputs (text lines)) right)).0 may

never : (c : After-worked_questions) (lines : List (List ℕ)) (look : List Seen) → are_of_program (inputs (text lines)) ≡ true → may_find (fresh small) (inputs (text lines)) look ≡ false
    → IsNeverFound lines look
never c lines look right may finds =
    both_ways (may_find (fresh small) (inputs (text lines)) look) may
    ((c.the_test_tells_what_is_found.ensures.scripts small (text lines) look valid (of_program (inputs (text lines)) right)).1 finds)

pub returns : goal.returns
unfolding digits number_of runs_of data_within data_text lines_of words_of command_action line_input
returns c = record {
  record_before_count = never c one_by_one counted_too_early refl c.worked_questions.ensures.record_before_count;
  both_by_one_sync = found c by_one_sync counted_too_early refl c.worked_questions.ensures.both_by_one_sync;
  blocks_together = never c two_together one_of_two refl c.worked_questions.ensures.blocks_together;
  blocks_one_by_one = found c two_written one_of_two refl c.worked_questions.ensures.blocks_one_by_one;
  renamed_too_early = found c renamed_early of_zeros refl c.worked_questions.ensures.renamed_too_early;
  renamed_once_durable = never c renamed_durable of_zeros refl c.worked_questions.ensures.renamed_once_durable;
}
