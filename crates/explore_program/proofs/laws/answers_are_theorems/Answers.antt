use Rattle.std.proofs.Common.{List, map, subst, sym}
use Rattle.outcome_lists.specs.OutcomeTest.Finds.{armed}
use Rattle.outcome_lists.specs.OutcomeTest.Seen.{Seen}
use Rattle.outcome_lists.specs.AskedReads.Program.{asks_for}
use Rattle.outcome_lists.specs.Explorer.Leading.{led_through}
use Rattle.outcome_lists.specs.Listing.{StandOnce}
use Rattle.outcome_lists.specs.Outcomes.{outcomes_of}
use Rattle.outcome_lists.proofs.Explorer.LedLemmas.{armed_led, kept_armed, ready_led, run_led}
use Rattle.outcome_lists.proofs.Explorer.PerformLemmas.{ready_armed}
use Rattle.program_base.specs.Opening.{opened}
use Rattle.explore_program.specs.Calls.{begun}
use Rattle.explore_program.proofs.BeginLemmas.{begins_opened, kept_opened}
use Rattle.explore_program.proofs.FoundLemmas.{are_theorems}
use Rattle.explore_program.proofs.ListLemmas.{lists_runs}
use Rattle.explore_program.proofs.ProgramLemmas.{taken_bring, taken_bytes}
use Rattle.explore_program.proofs.TableLemmas.{sound_armed, tells_runs}
use Rattle.explore_program.proofs.laws.answers_are_theorems.Goals as goal

pub returns : goal.returns
returns c = λ image geo script e mountable is first of_program.
    let right = mountable.right in
    let kept = kept_opened c.runs_keep_states.ensures.mounted image mountable.unit right in
    let begins = begins_opened c.runs_keep_states.ensures.mounted image mountable.unit right mountable.snapshot.whole mountable.bytes in
    let bytes = taken_bytes geo script e (c.what_was_made_durable_stays.ensures.scripts script) is in
    let bring = taken_bring geo script e (c.scripts_bring_right.ensures script) is in
    let h = begun (opened image) e in
    let program = map asks_for e.program in
    let from_start = armed (opened image) in
    let to_begin = led_through from_start (map asks_for e.first) in
    let start_ready = ready_armed (opened image) kept.0 in
    let run = run_led (map asks_for e.first) from_start first in
    let ready = ready_armed to_begin (ready_led from_start (map asks_for e.first) first start_ready) in
    let stays = kept_armed to_begin (c.runs_keep_states.ensures.later from_start (map asks_for e.first) run.0 to_begin start_ready (kept_armed (opened image) kept.1) bring.0 run.1) in
    let tells = λ (look : List Seen). c.the_test_tells_what_is_found.ensures.states h program look ready stays of_program bring.1 in
    let is_sound = sound_armed h ready stays in
    let sound = c.each_place_is_sound.ensures 1 (armed h) program (ready_armed h ready) is_sound of_program in
    let lists = c.a_value_is_listed_where_it_may_be_shown.ensures in
    are_theorems h program tells
    (tells_runs h program tells sound (record {
      words = lists.words;
      poison = lists.poison;
      blocks = lists.blocks;
      missing = lists.missing;
      range = lists.range;
      file_words = lists.file_words;
      file_poison = lists.file_poison;
    }))
    (lists_runs h program tells (ready_armed h ready) is_sound of_program (record {
      listed = c.each_listed_outcome_is_found.ensures (armed h) program;
      every = c.each_outcome_is_listed.ensures (armed h) program;
      once = λ parts.
          subst (λ m. StandOnce (outcomes_of m program parts)) (sym (armed_led (opened image) (map asks_for e.first) first))
          (c.no_outcome_stands_twice.ensures from_start (map asks_for e.first) program parts begins.durable begins.files bytes.0 bytes.1);
      words = c.each_way_is_a_choice.ensures.words (armed h) program;
      blocks = c.each_way_is_a_choice.ensures.blocks (armed h) program;
      file_words = c.each_way_is_a_choice.ensures.file_words (armed h) program;
    }))
