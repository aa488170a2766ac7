-- Runs through a cut.
use Rattle.std.proofs.Common.{◌≡◌, nat_lt, ℕ, true, false, inl, inr, List, [], ◌∷◌, ◌++◌, replicate, refl}
use Rattle.std.specs.Prelude.{codes}
use Rattle.std.proofs.lemmas.Bool.{false≢true}
use Rattle.std.specs.Fmt.{digits}
use Rattle.line_device.specs.Panel.{Start}
use Rattle.line_device.specs.declared.line.Choice.TheVariants.{Firsts, Lasts}
use Rattle.line_device.specs.declared.order.Order.TheVariants.{Cut as ForCut}
use Rattle.line_words.specs.declared.interruption.Interruption.TheVariants.{PowerLost as Lost}
use Rattle.nvm_base.specs.Numbers.{number_of}
use Rattle.nvm_base.specs.Data.{data_of, runs_of, data_within, data_text}
use Rattle.word_tables.specs.Layout.{size, first_line, total_lines, volume_line}
use Rattle.line_device.specs.Word.{word_from, byte_over, word_over, reaches}
use Rattle.nvm_model.specs.Page.{discard, fill, first_bad_line, first_uncovered_line, put, persist, look, read_pages}
use Rattle.pm_volume.specs.Presence.{words_read}
use Rattle.nvm_model.specs.Blocks.{write, look_blocks}
use Rattle.word_log.specs.Replay.{listed}
use Rattle.block_device.specs.Reading.{states_read, blocks_read}
use Rattle.inode_table.specs.Words.{slots_of}
use Rattle.file_journal.specs.Reading.{tables_of, words_read as file_words}
use Rattle.file_journal.specs.Standing.{files_read}
use Rattle.reply_text.specs.Answer.{answer_line}
use Rattle.reply_text.specs.Answer.Answer.{Done, Bytes, PowerLost, Refused}
use Rattle.reply_text.specs.declared.reply.Why.TheVariants.{Off}
use Rattle.script_text.specs.Action.{Action}
use Rattle.script_text.specs.Action.Action.{BRead, BAtomic, CutIn, Restart, VLoad, VStore, VSync}
use Rattle.script_text.specs.Script.{inputs, lines_of, words_of, command_action, line_input}
use Rattle.script_text.specs.Script.Input.{Asked}
use Rattle.machine_model.specs.declared.mode.Mode.TheVariants as modes
use Rattle.machine_model.specs.Machine.{Machine}
use Rattle.machine_model.specs.Commands.{refusal, spending, while_interrupted}
use Rattle.machine_model.specs.Restarting.{RestartMayLeave, fresh, mounted_answer, reading, restarted}
use Rattle.machine_model.specs.Run.{Transcript, Hears, Run, answered, followed_by, silence, with_order, with_start, worked}
use Rattle.machine_model.specs.WorkedScripts.{small}
use Rattle.machine_rows.specs.Rows.{leaving, with_page}
use Rattle.machine_model.specs.Performing.{perform}
use Rattle.machine_model.proofs.RunLemmas.{run_performed}
use Rattle.machine_rows.proofs.PartStoreLemmas.{stored_among, may_store-among}
use Rattle.machine_rows.specs.CutRows.{MayWrite, leaving_first, with_cut_write, cut_write_lines, with_late_cut, late_cut_lines, with_cut_store, cut_store_lines}
use Rattle.machine_rows.proofs.LastLemmas.{keeps-last}

-- the write of two blocks, and the machine as the cut is armed and once it came
abbrev pub two_blocks : List ℕ
two_blocks = replicate 1024 17

abbrev pub the_write : Action
the_write = BAtomic 0 two_blocks

abbrev pub armed : Machine
armed = record (fresh small) { cut_armed = true }

abbrev struck : Machine
struck = record (while_interrupted armed the_write) { mode = modes.Off; cut_armed = false }

abbrev back : Start → Machine
back start = restarted struck start.image

-- what is said from the last read on, and so back to the order; it may come back with what its start keeps, and reads it
abbrev read_back : List ℕ → Transcript
read_back read = followed_by (worked (spending armed (BRead 0 2)) (Bytes read)) silence

abbrev come_back : Start → List ℕ → Transcript
come_back start read = followed_by (with_start (spending armed (Restart Firsts)) start (mounted_answer (restarted struck start.image))) (read_back read)

abbrev told_of_write : Start → List ℕ → Transcript
told_of_write start read =
    followed_by (with_order (ForCut 1) Done) (followed_by (worked (spending armed the_write) PowerLost) (followed_by (answered (Refused Off)) (come_back start read)))

run_of_write : (start : Start) (read : List ℕ) → start.choice ≡ Firsts → RestartMayLeave Firsts start.image struck
    → Hears (back start) (Asked (BRead 0 2)) (worked (spending armed (BRead 0 2)) (Bytes read)) (back start)
    → Run (fresh small) (Asked (CutIn 1) ∷ Asked the_write ∷ Asked (BRead 0 1) ∷ Asked (Restart Firsts) ∷ Asked (BRead 0 2) ∷ []) (told_of_write start read) (back start)
unfolding refusal reading words_read
run_of_write start read chosen keeps reads =
    let all = mounted_answer (restarted struck start.image) in (
      with_order (ForCut 1) Done,
      followed_by (worked (spending armed the_write) PowerLost) (followed_by (answered (Refused Off)) (come_back start read)),
      armed,
      refl,
      (refl, refl),
      (
        worked (spending armed the_write) PowerLost,
        followed_by (answered (Refused Off)) (come_back start read),
        struck,
        refl,
        (PowerLost, refl, inr (Lost, refl, record { armed = refl; state = refl; cut = λ c. absurd (false≢true c); fail = λ f. f })),
        (
          answered (Refused Off),
          come_back start read,
          struck,
          refl,
          (refl, refl),
          (
            with_start (spending armed (Restart Firsts)) start all,
            read_back read,
            back start,
            refl,
            (start, all, refl, chosen, keeps, inl (refl, refl)),
            (worked (spending armed (BRead 0 2)) (Bytes read), silence, back start, refl, reads, (refl, refl)),
          ),
        ),
      ),
    )

pub write_lost : MayWrite with_cut_write (leaving_first Firsts 0 0 ∷ []) (cut_write_lines (codes "data 00*1024"))
unfolding digits number_of data_of runs_of data_within data_text read_pages answer_line lines_of words_of command_action line_input refusal size first_line total_lines volume_line reading write look_blocks states_read blocks_read listed files_read file_words tables_of slots_of words_read
write_lost = record {
  said = told_of_write (leaving_first Firsts 0 0) (replicate 1024 0);
  end = back (leaving_first Firsts 0 0);
  run = run_of_write (leaving_first Firsts 0 0) (replicate 1024 0) refl
      (record { unit = refl; metadata = refl; storage = λ _. record { blocks = inl refl; left = struck.volume; may = refl; there = refl; volume = keeps-last Firsts (volume_line small) (leaving_first Firsts 0 0).image struck.volume refl; files_left = []; may_files = refl; files = tt } })
      (Bytes (replicate 1024 0), refl, inl (refl, refl));
  left = refl;
  written = refl;
}

pub write_kept : MayWrite with_cut_write (leaving_first Firsts 2 1229782938247303441 ∷ []) (cut_write_lines (codes "data 11*1024"))
unfolding digits number_of data_of runs_of data_within data_text read_pages answer_line lines_of words_of command_action line_input refusal size first_line total_lines volume_line reading write look_blocks states_read blocks_read listed files_read file_words tables_of slots_of words_read
write_kept =
    let start = leaving_first Firsts 2 1229782938247303441 in
    record {
      said = told_of_write start two_blocks;
      end = back start;
      run = run_of_write start two_blocks refl
          (record { unit = refl; metadata = refl; storage = λ _. record { blocks = inr refl; left = struck.volume; may = refl; there = refl; volume = keeps-last Firsts (volume_line small) start.image struck.volume refl; files_left = []; may_files = refl; files = tt } })
          (Bytes two_blocks, refl, inl (refl, refl));
      left = refl;
      written = refl;
    }

-- a cut that never comes: nothing is interrupted
pub cut_that_never_came : MayWrite with_late_cut (leaving_first Lasts 1 72340172838076673 ∷ []) late_cut_lines
unfolding digits number_of data_of runs_of data_within data_text read_pages answer_line lines_of words_of command_action line_input refusal size first_line total_lines volume_line reading write look_blocks states_read blocks_read listed files_read file_words tables_of slots_of words_read
cut_that_never_came =
    let start = leaving_first Lasts 1 72340172838076673 in
    let all = perform (fresh small) (inputs with_late_cut) (start ∷ []) in
    record {
      said = all.said;
      end = all.state;
      run = run_performed (fresh small) (inputs with_late_cut) (start ∷ []) (
        refl,
        record { unit = refl; metadata = refl; storage = λ _. record { blocks = refl; left = (fresh small).volume; may = refl; there = refl; volume = keeps-last Lasts (volume_line small) start.image (fresh small).volume refl; files_left = []; may_files = refl; files = tt } },
        refl,
      );
      left = refl;
      written = refl;
    }

-- the store over two lines, the volume before it, and the machine as the cut is armed and once it came
abbrev zeros : Machine
zeros = record (fresh small) { volume = put 0 (replicate 64 0) (fill 0 64 (fresh small).volume) }

abbrev durable : Machine
durable = record zeros { volume = persist 0 64 zeros.volume }

abbrev ready : Machine
ready = record durable { cut_armed = true }

abbrev the_store : Action
the_store = VStore 60 (replicate 8 255)

abbrev halted : Machine
halted = record (while_interrupted ready the_store) { mode = modes.Off; cut_armed = false }

-- the first line is stored, the second one is not
pub store_in_part : MayWrite with_cut_store (leaving Lasts (with_page 7 18446744069414584320) ∷ []) (cut_store_lines (codes "data ff*4,00*4"))
unfolding digits word_from byte_over word_over reaches number_of runs_of data_within data_text fill put persist look read_pages answer_line lines_of words_of command_action line_input refusal size first_line total_lines volume_line reading states_read blocks_read listed files_read file_words tables_of slots_of words_read discard first_bad_line first_uncovered_line
store_in_part =
    let start = leaving Lasts (with_page 7 18446744069414584320) in
    let read = replicate 4 255 ++ replicate 4 0 in
    let all = mounted_answer (restarted halted start.image) in
    let left = stored_among (λ n. nat_lt n 1) 60 (replicate 8 255) durable.volume in
    let shown = followed_by (worked (spending armed (VLoad 60 8)) (Bytes read)) silence in
    let came = followed_by (with_start (spending armed (Restart Lasts)) start all) shown in
    let stored = followed_by (worked (spending ready the_store) PowerLost) came in
    let ordered = followed_by (with_order (ForCut 2) Done) stored in
    let synced = followed_by (worked (spending zeros (VSync 0 64)) Done) ordered in
    record {
      said = followed_by (worked (spending armed (VStore 0 (replicate 64 0))) Done) synced;
      end = restarted halted start.image;
      run = (
        worked (spending armed (VStore 0 (replicate 64 0))) Done,
        synced,
        zeros,
        refl,
        (Done, refl, inl (refl, refl)),
        (
          worked (spending zeros (VSync 0 64)) Done,
          ordered,
          durable,
          refl,
          (Done, refl, inl (refl, refl)),
          (
            with_order (ForCut 2) Done,
            stored,
            ready,
            refl,
            (refl, refl),
            (
              worked (spending ready the_store) PowerLost,
              came,
              halted,
              refl,
              (PowerLost, refl, inr (Lost, refl, record { armed = refl; state = refl; cut = λ c. absurd (false≢true c); fail = λ f. f })),
              (
                with_start (spending armed (Restart Lasts)) start all,
                shown,
                restarted halted start.image,
                refl,
                (
                  start,
                  all,
                  refl,
                  refl,
                  record {
                    unit = refl;
                    metadata = refl;
                    storage = λ _. record {
                      blocks = refl;
                      left = left;
                      may = may_store-among (λ n. nat_lt n 1) 60 (replicate 8 255) durable.volume;
                      there = refl;
                      volume = keeps-last Lasts (volume_line small) start.image left refl;
                      files_left = [];
                      may_files = refl;
                      files = tt;
                    };
                  },
                  inl (refl, refl),
                ),
                (worked (spending armed (VLoad 60 8)) (Bytes read), silence, restarted halted start.image, refl, (Bytes read, refl, inl (refl, refl)), (refl, refl)),
              ),
            ),
          ),
        ),
      );
      left = refl;
      written = refl;
    }
