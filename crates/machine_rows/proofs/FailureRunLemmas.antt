-- Runs through failures and cuts, from what befell each command.
use Rattle.std.proofs.Common.{◌≡◌, ◌&&◌, ℕ, Bool, true, false, IsTrue, ◌⊎◌, inl, inr, Option, Some, None, List, [], ◌∷◌, drop, slice_index, replicate, refl, sym, ap, subst, ◌∙◌, arith}
use Rattle.std.specs.Prelude.{codes}
use Rattle.std.proofs.lemmas.Bool.{and_parts, false≢true}
use Rattle.std.specs.Fmt.{digits}
use Rattle.line_device.specs.Panel.{Image, Start}
use Rattle.line_device.specs.Word.{word_from, byte_over, word_over, reaches}
use Rattle.line_device.specs.declared.line.Choice.{Choice}
use Rattle.line_device.specs.declared.line.Choice.TheVariants.{Lasts}
use Rattle.line_device.specs.declared.order.Order.TheVariants.{Fail as ForFailure}
use Rattle.line_words.specs.declared.interruption.Interruption.{Interruption}
use Rattle.line_words.specs.declared.interruption.Interruption.TheVariants.{Failed, PowerLost as Lost}
use Rattle.nvm_base.specs.Numbers.{number_of}
use Rattle.nvm_base.specs.Data.{data_of, runs_of, data_within, data_text}
use Rattle.word_tables.specs.Layout.{size, first_line, total_lines, volume_line}
use Rattle.nvm_model.specs.Cell.{Cell}
use Rattle.nvm_model.specs.Interrupted.{Became, LineByLine, MayPersist}
use Rattle.nvm_model.specs.Storage.{File}
use Rattle.nvm_model.specs.Page.{Page, cell_of, discard, fill, first_bad_line, first_uncovered_line, look, persist, presence_of, put, bad_lines, read_pages}
use Rattle.pm_volume.specs.Presence.{presence_read, words_read}
use Rattle.nvm_model.specs.Blocks.{write, look_blocks}
use Rattle.word_log.specs.Replay.{listed}
use Rattle.block_device.specs.Reading.{states_read, blocks_read}
use Rattle.inode_table.specs.Words.{slots_of}
use Rattle.file_journal.specs.Reading.{tables_of, words_read as file_words}
use Rattle.file_journal.specs.Standing.{files_read, KeepsFiles}
use Rattle.reply_text.specs.Answer.{Answer, answer_line, reply_text}
use Rattle.reply_text.specs.Answer.Answer.{Done, Refused}
use Rattle.reply_text.specs.declared.reply.Why.TheVariants.{Syntax, TooLong}
use Rattle.script_text.specs.Action.{Action}
use Rattle.script_text.specs.Action.Action.{BRead, FailIn, Recover}
use Rattle.script_text.specs.Script.{Input, inputs, lines_of, words_of, command_action, line_input}
use Rattle.script_text.specs.Script.Input.{Skipped, Malformed, Overlong, Asked}
use Rattle.machine_model.specs.declared.mode.Mode.TheVariants as modes
use Rattle.machine_model.specs.Lines.{bad_metadata}
use Rattle.machine_model.specs.Machine.{Machine, Fate}
use Rattle.machine_model.specs.Machine.Fate.{Gives, Works, Orders, Cuts, Restarts, Recovers}
use Rattle.machine_model.specs.Commands.{MayLeaveBlocks, MayLeaveFiles, MayLeaveVolume, fate, refusal, spending, while_interrupted}
use Rattle.machine_model.specs.Interrupted.{Interrupts, interrupted_answer, interrupted_mode, may_come}
use Rattle.machine_model.specs.Restarting.{RestartMayLeave, fresh, holding, mounted_answer, reading, restarted}
use Rattle.machine_model.specs.Recovering.{RecoveryMayLeave}
use Rattle.machine_model.specs.Run.{Ends, Run, Takes, answered, silence, with_cut, with_order, with_start, worked}
use Rattle.machine_model.specs.Performing.{Performance, after}
use Rattle.machine_model.specs.WorkedScripts.{small, text}
use Rattle.machine_rows.specs.Rows.{leaving}
use Rattle.machine_rows.specs.CutRows.{MayWrite}
use Rattle.machine_rows.specs.FailureRows.{cut_before_failure_lines, cut_restart_lines, failed_recovery_lines, failed_pair_lines, failed_restart_lines, failed_sync_lines, failed_write_lines, leaving_fives, with_cut_before_failure, with_cut_restart, with_failed_pair, with_failed_recovery, with_failed_restart, with_failed_sync, with_failed_write}
use Rattle.machine_rows.proofs.LastLemmas.{keeps-last, pages_last}
use Rattle.machine_model.proofs.RunLemmas.{followed_by-silence}
use Rattle.machine_rows.proofs.CutLemmas.{the_write}
use Rattle.machine_rows.proofs.PartLemmas.{Later, Whole, began_ordering, began_recovering, began_working, line, mounted_shows, never_half, never_stopped, none_left, written}
use Rattle.nvm_model.specs.Events.{bad_numbers, restart_events}

-- What befell a command: nothing; an interruption, with a cut or a failure armed still; a restart that left this, and one that
-- was interrupted; or a recovery that came to this state.
pub data Turn : Type 0 where
  Through : Turn
  Halted : Interruption → Bool → Bool → Turn
  Started : Start → Turn
  StartHalted : Start → Interruption → Bool → Bool → Turn
  Recovered : Machine → Turn

-- the state once it was interrupted
abbrev pub halted : Machine → Interruption → Bool → Bool → Machine
halted h by cut fail = record h { mode = interrupted_mode by; cut_armed = cut; fail_armed = fail }

-- what is said, and the state after it
abbrev pub step : Machine → Action → Fate → Turn → Performance
step h action (Gives good to) turn = record { said = answered good; state = to }
step h action (Works good to) Through = record { said = worked (spending h action) good; state = to }
step h action (Works good to) (Halted by cut fail) =
    record { said = worked (spending h action) (interrupted_answer by); state = halted (while_interrupted h action) by cut fail }
step h action (Orders order to) turn = record { said = with_order order Done; state = to }
step h action (Cuts to) turn = record { said = with_cut Done; state = to }
step h action (Restarts choice) (Started start) =
    record { said = with_start (spending h action) start (mounted_answer (restarted h start.image)); state = restarted h start.image }
step h action (Restarts choice) (StartHalted start by cut fail) =
    record { said = with_start (spending h action) start (interrupted_answer by); state = halted (restarted h start.image) by cut fail }
step h action Recovers (Halted by cut fail) = record { said = worked (spending h action) (interrupted_answer by); state = halted h by cut fail }
step h action Recovers (Recovered next) = record { said = worked (spending h action) (mounted_answer next); state = next }
step h action f turn = record { said = silence; state = h }

-- what an interruption needs is armed, and what is armed after it was before
abbrev pub armed_for : Interruption → Bool → Bool → Bool
armed_for Failed cut fail = fail
armed_for Lost cut fail = cut

abbrev pub was_armed : Bool → Bool → Bool
was_armed true before = before
was_armed false before = true

abbrev pub may_halt : Machine → Interruption → Bool → Bool → Bool
may_halt h by cut fail = armed_for by h.cut_armed h.fail_armed && (was_armed cut h.cut_armed && was_armed fail h.fail_armed)

-- it may have befallen the command
abbrev pub May : Machine → Fate → Turn → Type 0
May h (Gives good to) turn = Unit {0}
May h (Works good to) Through = Unit {0}
May h (Works good to) (Halted by cut fail) = may_halt h by cut fail ≡ true
May h (Orders order to) turn = Unit {0}
May h (Cuts to) turn = Unit {0}
May h (Restarts choice) (Started start) = (start.choice ≡ choice) × RestartMayLeave choice start.image h
May h (Restarts choice) (StartHalted start by cut fail) = (start.choice ≡ choice) × RestartMayLeave choice start.image h × (may_halt h by cut fail ≡ true)
May h Recovers (Halted by cut fail) = may_halt h by cut fail ≡ true
May h Recovers (Recovered next) = RecoveryMayLeave h next
May h f turn = ⊥

interrupts : (h : Machine) (by : Interruption) (cut fail : Bool) → may_halt h by cut fail ≡ true → Interrupts by h (halted h by cut fail)
interrupts h by cut fail may =
    let armed = and_parts (armed_for by h.cut_armed h.fail_armed) _ may in
    let kept = and_parts _ _ armed.1 in
    record { armed = comes by armed.0; state = refl; cut = implied cut h.cut_armed kept.0; fail = implied fail h.fail_armed kept.1 }
  where
    comes : (by : Interruption) → armed_for by h.cut_armed h.fail_armed ≡ true → IsTrue (may_come by h)
    comes Failed is = is
    comes Lost is = is

    implied : (after before : Bool) → was_armed after before ≡ true → IsTrue after → IsTrue before
    implied true before is armed = is
    implied false before is armed = absurd (false≢true armed)

takes : (h : Machine) (action : Action) (f : Fate) (turn : Turn) → May h f turn → Takes h action f (step h action f turn).said (step h action f turn).state
takes h action (Gives good to) turn may = (refl, refl)
takes h action (Works good to) Through may = (good, refl, inl (refl, refl))
takes h action (Works good to) (Halted by cut fail) may = (interrupted_answer by, refl, inr (by, refl, interrupts (while_interrupted h action) by cut fail may))
takes h action (Orders order to) turn may = (refl, refl)
takes h action (Cuts to) turn may = (refl, refl)
takes h action (Restarts choice) (Started start) may = (start, mounted_answer (restarted h start.image), refl, may.0, may.1, inl (refl, refl))
takes h action (Restarts choice) (StartHalted start by cut fail) may =
    (start, interrupted_answer by, refl, may.0, may.1, inr (by, refl, interrupts (restarted h start.image) by cut fail may.2))
takes h action Recovers (Halted by cut fail) may = (interrupted_answer by, refl, inr (by, refl, interrupts h by cut fail may))
takes h action Recovers (Recovered next) may = (mounted_answer next, refl, inl (refl, may))
takes h action f turn may = absurd may

-- what is said of inputs, a turn for each command
abbrev pub go_on : Performance → (Machine → Performance) → Performance
go_on one rest = after one.said (rest one.state)

abbrev pub play : Machine → List Input → List Turn → Performance
play h [] turns = record { said = silence; state = h }
play h (Skipped ∷ inputs) turns = play h inputs turns
play h (Malformed ∷ inputs) turns = after (answered (Refused Syntax)) (play h inputs turns)
play h (Overlong ∷ inputs) turns = after (answered (Refused TooLong)) (play h inputs turns)
play h (Asked action ∷ inputs) [] = record { said = silence; state = h }
play h (Asked action ∷ inputs) (turn ∷ turns) = go_on (step h action (fate h action) turn) (λ k. play k inputs turns)

abbrev pub MayAll : Machine → List Input → List Turn → Type 0
MayAll h [] turns = Unit {0}
MayAll h (Skipped ∷ inputs) turns = MayAll h inputs turns
MayAll h (Malformed ∷ inputs) turns = MayAll h inputs turns
MayAll h (Overlong ∷ inputs) turns = MayAll h inputs turns
MayAll h (Asked action ∷ inputs) [] = ⊥
MayAll h (Asked action ∷ inputs) (turn ∷ turns) = May h (fate h action) turn × MayAll (step h action (fate h action) turn).state inputs turns

run_played : (h : Machine) (inputs : List Input) (turns : List Turn) → MayAll h inputs turns → Run h inputs (play h inputs turns).said (play h inputs turns).state
run_played h [] turns may = (refl, refl)
run_played h (Skipped ∷ inputs) turns may =
    (silence, (play h inputs turns).said, h, sym (followed_by-silence (play h inputs turns).said), (refl, refl), run_played h inputs turns may)
run_played h (Malformed ∷ inputs) turns may = (answered (Refused Syntax), (play h inputs turns).said, h, refl, (refl, refl), run_played h inputs turns may)
run_played h (Overlong ∷ inputs) turns may = (answered (Refused TooLong), (play h inputs turns).said, h, refl, (refl, refl), run_played h inputs turns may)
run_played h (Asked action ∷ inputs) [] may = absurd may
run_played h (Asked action ∷ inputs) (turn ∷ turns) may =
    let one = step h action (fate h action) turn in
    (one.said, (play one.state inputs turns).said, one.state, refl, takes h action (fate h action) turn may.0, run_played one.state inputs turns may.1)

-- what these turns may make of a script
pub may_write : (script : List ℕ) (turns : List Turn) (lines : List (List ℕ)) → MayAll (fresh small) (inputs script) turns
    → reply_text (play (fresh small) (inputs script) turns).said.answers ≡ text lines
    → MayWrite script (play (fresh small) (inputs script) turns).said.starts lines
may_write script turns lines may written = record {
  said = (play (fresh small) (inputs script) turns).said;
  end = (play (fresh small) (inputs script) turns).state;
  run = run_played (fresh small) (inputs script) turns may;
  left = refl;
  written = written;
}

-- bad lines, and a unit
abbrev bad_and_unit : List ℕ → ℕ → List ℕ × ℕ
bad_and_unit bad unit = (bad, unit)

-- a restart that left the pages as they were, and these files
pub left_by : (choice : Choice) (image : Image) (h : Machine) (files : List File) → bad_and_unit (bad_metadata h.geometry image.is_bad) image.unit ≡ bad_and_unit h.bad_meta h.unit
    → MayLeaveBlocks h.interrupted h.blocks (blocks_read h.geometry image.is_bad image.word) → MayLeaveVolume h.geometry h.interrupted h.volume h.volume
    → presence_of h.volume ≡ presence_read h.geometry image.word → pages_last (volume_line h.geometry) image h.volume ≡ true
    → MayLeaveFiles h.mappings h.interrupted h.files files → KeepsFiles choice h.geometry image files → RestartMayLeave choice image h
left_by choice image h files metadata blocks may there last may_files keeps = record {
  unit = ap (λ (m : List ℕ × ℕ). m.1) metadata;
  metadata = ap (λ (m : List ℕ × ℕ). m.0) metadata;
  storage = λ _. record {
    blocks = blocks;
    left = h.volume;
    may = may;
    there = there;
    volume = keeps-last choice (volume_line h.geometry) image h.volume last;
    files_left = files;
    may_files = may_files;
    files = keeps;
  };
}

-- a sync that got nowhere
unsynced : (start len : ℕ) (pages : List Page) → LineByLine (MayPersist start len) pages pages
unsynced start len pages = record { there = refl; each = λ n. by_cell n (cell_of pages n) }
  where
    by_cell : (n : ℕ) (o : Option Cell) → Became (MayPersist start len n) o o
    by_cell n None = tt
    by_cell n (Some cell) = inl refl

-- the state at rest of new blocks, of ones or fives in the first block, and of a page that was stored into once it was durable
abbrev untouched : Machine
untouched = holding small (fresh small).blocks (fresh small).volume []

abbrev with_ones : Machine
with_ones = holding small (write 0 (replicate 512 1) (fresh small).blocks) (fresh small).volume []

abbrev with_fives : Machine
with_fives = holding small (write 0 (replicate 512 5) (fresh small).blocks) (fresh small).volume []

abbrev with_sevens : Machine
with_sevens = holding small (fresh small).blocks (put 0 (replicate 8 7) (fill 0 8 (persist 0 64 (put 0 (replicate 64 0) (fill 0 64 (fresh small).volume))))) []

pub write_lost : MayWrite with_failed_write [] (failed_write_lines (codes "data 00*512"))
unfolding digits number_of data_of runs_of data_within data_text read_pages answer_line lines_of words_of command_action line_input refusal size first_line total_lines volume_line reading restart_events bad_numbers write look_blocks states_read blocks_read listed files_read file_words tables_of slots_of words_read
write_lost =
    may_write with_failed_write (Through ∷ Halted Failed false false ∷ Through ∷ Recovered untouched ∷ Through ∷ []) (failed_write_lines (codes "data 00*512"))
    (tt, (refl, (tt, (record { blocks = inl refl; volume = refl; files = refl; state = refl }, (tt, tt))))) refl

pub write_kept : MayWrite with_failed_write [] (failed_write_lines (codes "data 01*512"))
unfolding digits number_of data_of runs_of data_within data_text read_pages answer_line lines_of words_of command_action line_input refusal size first_line total_lines volume_line reading restart_events bad_numbers write look_blocks states_read blocks_read listed files_read file_words tables_of slots_of words_read
write_kept =
    may_write with_failed_write (Through ∷ Halted Failed false false ∷ Through ∷ Recovered with_ones ∷ Through ∷ []) (failed_write_lines (codes "data 01*512"))
    (tt, (refl, (tt, (record { blocks = inr refl; volume = refl; files = refl; state = refl }, (tt, tt))))) refl

pub write_lost_by_the_second_recovery : MayWrite with_failed_recovery [] (failed_recovery_lines (codes "data 00*512"))
unfolding digits number_of data_of runs_of data_within data_text read_pages answer_line lines_of words_of command_action line_input refusal size first_line total_lines volume_line reading restart_events bad_numbers write look_blocks states_read blocks_read listed files_read file_words tables_of slots_of words_read
write_lost_by_the_second_recovery =
    may_write with_failed_recovery (Through ∷ Halted Failed false false ∷ Through ∷ Halted Failed false false ∷ Recovered untouched ∷ Through ∷ []) (failed_recovery_lines (codes "data 00*512"))
    (tt, (refl, (tt, (refl, (record { blocks = inl refl; volume = refl; files = refl; state = refl }, (tt, tt)))))) refl

pub write_kept_by_the_second_recovery : MayWrite with_failed_recovery [] (failed_recovery_lines (codes "data 01*512"))
unfolding digits number_of data_of runs_of data_within data_text read_pages answer_line lines_of words_of command_action line_input refusal size first_line total_lines volume_line reading restart_events bad_numbers write look_blocks states_read blocks_read listed files_read file_words tables_of slots_of words_read
write_kept_by_the_second_recovery =
    may_write with_failed_recovery (Through ∷ Halted Failed false false ∷ Through ∷ Halted Failed false false ∷ Recovered with_ones ∷ Through ∷ []) (failed_recovery_lines (codes "data 01*512"))
    (tt, (refl, (tt, (refl, (record { blocks = inr refl; volume = refl; files = refl; state = refl }, (tt, tt)))))) refl

pub restart_cut : MayWrite with_cut_restart (leaving_fives ∷ leaving_fives ∷ []) cut_restart_lines
unfolding digits number_of data_of runs_of data_within data_text read_pages answer_line lines_of words_of command_action line_input refusal size first_line total_lines volume_line reading restart_events bad_numbers write look_blocks states_read blocks_read listed files_read file_words tables_of slots_of words_read
restart_cut =
    may_write with_cut_restart (Through ∷ Through ∷ Through ∷ StartHalted leaving_fives Lost false false ∷ Through ∷ Started leaving_fives ∷ Through ∷ []) cut_restart_lines
    (tt, (tt, (tt, ((refl, left_by Lasts leaving_fives.image off [] refl refl refl refl refl refl tt, refl), (tt, ((refl, left_by Lasts leaving_fives.image once_more [] refl refl refl refl refl refl tt), (tt, tt))))))) refl
  where
    off : Machine
    off = record with_fives { mode = modes.Off; cut_armed = true }

    once_more : Machine
    once_more = record with_fives { mode = modes.Off }

pub restart_failed : MayWrite with_failed_restart (leaving Lasts [] ∷ []) failed_restart_lines
unfolding digits number_of data_of runs_of data_within data_text read_pages answer_line lines_of words_of command_action line_input refusal size first_line total_lines volume_line reading restart_events bad_numbers write look_blocks states_read blocks_read listed files_read file_words tables_of slots_of words_read
restart_failed =
    may_write with_failed_restart (Through ∷ Through ∷ StartHalted (leaving Lasts []) Failed false false ∷ Recovered untouched ∷ []) failed_restart_lines
    (tt, (tt, ((refl, left_by _ _ _ [] refl refl refl refl refl refl tt, refl), (record { blocks = refl; volume = refl; files = refl; state = refl }, tt)))) refl

pub cut_before_failure : MayWrite with_cut_before_failure (leaving Lasts [] ∷ []) cut_before_failure_lines
unfolding digits number_of data_of runs_of data_within data_text read_pages answer_line lines_of words_of command_action line_input refusal size first_line total_lines volume_line reading restart_events bad_numbers write look_blocks states_read blocks_read listed files_read file_words tables_of slots_of words_read
cut_before_failure =
    may_write with_cut_before_failure (Through ∷ Through ∷ Halted Lost false true ∷ StartHalted (leaving Lasts []) Failed false false ∷ []) cut_before_failure_lines
    (tt, (tt, (refl, ((refl, left_by _ _ _ [] refl (inl refl) refl refl refl refl tt, refl), tt)))) refl

pub sync_failed : MayWrite with_failed_sync [] failed_sync_lines
unfolding digits word_from byte_over word_over reaches number_of runs_of data_within data_text fill put persist discard first_bad_line first_uncovered_line look read_pages answer_line lines_of words_of command_action line_input refusal size first_line total_lines volume_line reading restart_events bad_numbers states_read blocks_read listed files_read file_words tables_of slots_of words_read
sync_failed =
    may_write with_failed_sync (Through ∷ Through ∷ Through ∷ Through ∷ Halted Failed false false ∷ Through ∷ Recovered with_sevens ∷ Through ∷ []) failed_sync_lines
    (tt, (tt, (tt, (tt, (refl, (tt, (record { blocks = refl; volume = unsynced 0 8 with_sevens.volume; files = refl; state = refl }, (tt, tt)))))))) refl

-- the write of two blocks where a failure is armed, and once it came, with what is armed still
abbrev ready : Machine
ready = record (fresh small) { fail_armed = true }

abbrev failing : Bool → Bool → Machine
failing cut fail = halted (while_interrupted ready the_write) Failed cut fail

recovery_shows : (shown : List ℕ) (cut fail : Bool) (answers : List Answer) → Later (failing cut fail) (Asked Recover ∷ Asked (BRead 0 2) ∷ []) answers
    → reply_text answers ≡ text (codes "ok bad 0" ∷ line shown ∷ []) → Whole shown
unfolding refusal words_read listed read_pages size first_line
recovery_shows shown cut fail answers later wrote =
    let one = began_recovering (failing cut fail) Recover (Asked (BRead 0 2) ∷ []) answers later refl in
    by_end one.0 one.1 one.2 one.4 one.5 (sym (ap reply_text one.3) ∙ wrote)
  where
    by_end : (answer : Answer) (next : Machine) (rest : List Answer)
        → ((answer ≡ mounted_answer next) × RecoveryMayLeave (failing cut fail) next) ⊎ ((by : Interruption) × (answer ≡ interrupted_answer by) × Interrupts by (failing cut fail) next)
        → Later next (Asked (BRead 0 2) ∷ []) rest → reply_text (answer ∷ rest) ≡ text (codes "ok bad 0" ∷ line shown ∷ []) → Whole shown
    by_end answer next rest (inl (is, left)) later e =
        let state = left.state ∙ ap (λ files. record (holding small next.blocks next.volume files) { cut_armed = cut; fail_armed = fail }) (none_left next.files left.files) in
        mounted_shows shown next.blocks next.volume cut fail left.blocks (ap bad_lines left.volume) rest
        (subst (λ k. Later k (Asked (BRead 0 2) ∷ []) rest) state later) (sym (ap (λ a. reply_text (a ∷ rest)) (is ∙ ap mounted_answer state)) ∙ e)
    by_end answer next rest (inr stop) later e = absurd (never_stopped stop.0 rest 111 _ (omega arith) (sym (ap (λ a. reply_text (a ∷ rest)) stop.1) ∙ e))

failed_shows : (shown : List ℕ) (answers : List Answer) → Later ready (Asked the_write ∷ Asked Recover ∷ Asked (BRead 0 2) ∷ []) answers
    → reply_text answers ≡ text (codes "refused device" ∷ codes "ok bad 0" ∷ line shown ∷ []) → Whole shown
unfolding refusal answer_line
failed_shows shown answers later wrote =
    let one = began_working ready the_write (Asked Recover ∷ Asked (BRead 0 2) ∷ []) answers later Done (written ready) refl in
    by_end one.0 one.1 one.2 one.4 one.5 (sym (ap reply_text one.3) ∙ wrote)
  where
    by_end : (answer : Answer) (next : Machine) (rest : List Answer) → Ends Done (written ready) (while_interrupted ready the_write) answer next
        → Later next (Asked Recover ∷ Asked (BRead 0 2) ∷ []) rest
        → reply_text (answer ∷ rest) ≡ text (codes "refused device" ∷ codes "ok bad 0" ∷ line shown ∷ []) → Whole shown
    by_end answer next rest (inl good) later e =
        let first : 111 ≡ 114 = ap (λ (s : List ℕ). slice_index s 0) (sym (ap (λ a. reply_text (a ∷ rest)) good.0) ∙ e) in absurd (omega (arith, first))
    by_end answer next rest (inr (Lost, is, stop)) later e = absurd (false≢true stop.armed)
    by_end answer next rest (inr (Failed, is, stop)) later e =
        recovery_shows shown next.cut_armed next.fail_armed rest (subst (λ k. Later k (Asked Recover ∷ Asked (BRead 0 2) ∷ []) rest) stop.state later)
        (ap (drop 15) (sym (ap (λ a. reply_text (a ∷ rest)) is) ∙ e))

pub pair_all_or_nothing : (starts : List Start) (shown : List ℕ) → MayWrite with_failed_pair starts (failed_pair_lines (line shown)) → Whole shown
unfolding digits number_of runs_of data_within answer_line lines_of words_of command_action line_input refusal
pair_all_or_nothing starts shown may =
    let one = began_ordering (fresh small) (FailIn 1) (Asked the_write ∷ Asked Recover ∷ Asked (BRead 0 2) ∷ []) may.said.answers (may.said, may.end, refl, may.run)
    (ForFailure 1) ready refl in
    failed_shows shown one.0 one.2 (ap (drop 3) (sym (ap reply_text one.1) ∙ may.written))

pub pair_never_in_part : (starts : List Start) → ¬ MayWrite with_failed_pair starts (failed_pair_lines (codes "data 11*512,00*512"))
pair_never_in_part starts may = never_half (pair_all_or_nothing starts (codes "11*512,00*512") may)
