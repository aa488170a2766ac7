-- What may come of a cut while pages are filled or discarded.
use Rattle.std.proofs.Common.{◌≡◌, ◌⊎◌, inl, inr, true, false, List, [], ◌∷◌, refl, ap, subst, replicate}
use Rattle.std.specs.Prelude.{codes}
use Rattle.std.specs.Fmt.{digits}
use Rattle.std.proofs.lemmas.Bool.{false≢true}
use Rattle.line_device.specs.Panel.{Image, Start}
use Rattle.line_device.specs.Word.{word_from, byte_over, word_over, reaches}
use Rattle.line_device.specs.declared.line.Choice.{Choice}
use Rattle.line_device.specs.declared.line.Choice.TheVariants.{Firsts}
use Rattle.line_device.specs.declared.order.Order.TheVariants.{Cut as ForCut}
use Rattle.line_words.specs.declared.interruption.Interruption.TheVariants.{PowerLost as Lost}
use Rattle.nvm_base.specs.Numbers.{number_of}
use Rattle.nvm_base.specs.Data.{data_of, runs_of, data_within, data_text}
use Rattle.word_tables.specs.Layout.{size, first_line, total_lines, volume_line}
use Rattle.word_log.specs.Replay.{listed}
use Rattle.block_device.specs.Reading.{states_read, blocks_read}
use Rattle.inode_table.specs.Words.{slots_of}
use Rattle.file_journal.specs.Reading.{tables_of, words_read as file_words}
use Rattle.file_journal.specs.Standing.{files_read}
use Rattle.nvm_model.specs.Interrupted.{LineByLine, MayPut}
use Rattle.nvm_model.specs.Page.{Page, discard, fill, first_bad_line, first_uncovered_line, look, presence_of, put, read_pages}
use Rattle.pm_volume.specs.Presence.{presence_read, words_read}
use Rattle.reply_text.specs.Answer.{Answer, answer_line}
use Rattle.reply_text.specs.Answer.Answer.{Done, PowerLost}
use Rattle.script_text.specs.Action.{Action}
use Rattle.script_text.specs.Action.Action.{CutIn, Restart, VDiscard, VExists}
use Rattle.script_text.specs.Script.{Input, lines_of, words_of, command_action, line_input}
use Rattle.script_text.specs.Script.Input.{Asked}
use Rattle.machine_model.specs.declared.mode.Mode.TheVariants as modes
use Rattle.machine_model.specs.Machine.{Machine}
use Rattle.machine_model.specs.Commands.{fate, refusal, spending, while_interrupted}
use Rattle.machine_model.specs.Machine.Fate.{Gives, Orders, Restarts, Works}
use Rattle.machine_model.specs.OnVolume.{yes_or_no}
use Rattle.machine_model.specs.Restarting.{RestartMayLeave, fresh, mounted_answer, reading, restarted}
use Rattle.machine_model.specs.WorkedScripts.{small}
use Rattle.machine_rows.specs.Rows.{leaving}
use Rattle.machine_model.specs.Run.{Transcript, Run, answered, followed_by, silence, with_order, with_start, worked}
use Rattle.machine_rows.specs.CutRows.{MayWrite}
use Rattle.machine_rows.specs.VolumeRows.{AreTogether, both_stored, cut_discard_lines, cut_fill_lines, cut_in, the_fill, with_both_pages, with_cut_discard, with_cut_fill}
use Rattle.machine_rows.proofs.LastLemmas.{keeps-last}
use Rattle.machine_rows.proofs.PartStoreLemmas.{stored_among, may_store-among}
use Rattle.nvm_model.specs.Events.{bad_numbers, restart_events}

-- the machine as the cut is armed, once it came, and after the restart
abbrev armed : Machine → Machine
armed h = record h { cut_armed = true }

abbrev struck : Machine → Action → Machine
struck h action = record (while_interrupted (armed h) action) { mode = modes.Off; cut_armed = false }

abbrev back : Machine → Action → Image → Machine
back h action image = restarted (struck h action) image

-- what is said from the order on
abbrev looked : Answer → Answer → Transcript
looked first second = followed_by (answered first) (followed_by (answered second) silence)

abbrev come_back : Machine → Action → Start → Answer → Answer → Transcript
come_back h action start first second =
    followed_by (with_start (spending (struck h action) (Restart Firsts)) start (mounted_answer (back h action start.image))) (looked first second)

abbrev told : Machine → Action → Start → Answer → Answer → Transcript
told h action start first second =
    followed_by (with_order (ForCut 7) Done) (followed_by (worked (spending (armed h) action) PowerLost) (come_back h action start first second))

-- an action that is cut, and then a look at both pages
run_of_cut : (h to : Machine) (action : Action) (start : Start) (first second : Answer) → fate h (CutIn 7) ≡ Orders (ForCut 7) (armed h) → fate (armed h) action ≡ Works Done to
    → fate (struck h action) (Restart Firsts) ≡ Restarts Firsts → start.choice ≡ Firsts → RestartMayLeave Firsts start.image (struck h action)
    → fate (back h action start.image) (VExists 0) ≡ Gives first (back h action start.image) → fate (back h action start.image) (VExists 1) ≡ Gives second (back h action start.image)
    → Run h (Asked (CutIn 7) ∷ Asked action ∷ Asked (Restart Firsts) ∷ Asked (VExists 0) ∷ Asked (VExists 1) ∷ []) (told h action start first second) (back h action start.image)
run_of_cut h to action start first second ordered works restarts chosen keeps one two = (
  with_order (ForCut 7) Done,
  followed_by (worked (spending (armed h) action) PowerLost) (come_back h action start first second),
  armed h,
  refl,
  rw ordered (refl, refl),
  (
    worked (spending (armed h) action) PowerLost,
    come_back h action start first second,
    struck h action,
    refl,
    rw works (PowerLost, refl, inr (Lost, refl, record { armed = refl; state = refl; cut = λ c. absurd (false≢true c); fail = λ f. f })),
    (
      with_start (spending (struck h action) (Restart Firsts)) start (mounted_answer (back h action start.image)),
      looked first second,
      back h action start.image,
      refl,
      rw restarts (start, mounted_answer (back h action start.image), refl, chosen, keeps, inl (refl, refl)),
      (
        answered first,
        followed_by (answered second) silence,
        back h action start.image,
        refl,
        rw one (refl, refl),
        (answered second, silence, back h action start.image, refl, rw two (refl, refl), (refl, refl)),
      ),
    ),
  ),
)

pub fill_lost : MayWrite with_cut_fill (leaving Firsts [] ∷ []) (cut_fill_lines (codes "no") (codes "no"))
unfolding digits number_of data_of runs_of data_within data_text fill put discard first_bad_line first_uncovered_line look read_pages answer_line lines_of words_of command_action line_input refusal size first_line total_lines volume_line reading restart_events bad_numbers states_read blocks_read listed files_read file_words tables_of slots_of words_read
fill_lost =
    let start = leaving Firsts [] in
    record {
      said = told (fresh small) the_fill start (yes_or_no false) (yes_or_no false);
      end = back (fresh small) the_fill start.image;
      run = run_of_cut (fresh small) both_stored_armed the_fill start (yes_or_no false) (yes_or_no false) refl refl refl refl
          (record { unit = refl; metadata = refl; storage = λ _. record { blocks = refl; left = (fresh small).volume; may = inl refl; there = refl; volume = keeps-last Firsts (volume_line small) start.image (fresh small).volume refl; files_left = []; may_files = refl; files = tt } }) refl refl;
      left = refl;
      written = refl;
    }
  where
    both_stored_armed : Machine
    both_stored_armed = record both_stored { cut_armed = true }

pub fill_kept : MayWrite with_cut_fill (leaving Firsts with_both_pages ∷ []) (cut_fill_lines (codes "yes") (codes "yes"))
unfolding digits number_of data_of runs_of data_within data_text fill put discard first_bad_line first_uncovered_line look read_pages answer_line lines_of words_of command_action line_input refusal size first_line total_lines volume_line reading restart_events bad_numbers states_read blocks_read listed files_read file_words tables_of slots_of words_read
fill_kept =
    let start = leaving Firsts with_both_pages in
    let left = stored_among (λ n. false) 4092 (replicate 8 17) (fresh small).volume in
    record {
      said = told (fresh small) the_fill start (yes_or_no true) (yes_or_no true);
      end = back (fresh small) the_fill start.image;
      run = run_of_cut (fresh small) (record both_stored { cut_armed = true }) the_fill start (yes_or_no true) (yes_or_no true) refl refl refl refl
          (record { unit = refl; metadata = refl; storage = λ _. record { blocks = refl; left = left; may = may_store-among (λ n. false) 4092 (replicate 8 17) (fresh small).volume; there = refl; volume = keeps-last Firsts (volume_line small) start.image left refl; files_left = []; may_files = refl; files = tt } }) refl refl;
      left = refl;
      written = refl;
    }

-- a store before the order
run_after_store : (inputs : List Input) (said : Transcript) (end : Machine) → fate (fresh small) the_fill ≡ Works Done both_stored → Run both_stored inputs said end
    → Run (fresh small) (Asked the_fill ∷ inputs) (followed_by (worked (spending (fresh small) the_fill) Done) said) end
run_after_store inputs said end works run =
    (worked (spending (fresh small) the_fill) Done, said, both_stored, refl, rw works (Done, refl, inl (refl, refl)), run)

pub discard_kept : MayWrite with_cut_discard (leaving Firsts [] ∷ []) (cut_discard_lines (codes "no") (codes "no"))
unfolding digits word_from byte_over word_over reaches number_of data_of runs_of data_within data_text fill put discard first_bad_line first_uncovered_line look read_pages answer_line lines_of words_of command_action line_input refusal size first_line total_lines volume_line reading restart_events bad_numbers states_read blocks_read listed files_read file_words tables_of slots_of words_read
discard_kept =
    let start = leaving Firsts [] in
    let action = VDiscard 0 2 in
    let left = discard 0 2 both_stored.volume in
    record {
      said = followed_by (worked (spending (fresh small) the_fill) Done) (told both_stored action start (yes_or_no false) (yes_or_no false));
      end = back both_stored action start.image;
      run = run_after_store (Asked (CutIn 7) ∷ Asked action ∷ Asked (Restart Firsts) ∷ Asked (VExists 0) ∷ Asked (VExists 1) ∷ []) (told both_stored action start (yes_or_no false) (yes_or_no false)) (back both_stored action start.image) refl
          (run_of_cut both_stored (record both_stored { volume = left; cut_armed = true }) action start (yes_or_no false) (yes_or_no false) refl refl refl refl
          (record { unit = refl; metadata = refl; storage = λ _. record { blocks = refl; left = left; may = inr refl; there = refl; volume = keeps-last Firsts (volume_line small) start.image left refl; files_left = []; may_files = refl; files = tt } }) refl refl);
      left = refl;
      written = refl;
    }

pub discard_lost : MayWrite with_cut_discard (leaving Firsts ((18943, 1229782937960972288) ∷ (23552, 286331153) ∷ with_both_pages) ∷ []) (cut_discard_lines (codes "yes") (codes "yes"))
unfolding digits word_from byte_over word_over reaches number_of data_of runs_of data_within data_text fill put discard first_bad_line first_uncovered_line look read_pages answer_line lines_of words_of command_action line_input refusal size first_line total_lines volume_line reading restart_events bad_numbers states_read blocks_read listed files_read file_words tables_of slots_of words_read
discard_lost =
    let start = leaving Firsts ((18943, 1229782937960972288) ∷ (23552, 286331153) ∷ with_both_pages) in
    let action = VDiscard 0 2 in
    record {
      said = followed_by (worked (spending (fresh small) the_fill) Done) (told both_stored action start (yes_or_no true) (yes_or_no true));
      end = back both_stored action start.image;
      run = run_after_store (Asked (CutIn 7) ∷ Asked action ∷ Asked (Restart Firsts) ∷ Asked (VExists 0) ∷ Asked (VExists 1) ∷ []) (told both_stored action start (yes_or_no true) (yes_or_no true)) (back both_stored action start.image) refl
          (run_of_cut both_stored (record both_stored { volume = discard 0 2 both_stored.volume; cut_armed = true }) action start (yes_or_no true) (yes_or_no true) refl refl refl refl
          (record { unit = refl; metadata = refl; storage = λ _. record { blocks = refl; left = both_stored.volume; may = inl refl; there = refl; volume = keeps-last Firsts (volume_line small) start.image both_stored.volume refl; files_left = []; may_files = refl; files = tt } }) refl refl);
      left = refl;
      written = refl;
    }

-- a restart leaves both pages there, or both absent
pub filled_together : (choice : Choice) (image : Image) → RestartMayLeave choice image (cut_in (fresh small) the_fill) → AreTogether (presence_read small image.word)
unfolding fill reading restart_events bad_numbers read_pages words_read listed size first_line
filled_together choice image keeps = subst AreTogether (keeps.storage refl).there (by_store (keeps.storage refl).left (keeps.storage refl).may)
  where
    by_store : (left : List Page) → (left ≡ (fresh small).volume) ⊎ LineByLine (MayPut 4092 (replicate 8 17)) (fill 4092 8 (fresh small).volume) left → AreTogether (presence_of left)
    by_store left (inl same) = inr (ap presence_of same)
    by_store left (inr x) = inl x.there

pub discarded_together : (choice : Choice) (image : Image) → RestartMayLeave choice image (cut_in both_stored (VDiscard 0 2)) → AreTogether (presence_read small image.word)
unfolding fill put discard reading restart_events bad_numbers read_pages words_read listed size first_line
discarded_together choice image keeps = subst AreTogether (keeps.storage refl).there (by_choice (keeps.storage refl).left (keeps.storage refl).may)
  where
    by_choice : (left : List Page) → (left ≡ both_stored.volume) ⊎ (left ≡ discard 0 2 both_stored.volume) → AreTogether (presence_of left)
    by_choice left (inl same) = inl (ap presence_of same)
    by_choice left (inr gone) = inr (ap presence_of gone)
