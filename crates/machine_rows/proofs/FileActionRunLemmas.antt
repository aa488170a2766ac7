-- What may come of a cut in a write of ranges of a file.
use Rattle.std.proofs.Common.{◌≡◌, ◌++◌, ◌⊎◌, inl, inr, ℕ, false, None, Some, List, [], ◌∷◌, map, replicate, refl, subst}
use Rattle.std.specs.Prelude.{codes}
use Rattle.std.specs.Fmt.{digits}
use Rattle.line_device.specs.Panel.{Image}
use Rattle.line_device.specs.Word.{byte_over, reaches, word_from, word_over}
use Rattle.line_device.specs.declared.line.Choice.{Choice}
use Rattle.line_device.specs.declared.line.Choice.TheVariants.{Lasts}
use Rattle.line_words.specs.declared.interruption.Interruption.TheVariants.{PowerLost as Lost}
use Rattle.nvm_base.specs.declared.units.Span.{Span}
use Rattle.nvm_base.specs.Data.{data_of, data_text, data_within, runs_of}
use Rattle.nvm_base.specs.Numbers.{number_of}
use Rattle.word_tables.specs.Layout.{first_line, size, total_lines, volume_line}
use Rattle.word_log.specs.Replay.{listed}
use Rattle.nvm_model.specs.Events.{bad_numbers, restart_events}
use Rattle.nvm_model.specs.Files.{new_file}
use Rattle.nvm_model.specs.Listing.{AreAlike, file_name}
use Rattle.nvm_model.specs.Page.{Page, fill, first_bad_line, first_uncovered_line, look, presence_of, put, read_pages}
use Rattle.nvm_model.specs.Storage.{File}
use Rattle.block_device.specs.Reading.{blocks_read, states_read}
use Rattle.pm_volume.specs.Presence.{words_read}
use Rattle.inode_table.specs.Words.{bytes_in, slots_of}
use Rattle.file_actions.specs.Rewriting.{first_lost, rewritten}
use Rattle.file_journal.specs.Files.{UnitFile, files_of, unit_file_name}
use Rattle.file_journal.specs.Reading.{tables_of, tables_read, words_read as file_words}
use Rattle.file_journal.specs.Standing.{KeepsFile, file_read, files_read}
use Rattle.reply_text.specs.Answer.{answer_line}
use Rattle.script_text.specs.Action.Action.{FMulti}
use Rattle.script_text.specs.Script.{command_action, line_input, lines_of, words_of}
use Rattle.machine_model.specs.declared.mode.Mode.TheVariants as modes
use Rattle.machine_model.specs.Commands.{refusal, while_interrupted}
use Rattle.machine_rows.specs.CutRows.{MayWrite}
use Rattle.machine_rows.specs.FileActionRows.{cut_write_lines, the_file_write, with_cut_write}
use Rattle.machine_rows.specs.FileRows.{with_inode, with_page_on}
use Rattle.machine_model.specs.Machine.{Machine}
use Rattle.machine_model.specs.OnFileActions.{written_together as rewritten_in}
use Rattle.machine_model.specs.OnPages.{pages_named}
use Rattle.machine_rows.specs.PageRows.{two_holes, with_first_page}
use Rattle.machine_model.specs.Restarting.{RestartMayLeave, fresh, reading}
use Rattle.machine_model.specs.WorkedScripts.{small}
use Rattle.machine_rows.specs.Rows.{leaving}
use Rattle.machine_rows.specs.VolumeRows.{AreTogether, cut_in}
use Rattle.machine_rows.proofs.FailureRunLemmas.{left_by, may_write}
use Rattle.machine_rows.proofs.FailureRunLemmas.Turn.{Halted, Started, Through}
use Rattle.machine_rows.proofs.PageStoreRunLemmas.{kept_on, one_file, read_together}

-- ranges in both pages of a file
abbrev both_ranges : List Span
both_ranges = record { start = 0; len = 8 } ∷ record { start = 4096; len = 8 } ∷ []

abbrev both_bytes : List ℕ
both_bytes = replicate 8 1 ++ replicate 8 2

-- the pages of the file with bytes stored in its first one, and the machine as a write of both was cut
abbrev first_stored : List Page
first_stored = put 0 (replicate 8 5) (fill 0 8 (new_file (codes "a") 2).pages)

abbrev struck : Machine
struck = record (while_interrupted (record (fresh small) { files = one_file first_stored }) (FMulti (codes "a") both_ranges both_bytes)) { mode = modes.Off }

pub write_lost : MayWrite with_cut_write (leaving Lasts (with_first_page 97 2 ((24064, 361700864190383365) ∷ [])) ∷ []) (cut_write_lines (codes "data 05*8") (codes "data 00*8"))
unfolding digits word_from byte_over word_over reaches number_of data_of runs_of data_within data_text fill put first_bad_line first_uncovered_line look read_pages words_read answer_line lines_of words_of command_action line_input refusal size first_line total_lines volume_line reading restart_events bad_numbers states_read blocks_read listed files_read file_words tables_of slots_of bytes_in first_lost rewritten
write_lost =
    let start = leaving Lasts (with_first_page 97 2 ((24064, 361700864190383365) ∷ [])) in
    may_write with_cut_write (Through ∷ Through ∷ Through ∷ Halted Lost false false ∷ Started start ∷ Through ∷ Through ∷ []) (cut_write_lines (codes "data 05*8") (codes "data 00*8")) (
      tt,
      (
        tt,
        (
          tt,
          (
            refl,
            (
              (
                refl,
                left_by Lasts start.image struck (one_file first_stored) refl refl refl refl refl (inl refl)
                    (kept_on Lasts start.image (Some 0 ∷ None ∷ []) first_stored refl refl refl),
              ),
              (tt, (tt, tt)),
            ),
          ),
        ),
      ),
    ) refl

pub write_done : MayWrite with_cut_write (leaving Lasts (with_inode 0 97 2 ++ (with_page_on 0 0 1 ++ (with_page_on 0 1 2 ++ ((24576, 72340172838076673) ∷ (25088, 144680345676153346) ∷ [])))) ∷ []) (cut_write_lines (codes "data 01*8") (codes "data 02*8"))
unfolding digits word_from byte_over word_over reaches number_of data_of runs_of data_within data_text fill put first_bad_line first_uncovered_line look read_pages words_read answer_line lines_of words_of command_action line_input refusal size first_line total_lines volume_line reading restart_events bad_numbers states_read blocks_read listed files_read file_words tables_of slots_of bytes_in first_lost rewritten
write_done =
    let start = leaving Lasts (with_inode 0 97 2 ++ (with_page_on 0 0 1 ++ (with_page_on 0 1 2 ++ ((24576, 72340172838076673) ∷ (25088, 144680345676153346) ∷ [])))) in
    may_write with_cut_write (Through ∷ Through ∷ Through ∷ Halted Lost false false ∷ Started start ∷ Through ∷ Through ∷ []) (cut_write_lines (codes "data 01*8") (codes "data 02*8")) (
      tt,
      (
        tt,
        (
          tt,
          (
            refl,
            (
              (
                refl,
                left_by Lasts start.image struck (one_file (rewritten both_ranges both_bytes first_stored)) refl refl refl refl refl (inr refl)
                    (kept_on Lasts start.image (Some 1 ∷ Some 2 ∷ []) (rewritten both_ranges both_bytes first_stored) refl refl refl),
              ),
              (tt, (tt, tt)),
            ),
          ),
        ),
      ),
    ) refl

-- the file was left with its holes, or with both pages written
file_left : (image : Image) (xs : List UnitFile) (left : List File) (choice : Choice)
    → (left ≡ new_file (codes "a") 2 ∷ []) ⊎ (left ≡ rewritten_in (codes "a") (record { start = 0; len = 8 } ∷ record { start = 4096; len = 8 } ∷ []) (replicate 16 1) (new_file (codes "a") 2 ∷ []))
    → AreAlike unit_file_name file_name (KeepsFile choice small image) xs left → AreTogether (presence_of (pages_named (codes "a") (map (file_read small image) xs)))
unfolding rewritten
file_left image xs left choice (inl same) keeps =
    read_together image xs _ [] choice refl (inr refl) (subst (λ ys. AreAlike unit_file_name file_name (KeepsFile choice small image) xs ys) same keeps)
file_left image xs left choice (inr new) keeps =
    read_together image xs _ [] choice refl (inl refl) (subst (λ ys. AreAlike unit_file_name file_name (KeepsFile choice small image) xs ys) new keeps)

pub written_together : (choice : Choice) (image : Image) → RestartMayLeave choice image (cut_in two_holes the_file_write) → AreTogether (presence_of (pages_named (codes "a") (files_read small image)))
unfolding reading restart_events bad_numbers files_read
written_together choice image keeps =
    let storage = keeps.storage refl in file_left image (files_of (tables_read small image.word)) storage.files_left choice storage.may_files storage.files
