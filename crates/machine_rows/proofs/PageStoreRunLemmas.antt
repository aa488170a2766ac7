-- What may come of a cut in a store into a file.
use Rattle.std.proofs.Common.{◌≡◌, ◌==◌, ◌++◌, inl, inr, ℕ, Bool, true, false, None, Some, Option, List, [], ◌∷◌, map, replicate, if◌then◌else◌, refl, sym, ap, subst, ◌∙◌}
use Rattle.std.specs.Prelude.{codes}
use Rattle.std.specs.Fmt.{digits}
use Rattle.line_device.specs.Panel.{Image}
use Rattle.line_device.specs.Word.{byte_over, reaches, word_from, word_over}
use Rattle.line_device.specs.declared.line.Choice.{Choice}
use Rattle.line_device.specs.declared.line.Choice.TheVariants.{Firsts}
use Rattle.line_words.specs.declared.interruption.Interruption.TheVariants.{PowerLost as Lost}
use Rattle.nvm_base.specs.Data.{data_of, data_text, data_within, runs_of}
use Rattle.nvm_base.specs.Numbers.{number_of}
use Rattle.word_tables.specs.Layout.{first_line, size, total_lines, volume_line}
use Rattle.word_log.specs.Replay.{listed}
use Rattle.nvm_model.specs.Files.{OneFileLeft, new_file}
use Rattle.nvm_model.specs.Interrupted.{MayStore}
use Rattle.nvm_model.specs.Listing.{AreAlike, file_name, file_of}
use Rattle.nvm_model.specs.Page.{Page, fill, first_bad_line, first_uncovered_line, look, presence_of, put, read_pages}
use Rattle.nvm_model.specs.Storage.{File}
use Rattle.nvm_model.proofs.FileLeftLemmas.{one_left-same}
use Rattle.nvm_model.proofs.FileLemmas.{named-is}
use Rattle.nvm_model.proofs.PageLemmas.{presence_of-read_pages}
use Rattle.block_device.specs.Reading.{blocks_read, states_read}
use Rattle.pm_volume.specs.Presence.{words_read}
use Rattle.inode_table.specs.Words.{bytes_in, slots_of}
use Rattle.file_journal.specs.Files.{UnitFile, files_of, unit_file_name}
use Rattle.file_journal.specs.Reading.{tables_of, tables_read, words_read as file_words}
use Rattle.file_journal.specs.Standing.{KeepsFile, KeepsFiles, file_read, files_read, line_of_file, pages_there}
use Rattle.reply_text.specs.Answer.{answer_line}
use Rattle.script_text.specs.Script.{command_action, line_input, lines_of, words_of}
use Rattle.machine_model.specs.declared.mode.Mode.TheVariants as modes
use Rattle.machine_model.specs.Commands.{refusal, while_interrupted}
use Rattle.machine_rows.specs.CutRows.{MayWrite}
use Rattle.machine_rows.specs.FileRows.{with_page_on}
use Rattle.machine_model.specs.Machine.{Machine}
use Rattle.machine_model.specs.OnPages.{pages_named}
use Rattle.machine_rows.specs.PageRows.{cut_file_store_lines, the_file_store, two_holes, with_cut_file_store, with_first_page}
use Rattle.machine_model.specs.Restarting.{RestartMayLeave, fresh, reading}
use Rattle.machine_model.specs.WorkedScripts.{small}
use Rattle.machine_rows.specs.Rows.{leaving}
use Rattle.machine_rows.specs.VolumeRows.{AreTogether, cut_in}
use Rattle.machine_rows.proofs.FailureRunLemmas.{left_by, may_write}
use Rattle.machine_rows.proofs.FailureRunLemmas.Turn.{Halted, Started, Through}
use Rattle.machine_rows.proofs.LastLemmas.{keeps-last, pages_last}
use Rattle.machine_rows.proofs.PartStoreLemmas.{may_store-among, stored_among}
use Rattle.nvm_model.specs.Events.{bad_numbers, restart_events}

-- the pages of the file with one byte stored, and the machine as a store after it was cut
abbrev first_stored : List Page
first_stored = put 0 (5 ∷ []) (fill 0 1 (new_file (codes "a") 2).pages)

abbrev pub one_file : List Page → List File
one_file pages = record { name = codes "a"; pages = pages } ∷ []

abbrev struck : Machine
struck = record (while_interrupted (record (fresh small) { files = one_file first_stored }) the_file_store) { mode = modes.Off }

-- an image whose tables have the file on these units keeps its last values
pub kept_on : (choice : Choice) (image : Image) (units : List (Option ℕ)) (pages : List Page) → files_of (tables_read small image.word) ≡ record { name = codes "a"; units = units } ∷ []
    → presence_of pages ≡ pages_there (record { name = codes "a"; units = units }) → pages_last (line_of_file small (record { name = codes "a"; units = units })) image pages ≡ true
    → KeepsFiles choice small image (one_file pages)
kept_on choice image units pages is there last =
    let on : UnitFile = record { name = codes "a"; units = units } in
    subst (λ (xs : List UnitFile). AreAlike unit_file_name file_name (KeepsFile choice small image) xs (one_file pages)) (sym is)
    (refl, record { there = there; keeps = keeps-last choice (line_of_file small on) image pages last }, tt)

-- the store got to some lines, or nowhere
left_among : (chosen : ℕ → Bool) → OneFileLeft (codes "a") (MayStore 4092 (replicate 8 17)) (one_file first_stored) (one_file (stored_among chosen 4092 (replicate 8 17) first_stored))
left_among chosen = (refl, record { here = λ is. may_store-among chosen 4092 (replicate 8 17) first_stored; beside = λ out. absurd (out refl) }, tt)

pub store_lost : MayWrite with_cut_file_store (leaving Firsts (with_first_page 97 2 ((24064, 5) ∷ [])) ∷ []) (cut_file_store_lines (codes "data 00*8"))
unfolding digits word_from byte_over word_over reaches number_of data_of runs_of data_within data_text fill put first_bad_line first_uncovered_line look read_pages words_read answer_line lines_of words_of command_action line_input refusal size first_line total_lines volume_line reading restart_events bad_numbers states_read blocks_read listed files_read file_words tables_of slots_of bytes_in
store_lost =
    let start = leaving Firsts (with_first_page 97 2 ((24064, 5) ∷ [])) in
    may_write with_cut_file_store (Through ∷ Through ∷ Through ∷ Halted Lost false false ∷ Started start ∷ Through ∷ []) (cut_file_store_lines (codes "data 00*8")) (
      tt,
      (
        tt,
        (
          tt,
          (
            refl,
            (
              (
                refl,
                left_by Firsts start.image struck (one_file first_stored) refl refl refl refl refl
                    (one_left-same (codes "a") (MayStore 4092 (replicate 8 17)) (λ pages. inl refl) (one_file first_stored))
                    (kept_on Firsts start.image (Some 0 ∷ None ∷ []) first_stored refl refl refl),
              ),
              (tt, tt),
            ),
          ),
        ),
      ),
    ) refl

pub hole_alone_filled : MayWrite with_cut_file_store (leaving Firsts (with_page_on 0 1 1 ++ with_first_page 97 2 ((24064, 5) ∷ [])) ∷ []) (cut_file_store_lines (codes "data 00*8"))
unfolding digits word_from byte_over word_over reaches number_of data_of runs_of data_within data_text fill put first_bad_line first_uncovered_line look read_pages words_read answer_line lines_of words_of command_action line_input refusal size first_line total_lines volume_line reading restart_events bad_numbers states_read blocks_read listed files_read file_words tables_of slots_of bytes_in
hole_alone_filled =
    let start = leaving Firsts (with_page_on 0 1 1 ++ with_first_page 97 2 ((24064, 5) ∷ [])) in
    let left = stored_among (λ n. false) 4092 (replicate 8 17) first_stored in
    may_write with_cut_file_store (Through ∷ Through ∷ Through ∷ Halted Lost false false ∷ Started start ∷ Through ∷ []) (cut_file_store_lines (codes "data 00*8")) (
      tt,
      (
        tt,
        (
          tt,
          (
            refl,
            (
              (
                refl,
                left_by Firsts start.image struck (one_file left) refl refl refl refl refl (left_among (λ n. false))
                    (kept_on Firsts start.image (Some 0 ∷ Some 1 ∷ []) left refl refl refl),
              ),
              (tt, tt),
            ),
          ),
        ),
      ),
    ) refl

pub store_in_part : MayWrite with_cut_file_store (leaving Firsts (with_page_on 0 1 1 ++ with_first_page 97 2 ((24064, 5) ∷ (24575, 1229782937960972288) ∷ [])) ∷ []) (cut_file_store_lines (codes "data 11*4,00*4"))
unfolding digits word_from byte_over word_over reaches number_of data_of runs_of data_within data_text fill put first_bad_line first_uncovered_line look read_pages words_read answer_line lines_of words_of command_action line_input refusal size first_line total_lines volume_line reading restart_events bad_numbers states_read blocks_read listed files_read file_words tables_of slots_of bytes_in
store_in_part =
    let start = leaving Firsts (with_page_on 0 1 1 ++ with_first_page 97 2 ((24064, 5) ∷ (24575, 1229782937960972288) ∷ [])) in
    let left = stored_among (λ n. n == 63) 4092 (replicate 8 17) first_stored in
    may_write with_cut_file_store (Through ∷ Through ∷ Through ∷ Halted Lost false false ∷ Started start ∷ Through ∷ []) (cut_file_store_lines (codes "data 11*4,00*4")) (
      tt,
      (
        tt,
        (
          tt,
          (
            refl,
            (
              (
                refl,
                left_by Firsts start.image struck (one_file left) refl refl refl refl refl (left_among (λ n. n == 63))
                    (kept_on Firsts start.image (Some 0 ∷ Some 1 ∷ []) left refl refl refl),
              ),
              (tt, tt),
            ),
          ),
        ),
      ),
    ) refl

-- the pages of the file that a restart read are together, where what was left of it is
pub read_together : (image : Image) (xs : List UnitFile) (y : File) (ys : List File) (choice : Choice) → y.name ≡ codes "a" → AreTogether (presence_of y.pages)
    → AreAlike unit_file_name file_name (KeepsFile choice small image) xs (y ∷ ys) → AreTogether (presence_of (pages_named (codes "a") (map (file_read small image) xs)))
read_together image [] y ys choice is together keeps = absurd keeps
read_together image (x ∷ xs) y ys choice is together keeps =
    subst (λ ps. AreTogether (presence_of ps)) (sym found)
    (subst AreTogether (sym (presence_of-read_pages (line_of_file small x) image (pages_there x) ∙ sym keeps.1.there)) together)
  where
    found : pages_named (codes "a") (map (file_read small image) (x ∷ xs)) ≡ read_pages (line_of_file small x) image (pages_there x)
    found =
        ap (λ (b : Bool). elim (if b then Some (file_read small image x) else file_of file_name (codes "a") (map (file_read small image) xs)) [ None ↦ [] | Some file ↦ file.pages ])
        (named-is file_name (codes "a") (file_read small image x) (keeps.0 ∙ is))

pages_read : (image : Image) (xs : List UnitFile) (left : List File) (choice : Choice) → OneFileLeft (codes "a") (MayStore 4092 (replicate 8 17)) (new_file (codes "a") 2 ∷ []) left
    → AreAlike unit_file_name file_name (KeepsFile choice small image) xs left → AreTogether (presence_of (pages_named (codes "a") (map (file_read small image) xs)))
unfolding fill
pages_read image xs [] choice may keeps = absurd may
pages_read image xs (y ∷ ys) choice may keeps = read_together image xs y ys choice (sym may.0) (by_store (may.1.here refl)) keeps
  where
    by_store : MayStore 4092 (replicate 8 17) (new_file (codes "a") 2).pages y.pages → AreTogether (presence_of y.pages)
    by_store (inl same) = inr (ap presence_of same)
    by_store (inr lines) = inl lines.there

pub holes_filled_together : (choice : Choice) (image : Image) → RestartMayLeave choice image (cut_in two_holes the_file_store) → AreTogether (presence_of (pages_named (codes "a") (files_read small image)))
unfolding reading restart_events bad_numbers files_read
holes_filled_together choice image keeps =
    let storage = keeps.storage refl in pages_read image (files_of (tables_read small image.word)) storage.files_left choice storage.may_files storage.files
