-- What may come of a cut in a change of files: all of it or nothing.
use Rattle.std.proofs.Common.{◌≡◌, ◌⊎◌, ℕ, ◌+◌, Bool, true, false, inl, inr, None, List, [], ◌∷◌, ◌++◌, drop, map, slice_index, append-nil, refl, sym, ap, subst, ◌∙◌, arith}
use Rattle.std.specs.Prelude.{codes}
use Rattle.std.proofs.lemmas.List.{append_cancel_right}
use Rattle.std.specs.Fmt.{digits}
use Rattle.line_device.specs.Panel.{Image, Start}
use Rattle.line_device.specs.declared.line.Choice.TheVariants.{Firsts}
use Rattle.line_device.specs.declared.order.Order.TheVariants.{Cut as ForCut}
use Rattle.line_words.specs.declared.interruption.Interruption.TheVariants.{Failed, PowerLost as Lost}
use Rattle.nvm_base.specs.Numbers.{number_of}
use Rattle.word_tables.specs.Layout.{size, first_line, total_lines, volume_line}
use Rattle.word_log.specs.Replay.{listed}
use Rattle.nvm_model.specs.Files.{entry_of_file, new_file}
use Rattle.nvm_model.specs.Listing.{AreAlike, file_name}
use Rattle.nvm_model.specs.Page.Page.{Absent}
use Rattle.nvm_model.specs.Page.{Page, bad_lines, presence_of, read_pages}
use Rattle.nvm_model.specs.Storage.{File}
use Rattle.block_device.specs.Reading.{states_read, blocks_read}
use Rattle.pm_volume.specs.Presence.{presence_read, words_read}
use Rattle.inode_table.specs.Words.{bytes_in, slots_of}
use Rattle.file_journal.specs.Files.{UnitFile, files_of, unit_file_name}
use Rattle.file_journal.specs.Reading.{tables_of, tables_read, words_read as file_words}
use Rattle.file_journal.specs.Standing.{KeepsFile, KeepsFiles, files_read, line_of_file}
use Rattle.reply_text.specs.Answer.{Answer, answer_line, reply_text}
use Rattle.reply_text.specs.Answer.Answer.{Done, DoneBad, Files}
use Rattle.script_text.specs.Action.{Action}
use Rattle.script_text.specs.Action.Action.{Create, CutIn, Delete, ListFiles, Rename, Restart}
use Rattle.script_text.specs.Script.{lines_of, words_of, command_action, line_input}
use Rattle.script_text.specs.Script.Input.{Asked}
use Rattle.machine_model.specs.declared.mode.Mode.TheVariants as modes
use Rattle.machine_model.specs.Commands.{refusal, while_interrupted}
use Rattle.machine_rows.specs.CutRows.{MayWrite}
use Rattle.machine_rows.specs.FileRows.{cut_change_lines, with_cut_deletion, with_cut_renaming, with_inode}
use Rattle.machine_model.specs.Machine.{Machine}
use Rattle.machine_model.specs.Restarting.{MayLeaveStorage, fresh, holding, mounted_answer, read_with, reading, restarted}
use Rattle.machine_model.specs.WorkedScripts.{small, text}
use Rattle.machine_rows.specs.Rows.{leaving}
use Rattle.machine_model.specs.Run.{Ends}
use Rattle.machine_rows.proofs.FailureRunLemmas.{left_by, may_write}
use Rattle.machine_rows.proofs.FailureRunLemmas.Turn.{Through, Halted, Started}
use Rattle.machine_rows.proofs.HoleFileLemmas.{holes_read}
use Rattle.machine_rows.proofs.LastLemmas.{keeps-last}
use Rattle.machine_rows.proofs.PartLemmas.{Later, began_giving, began_ordering, began_restarting, began_working, never_stopped, no_bad_line, nothing_more}
use Rattle.nvm_model.specs.Events.{bad_numbers, restart_events}

-- a file of one hole, named by one byte
abbrev one_hole : ℕ → List File
one_hole byte = new_file (byte ∷ []) 1 ∷ []

-- the machine with the file, as the cut is armed, and once it came
abbrev made : Machine
made = record (fresh small) { files = one_hole 97 }

abbrev ready : Machine
ready = record made { cut_armed = true }

abbrev renaming : Action
renaming = Rename (97 ∷ []) (98 ∷ [])

abbrev deletion : Action
deletion = Delete (97 ∷ [])

abbrev struck : Action → Bool → Bool → Machine
struck action cut fail = record (while_interrupted ready action) { mode = modes.Off; cut_armed = cut; fail_armed = fail }

-- an image with its inode alone keeps it
abbrev on_no_unit : ℕ → UnitFile
on_no_unit byte = record { name = byte ∷ []; units = None ∷ [] }

hole_kept : (image : Image) (byte : ℕ) → files_of (tables_read small image.word) ≡ on_no_unit byte ∷ [] → KeepsFiles Firsts small image (one_hole byte)
hole_kept image byte is =
    subst (λ (on : List UnitFile). AreAlike unit_file_name file_name (KeepsFile Firsts small image) on (one_hole byte)) (sym is)
    (refl, record { there = refl; keeps = keeps-last Firsts (line_of_file small (on_no_unit byte)) image (Absent ∷ []) refl }, tt)

pub deletion_lost : MayWrite with_cut_deletion (leaving Firsts (with_inode 0 97 1) ∷ []) (cut_change_lines (codes "files a:1"))
unfolding digits number_of read_pages words_read answer_line lines_of words_of command_action line_input refusal size first_line total_lines volume_line reading restart_events bad_numbers states_read blocks_read listed files_read file_words tables_of slots_of bytes_in
deletion_lost =
    may_write with_cut_deletion (Through ∷ Through ∷ Halted Lost false false ∷ Started (leaving Firsts (with_inode 0 97 1)) ∷ Through ∷ []) (cut_change_lines (codes "files a:1"))
    (tt, (tt, (refl, ((refl, left_by Firsts (leaving Firsts (with_inode 0 97 1)).image (struck deletion false false) (one_hole 97) refl refl refl refl refl (inl refl) (hole_kept (leaving Firsts (with_inode 0 97 1)).image 97 refl)), (tt, tt))))) refl

pub deletion_kept : MayWrite with_cut_deletion (leaving Firsts [] ∷ []) (cut_change_lines (codes "files"))
unfolding digits number_of read_pages words_read answer_line lines_of words_of command_action line_input refusal size first_line total_lines volume_line reading restart_events bad_numbers states_read blocks_read listed files_read file_words tables_of slots_of bytes_in
deletion_kept =
    may_write with_cut_deletion (Through ∷ Through ∷ Halted Lost false false ∷ Started (leaving Firsts []) ∷ Through ∷ []) (cut_change_lines (codes "files"))
    (tt, (tt, (refl, ((refl, left_by Firsts (leaving Firsts []).image (struck deletion false false) [] refl refl refl refl refl (inr refl) tt), (tt, tt))))) refl

pub renaming_lost : MayWrite with_cut_renaming (leaving Firsts (with_inode 0 97 1) ∷ []) (cut_change_lines (codes "files a:1"))
unfolding digits number_of read_pages words_read answer_line lines_of words_of command_action line_input refusal size first_line total_lines volume_line reading restart_events bad_numbers states_read blocks_read listed files_read file_words tables_of slots_of bytes_in
renaming_lost =
    may_write with_cut_renaming (Through ∷ Through ∷ Halted Lost false false ∷ Started (leaving Firsts (with_inode 0 97 1)) ∷ Through ∷ []) (cut_change_lines (codes "files a:1"))
    (tt, (tt, (refl, ((refl, left_by Firsts (leaving Firsts (with_inode 0 97 1)).image (struck renaming false false) (one_hole 97) refl refl refl refl refl (inl refl) (hole_kept (leaving Firsts (with_inode 0 97 1)).image 97 refl)), (tt, tt))))) refl

pub renaming_kept : MayWrite with_cut_renaming (leaving Firsts (with_inode 0 98 1) ∷ []) (cut_change_lines (codes "files b:1"))
unfolding digits number_of read_pages words_read answer_line lines_of words_of command_action line_input refusal size first_line total_lines volume_line reading restart_events bad_numbers states_read blocks_read listed files_read file_words tables_of slots_of bytes_in
renaming_kept =
    may_write with_cut_renaming (Through ∷ Through ∷ Halted Lost false false ∷ Started (leaving Firsts (with_inode 0 98 1)) ∷ Through ∷ []) (cut_change_lines (codes "files b:1"))
    (tt, (tt, (refl, ((refl, left_by Firsts (leaving Firsts (with_inode 0 98 1)).image (struck renaming false false) (one_hole 98) refl refl refl refl refl (inr refl) (hole_kept (leaving Firsts (with_inode 0 98 1)).image 98 refl)), (tt, tt))))) refl

-- the state at rest of the pages that an image leaves and of these files, with what is armed
abbrev back : Image → List File → Bool → Bool → Machine
back image files cut fail =
    record (holding small (fresh small).blocks (read_pages (volume_line small) image (presence_read small image.word)) files) { cut_armed = cut; fail_armed = fail }

-- the old name or the new one is shown
abbrev pub EitherName : List ℕ → Type 0
EitherName shown = (shown ≡ codes " a:1") ⊎ (shown ≡ codes " b:1")

-- a mount found a file of one hole, and it is listed
module _ (image : Image) (cut fail : Bool) (byte : ℕ) (seen shown : List ℕ) (shows : answer_line (Files (map entry_of_file (one_hole byte))) ≡ codes "files" ++ (seen ++ 10 ∷ [])) where
  list_shows : (answers : List Answer) → Later (back image (one_hole byte) cut fail) (Asked ListFiles ∷ []) answers → reply_text answers ≡ text ((codes "files" ++ shown) ∷ []) → shown ≡ seen
  unfolding refusal
  list_shows answers later wrote =
      let h = back image (one_hole byte) cut fail in
      let one = began_giving h ListFiles [] answers later (Files (map entry_of_file (one_hole byte))) h refl in
      let last = nothing_more h one.0 one.2 in
      let same : codes "files" ++ (seen ++ 10 ∷ []) ≡ text ((codes "files" ++ shown) ∷ []) =
      sym (append-nil _ ∙ shows) ∙ sym (ap (λ rest. reply_text (Files (map entry_of_file (one_hole byte)) ∷ rest)) last) ∙ sym (ap reply_text one.1) ∙ wrote in
      sym (append_cancel_right seen shown (10 ∷ []) (ap (drop 5) same))

  back_shows : bad_lines (back image (one_hole byte) cut fail).volume ≡ 0 → (rest : List Answer) → Later (back image (one_hole byte) cut fail) (Asked ListFiles ∷ []) rest
      → reply_text (mounted_answer (back image (one_hole byte) cut fail) ∷ rest) ≡ text (codes "ok bad 0" ∷ (codes "files" ++ shown) ∷ []) → shown ≡ seen
  unfolding answer_line digits size first_line reading restart_events bad_numbers states_read blocks_read listed
  back_shows healthy rest later e =
      let none : mounted_answer (back image (one_hole byte) cut fail) ≡ DoneBad 0 = ap (λ n. DoneBad (0 + n + 0)) healthy in
      list_shows rest later (ap (drop 9) (sym (ap (λ a. reply_text (a ∷ rest)) none) ∙ e))

shows_old : answer_line (Files (map entry_of_file (one_hole 97))) ≡ codes "files" ++ (codes " a:1" ++ 10 ∷ [])
unfolding answer_line digits
shows_old = refl

shows_new : answer_line (Files (map entry_of_file (one_hole 98))) ≡ codes "files" ++ (codes " b:1" ++ 10 ∷ [])
unfolding answer_line digits
shows_new = refl

-- so it is after a mount that found the one name or the other
mounted_shows : (image : Image) (cut fail : Bool) (shown : List ℕ) (files : List File) → (files ≡ one_hole 97) ⊎ (files ≡ one_hole 98)
    → bad_lines (back image files cut fail).volume ≡ 0 → (rest : List Answer) → Later (back image files cut fail) (Asked ListFiles ∷ []) rest
    → reply_text (mounted_answer (back image files cut fail) ∷ rest) ≡ text (codes "ok bad 0" ∷ (codes "files" ++ shown) ∷ []) → EitherName shown
mounted_shows image cut fail shown files (inl old) healthy rest later e =
    inl (back_shows image cut fail 97 (codes " a:1") shown shows_old healthy rest (subst (λ (fs : List File). Later (back image fs cut fail) (Asked ListFiles ∷ []) rest) old later)
    (sym (ap (λ (fs : List File). reply_text (mounted_answer (back image fs cut fail) ∷ rest)) old) ∙ e))
mounted_shows image cut fail shown files (inr new) healthy rest later e =
    inr (back_shows image cut fail 98 (codes " b:1") shown shows_new healthy rest (subst (λ (fs : List File). Later (back image fs cut fail) (Asked ListFiles ∷ []) rest) new later)
    (sym (ap (λ (fs : List File). reply_text (mounted_answer (back image fs cut fail) ∷ rest)) new) ∙ e))

-- a restart reads the file by the one name or the other
read_either : (image : Image) (left : List File) → (left ≡ one_hole 97) ⊎ (left ≡ one_hole 98) → KeepsFiles Firsts small image left → (files_read small image ≡ one_hole 97) ⊎ (files_read small image ≡ one_hole 98)
unfolding read_pages
read_either image left (inl old) keeps = inl (holes_read Firsts small image (one_hole 97) (λ place. refl, tt) (subst (KeepsFiles Firsts small image) old keeps))
read_either image left (inr new) keeps = inr (holes_read Firsts small image (one_hole 98) (λ place. refl, tt) (subst (KeepsFiles Firsts small image) new keeps))

restart_shows : (shown : List ℕ) (cut fail : Bool) (answers : List Answer) → Later (struck renaming cut fail) (Asked (Restart Firsts) ∷ Asked ListFiles ∷ []) answers
    → reply_text answers ≡ text (codes "ok bad 0" ∷ (codes "files" ++ shown) ∷ []) → EitherName shown
unfolding refusal reading restart_events bad_numbers
restart_shows shown cut fail answers later wrote =
    let one = began_restarting (struck renaming cut fail) (Restart Firsts) (Asked ListFiles ∷ []) answers later Firsts refl in
    let keeps = one.5.storage refl in
    let same : restarted (struck renaming cut fail) one.0 ≡ found one.0 =
    ap (λ bad. record (read_with bad small one.0) { unit = one.0.unit; cut_armed = cut; fail_armed = fail }) one.5.metadata
    ∙ ap (λ unit. record (read_with [] small one.0) { unit = unit; cut_armed = cut; fail_armed = fail }) one.5.unit
    ∙ ap (λ bs. record (holding small bs (pages one.0) (files_read small one.0)) { cut_armed = cut; fail_armed = fail }) keeps.blocks in
    by_end one.0 one.1 one.2 one.3 keeps (subst (λ k. Ends (mounted_answer k) k k one.1 one.2) same one.6) one.7 (sym (ap reply_text one.4) ∙ wrote)
  where
    pages : Image → List Page
    pages image = read_pages (volume_line small) image (presence_read small image.word)

    found : Image → Machine
    found image = back image (files_read small image) cut fail

    by_end : (image : Image) (answer : Answer) (next : Machine) (rest : List Answer) → MayLeaveStorage Firsts image (struck renaming cut fail)
        → Ends (mounted_answer (found image)) (found image) (found image) answer next → Later next (Asked ListFiles ∷ []) rest
        → reply_text (answer ∷ rest) ≡ text (codes "ok bad 0" ∷ (codes "files" ++ shown) ∷ []) → EitherName shown
    by_end image answer next rest keeps (inl good) later e =
        mounted_shows image cut fail shown (files_read small image) (read_either image keeps.files_left keeps.may_files keeps.files)
        (no_bad_line image (ap presence_of (sym keeps.may) ∙ keeps.there)) rest
        (subst (λ k. Later k (Asked ListFiles ∷ []) rest) good.1 later) (sym (ap (λ a. reply_text (a ∷ rest)) good.0) ∙ e)
    by_end image answer next rest keeps (inr stop) later e =
        absurd (never_stopped stop.0 rest 111 _ (omega arith) (sym (ap (λ a. reply_text (a ∷ rest)) stop.1) ∙ e))

struck_shows : (shown : List ℕ) (answers : List Answer) → Later ready (Asked renaming ∷ Asked (Restart Firsts) ∷ Asked ListFiles ∷ []) answers
    → reply_text answers ≡ text (codes "power lost" ∷ codes "ok bad 0" ∷ (codes "files" ++ shown) ∷ []) → EitherName shown
unfolding refusal answer_line
struck_shows shown answers later wrote =
    let one = began_working ready renaming (Asked (Restart Firsts) ∷ Asked ListFiles ∷ []) answers later Done renamed refl in
    by_end one.0 one.1 one.2 one.4 one.5 (sym (ap reply_text one.3) ∙ wrote)
  where
    renamed : Machine
    renamed = record ready { files = one_hole 98 }

    by_end : (answer : Answer) (next : Machine) (rest : List Answer) → Ends Done renamed (while_interrupted ready renaming) answer next
        → Later next (Asked (Restart Firsts) ∷ Asked ListFiles ∷ []) rest
        → reply_text (answer ∷ rest) ≡ text (codes "power lost" ∷ codes "ok bad 0" ∷ (codes "files" ++ shown) ∷ []) → EitherName shown
    by_end answer next rest (inl good) later e =
        let first : 111 ≡ 112 = ap (λ (s : List ℕ). slice_index s 0) (sym (ap (λ a. reply_text (a ∷ rest)) good.0) ∙ e) in absurd (omega (arith, first))
    by_end answer next rest (inr (Failed, is, stop)) later e =
        let first : 114 ≡ 112 = ap (λ (s : List ℕ). slice_index s 0) (sym (ap (λ a. reply_text (a ∷ rest)) is) ∙ e) in absurd (omega (arith, first))
    by_end answer next rest (inr (Lost, is, stop)) later e =
        restart_shows shown next.cut_armed next.fail_armed rest
        (subst (λ k. Later k (Asked (Restart Firsts) ∷ Asked ListFiles ∷ []) rest) stop.state later)
        (ap (drop 11) (sym (ap (λ a. reply_text (a ∷ rest)) is) ∙ e))

made_shows : (shown : List ℕ) (answers : List Answer) → Later (fresh small) (Asked (Create (97 ∷ []) 1) ∷ Asked (CutIn 3) ∷ Asked renaming ∷ Asked (Restart Firsts) ∷ Asked ListFiles ∷ []) answers
    → reply_text answers ≡ text (codes "ok" ∷ codes "ok" ∷ codes "power lost" ∷ codes "ok bad 0" ∷ (codes "files" ++ shown) ∷ []) → EitherName shown
unfolding refusal reading restart_events bad_numbers answer_line size first_line total_lines listed files_read file_words tables_of slots_of
made_shows shown answers later wrote =
    let one = began_working (fresh small) (Create (97 ∷ []) 1) (Asked (CutIn 3) ∷ Asked renaming ∷ Asked (Restart Firsts) ∷ Asked ListFiles ∷ []) answers later Done made refl in
    by_end one.0 one.1 one.2 one.4 one.5 (sym (ap reply_text one.3) ∙ wrote)
  where
    by_end : (answer : Answer) (next : Machine) (rest : List Answer) → Ends Done made (while_interrupted (fresh small) (Create (97 ∷ []) 1)) answer next
        → Later next (Asked (CutIn 3) ∷ Asked renaming ∷ Asked (Restart Firsts) ∷ Asked ListFiles ∷ []) rest
        → reply_text (answer ∷ rest) ≡ text (codes "ok" ∷ codes "ok" ∷ codes "power lost" ∷ codes "ok bad 0" ∷ (codes "files" ++ shown) ∷ []) → EitherName shown
    by_end answer next rest (inr stop) later e = absurd (never_stopped stop.0 rest 111 _ (omega arith) (sym (ap (λ a. reply_text (a ∷ rest)) stop.1) ∙ e))
    by_end answer next rest (inl good) later e =
        let one = began_ordering made (CutIn 3) (Asked renaming ∷ Asked (Restart Firsts) ∷ Asked ListFiles ∷ []) rest
        (subst (λ k. Later k (Asked (CutIn 3) ∷ Asked renaming ∷ Asked (Restart Firsts) ∷ Asked ListFiles ∷ []) rest) good.1 later) (ForCut 3) ready refl in
        struck_shows shown one.0 one.2
        (ap (drop 3) (sym (ap reply_text one.1) ∙ ap (drop 3) (sym (ap (λ a. reply_text (a ∷ rest)) good.0) ∙ e)))

pub renaming_all_or_nothing : (starts : List Start) (shown : List ℕ) → MayWrite with_cut_renaming starts (cut_change_lines (codes "files" ++ shown)) → EitherName shown
unfolding digits number_of answer_line lines_of words_of command_action line_input
renaming_all_or_nothing starts shown may = made_shows shown may.said.answers (may.said, may.end, refl, may.run) may.written
