-- No run through a cut reads a part of blocks that were written together.
use Rattle.std.proofs.Common.{◌≡◌, ◌⊎◌, ℕ, ◌+◌, ◌<◌, Bool, inl, inr, None, option_map, List, [], ◌∷◌, ◌++◌, drop, slice_index, append-nil, refl, sym, ap, subst, ◌∙◌, arith}
use Rattle.std.specs.Prelude.{codes}
use Rattle.std.proofs.lemmas.List.{append_cancel_right}
use Rattle.std.specs.Fmt.{digits}
use Rattle.line_device.specs.Panel.{Image, Start}
use Rattle.line_device.specs.declared.line.Choice.{Choice}
use Rattle.line_device.specs.declared.line.Choice.TheVariants.{Firsts}
use Rattle.line_device.specs.declared.order.Order.{Order}
use Rattle.line_device.specs.declared.order.Order.TheVariants.{Cut as ForCut}
use Rattle.line_words.specs.declared.interruption.Interruption.{Interruption}
use Rattle.line_words.specs.declared.interruption.Interruption.TheVariants.{Failed, PowerLost as Lost}
use Rattle.nvm_base.specs.Numbers.{number_of}
use Rattle.nvm_base.specs.Data.{runs_of, data_within, data_text}
use Rattle.word_tables.specs.Layout.{volume_line, size, first_line}
use Rattle.nvm_model.specs.Storage.{Block, File}
use Rattle.nvm_model.specs.Page.{Page, presence_of, read_page, read_pages, bad_lines}
use Rattle.nvm_model.specs.Blocks.{first_obstacle, bad_block_lines, write, look_blocks}
use Rattle.word_log.specs.Replay.{listed}
use Rattle.block_device.specs.Images.{IsEither}
use Rattle.block_device.specs.Reading.{states_read, blocks_read}
use Rattle.inode_table.specs.Words.{slots_of}
use Rattle.file_journal.specs.Reading.{tables_of, words_read as file_words}
use Rattle.file_journal.specs.Standing.{files_read, KeepsFiles}
use Rattle.block_device.specs.Refusals.Refusal.{Unreadable}
use Rattle.reply_text.specs.Answer.{Answer, answer_line, reply_text}
use Rattle.reply_text.specs.Answer.Answer.{Done, DoneBad, Bytes, Refused}
use Rattle.reply_text.specs.declared.reply.Why.TheVariants.{Off}
use Rattle.script_text.specs.Action.{Action}
use Rattle.script_text.specs.Action.Action.{BRead, CutIn, Restart}
use Rattle.script_text.specs.Script.{Input, lines_of, words_of, command_action, line_input}
use Rattle.script_text.specs.Script.Input.{Asked}
use Rattle.machine_model.specs.declared.mode.Mode.TheVariants as modes
use Rattle.pm_volume.specs.Presence.{presence_read, words_read}
use Rattle.nvm_model.specs.Numbered.{map_from}
use Rattle.machine_model.specs.Machine.{Machine}
use Rattle.machine_model.specs.OnBlocks.{refusal_answer}
use Rattle.machine_model.specs.Commands.{fate, meaning, refusal, unless_refused, while_interrupted}
use Rattle.machine_model.specs.Machine.Fate.{Gives, Works, Orders, Restarts, Recovers}
use Rattle.machine_model.specs.Interrupted.{Interrupts, interrupted_answer}
use Rattle.machine_model.specs.Restarting.{MayLeaveStorage, RestartMayLeave, fresh, holding, mounted_answer, read_with, reading, restarted}
use Rattle.machine_model.specs.Recovering.{RecoveryMayLeave}
use Rattle.machine_model.specs.Run.{Transcript, Run, Takes, Ends, followed_by}
use Rattle.machine_model.specs.WorkedScripts.{small, text}
use Rattle.machine_rows.specs.CutRows.{MayWrite, with_cut_write, cut_write_lines}
use Rattle.machine_rows.proofs.CutLemmas.{armed, the_write}
use Rattle.machine_rows.proofs.HoleFileLemmas.{holes_read}

-- a run that gives these answers
abbrev pub Later : Machine → List Input → List Answer → Type 0
Later h inputs answers = (said : Transcript) × (end : Machine) × (said.answers ≡ answers) × Run h inputs said end

-- what a run begins with, by what comes of its first command
module _ (h : Machine) (action : Action) (inputs : List Input) (answers : List Answer) (later : Later h (Asked action ∷ inputs) answers) where
  answers_of : (first rest : Transcript) (answer : Answer) → later.0 ≡ followed_by first rest
      → first.answers ≡ answer ∷ [] → answers ≡ answer ∷ rest.answers
  answers_of first rest answer is one = sym later.2 ∙ ap (λ (t : Transcript). t.answers) is ∙ ap (λ xs. xs ++ rest.answers) one

  pub began_giving : (good : Answer) (to : Machine) → fate h action ≡ Gives good to → (rest : List Answer) × (answers ≡ good ∷ rest) × Later to inputs rest
  began_giving good to is =
      let run = later.3 in
      let took = subst (λ f. Takes h action f run.0 run.2) is run.4 in (
        run.1.answers,
        answers_of run.0 run.1 good run.3 (ap (λ (t : Transcript). t.answers) took.0),
        (run.1, later.1, refl, subst (λ k. Run k inputs run.1 later.1) took.1 run.5),
      )

  pub began_ordering : (order : Order) (to : Machine) → fate h action ≡ Orders order to → (rest : List Answer) × (answers ≡ Done ∷ rest) × Later to inputs rest
  began_ordering order to is =
      let run = later.3 in
      let took = subst (λ f. Takes h action f run.0 run.2) is run.4 in (
        run.1.answers,
        answers_of run.0 run.1 Done run.3 (ap (λ (t : Transcript). t.answers) took.0),
        (run.1, later.1, refl, subst (λ k. Run k inputs run.1 later.1) took.1 run.5),
      )

  pub began_working : (good : Answer) (to : Machine) → fate h action ≡ Works good to
      → (answer : Answer) × (next : Machine) × (rest : List Answer) × (answers ≡ answer ∷ rest) × Ends good to (while_interrupted h action) answer next × Later next inputs rest
  began_working good to is =
      let run = later.3 in
      let took = subst (λ f. Takes h action f run.0 run.2) is run.4 in (
        took.0,
        run.2,
        run.1.answers,
        answers_of run.0 run.1 took.0 run.3 (ap (λ (t : Transcript). t.answers) took.1),
        took.2,
        (run.1, later.1, refl, run.5),
      )

  pub began_restarting : (choice : Choice) → fate h action ≡ Restarts choice
      → (image : Image) × (answer : Answer) × (next : Machine) × (rest : List Answer) × (answers ≡ answer ∷ rest) × RestartMayLeave choice image h
      × Ends (mounted_answer (restarted h image)) (restarted h image) (restarted h image) answer next × Later next inputs rest
  began_restarting choice is =
      let run = later.3 in
      let took = subst (λ f. Takes h action f run.0 run.2) is run.4 in (
        took.0.image,
        took.1,
        run.2,
        run.1.answers,
        answers_of run.0 run.1 took.1 run.3 (ap (λ (t : Transcript). t.answers) took.2),
        took.4,
        took.5,
        (run.1, later.1, refl, run.5),
      )

  pub began_recovering : fate h action ≡ Recovers
      → (answer : Answer) × (next : Machine) × (rest : List Answer) × (answers ≡ answer ∷ rest)
      × (((answer ≡ mounted_answer next) × RecoveryMayLeave h next) ⊎ ((by : Interruption) × (answer ≡ interrupted_answer by) × Interrupts by h next)) × Later next inputs rest
  began_recovering is =
      let run = later.3 in
      let took = subst (λ f. Takes h action f run.0 run.2) is run.4 in (
        took.0,
        run.2,
        run.1.answers,
        answers_of run.0 run.1 took.0 run.3 (ap (λ (t : Transcript). t.answers) took.1),
        took.2,
        (run.1, later.1, refl, run.5),
      )

-- an interruption is not answered by a line that begins like `ok` or `data`
pub never_stopped : (by : Interruption) (rest : List Answer) (c : ℕ) (t : List ℕ) → c < 112 → reply_text (interrupted_answer by ∷ rest) ≡ c ∷ t → ⊥
unfolding answer_line
never_stopped Failed rest c t below e = let first : 114 ≡ c = ap (λ (s : List ℕ). slice_index s 0) e in omega arith
never_stopped Lost rest c t below e = let first : 112 ≡ c = ap (λ (s : List ℕ). slice_index s 0) e in omega arith

-- the state after the write
abbrev pub written : Machine → Machine
written h = record h { blocks = (meaning the_write).blocks h.blocks }

-- a line of data
abbrev pub line : List ℕ → List ℕ
line shown = codes "data " ++ shown

-- the machine once the cut came, with what is armed still
abbrev struck : Bool → Bool → Machine
struck cut fail = record (while_interrupted armed the_write) { mode = modes.Off; cut_armed = cut; fail_armed = fail }

-- none of the volume's lines is bad after it
pub no_bad_line : (image : Image) → presence_of (fresh small).volume ≡ presence_read small image.word → bad_lines (read_pages (volume_line small) image (presence_read small image.word)) ≡ 0
unfolding reading words_read listed read_pages size first_line
no_bad_line image there = ap (λ t. bad_lines (map_from (read_page (volume_line small) image) 0 t)) (sym there)

-- blocks all of which can be read, and what their first two show
record Shows (blocks : List Block) (seen : List ℕ) : Type 0 where
  free : first_obstacle blocks 0 2 ≡ None
  whole : bad_block_lines blocks ≡ 0
  shows : answer_line (Bytes (look_blocks blocks 0 2)) ≡ codes "data " ++ (seen ++ 10 ∷ [])

old_shows : Shows (fresh small).blocks (codes "00*1024")
unfolding digits data_text answer_line size first_line reading states_read blocks_read listed look_blocks
old_shows = record { free = refl; whole = refl; shows = refl }

new_shows : Shows (written (fresh small)).blocks (codes "11*1024")
unfolding digits data_text answer_line size first_line reading states_read blocks_read listed write look_blocks
new_shows = record { free = refl; whole = refl; shows = refl }

pub nothing_more : (h : Machine) (rest : List Answer) → Later h [] rest → rest ≡ []
nothing_more h rest later = sym later.2 ∙ ap (λ (t : Transcript). t.answers) later.3.0

-- the state at rest of these blocks and pages, without files, with what is armed
abbrev pub at_rest : List Block → List Page → Bool → Bool → Machine
at_rest blocks pages cut fail = record (holding small blocks pages []) { cut_armed = cut; fail_armed = fail }

-- a mount found such blocks
module _ (shown : List ℕ) (found : List Block) (pages : List Page) (cut fail : Bool) (blocks : List Block) (is : found ≡ blocks)
    (seen : List ℕ) (good_blocks : Shows blocks seen) where
  abbrev back : Machine
  back = at_rest found pages cut fail

  read_shows : (answers : List Answer) → Later back (Asked (BRead 0 2) ∷ []) answers → reply_text answers ≡ text (line shown ∷ []) → shown ≡ seen
  unfolding refusal
  read_shows answers later wrote =
      let one = began_working back (BRead 0 2) [] answers later (Bytes (look_blocks blocks 0 2)) back came in
      by_end one.0 one.1 one.2 one.4 (nothing_more one.1 one.2 one.5) (sym (ap reply_text one.3) ∙ wrote)
    where
      came : fate back (BRead 0 2) ≡ Works (Bytes (look_blocks blocks 0 2)) back
      came = ap (λ b. unless_refused back (option_map (λ o. refusal_answer (Unreadable o)) (first_obstacle b 0 2)) (Works (Bytes (look_blocks b 0 2)) back)) is
          ∙ ap (λ o. unless_refused back (option_map (λ o. refusal_answer (Unreadable o)) o) (Works (Bytes (look_blocks blocks 0 2)) back)) good_blocks.free

      by_end : (answer : Answer) (next : Machine) (rest : List Answer) → Ends (Bytes (look_blocks blocks 0 2)) back (while_interrupted back (BRead 0 2)) answer next
          → rest ≡ [] → reply_text (answer ∷ rest) ≡ text (line shown ∷ []) → shown ≡ seen
      by_end answer next rest (inl good) last e =
          let same : codes "data " ++ (seen ++ 10 ∷ []) ≡ text (line shown ∷ []) =
          sym (append-nil _ ∙ good_blocks.shows) ∙ sym (ap (λ a. reply_text (a ∷ [])) good.0) ∙ sym (ap (λ r. reply_text (answer ∷ r)) last) ∙ e in
          sym (append_cancel_right seen shown (10 ∷ []) (ap (drop 5) same))
      by_end answer next rest (inr stop) last e = absurd (never_stopped stop.0 rest 100 _ (omega arith) (sym (ap (λ a. reply_text (a ∷ rest)) stop.1) ∙ e))

  back_shows : bad_lines pages ≡ 0 → (rest : List Answer) → Later back (Asked (BRead 0 2) ∷ []) rest
      → reply_text (mounted_answer back ∷ rest) ≡ text (codes "ok bad 0" ∷ line shown ∷ []) → shown ≡ seen
  unfolding answer_line digits
  back_shows healthy rest later e =
      let none : mounted_answer back ≡ DoneBad 0 =
      ap (λ n. DoneBad (n + bad_lines pages + 0)) (ap bad_block_lines is ∙ good_blocks.whole) ∙ ap (λ n. DoneBad (0 + n + 0)) healthy in
      read_shows rest later (ap (drop 9) (sym (ap (λ a. reply_text (a ∷ rest)) none) ∙ e))

-- all or nothing of the write is shown
abbrev pub Whole : List ℕ → Type 0
Whole shown = (shown ≡ codes "00*1024") ⊎ (shown ≡ codes "11*1024")

-- so it is after a mount that found all or nothing of it
pub mounted_shows : (shown : List ℕ) (found : List Block) (pages : List Page) (cut fail : Bool) → IsEither (fresh small).blocks (written (fresh small)).blocks found
    → bad_lines pages ≡ 0 → (rest : List Answer) → Later (at_rest found pages cut fail) (Asked (BRead 0 2) ∷ []) rest
    → reply_text (mounted_answer (at_rest found pages cut fail) ∷ rest) ≡ text (codes "ok bad 0" ∷ line shown ∷ []) → Whole shown
mounted_shows shown found pages cut fail (inl old) healthy rest later e =
    inl (back_shows shown found pages cut fail (fresh small).blocks old (codes "00*1024") old_shows healthy rest later e)
mounted_shows shown found pages cut fail (inr new) healthy rest later e =
    inr (back_shows shown found pages cut fail (written (fresh small)).blocks new (codes "11*1024") new_shows healthy rest later e)

-- without files before a command that leaves them, a restart reads none
pub none_left : (left : List File) → left ≡ (fresh small).files → left ≡ []
unfolding reading files_read file_words tables_of slots_of listed size first_line
none_left left is = is

none_read : (choice : Choice) (image : Image) (left : List File) → left ≡ (fresh small).files → KeepsFiles choice small image left
    → files_read small image ≡ []
none_read choice image left may keeps = holes_read choice small image [] tt (subst (KeepsFiles choice small image) (none_left left may) keeps)

restart_shows : (shown : List ℕ) (cut fail : Bool) (answers : List Answer) → Later (struck cut fail) (Asked (Restart Firsts) ∷ Asked (BRead 0 2) ∷ []) answers
    → reply_text answers ≡ text (codes "ok bad 0" ∷ line shown ∷ []) → Whole shown
unfolding refusal reading
restart_shows shown cut fail answers later wrote =
    let one = began_restarting (struck cut fail) (Restart Firsts) (Asked (BRead 0 2) ∷ []) answers later Firsts refl in
    let same : restarted (struck cut fail) one.0 ≡ found one.0 =
    ap (λ bad. record (read_with bad small one.0) { unit = one.0.unit; cut_armed = cut; fail_armed = fail }) one.5.metadata
    ∙ ap (λ unit. record (read_with [] small one.0) { unit = unit; cut_armed = cut; fail_armed = fail }) one.5.unit ∙ no_files one.0 (one.5.storage refl) in
    by_end one.0 one.1 one.2 one.3 (one.5.storage refl) (subst (λ k. Ends (mounted_answer k) k k one.1 one.2) same one.6) one.7 (sym (ap reply_text one.4) ∙ wrote)
  where
    pages : Image → List Page
    pages image = read_pages (volume_line small) image (presence_read small image.word)

    found : Image → Machine
    found image = at_rest (blocks_read small image.is_bad image.word) (pages image) cut fail

    -- there are no files before it, and none after it
    no_files : (image : Image) → MayLeaveStorage Firsts image (struck cut fail)
        → record (holding small (blocks_read small image.is_bad image.word) (pages image) (files_read small image)) { cut_armed = cut; fail_armed = fail } ≡ found image
    no_files image keeps =
        ap (λ files. record (holding small (blocks_read small image.is_bad image.word) (pages image) files) { cut_armed = cut; fail_armed = fail })
        (none_read Firsts image keeps.files_left keeps.may_files keeps.files)

    by_end : (image : Image) (answer : Answer) (next : Machine) (rest : List Answer) → MayLeaveStorage Firsts image (struck cut fail)
        → Ends (mounted_answer (found image)) (found image) (found image) answer next → Later next (Asked (BRead 0 2) ∷ []) rest
        → reply_text (answer ∷ rest) ≡ text (codes "ok bad 0" ∷ line shown ∷ []) → Whole shown
    by_end image answer next rest keeps (inl good) later e =
        mounted_shows shown (blocks_read small image.is_bad image.word) (pages image) cut fail keeps.blocks (no_bad_line image (ap presence_of (sym keeps.may) ∙ keeps.there)) rest
        (subst (λ k. Later k (Asked (BRead 0 2) ∷ []) rest) good.1 later) (sym (ap (λ a. reply_text (a ∷ rest)) good.0) ∙ e)
    by_end image answer next rest keeps (inr stop) later e =
        absurd (never_stopped stop.0 rest 111 _ (omega arith) (sym (ap (λ a. reply_text (a ∷ rest)) stop.1) ∙ e))

struck_shows : (shown : List ℕ) (answers : List Answer) → Later armed (Asked the_write ∷ Asked (BRead 0 1) ∷ Asked (Restart Firsts) ∷ Asked (BRead 0 2) ∷ []) answers
    → reply_text answers ≡ text (codes "power lost" ∷ codes "refused off" ∷ codes "ok bad 0" ∷ line shown ∷ []) → Whole shown
unfolding refusal reading answer_line
struck_shows shown answers later wrote =
    let one = began_working armed the_write (Asked (BRead 0 1) ∷ Asked (Restart Firsts) ∷ Asked (BRead 0 2) ∷ []) answers later Done (written armed) refl in
    by_end one.0 one.1 one.2 one.4 one.5 (sym (ap reply_text one.3) ∙ wrote)
  where
    by_rest : (cut fail : Bool) (rest : List Answer) → Later (struck cut fail) (Asked (BRead 0 1) ∷ Asked (Restart Firsts) ∷ Asked (BRead 0 2) ∷ []) rest
        → reply_text rest ≡ text (codes "refused off" ∷ codes "ok bad 0" ∷ line shown ∷ []) → Whole shown
    by_rest cut fail rest later e =
        let one = began_giving (struck cut fail) (BRead 0 1) (Asked (Restart Firsts) ∷ Asked (BRead 0 2) ∷ []) rest later (Refused Off) (struck cut fail) refl in
        restart_shows shown cut fail one.0 one.2 (ap (drop 12) (sym (ap reply_text one.1) ∙ e))

    by_end : (answer : Answer) (next : Machine) (rest : List Answer) → Ends Done (written armed) (while_interrupted armed the_write) answer next
        → Later next (Asked (BRead 0 1) ∷ Asked (Restart Firsts) ∷ Asked (BRead 0 2) ∷ []) rest
        → reply_text (answer ∷ rest) ≡ text (codes "power lost" ∷ codes "refused off" ∷ codes "ok bad 0" ∷ line shown ∷ []) → Whole shown
    by_end answer next rest (inl good) later e =
        let first : 111 ≡ 112 = ap (λ (s : List ℕ). slice_index s 0) (sym (ap (λ a. reply_text (a ∷ rest)) good.0) ∙ e) in absurd (omega (arith, first))
    by_end answer next rest (inr (Failed, is, stop)) later e =
        let first : 114 ≡ 112 = ap (λ (s : List ℕ). slice_index s 0) (sym (ap (λ a. reply_text (a ∷ rest)) is) ∙ e) in absurd (omega (arith, first))
    by_end answer next rest (inr (Lost, is, stop)) later e =
        by_rest next.cut_armed next.fail_armed rest
        (subst (λ k. Later k (Asked (BRead 0 1) ∷ Asked (Restart Firsts) ∷ Asked (BRead 0 2) ∷ []) rest) stop.state later)
        (ap (drop 11) (sym (ap (λ a. reply_text (a ∷ rest)) is) ∙ e))

pub write_all_or_nothing : (starts : List Start) (shown : List ℕ) → MayWrite with_cut_write starts (cut_write_lines (line shown)) → Whole shown
unfolding digits number_of runs_of data_within answer_line lines_of words_of command_action line_input refusal reading
write_all_or_nothing starts shown may =
    let one = began_ordering (fresh small) (CutIn 1) (Asked the_write ∷ Asked (BRead 0 1) ∷ Asked (Restart Firsts) ∷ Asked (BRead 0 2) ∷ []) may.said.answers
    (may.said, may.end, refl, may.run) (ForCut 1) armed refl in
    struck_shows shown one.0 one.2 (ap (drop 3) (sym (ap reply_text one.1) ∙ may.written))

-- so no part of it is
pub never_half : ¬ Whole (codes "11*512,00*512")
never_half (inl old) = let byte : 49 ≡ 48 = ap (λ (s : List ℕ). slice_index s 0) old in omega (arith, byte)
never_half (inr new) = let byte : 53 ≡ 49 = ap (λ (s : List ℕ). slice_index s 3) new in omega (arith, byte)

pub write_never_in_part : (starts : List Start) → ¬ MayWrite with_cut_write starts (cut_write_lines (codes "data 11*512,00*512"))
write_never_in_part starts may = never_half (write_all_or_nothing starts (codes "11*512,00*512") may)
