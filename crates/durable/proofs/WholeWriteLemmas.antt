-- What is there once a write as a whole was stopped, and the storage is mounted.
use Rattle.std.proofs.Common.{◌≡◌, ◌<◌, ◌⊎◌, ◌*◌, inl, inr, ℕ, ◌+◌, ◌/◌, ◌%◌, Bool, true, false, cond, Option, Some, None, List, [], ◌∷◌, slice_index_or, refl, sym, ap, subst, ◌∙◌, arith}
use Rattle.std.specs.Int.{byte_at}
use Rattle.std.proofs.lemmas.Bool.{both_ways}
use Rattle.std.proofs.lemmas.Option.{get_or_from_slice_get, slice_get-get_or}
use Rattle.line_device.specs.History.{newest}
use Rattle.line_device.specs.Panel.{Image}
use Rattle.line_device.specs.declared.line.Choice.{Choice}
use Rattle.nvm_model.specs.Cell.{Cell, KeepsCell}
use Rattle.nvm_model.specs.Cell.Cell.{Bad, Kept}
use Rattle.nvm_model.specs.Numbered.{list_from}
use Rattle.nvm_model.specs.Page.{KeepsPages, Page, cell_of, presence_of, read_pages}
use Rattle.nvm_model.specs.Storage.{Block, File}
use Rattle.nvm_model.proofs.NumberedLemmas.{slice_get-list_from}
use Rattle.nvm_model.proofs.PageLemmas.{cell_of-read_pages, presence_of-read_pages}
use Rattle.reply_text.specs.Answer.{Answer}
use Rattle.reply_text.specs.Answer.Answer.{Done, DoneBad, Stopped as MountStopped}
use Rattle.script_text.specs.Action.{Action}
use Rattle.script_text.specs.Action.Action.{Recover, Restart}
use Rattle.script_text.specs.Script.{Input}
use Rattle.script_text.specs.Script.Input.{Skipped, Malformed, Overlong, Asked}
use Rattle.block_device.specs.Images.{IsEither}
use Rattle.block_device.specs.Reading.{blocks_read}
use Rattle.word_tables.specs.Layout.{volume_line}
use Rattle.word_tables.specs.declared.geometry.Geometry.{Geometry}
use Rattle.machine_model.specs.Commands.{MayLeaveBlocks, MayLeaveFiles, MayLeaveVolume, meaning, refusal, unless_refused}
use Rattle.std.specs.Prelude.{◌≢◌}
use Rattle.machine_model.specs.declared.mode.Mode.TheVariants.{On}
use Rattle.machine_model.specs.Machine.{Machine}
use Rattle.machine_model.specs.Machine.Fate.{Works}
use Rattle.machine_model.specs.OnPages.{pages_named}
use Rattle.machine_model.specs.Run.{Hears, Run, Takes, Transcript}
use Rattle.durable.specs.Place.{byte_at_place, is_line_present, line_has}
use Rattle.durable.specs.Place.Place.{of_file, of_volume}
use Rattle.durable.specs.Durable.{AllHaveLines, HaveLines, IsLineThere}
use Rattle.durable.specs.Events.{AreMounted}
use Rattle.durable.specs.Files.{BreaksOff, IsStopped}
use Rattle.durable.specs.Whole.{BreaksOffFor, HasEither, Held, IsMount, MayShow, NoMountAsked, Shows, ShowsEither, ShowsFiles, ShowsVolume, WholeWrite, command, held_by, written}
use Rattle.durable.specs.Whole.WholeWrite.{atomic, together, discards, clears, atomic_blocks, blocks_together, discards_blocks, scars, discards_volume, clears_volume}
use Rattle.durable.proofs.FileLemmas.{done_or_stopped, not_stopped}
use Rattle.durable.proofs.FileThereLemmas.{lines-files_left, lines-named}
use Rattle.durable.proofs.NamedPageLemmas.{named-read}
use Rattle.durable.proofs.PresenceLemmas.{absent_line}
use Rattle.durable.proofs.RefusalLemmas.{is_off, is_on, refused_told}
use Rattle.durable.proofs.RefusedAnswerLemmas.{is_refused}
use Rattle.durable.proofs.StepKinds.{Returns, Step}
use Rattle.durable.proofs.StepKinds.Step.{idles, alters, stops, returns, remounts, empties}
use Rattle.durable.proofs.StepLemmas.{mounts_anew, reads_back, step_of, stops_on}
use Rattle.durable.proofs.ThereLemmas.{is_there, lines-left}

-- it is done by work on the device
works_on : (write : WholeWrite) (h : Machine) → (to : Machine) × ((meaning (command write)).comes h ≡ Works Done to)
works_on (atomic name offset bytes) h = (record h { files = (written (atomic name offset bytes) (held_by h)).files }, refl)
works_on (together name ranges bytes) h = (record h { files = (written (together name ranges bytes) (held_by h)).files }, refl)
works_on (discards name page count) h = (record h { files = (written (discards name page count) (held_by h)).files }, refl)
works_on (clears name offset) h = (record h { files = (written (clears name offset) (held_by h)).files }, refl)
works_on (atomic_blocks block bytes) h = (record h { blocks = (written (atomic_blocks block bytes) (held_by h)).blocks }, refl)
works_on (blocks_together ranges bytes) h = (record h { blocks = (written (blocks_together ranges bytes) (held_by h)).blocks }, refl)
works_on (discards_blocks block count) h = (record h { blocks = (written (discards_blocks block count) (held_by h)).blocks }, refl)
works_on (scars ranges) h = (record h { blocks = (written (scars ranges) (held_by h)).blocks }, refl)
works_on (discards_volume page count) h = (record h { volume = (written (discards_volume page count) (held_by h)).volume }, refl)
works_on (clears_volume offset) h = (record h { volume = (written (clears_volume offset) (held_by h)).volume }, refl)

-- it was begun, and stopped
pub record IsBroken (h : Machine) (action : Action) (next : Machine) : Type 0 where
  pub none : refusal h action ≡ None
  mode : next.mode ≢ On
  blocks : next.blocks ≡ h.blocks
  volume : next.volume ≡ h.volume
  files : next.files ≡ h.files
  mappings : next.mappings ≡ h.mappings
  interrupted : next.interrupted ≡ Some action

pub broken : (write : WholeWrite) (h next : Machine) → BreaksOff h (command write) next → IsBroken h (command write) next
broken write h next breaks = by_refusal (refusal h (command write)) refl breaks.came
  where
    by_refusal : (o : Option Answer) → refusal h (command write) ≡ o → Takes h (command write) (unless_refused h o ((meaning (command write)).comes h)) breaks.said next
        → IsBroken h (command write) next
    by_refusal (Some answer) is took =
        absurd (both_ways (is_refused answer) (not_stopped answer (subst IsStopped (ap (λ s. s.answers) took.0) breaks.stopped)) (refused_told h (command write) answer is))
    by_refusal None is took =
        let t = subst (λ f. Takes h (command write) f breaks.said next) (works_on write h).1 took in
        elim t.2 as (λ _. IsBroken h (command write) next) [
          | inl end ↦ absurd (done_or_stopped t.0 (subst IsStopped (ap (λ s. s.answers) t.1) breaks.stopped) (inl end.0))
          | inr end ↦ record {
            none = is;
            mode = λ on. stops_on end.0 (sym (ap (λ m. m.mode) end.2.state) ∙ on);
            blocks = ap (λ m. m.blocks) end.2.state;
            volume = ap (λ m. m.volume) end.2.state;
            files = ap (λ m. m.files) end.2.state;
            mappings = ap (λ m. m.mappings) end.2.state;
            interrupted = ap (λ m. m.interrupted) end.2.state;
          }
        ]

-- and stays so while none asks for a mount
broken_step : (h m next : Machine) (action other : Action) (answer : Answer) → (IsMount other → ⊥) → IsBroken h action m → Step m other answer next → IsBroken h action next
broken_step h m next action other answer waits at (idles why to) = record {
  none = at.none;
  mode = λ on. at.mode (to.mode on);
  blocks = to.blocks ∙ at.blocks;
  volume = to.volume ∙ at.volume;
  files = to.files ∙ at.files;
  mappings = to.mappings ∙ at.mappings;
  interrupted = to.interrupted ∙ at.interrupted;
}
broken_step h m next action other answer waits at (alters begun none to) = absurd (at.mode (is_on m other to.needs none))
broken_step h m next action other answer waits at (stops by is none to) = absurd (at.mode (is_on m other to.needs none))
broken_step h m next action other answer waits at (returns covers back) = absurd (waits covers.1)
broken_step h m next action other answer waits at (remounts covers back) = absurd (waits covers.1)
broken_step h m next action other answer waits at (empties covers to) = absurd (waits covers.1)

broken_run : (inputs : List Input) (h m next : Machine) (action : Action) (said : Transcript) → NoMountAsked inputs → IsBroken h action m → Run m inputs said next → IsBroken h action next
broken_run [] h m next action said waits at run = subst (IsBroken h action) (sym run.1) at
broken_run (Skipped ∷ inputs) h m next action said waits at run =
    broken_run inputs h run.2 next action run.1 waits (subst (IsBroken h action) (sym run.4.1) at) run.5
broken_run (Malformed ∷ inputs) h m next action said waits at run =
    broken_run inputs h run.2 next action run.1 waits (subst (IsBroken h action) (sym run.4.1) at) run.5
broken_run (Overlong ∷ inputs) h m next action said waits at run =
    broken_run inputs h run.2 next action run.1 waits (subst (IsBroken h action) (sym run.4.1) at) run.5
broken_run (Asked other ∷ inputs) h m next action said waits at run =
    let taken = step_of m other run.0 run.2 run.4 in
    broken_run inputs h run.2 next action run.1 waits.1 (broken_step h m run.2 action other taken.answer waits.0 at taken.step) run.5

broken_for : (write : WholeWrite) (h next : Machine) → BreaksOffFor h (command write) next → IsBroken h (command write) next
broken_for write h next breaks = broken_run breaks.inputs h breaks.at next (command write) breaks.said breaks.waits (broken write h breaks.at breaks.broke) breaks.run

-- what is left is the same as this
record IsLeft (held left : Held) : Type 0 where
  blocks : left.blocks ≡ held.blocks
  volume : left.volume ≡ held.volume
  files : left.files ≡ held.files

-- so a mount finds all old or all new
module _ (h : Machine) (left : Held) where
  left_blocks : (new : List Block) → IsEither h.blocks new left.blocks → left.volume ≡ h.volume → left.files ≡ h.files
      → IsLeft (held_by h) left ⊎ IsLeft (record (held_by h) { blocks = new }) left
  left_blocks new (inl old) volume files = inl (record { blocks = old; volume = volume; files = files })
  left_blocks new (inr is) volume files = inr (record { blocks = is; volume = volume; files = files })

  left_volume : (new : List Page) → left.blocks ≡ h.blocks → (left.volume ≡ h.volume) ⊎ (left.volume ≡ new) → left.files ≡ h.files
      → IsLeft (held_by h) left ⊎ IsLeft (record (held_by h) { volume = new }) left
  left_volume new blocks (inl old) files = inl (record { blocks = blocks; volume = old; files = files })
  left_volume new blocks (inr is) files = inr (record { blocks = blocks; volume = is; files = files })

  left_files : (new : List File) → left.blocks ≡ h.blocks → left.volume ≡ h.volume → (left.files ≡ h.files) ⊎ (left.files ≡ new)
      → IsLeft (held_by h) left ⊎ IsLeft (record (held_by h) { files = new }) left
  left_files new blocks volume (inl old) = inl (record { blocks = blocks; volume = volume; files = old })
  left_files new blocks volume (inr is) = inr (record { blocks = blocks; volume = volume; files = is })

  by_write : (geo : Geometry) (w : WholeWrite) → MayLeaveBlocks (Some (command w)) h.blocks left.blocks → MayLeaveVolume geo (Some (command w)) h.volume left.volume
      → MayLeaveFiles h.mappings (Some (command w)) h.files left.files → IsLeft (held_by h) left ⊎ IsLeft (written w (held_by h)) left
  by_write geo (atomic name offset bytes) blocks volume files = left_files (written (atomic name offset bytes) (held_by h)).files blocks volume files
  by_write geo (together name ranges bytes) blocks volume files = left_files (written (together name ranges bytes) (held_by h)).files blocks volume files
  by_write geo (discards name page count) blocks volume files = left_files (written (discards name page count) (held_by h)).files blocks volume files
  by_write geo (clears name offset) blocks volume files = left_files (written (clears name offset) (held_by h)).files blocks volume files
  by_write geo (atomic_blocks block bytes) blocks volume files = left_blocks (written (atomic_blocks block bytes) (held_by h)).blocks blocks volume files
  by_write geo (blocks_together ranges bytes) blocks volume files = left_blocks (written (blocks_together ranges bytes) (held_by h)).blocks blocks volume files
  by_write geo (discards_blocks block count) blocks volume files = left_blocks (written (discards_blocks block count) (held_by h)).blocks blocks volume files
  by_write geo (scars ranges) blocks volume files = left_blocks (written (scars ranges) (held_by h)).blocks blocks volume files
  by_write geo (discards_volume page count) blocks volume files = left_volume (written (discards_volume page count) (held_by h)).volume blocks volume files
  by_write geo (clears_volume offset) blocks volume files = left_volume (written (clears_volume offset) (held_by h)).volume blocks volume files

old_or_new : (write : WholeWrite) (h next : Machine) (left : Held) → IsBroken h (command write) next → MayLeaveBlocks next.interrupted next.blocks left.blocks
    → MayLeaveVolume next.geometry next.interrupted next.volume left.volume → MayLeaveFiles next.mappings next.interrupted next.files left.files
    → IsLeft (held_by h) left ⊎ IsLeft (written write (held_by h)) left
old_or_new write h next left at blocks volume files =
    by_write h left next.geometry write (subst (λ o. MayLeaveBlocks o h.blocks left.blocks) at.interrupted (subst (λ old. MayLeaveBlocks next.interrupted old left.blocks) at.blocks blocks))
    (subst (λ o. MayLeaveVolume next.geometry o h.volume left.volume) at.interrupted (subst (λ old. MayLeaveVolume next.geometry next.interrupted old left.volume) at.volume volume))
    (subst (λ o. MayLeaveFiles h.mappings o h.files left.files) at.interrupted
    (subst (λ ms. MayLeaveFiles ms next.interrupted h.files left.files) at.mappings (subst (λ old. MayLeaveFiles next.mappings next.interrupted old left.files) at.files files)))

-- a mount that was done was not refused
mounted_allowed : (answer : Answer) → AreMounted (answer ∷ []) → is_refused answer ≡ false
mounted_allowed answer (inl done) = let same : answer ≡ DoneBad done.0 = cc done.1 in ap is_refused same
mounted_allowed answer (inr bad) = let same : answer ≡ MountStopped bad.0 = cc bad.1 in ap is_refused same

pub recovered : (write : WholeWrite) (h next later : Machine) (said : Transcript) → BreaksOffFor h (command write) next → Hears next (Asked Recover) said later → AreMounted said.answers
    → HasEither write h later
recovered write h next later said breaks heard mounted = by_refusal (refusal next Recover) refl heard
  where
    at : IsBroken h (command write) next
    at = broken_for write h next breaks

    by_refusal : (o : Option Answer) → refusal next Recover ≡ o → Takes next Recover (unless_refused next o ((meaning Recover).comes next)) said later → HasEither write h later
    by_refusal (Some answer) is took =
        absurd (both_ways (is_refused answer) (mounted_allowed answer (subst AreMounted (ap (λ s. s.answers) took.0) mounted)) (refused_told next Recover answer is))
    by_refusal None is took = elim took.2 as (λ _. HasEither write h later) [
      | inl end ↦ elim (mounts_anew next later next.bad_meta refl end.1) as (λ _. HasEither write h later) [
        | inl back ↦ elim (old_or_new write h next (held_by later) at back.blocks back.volume back.files) as (λ _. HasEither write h later) [
          | inl old ↦ inl (inl (record { blocks = old.blocks; volume = old.volume; files = old.files }))
          | inr new ↦ inl (inr (record { blocks = new.blocks; volume = new.volume; files = new.files }))
        ]
        | inr gone ↦ inr gone.nothing
      ]
      | inr end ↦ inl (inl (record {
        blocks = ap (λ m. m.blocks) end.2.state ∙ at.blocks;
        volume = ap (λ m. m.volume) end.2.state ∙ at.volume;
        files = ap (λ m. m.files) end.2.state ∙ at.files;
      }))
    ]

-- of bytes that are the same the same may be shown
shown_same : (unit : ℕ) (choice : Choice) (o : Option Cell) (w : ℕ) (one other : ℕ → Option ℕ) → ((k : ℕ) → k < 8 → other k ≡ one k) → MayShow unit choice o w one → MayShow unit choice o w other
shown_same unit choice None w one other same may = λ k lt. same k lt ∙ may k lt
shown_same unit choice (Some Bad) w one other same may = λ k lt. same k lt ∙ may k lt
shown_same unit choice (Some (Kept weak words)) w one other same may = (may.0, may.1, λ k lt. same k lt ∙ may.2 k lt)

-- what a restart reads of pages
shows_read : (choice : Choice) (place : ℕ → ℕ) (image : Image) (pages : List Page) (w : ℕ) → HaveLines pages → KeepsPages choice place image pages
    → MayShow image.unit choice (cell_of pages (w / 8)) (w % 8) (λ k. line_has (cell_of (read_pages place image (presence_of pages)) (w / 8)) (8 * (w % 8) + k))
shows_read choice place image pages w lines keeps = by_presence (is_line_present pages (w / 8)) refl
  where
    read : List Page
    read = read_pages place image (presence_of pages)

    word : ℕ → List ℕ
    word p = image.word p ∷ []

    words_left : List (List ℕ)
    words_left = list_from word (8 * place (w / 8)) 8

    value : ℕ
    value = image.word (8 * place (w / 8) + w % 8)

    shows : Bool → ℕ → Option ℕ
    shows bad k = line_has (Some (cond bad Bad (Kept (image.is_weak (place (w / 8))) words_left))) (8 * (w % 8) + k)

    -- byte k of the word that is left
    byte_left : (k : ℕ) → k < 8 → shows false k ≡ Some (byte_at k value)
    byte_left k lt =
        let i : ℕ = 8 * (w % 8) + k in
        let at : i / 8 ≡ w % 8 = omega arith in
        let rest : i % 8 ≡ k = omega arith in
        ap (λ v. Some (byte_at (i % 8) (newest (slice_index_or words_left v [])))) at
        ∙ ap (λ h. Some (byte_at (i % 8) (newest h))) (get_or_from_slice_get words_left (w % 8) (value ∷ []) [] (slice_get-list_from word (8 * place (w / 8)) 8 (w % 8) (omega arith)))
        ∙ ap (λ j. Some (byte_at j value)) rest

    by_cell : (o : Option Cell) → IsLineThere o → ((cell : Cell) → o ≡ Some cell → KeepsCell choice image (place (w / 8)) cell)
        → MayShow image.unit choice o (w % 8) (shows (image.is_bad (place (w / 8))))
    by_cell None none kept = absurd none
    by_cell (Some Bad) size kept = λ k lt. ap (λ b. shows b k) (kept Bad refl)
    by_cell (Some (Kept weak words)) size kept =
        let keeps_cell = kept (Kept weak words) refl in (
          value,
          keeps_cell.2 (w % 8) (slice_index_or words (w % 8) []) (slice_get-get_or words (w % 8) [] (omega (arith, size))),
          λ k lt. ap (λ b. shows b k) keeps_cell.0 ∙ byte_left k lt,
        )

    by_presence : (b : Bool) → is_line_present pages (w / 8) ≡ b → MayShow image.unit choice (cell_of pages (w / 8)) (w % 8) (λ k. line_has (cell_of read (w / 8)) (8 * (w % 8) + k))
    by_presence true there =
        subst (λ o. MayShow image.unit choice (cell_of pages (w / 8)) (w % 8) (λ k. line_has o (8 * (w % 8) + k))) (sym (cell_of-read_pages place image (presence_of pages) (w / 8) (is_there (presence_of pages) (w / 8 / 64) there)))
        (by_cell (cell_of pages (w / 8)) (lines (w / 8) there) (keeps (w / 8)))
    by_presence false absent =
        subst (λ o. MayShow image.unit choice o (w % 8) (λ k. line_has (cell_of read (w / 8)) (8 * (w % 8) + k))) (sym (absent_line pages (w / 8) absent))
        (λ k lt. ap (λ o. line_has o (8 * (w % 8) + k)) (absent_line read (w / 8) (ap (λ bs. slice_index_or bs (w / 8 / 64) false) (presence_of-read_pages place image (presence_of pages)) ∙ absent)))

-- byte k of word w of pages, by its line
byte_in_line : (pages : List Page) (w k : ℕ) → k < 8 → line_has (cell_of pages ((8 * w + k) / 64)) ((8 * w + k) % 64) ≡ line_has (cell_of pages (w / 8)) (8 * (w % 8) + k)
byte_in_line pages w k lt =
    let line : (8 * w + k) / 64 ≡ w / 8 = omega arith in
    let at : (8 * w + k) % 64 ≡ 8 * (w % 8) + k = omega arith in
    ap (λ n. line_has (cell_of pages n) ((8 * w + k) % 64)) line ∙ ap (line_has (cell_of pages (w / 8))) at

-- what a restart that was asked for this shows of pages that it read
shows_back : (choice : Choice) (next later : Machine) (back : Returns next later) → back.choice ≡ choice → (place : ℕ → ℕ) (pages read : List Page) → HaveLines pages
    → KeepsPages back.choice place back.image pages → read ≡ read_pages place back.image (presence_of pages) → (byte : ℕ → Option ℕ) → ((i : ℕ) → byte i ≡ line_has (cell_of read (i / 64)) (i % 64))
    → (w : ℕ) → MayShow later.unit choice (cell_of pages (w / 8)) (w % 8) (λ k. byte (8 * w + k))
shows_back choice next later back same place pages read lines keeps is byte shown w =
    subst (λ u. MayShow u choice (cell_of pages (w / 8)) (w % 8) (λ k. byte (8 * w + k))) (sym back.image_unit)
    (subst (λ c. MayShow back.image.unit c (cell_of pages (w / 8)) (w % 8) (λ k. byte (8 * w + k))) same
    (shown_same back.image.unit back.choice (cell_of pages (w / 8)) (w % 8) (λ k. line_has (cell_of (read_pages place back.image (presence_of pages)) (w / 8)) (8 * (w % 8) + k)) (λ k. byte (8 * w + k))
    (λ k lt. shown (8 * w + k) ∙ ap (λ p. line_has (cell_of p ((8 * w + k) / 64)) ((8 * w + k) % 64)) is ∙ byte_in_line (read_pages place back.image (presence_of pages)) w k lt)
    (shows_read back.choice place back.image pages w lines keeps)))

shows_files : (choice : Choice) (next later : Machine) (back : Returns next later) → back.choice ≡ choice → AllHaveLines next.files → ShowsFiles choice back.may.files_left later
shows_files choice next later back same lines name =
    let left : List File = back.may.files_left in
    let read = named-read back.choice next.geometry back.image name left back.may.files in
    shows_back choice next later back same read.place (pages_named name left) (pages_named name later.files)
    (lines-named name left (lines-files_left next.mappings next.interrupted next.files left lines back.may.may_files)) read.keeps
    (ap (pages_named name) back.files ∙ read.is) (λ i. byte_at_place later (of_file name i)) (λ i. refl)

shows_volume : (choice : Choice) (next later : Machine) (back : Returns next later) → back.choice ≡ choice → HaveLines next.volume → ShowsVolume choice back.may.left later
shows_volume choice next later back same lines =
    shows_back choice next later back same (volume_line next.geometry) back.may.left later.volume
    (lines-left next.geometry next.interrupted next.volume back.may.left lines back.may.may) back.may.volume
    (back.volume ∙ ap (read_pages (volume_line next.geometry) back.image) (sym back.may.there)) (λ i. byte_at_place later (of_volume i)) (λ i. refl)

pub restarted : (write : WholeWrite) (h next later : Machine) (choice : Choice) (said : Transcript) → BreaksOffFor h (command write) next → Hears next (Asked (Restart choice)) said later
    → AreMounted said.answers ⊎ IsStopped said.answers → ShowsEither choice write h later
restarted write h next later choice said breaks heard mounted = by_refusal (refusal next (Restart choice)) refl heard
  where
    at : IsBroken h (command write) next
    at = broken_for write h next breaks

    allowed : (answer : Answer) → said.answers ≡ answer ∷ [] → AreMounted said.answers ⊎ IsStopped said.answers → is_refused answer ≡ false
    allowed answer is (inl done) = mounted_allowed answer (subst AreMounted is done)
    allowed answer is (inr stopped) = not_stopped answer (subst IsStopped is stopped)

    by_back : (back : Returns next later) → back.choice ≡ choice → ShowsEither choice write h later
    by_back back same =
        elim (old_or_new write h next left at back.may.blocks back.may.may back.may.may_files) as (λ _. ShowsEither choice write h later) [
          | inl old ↦ inl (inl (as_left (held_by h) old))
          | inr new ↦ inl (inr (as_left (written write (held_by h)) new))
        ]
      where
        left : Held
        left = record { blocks = blocks_read next.geometry back.image.is_bad back.image.word; volume = back.may.left; files = back.may.files_left }

        as_left : (held : Held) → IsLeft held left → Shows choice held later
        as_left held is = record {
          blocks = back.blocks ∙ is.blocks;
          volume = subst (λ pages. ShowsVolume choice pages later) is.volume
              (shows_volume choice next later back same (subst HaveLines (sym at.volume) breaks.broke.whole.lines));
          files = subst (λ files. ShowsFiles choice files later) is.files (shows_files choice next later back same (subst AllHaveLines (sym at.files) breaks.broke.whole.file_lines));
        }

    by_refusal : (o : Option Answer) → refusal next (Restart choice) ≡ o → Takes next (Restart choice) (unless_refused next o ((meaning (Restart choice)).comes next)) said later
        → ShowsEither choice write h later
    by_refusal (Some answer) is took =
        absurd (both_ways (is_refused answer) (allowed answer (ap (λ s. s.answers) took.0) mounted) (refused_told next (Restart choice) answer is))
    by_refusal None is took =
        elim (reads_back next choice took.0.image took.1 later (is_off next (Restart choice) refl is) took.4 took.5) as (λ _. ShowsEither choice write h later) [
          | inl back ↦ by_back back.0 back.1
          | inr gone ↦ inr gone.nothing
        ]
