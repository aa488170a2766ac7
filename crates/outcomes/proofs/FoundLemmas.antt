-- What is found after a cut may be found.
use Rattle.std.proofs.Common.{◌≡◌, ◌⊎◌, inl, inr, ℕ, ◌*◌, Bool, true, ◌&&◌, Option, List, [], ◌∷◌, ◌++◌, refl, sym, ap, subst, ◌∙◌}
use Rattle.std.specs.List.{list_all, list_any}
use Rattle.std.proofs.lemmas.Bool.{and_from}
use Rattle.line_device.specs.Panel.{Image}
use Rattle.line_device.specs.declared.line.Choice.{Choice}
use Rattle.word_tables.specs.declared.geometry.Geometry.{Geometry}
use Rattle.word_tables.specs.Layout.{volume_line}
use Rattle.pm_volume.specs.Presence.{presence_read}
use Rattle.nvm_model.specs.Page.{Page, cell_of, presence_of}
use Rattle.nvm_model.specs.Storage.{Block, File, Mapping}
use Rattle.script_text.specs.Action.{Action}
use Rattle.script_text.specs.Action.Action.{Cut}
use Rattle.script_text.specs.Script.{Input}
use Rattle.script_text.specs.Script.Input.{Asked}
use Rattle.machine_model.specs.Machine.{Machine}
use Rattle.machine_model.specs.OnPages.{pages_named}
use Rattle.machine_model.specs.Restarting.{MayLeaveStorage}
use Rattle.machine_model.specs.Run.{Run}
use Rattle.machine_model.specs.Settling.{disarmed}
use Rattle.durable.specs.Durable.{HasNothing, IsComplete, IsCounted}
use Rattle.durable.proofs.FileThereLemmas.{lines-files_left, lines-named}
use Rattle.durable.proofs.NamedPageLemmas.{named-read}
use Rattle.durable.proofs.ThereLemmas.{lines-left}
use Rattle.durable.proofs.StepLemmas.{unit_run}
use Rattle.durable.proofs.WholeLemmas.{whole-run}
use Rattle.outcomes.specs.Blocks.{BlockRead, all_numbers_read, block_fits, is_block_reply}
use Rattle.outcomes.specs.Files.{reads_of}
use Rattle.outcomes.specs.Finds.{Finds, IsReady, armed, may_find}
use Rattle.outcomes.specs.Left.{blocks_may_pass, files_may_pass, volume_may_pass}
use Rattle.outcomes.specs.Outcome.{AllShown}
use Rattle.outcomes.specs.Pages.{all_lines_read, is_reply, line_fits}
use Rattle.outcomes.specs.Seen.{Seen, answers, asked, block_reads, file_reads, may_show, volume_reads}
use Rattle.outcomes.specs.Stops.{IsProgram, stops}
use Rattle.outcomes.proofs.BlockLemmas as on_blocks
use Rattle.outcomes.proofs.FileLemmas.{files_left_pass, read_has, read_length, replies_at}
use Rattle.outcomes.proofs.LeftLemmas.{left_passes}
use Rattle.outcomes.proofs.LineLemmas.{Survives, fits}
use Rattle.outcomes.proofs.LookLemmas.{held, look_shown, mounted}
use Rattle.outcomes.proofs.RestLemmas.{survives}
use Rattle.outcomes.proofs.SeenLemmas.{blocks_answered, files_answered, freads_right, loads_right, pages_answered}
use Rattle.outcomes.proofs.StopLemmas.{Leaves, stop_of}

block_replies_right : (size : ℕ) (blocks : List Block) (reads : List BlockRead) → on_blocks.AllAnswered size blocks reads → list_all (is_block_reply size) reads ≡ true
block_replies_right size blocks [] all = refl
block_replies_right size blocks (r ∷ reads) all =
    and_from (is_block_reply size r) (list_all (is_block_reply size) reads) (on_blocks.block_reply_right size blocks r all.0) (block_replies_right size blocks reads all.1)

-- what a place of the cut may show, by what it has of the storage
abbrev show_of : List Seen → Geometry → List Mapping → Option Action → List Page → List Block → List File → Bool
show_of look geo mappings o volume blocks files =
    (list_all (is_reply (4096 * geo.vpages)) (volume_reads look) && volume_may_pass geo o (line_fits (volume_reads look)) volume (all_lines_read (volume_reads look)))
    && ((list_all (is_block_reply geo.blocks) (block_reads look) && blocks_may_pass o (block_fits (block_reads look)) blocks (all_numbers_read (block_reads look)))
    && files_may_pass mappings o (file_reads look) files)

same_show : (look : List Seen) (place off : Machine) → Leaves place off
    → show_of look off.geometry off.mappings off.interrupted off.volume off.blocks off.files ≡ true → may_show look place ≡ true
same_show look place off left shows =
    sym (ap (λ geo. show_of look geo off.mappings off.interrupted off.volume off.blocks off.files) left.geometry
    ∙ ap (λ m. show_of look place.geometry m off.interrupted off.volume off.blocks off.files) left.mappings
    ∙ ap (λ o. show_of look place.geometry place.mappings o off.volume off.blocks off.files) left.interrupted
    ∙ ap (λ v. show_of look place.geometry place.mappings place.interrupted v off.blocks off.files) left.volume
    ∙ ap (λ b. show_of look place.geometry place.mappings place.interrupted place.volume b off.files) left.blocks
    ∙ ap (λ f. show_of look place.geometry place.mappings place.interrupted place.volume place.blocks f) left.files) ∙ shows

-- what a restart left may be shown
module _ (off : Machine) (look : List Seen) (image : Image) (choice : Choice) (by_words : image.unit ≡ 8) (whole : IsComplete off) (storage : MayLeaveStorage choice image (disarmed off))
    (all : AllShown (held off image) look) where
  volume_shows : (list_all (is_reply (4096 * off.geometry.vpages)) (volume_reads look)
      && volume_may_pass off.geometry off.interrupted (line_fits (volume_reads look)) off.volume (all_lines_read (volume_reads look))) ≡ true
  volume_shows =
      let lines = lines-left off.geometry off.interrupted off.volume storage.left whole.lines storage.may in
      and_from _ _ (loads_right off.geometry image look all)
      (left_passes (volume_reads look) off.geometry off.interrupted off.volume storage.left storage.may (λ n.
      fits (held off image).volume (volume_reads look) n (cell_of storage.left n) (pages_answered off.geometry image look all)
      (survives choice image by_words (volume_line off.geometry) (presence_read off.geometry image.word) storage.left lines storage.there storage.volume n))
      (all_lines_read (volume_reads look)))

  blocks_show : (list_all (is_block_reply off.geometry.blocks) (block_reads look)
      && blocks_may_pass off.interrupted (block_fits (block_reads look)) off.blocks (all_numbers_read (block_reads look))) ≡ true
  blocks_show =
      let blocks = blocks_answered off.geometry image look all in
      and_from _ _ (block_replies_right off.geometry.blocks (held off image).blocks (block_reads look) blocks)
      (on_blocks.left_passes (block_reads look) off.interrupted off.blocks (held off image).blocks storage.blocks
      (λ b. on_blocks.block_fits_reads off.geometry.blocks (held off image).blocks (block_reads look) b blocks) (all_numbers_read (block_reads look)))

  -- the lines of a file that may have been left
  file_lines : (name : List ℕ) (n : ℕ) → line_fits (reads_of name (file_reads look)) n (cell_of (pages_named name storage.files_left) n) ≡ true
  file_lines name n =
      let read = named-read choice off.geometry image name storage.files_left storage.files in
      let lines = lines-named name storage.files_left (lines-files_left off.mappings off.interrupted off.files storage.files_left whole.file_lines storage.may_files) in
      fits (pages_named name (held off image).files) (reads_of name (file_reads look)) n (cell_of (pages_named name storage.files_left) n)
      (files_answered off.geometry image name look all)
      (subst (λ p. Survives (cell_of (pages_named name storage.files_left) n) (cell_of p n)) (sym read.is)
      (survives choice image by_words read.place (presence_of (pages_named name storage.files_left)) (pages_named name storage.files_left) lines refl read.keeps n))

  files_show : files_may_pass off.mappings off.interrupted (file_reads look) off.files ≡ true
  files_show =
      files_left_pass (file_reads look) storage.files_left
      (replies_at (file_reads look) (held off image).files storage.files_left (λ name. read_has choice off.geometry image name storage.files_left storage.files)
      (λ name. read_length choice off.geometry image name storage.files_left storage.files) (freads_right off.geometry image look all))
      file_lines off.mappings off.interrupted off.files storage.may_files

  storage_shows : show_of look off.geometry off.mappings off.interrupted off.volume off.blocks off.files ≡ true
  storage_shows = and_from _ _ volume_shows (and_from _ _ blocks_show files_show)

-- a cut that is armed changes nothing of that
whole-armed : (h : Machine) → IsComplete h → IsComplete (armed h)
whole-armed h whole = record {
  counted = elim whole.counted as (λ _. IsCounted (armed h) ⊎ HasNothing (armed h)) [
    | inl counted ↦ inl (record { blocks = counted.blocks; pages = counted.pages })
    | inr nothing ↦ inr (nothing_armed nothing)
  ];
  eight = whole.eight;
  lines = whole.lines;
  file_lines = whole.file_lines;
  settled = whole.settled;
  stopped = λ is. nothing_armed (whole.stopped is);
}
  where
    nothing_armed : HasNothing h → HasNothing (armed h)
    nothing_armed n = record { metadata = n.metadata; mode = n.mode; blocks = n.blocks; volume = n.volume; files = n.files }

pub found : (h : Machine) (program : List Input) (look : List Seen) → IsReady h → IsProgram program → Finds h program look → may_find h program look ≡ true
found h program look ready of_program f =
    ap (λ p. list_any (may_show look) (stops (armed h) p)) f.split
    ∙ stop_of (may_show look) f.before f.after (armed h) f.off f.said
    (record { whole = whole-armed h ready.whole; unit = ready.unit; mode = ready.mode; settled = ready.settled; metadata = ready.metadata; failures = ready.failures })
    (subst IsProgram f.split of_program) f.ran passes
  where
    whole : IsComplete f.off
    whole = whole-run (f.before ++ Asked Cut ∷ []) (armed h) f.off f.said (whole-armed h ready.whole) f.ran

    passes : (place : Machine) → Leaves place f.off → may_show look place ≡ true
    passes place left =
        let run = f.looked in
        let words = unit_run (f.before ++ Asked Cut ∷ []) (armed h) f.off f.said f.ran ∙ ready.unit in
        let back = mounted f.off f.choice f.bad (answers look) run.0 run.1 run.2 words left.metadata run.4 (sym (ap (λ s. s.answers) run.3) ∙ f.shown) in
        let all = look_shown (held f.off back.0) refl refl look run.1 f.end (subst (λ m. Run m (asked look) run.1 f.end) back.2 run.5) back.3 in
        same_show look place f.off left (storage_shows f.off look back.0 f.choice (back.1.unit ∙ words) whole (back.1.storage left.metadata) all)
