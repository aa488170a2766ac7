-- Once the power went, and a look may be shown, a restart leaves what shows it.
use Rattle.std.proofs.Common.{◌≡◌, ◌⊎◌, inl, inr, true, ◌&&◌, None, List, [], ◌∷◌, ◌++◌, map, refl, ap, ◌∙◌}
use Rattle.std.proofs.lemmas.Bool.{and_parts}
use Rattle.line_device.specs.declared.line.Choice.TheVariants.{Firsts}
use Rattle.nvm_model.specs.Page.{Page}
use Rattle.nvm_model.specs.Storage.{File}
use Rattle.reply_text.specs.Answer.{Answer}
use Rattle.reply_text.specs.Answer.Answer.{DoneBad}
use Rattle.script_text.specs.Action.Action.{Cut, Restart}
use Rattle.script_text.specs.Script.{Input}
use Rattle.script_text.specs.Script.Input.{Asked}
use Rattle.machine_model.specs.declared.mode.Mode.TheVariants.{Off}
use Rattle.machine_model.specs.Machine.{Machine, bad_of}
use Rattle.machine_model.specs.Machine.Fate.{Restarts}
use Rattle.machine_model.specs.Commands.{fate, meaning, refusal, unless_refused}
use Rattle.machine_model.specs.Meaning.{first_reason, mode_refusal}
use Rattle.machine_model.specs.Restarting.{holding}
use Rattle.machine_model.specs.Run.{Hears, Run, Transcript, followed_by}
use Rattle.machine_model.specs.Settling.{disarmed}
use Rattle.durable.specs.Durable.{HasNothing, IsComplete, IsCounted}
use Rattle.durable.proofs.FileThereLemmas.{lines-files_left}
use Rattle.durable.proofs.ThereLemmas.{lines-left}
use Rattle.durable.proofs.StepLemmas.{unit_run}
use Rattle.durable.proofs.WholeLemmas.{length-left, pages-left, whole-run}
use Rattle.outcomes.specs.Blocks.{BlockRead}
use Rattle.outcomes.specs.Files.{FileRead}
use Rattle.outcomes.specs.Finds.{Finds, IsReady, armed, may_find}
use Rattle.outcomes.specs.Outcome.{AllShown, BlocksOutcome, FilesHaveValues, FilesOutcome, HaveValues, VolumeOutcome}
use Rattle.outcomes.specs.Pages.{PageRead}
use Rattle.outcomes.specs.Seen.{Seen, answers, asked, block_reads, blocks_may_show, file_reads, files_may_show, volume_may_show, volume_reads}
use Rattle.outcomes.specs.Seen.Seen.{of_volume, of_blocks, of_file}
use Rattle.outcomes.specs.Stops.{IsProgram}
use Rattle.state_images.specs.Left.{MayBeLeft}
use Rattle.state_images.specs.Storable.{IsStorable}
use Rattle.state_images.proofs.MachineLemmas.{run-back}
use Rattle.state_images.proofs.ShapeLemmas.{files-stored, volume-stored}
use Rattle.outcome_runs.specs.Brings.{BringRight}
use Rattle.outcome_runs.specs.Kept.{IsKept}
use Rattle.outcome_runs.proofs.KeptLemmas.{MayMake, blocks_made, left_listed, values_made}
use Rattle.outcome_runs.proofs.LeftLemmas.{blocks_left, eight_words, files_shape}
use Rattle.outcome_runs.proofs.LookRunLemmas.{look_heard}
use Rattle.outcome_runs.proofs.StopRunLemmas.{GoesOn, Stopped, stopped}
use Rattle.outcome_runs.proofs.TrimLemmas.{trim, trim_survives, trim_whole}
use Rattle.outcome_runs.proofs.TrimShownLemmas.{files_shown, files_survive, files_whole, trim_files, volume_shown}

-- reads of the volume, of blocks and of files are those of the look
all_together : (g : Machine) (look : List Seen) → AllShown g (map of_volume (volume_reads look)) → AllShown g (map of_blocks (block_reads look))
    → AllShown g (map of_file (file_reads look)) → AllShown g look
all_together g [] volume blocks files = tt
all_together g (of_volume r ∷ look) volume blocks files = (volume.0, all_together g look volume.1 blocks files)
all_together g (of_blocks r ∷ look) volume blocks files = (blocks.0, all_together g look volume blocks.1 files)
all_together g (of_file r ∷ look) volume blocks files = (files.0, all_together g look volume blocks files.1)

module _ (off : Machine) where
  counted : IsComplete off → off.bad_meta ≡ [] → IsCounted off
  counted whole good = elim whole.counted as (λ _. IsCounted off) [ inl all ↦ all | inr nothing ↦ absurd (nothing.metadata good) ]

  not_refused : off.mode ≡ Off → refusal (disarmed off) (Restart Firsts) ≡ None
  unfolding refusal
  not_refused at = ap (λ m. first_reason (mode_refusal m off.bad_meta (meaning (Restart Firsts)).needs) off.bad_meta ((meaning (Restart Firsts)).reasons (disarmed off))) at

  restarts : off.mode ≡ Off → fate (disarmed off) (Restart Firsts) ≡ Restarts Firsts
  restarts at = ap (λ o. unless_refused (disarmed off) o (Restarts Firsts)) (not_refused at)

  -- what a restart leaves
  module _ (whole : IsComplete off) (kept : IsKept off) (makes : MayMake off off.interrupted) (good : off.bad_meta ≡ []) (vs : List PageRead) (bs : List BlockRead) (fs : List FileRead)
      (volume : VolumeOutcome off vs) (blocks : BlocksOutcome off bs) (files : FilesOutcome off fs) where
    stored : IsStorable off.geometry blocks.left (trim volume.volume) (trim_files files.files)
    stored =
        let lines = lines-left off.geometry off.interrupted off.volume volume.left whole.lines volume.may in
        let file_lines = lines-files_left off.mappings off.interrupted off.files files.left whole.file_lines files.may in
        let count = counted whole good in
        record {
          of_blocks = record {
            all = length-left off.interrupted off.blocks blocks.left blocks.may ∙ count.blocks;
            whole = blocks_left off.interrupted off.blocks blocks.left kept.blocks (blocks_made off off.interrupted makes) blocks.may;
          };
          of_volume = volume-stored off.geometry volume.left (trim volume.volume)
              (record { all = pages-left off.geometry off.interrupted off.volume volume.left volume.may ∙ count.pages; words = eight_words volume.left lines })
              (trim_survives volume.left volume.volume volume.kept) (trim_whole volume.left volume.volume lines volume.kept);
          of_files = files-stored off.geometry files.left (trim_files files.files)
              (files_shape off.geometry files.left (left_listed off off.interrupted files.left kept.listed makes files.may) file_lines)
              (files_survive files.left files.files files.kept) (files_whole files.left files.files file_lines files.kept);
        }

    may_be : MayBeLeft (disarmed off) blocks.left (trim volume.volume) (trim_files files.files)
    may_be = record {
      blocks = blocks.may;
      left = volume.left;
      may = volume.may;
      volume = trim_survives volume.left volume.volume volume.kept;
      files_left = files.left;
      may_files = files.may;
      files = files_survive files.left files.files files.kept;
    }

-- a run that finds a look which is shown where it comes to
looked_at : (h : Machine) (program : List Input) (look : List Seen) (s : Stopped look (armed h) program) (g : Machine)
    → (said : Transcript) × (said.answers ≡ DoneBad (bad_of g) ∷ []) × Hears (disarmed s.off) (Asked (Restart Firsts)) said g
    → (told : Transcript) × (told.answers ≡ answers look) × Run g (asked look) told g → Finds h program look
looked_at h program look s g began looked = record {
  before = s.before;
  after = s.after;
  split = s.split;
  said = s.said;
  off = s.off;
  ran = s.ran;
  choice = Firsts;
  told = followed_by began.0 looked.0;
  end = g;
  looked = (began.0, looked.0, g, refl, began.2, looked.2);
  bad = bad_of g;
  shown = ap (λ (a : List Answer). a ++ looked.0.answers) began.1 ∙ ap (λ (a : List Answer). DoneBad (bad_of g) ∷ a) looked.1;
}

-- a run that finds the look
module _ (volume_found : (off : Machine) (reads : List PageRead) → IsComplete off → HaveValues off.volume → volume_may_show off reads ≡ true → VolumeOutcome off reads)
    (blocks_found : (off : Machine) (reads : List BlockRead) → blocks_may_show off reads ≡ true → BlocksOutcome off reads)
    (files_found : (off : Machine) (reads : List FileRead) → IsComplete off → FilesHaveValues off → files_may_show off reads ≡ true → FilesOutcome off reads) where
  finds : (h : Machine) (program : List Input) (look : List Seen) → h.unit ≡ 8 → IsComplete (armed h) → Stopped look (armed h) program → Finds h program look
  finds h program look by_words complete s =
      let off : Machine = s.off in
      let whole : IsComplete off = whole-run (s.before ++ Asked Cut ∷ []) (armed h) off s.said complete s.ran in
      let parts = and_parts (volume_may_show off (volume_reads look)) (blocks_may_show off (block_reads look) && files_may_show off (file_reads look)) s.shows in
      let others = and_parts (blocks_may_show off (block_reads look)) (files_may_show off (file_reads look)) parts.1 in
      let volume = volume_found off (volume_reads look) whole s.kept.values parts.0 in
      let blocks = blocks_found off (block_reads look) others.0 in
      let files = files_found off (file_reads look) whole (s.kept.file_values, values_made off off.interrupted s.makes) others.1 in
      let pages : List Page = trim volume.volume in
      let all : List File = trim_files files.files in
      let g : Machine = holding off.geometry blocks.left pages all in
      let shown : AllShown g look = all_together g look
      (volume_shown off.geometry blocks.left volume.volume all (volume_reads look) (volume.shown blocks.left all))
      (blocks.shown pages all)
      (files_shown off.geometry blocks.left pages files.files (file_reads look) (files.shown blocks.left pages)) in
      let storable = stored off whole s.kept s.makes s.metadata (volume_reads look) (block_reads look) (file_reads look) volume blocks files in
      let may = may_be off whole s.kept s.makes s.metadata (volume_reads look) (block_reads look) (file_reads look) volume blocks files in
      let began = run-back (disarmed off) blocks.left pages all s.kept.valid storable (unit_run (s.before ++ Asked Cut ∷ []) (armed h) off s.said s.ran ∙ by_words) s.metadata may (restarts off s.mode) in
      looked_at h program look s g began (look_heard g look shown)

  -- a cut that is armed changes nothing of that
  complete_armed : (h : Machine) → IsComplete h → IsComplete (armed h)
  complete_armed h whole = record {
    counted = elim whole.counted as (λ _. IsCounted (armed h) ⊎ HasNothing (armed h)) [
      | inl counted ↦ inl (record { blocks = counted.blocks; pages = counted.pages })
      | inr nothing ↦ inr (nothing_armed h nothing)
    ];
    eight = whole.eight;
    lines = whole.lines;
    file_lines = whole.file_lines;
    settled = whole.settled;
    stopped = λ is. nothing_armed h (whole.stopped is);
  }
    where
      nothing_armed : (h : Machine) → HasNothing h → HasNothing (armed h)
      nothing_armed h n = record { metadata = n.metadata; mode = n.mode; blocks = n.blocks; volume = n.volume; files = n.files }

  goes_armed : (h : Machine) → IsReady h → IsKept h → GoesOn (armed h)
  goes_armed h ready kept = record {
    ready = record { whole = complete_armed h ready.whole; unit = ready.unit; mode = ready.mode; settled = ready.settled; metadata = ready.metadata; failures = ready.failures };
    kept = record { valid = kept.valid; blocks = kept.blocks; values = kept.values; file_values = kept.file_values; listed = kept.listed };
    armed = refl;
  }

  pub is_found : (h : Machine) (program : List Input) (look : List Seen) → IsReady h → IsKept h → IsProgram program → BringRight program → may_find h program look ≡ true
      → Finds h program look
  is_found h program look ready kept of_program right may =
      let goes = goes_armed h ready kept in
      finds h program look ready.unit goes.ready.whole (stopped look program (armed h) goes of_program right may)
