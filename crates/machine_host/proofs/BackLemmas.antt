-- What the lines of a device stand for once the power came back.
use Rattle.std.proofs.Common.{◌≡◌, ℕ, ◌/◌, ◌<◌, Bool, List, length, None, refl, sym, ap, subst, ◌∙◌}
use Rattle.line_device.specs.Medium.{Medium, Survivors, IsHealthy, IsSound}
use Rattle.line_device.specs.Panel.{Image}
use Rattle.line_device.specs.Device.{Depicts}
use Rattle.line_device.specs.declared.line.Choice.{Choice}
use Rattle.word_tables.specs.declared.geometry.Geometry.{Geometry}
use Rattle.word_log.specs.Area.{IsOf}
use Rattle.nvm_model.specs.Page.{Page, is_present, presence_of, read_pages, PagesStand, KeepsPages}
use Rattle.nvm_model.proofs.PageLemmas.{length-read_pages, presence_of-read_pages}
use Rattle.nvm_model.proofs.RestartLemmas.{stand-restarted}
use Rattle.pm_volume.specs.Area.{volume_area}
use Rattle.pm_volume.specs.Images.{ReadsPages, EachReadsPages}
use Rattle.pm_volume.specs.Presence.{presence_read, presence_words}
use Rattle.pm_volume.proofs.AreaLemmas.{area_in_metadata}
use Rattle.pm_volume.proofs.StandingLemmas.{each_pages-then, line_of_volume, presence_read-replays, reads_same}
use Rattle.std.proofs.lemmas.List.{length-map}
use Rattle.line_device.specs.History.{IsTorn, MayKeep}
use Rattle.line_device.proofs.TornLemmas.{may_keep-torn, torn-one}
use Rattle.word_log.specs.Replay.{Replays}
use Rattle.word_log.specs.Rest.{IsImageOn}
use Rattle.word_tables.specs.Layout.{volume_line}
use Rattle.block_device.specs.Images.{AreReadable, EachReads}
use Rattle.block_device.proofs.ImageLemmas.{each_reads-then}
use Rattle.block_device.proofs.RestartLemmas.{blocks_read-restarted, each_reads-restarted}
use Rattle.file_journal.specs.Standing.{EachReadsFiles, files_read}
use Rattle.file_journal.proofs.EachFilesLemmas.{each_files-then}
use Rattle.file_journal.proofs.RestartLemmas.{CameBack, files_back}
use Rattle.recovery.specs.Findings.{first_finding}
use Rattle.machine_model.specs.Machine.{Machine}
use Rattle.machine_model.specs.Commands.{MayLeaveBlocks, MayLeaveFiles, MayLeaveVolume}
use Rattle.machine_model.specs.Restarting.{MayLeaveStorage}
use Rattle.machine_host.proofs.VolumeLemmas.{line_there}
use Rattle.machine_host.proofs.ElsewhereLemmas.{area_of_volume, volume_within}
use Rattle.machine_host.proofs.LayoutLemmas.{IsGood, is_good, layout-restarted}
use Rattle.machine_host.proofs.MountLemmas.{IsTold, is_told, nothing_wrong_there}

-- What comes back with the power: lines that each kept one value of a word stand for what is read there.
module _ (h : Machine) (choice : Choice) (old mid : Medium) (image : Image) (was : IsGood h.geometry old)
    (blocks_were : EachReads h.geometry old (MayLeaveBlocks h.interrupted h.blocks)) (volume_was : EachReadsPages h.geometry old (MayLeaveVolume h.geometry h.interrupted h.volume))
    (files_were : EachReadsFiles h.geometry old (MayLeaveFiles h.mappings h.interrupted h.files))
    (left : Survivors image.unit choice old mid) (shows : Depicts mid image) (sound_old : IsSound old) (sound : IsSound mid) where
  abbrev geo : Geometry
  geo = h.geometry

  pub layout_back : IsGood geo mid
  layout_back = is_good (layout-restarted geo old mid was.layout image.unit choice sound_old left) (λ n below. left.bad n ∙ was.good n below)

  pub told_back : IsTold geo mid
  told_back = is_told geo mid layout_back sound

  pub readable_back : AreReadable geo mid
  readable_back =
      each_reads-restarted geo was.valid image.unit choice old mid (λ _. Unit {0}) sound_old was.lines left
      (each_reads-then geo old (MayLeaveBlocks h.interrupted h.blocks) (λ _. Unit {0}) (λ bs x. tt) blocks_were)

  -- the start is an image of what was before
  start_was : IsImageOn (volume_area geo) old image.word
  start_was p of =
      let on : p / 8 < old.count = subst (λ c. p / 8 < c) (sym was.lines) (volume_within geo (p / 8) (area_of_volume geo p was.valid of)) in
      let healthy : IsHealthy old (p / 8) = (on, was.good (p / 8) (area_in_metadata geo was.valid p of)) in
      let back : IsHealthy mid (p / 8) = (subst (λ c. p / 8 < c) (sym left.count) on, left.bad (p / 8) ∙ healthy.1) in
      let word = left.words p healthy in
      let same : image.word p ≡ word.0 = cc (word.1.one, shows.words p back) in
      may_keep-torn image.unit (image.word p) (old.history p) (subst (λ v. MayKeep image.unit v (old.history p)) (sym same) word.1.was)

  -- and the only one of what is after
  start_is : (word : ℕ → ℕ) → IsImageOn (volume_area geo) mid word → (p : ℕ) → IsOf (volume_area geo) p → word p ≡ image.word p
  start_is word is p of =
      let on : p / 8 < mid.count = subst (λ c. p / 8 < c) (sym layout_back.lines) (volume_within geo (p / 8) (area_of_volume geo p was.valid of)) in
      torn-one (image.word p) (word p) (subst (IsTorn (word p)) (shows.words p (on, layout_back.good (p / 8) (area_in_metadata geo was.valid p of))) (is p of))

  pages_were : ReadsPages geo old (MayLeaveVolume geo h.interrupted h.volume) image.word
  pages_were = volume_was image.word start_was

  abbrev there : List Bool
  there = presence_read geo image.word

  all_there : length (presence_of pages_were.pages) ≡ geo.vpages
  all_there = length-map pages_were.pages is_present ∙ pages_were.all

  there_is : there ≡ presence_of pages_were.pages
  there_is = presence_read-replays geo image.word (presence_of pages_were.pages) all_there pages_were.replays

  -- the pages that the machine reads
  abbrev pub pages_back : List Page
  pages_back = read_pages (volume_line geo) image there

  pages_kept : KeepsPages choice (volume_line geo) image pages_were.pages × PagesStand (volume_line geo) mid pages_back
  pages_kept =
      subst (λ t. KeepsPages choice (volume_line geo) image pages_were.pages × PagesStand (volume_line geo) mid (read_pages (volume_line geo) image t)) (sym there_is)
      (stand-restarted choice old mid image (volume_line geo) pages_were.pages pages_were.stand
      (λ n cell is. line_there geo old n was.lines (line_of_volume geo pages_were.pages n cell pages_were.all is)) left shows)

  all_back : length pages_back ≡ geo.vpages
  all_back = length-read_pages (volume_line geo) image there ∙ ap length there_is ∙ all_there

  -- each image reads as these
  pub replays_back : (word : ℕ → ℕ) → IsImageOn (volume_area geo) mid word → Replays (volume_area geo) word (presence_words geo (presence_of pages_back))
  replays_back word is =
      subst (λ t. Replays (volume_area geo) word (presence_words geo t)) (sym (presence_of-read_pages (volume_line geo) image there ∙ there_is))
      (reads_same geo word image.word (presence_of pages_were.pages) was.valid (start_is word is) pages_were.replays)

  pub each_back : EachReadsPages geo mid (λ pages. pages ≡ pages_back)
  each_back word is = record { pages = pages_back; is = refl; all = all_back; replays = replays_back word is; stand = pages_kept.1 }

  came : CameBack choice geo image (MayLeaveFiles h.mappings h.interrupted h.files) mid
  came = files_back choice geo old mid image (MayLeaveFiles h.mappings h.interrupted h.files) was.valid was.lines was.good files_were left shows

  pub each_files_back : EachReadsFiles geo mid (λ files. files ≡ files_read geo image)
  each_files_back = came.each

  -- nothing is wrong with them
  pub nothing_back : first_finding mid ≡ None
  nothing_back = nothing_wrong_there geo mid layout_back told_back sound readable_back (each_pages-then geo mid (λ pages. pages ≡ pages_back) (λ _. Unit {0}) (λ _ _. tt) each_back)
      (each_files-then geo mid (λ files. files ≡ files_read geo image) (λ _. Unit {0}) (λ _ _. tt) each_files_back)

  -- and they are what a restart may leave
  pub kept_back : MayLeaveStorage choice image h
  kept_back = record {
    blocks = blocks_read-restarted geo was.valid image.unit choice old mid image (MayLeaveBlocks h.interrupted h.blocks) was.lines left shows blocks_were;
    left = pages_were.pages;
    may = pages_were.is;
    there = sym there_is;
    volume = pages_kept.0;
    files_left = came.left;
    may_files = came.is;
    files = came.keeps;
  }
