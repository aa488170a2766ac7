-- The machine reads the image as what it was made of, and a restart may leave it.
use Rattle.std.proofs.Common.{◌≡◌, ℕ, List, [], ◌∷◌, inl, refl, sym, ap, subst, ◌∙◌}
use Rattle.line_device.specs.declared.line.Choice.TheVariants.{Firsts}
use Rattle.word_tables.specs.declared.geometry.Geometry.{Geometry}
use Rattle.word_tables.specs.Bounds.{IsValid}
use Rattle.word_tables.specs.Layout.{volume_line}
use Rattle.nvm_model.specs.Page.{Page, read_pages}
use Rattle.nvm_model.specs.Storage.{Block, File}
use Rattle.pm_volume.specs.Presence.{presence_read}
use Rattle.file_journal.specs.Standing.{files_read}
use Rattle.script_text.specs.Action.Action.{Restart}
use Rattle.script_text.specs.Script.Input.{Asked}
use Rattle.reply_text.specs.Answer.{Answer}
use Rattle.reply_text.specs.Answer.Answer.{DoneBad}
use Rattle.line_device.specs.Panel.{Image, Start}
use Rattle.machine_model.specs.Commands.{MayLeaveBlocks, fate, spending}
use Rattle.machine_model.specs.Machine.Fate.{Restarts}
use Rattle.machine_model.specs.Run.{Hears, Takes, Transcript, with_start}
use Rattle.machine_model.specs.Machine.{Fate, Machine, bad_of}
use Rattle.machine_model.specs.Restarting.{MayLeaveStorage, RestartMayLeave, holding, mounted_answer, read_with, reading, restarted}
use Rattle.state_images.specs.Images.{image_of}
use Rattle.state_images.specs.Left.{MayBeLeft, back_with}
use Rattle.state_images.specs.Storable.{IsStorable}
use Rattle.state_images.proofs.BlockLemmas.{blocks-are}
use Rattle.state_images.proofs.FileLemmas.{files-read}
use Rattle.state_images.proofs.GoodLemmas.{none_bad}
use Rattle.state_images.proofs.KeepLemmas.{image-keeps-files, image-keeps-pages}
use Rattle.state_images.proofs.VolumeLemmas.{presence-is, volume-is}

module _ (geo : Geometry) (blocks : List Block) (volume : List Page) (files : List File) (valid : IsValid geo) (storable : IsStorable geo blocks volume files) where
  pub reading-is : reading geo (image_of geo blocks volume files) ≡ holding geo blocks volume files
  unfolding reading
  reading-is =
      let image = image_of geo blocks volume files in
      ap (λ (lines : List ℕ). record (read_with lines geo image) { unit = 8 }) (none_bad geo blocks volume files)
      ∙ ap (λ (bs : List Block). holding geo bs (read_pages (volume_line geo) image (presence_read geo image.word)) (files_read geo image)) (blocks-are geo blocks volume files valid storable.of_blocks)
      ∙ ap (λ there. holding geo blocks (read_pages (volume_line geo) image there) (files_read geo image)) (presence-is geo blocks volume files storable.of_volume)
      ∙ ap (λ (pages : List Page). holding geo blocks pages (files_read geo image)) (volume-is geo blocks volume files storable.of_volume)
      ∙ ap (λ (fs : List File). holding geo blocks volume fs) (files-read geo blocks volume files storable.of_files)

module _ (off : Machine) (blocks : List Block) (volume : List Page) (files : List File) (valid : IsValid off.geometry) (storable : IsStorable off.geometry blocks volume files) where
  storage-left : MayBeLeft off blocks volume files → MayLeaveStorage Firsts (image_of off.geometry blocks volume files) off
  storage-left may = record {
    blocks = subst (MayLeaveBlocks off.interrupted off.blocks) (sym (blocks-are off.geometry blocks volume files valid storable.of_blocks)) may.blocks;
    left = may.left;
    may = may.may;
    there = sym may.volume.there ∙ sym (presence-is off.geometry blocks volume files storable.of_volume);
    volume = image-keeps-pages off.geometry blocks may.left volume files storable.of_volume may.volume;
    files_left = may.files_left;
    may_files = may.may_files;
    files = image-keeps-files off.geometry blocks volume may.files_left files storable.of_files may.files;
  }

  pub image-left : off.unit ≡ 8 → off.bad_meta ≡ [] → MayBeLeft off blocks volume files → RestartMayLeave Firsts (image_of off.geometry blocks volume files) off
  image-left by_words good may = record {
    unit = sym by_words;
    metadata = none_bad off.geometry blocks volume files ∙ sym good;
    storage = λ _. storage-left may;
  }

  restarted-is : restarted off (image_of off.geometry blocks volume files) ≡ back_with off blocks volume files
  restarted-is = ap (λ (h : Machine). record h { cut_armed = off.cut_armed; fail_armed = off.fail_armed }) (reading-is off.geometry blocks volume files valid storable)

  -- a restart that does so
  pub run-back : off.unit ≡ 8 → off.bad_meta ≡ [] → MayBeLeft off blocks volume files → fate off (Restart Firsts) ≡ Restarts Firsts
      → (said : Transcript) × (said.answers ≡ DoneBad (bad_of (back_with off blocks volume files)) ∷ []) × Hears off (Asked (Restart Firsts)) said (back_with off blocks volume files)
  run-back by_words good may restarts =
      let image : Image = image_of off.geometry blocks volume files in
      let start : Start = record { choice = Firsts; image = image } in
      let answer : Answer = mounted_answer (restarted off image) in
      let said : Transcript = with_start (spending off (Restart Firsts)) start answer in
      let took : Takes off (Restart Firsts) (Restarts Firsts) said (restarted off image) = (start, answer, refl, refl, image-left by_words good may, inl (refl, refl)) in (
        said,
        ap (λ (h : Machine). mounted_answer h ∷ []) restarted-is,
        subst (λ (f : Fate). Takes off (Restart Firsts) f said (back_with off blocks volume files)) (sym restarts)
            (subst (λ (h : Machine). Takes off (Restart Firsts) (Restarts Firsts) said h) restarted-is took),
      )
