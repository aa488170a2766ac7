-- What blocks, pages and files read as where the power just came back: each word has one value.
use Rattle.std.proofs.Common.{◌≡◌, ℕ, inl, inr, ◌/◌, ◌<◌, ◌==◌, Bool, false, None, List, length, map, take, refl, sym, ◌∙◌, ap, subst, arith}
use Rattle.std.proofs.lemmas.List.{length-map}
use Rattle.line_device.specs.History.{newest, IsIn, IsTorn}
use Rattle.line_device.specs.Medium.{Medium, IsSound, Survivors, last_image}
use Rattle.line_device.specs.Panel.{Image}
use Rattle.line_device.specs.Device.{Depicts}
use Rattle.line_device.specs.declared.line.Choice.TheVariants.{Lasts}
use Rattle.line_device.proofs.TornLemmas.{may_keep-in, torn-one}
use Rattle.word_tables.specs.declared.geometry.Geometry.{Geometry}
use Rattle.word_tables.specs.Layout.{total_lines, volume_line}
use Rattle.word_tables.specs.Words.{place, of_volume_page}
use Rattle.line_words.specs.Words.{WritesBackOutside}
use Rattle.word_log.specs.Area.{IsOf}
use Rattle.word_log.specs.Replay.{Replays, first_wrong, replayed}
use Rattle.word_log.specs.Rest.{IsImageOn}
use Rattle.word_log.proofs.RestLemmas.{replays-same}
use Rattle.block_map.specs.declared.state.BlockState.{BlockState}
use Rattle.nvm_model.specs.Storage.{Block}
use Rattle.nvm_model.specs.Page.{is_present, read_pages, PagesStand}
use Rattle.nvm_model.proofs.NumberedLemmas.{length-list_from}
use Rattle.nvm_model.proofs.PageLemmas.{length-read_pages, presence_of-read_pages}
use Rattle.nvm_model.proofs.RestartLemmas.{stand-restarted}
use Rattle.nvm_model.specs.Device.{device_pages}
use Rattle.nvm_model.proofs.DeviceLemmas.{device_pages-stand, presence_of-device}
use Rattle.block_device.specs.Area.{block_area, IsBlockPlace}
use Rattle.block_device.specs.Reading.{map_read, states_read, blocks_read}
use Rattle.block_device.specs.Images.{IsBlockImage, ReadsAs, EachReads, AreReadable, KeepsReads}
use Rattle.block_device.proofs.AreaLemmas.{area_shaped}
use Rattle.block_device.proofs.FrameLemmas.{length-states_read}
use Rattle.block_device.proofs.PlaceLemmas as block
use Rattle.block_device.proofs.PlaceLemmas.{area_is_block, data_on_device, named_is_data}
use Rattle.block_device.proofs.ReadLemmas.{list_from-cong, map_read-same}
use Rattle.block_device.proofs.ReachLemmas.{states_read-replays}
use Rattle.block_device.proofs.RestartLemmas.{block_on_device}
use Rattle.pm_volume.specs.Area.{volume_area}
use Rattle.pm_volume.specs.Object.{VolumeState, VolumeHolds}
use Rattle.pm_volume.specs.Presence.{presence_read, words_read}
use Rattle.pm_volume.proofs.AreaLemmas.{area_in_metadata}
use Rattle.pm_volume.proofs.StandingLemmas.{line_of_volume, pages-kept, volume_shaped}
use Rattle.file_journal.specs.Area.{file_area}
use Rattle.file_journal.specs.Object.{JournalState}
use Rattle.file_journal.specs.Reading.{tables_read}
use Rattle.file_journal.specs.Standing.{FilesStand, files_read}
use Rattle.file_journal.specs.Tables.{AreTables, Tables}
use Rattle.file_journal.proofs.RestartLemmas.{read-stands, tables_depicted}
use Rattle.file_journal.proofs.StandingLemmas.{files-kept}
use Rattle.recovery.specs.Mounting.{IsOfLogs}
use Rattle.machine_host.proofs.LayoutLemmas.{IsGood}
use Rattle.machine_host.proofs.VolumeLemmas.{line_there}
use Rattle.machine_host.proofs.ElsewhereLemmas.{area_of_volume, volume_within}
use Rattle.machine_host.proofs.LogLineLemmas.{file_pages_kept, range_kept}
use Rattle.machine_host.proofs.MountLemmas.{file_image-last, volume_image-last}

-- as many pages are told as there are
length-presence_read : (geo : Geometry) (word : ℕ → ℕ) → length (presence_read geo word) ≡ geo.vpages
unfolding words_read
length-presence_read geo word = length-map (words_read geo word) (λ w. w == 1) ∙ length-list_from _ 0 geo.vpages

module _ (geo : Geometry) (m : Medium) (image : Image) (layout : IsGood geo m) (shows : Depicts m image) where
  there : (n : ℕ) → n < total_lines geo → n < m.count
  there n below = subst (λ c. n < c) (sym layout.lines) below

  -- an image of such lines has their values
  word_is : (word : ℕ → ℕ) → IsBlockImage geo m word → (p : ℕ) → IsBlockPlace geo p → m.is_bad (p / 8) ≡ false → image.word p ≡ word p
  word_is word is p of good =
      let on = there (p / 8) (block_on_device geo layout.valid (p / 8) of) in
      sym (torn-one (image.word p) (word p) (subst (IsTorn (word p)) (shows.words p (on, good)) (is p of good)))

  -- so each reads as the image that was told
  pub blocks_depicted : (word : ℕ → ℕ) (P : List Block → Type 0) → IsBlockImage geo m word → ReadsAs geo m P word → blocks_read geo m.is_bad word ≡ blocks_read geo image.is_bad image.word
  unfolding blocks_read
  blocks_depicted word P is r =
      let states : List BlockState = states_read geo word in
      let area = block_area geo in
      let own : Replays area word (replayed area word) = record { valid = r.log; home = λ p _. refl } in
      let told = replays-same area image.word word (replayed area word) (area_shaped geo layout.valid) (λ p of. word_is word is p (area_is_block geo layout.valid p of) (layout.good (p / 8) (block.area_in_metadata geo layout.valid p of))) own in
      let same : states_read geo image.word ≡ states = states_read-replays geo image.word word layout.valid told in
      sym (
      ap (map_read geo image.is_bad image.word) same
      ∙ map_read-same geo m.is_bad image.is_bad word image.word states
      (λ n named. shows.bad n (there n (data_on_device geo layout.valid n (named_is_data geo layout.valid states n (length-states_read geo word) r.map named))))
      (λ p named good. word_is word is p (inr (inr (named_is_data geo layout.valid states (p / 8) (length-states_read geo word) r.map named))) good)
      )

  -- and after a mount too, however it ended
  pub reads_remounted : (new : Medium) → AreReadable geo m → KeepsReads geo m new → EachReads geo new (λ bs. bs ≡ blocks_read geo image.is_bad image.word)
  reads_remounted new readable keeps word is =
      let kept = keeps word is in
      let was = readable kept.before kept.was in
      let r = kept.reads was in
      record { log = r.log; map = r.map; durable = r.durable; blocks = r.blocks ∙ blocks_depicted kept.before (λ _. Unit {0}) kept.was was }

  -- the power could have come back to such lines
  pub survives : Survivors image.unit Lasts m m
  survives = record {
    count = refl;
    bad = λ n. refl;
    weak = λ n. refl;
    lost = λ p none. none;
    words = λ p healthy.
        let one = shows.words p healthy in (
          image.word p,
          record {
            one = one;
            was = may_keep-in image.unit (image.word p) (m.history p) (subst (IsIn (image.word p)) (sym one) (inl refl));
            last = λ _. sym (ap newest one);
            whole = λ firsts. cc firsts;
            first = λ _ _. ap (take 1) one;
          },
        );
  }

  -- so the lines of pages stand for what is read there
  pub pages_depicted : (present : List Bool) → length present ≡ geo.vpages → PagesStand (volume_line geo) m (read_pages (volume_line geo) image present)
  pages_depicted present all =
      let pages = device_pages (volume_line geo) m present in
      let same = presence_of-device (volume_line geo) m present in
      let size : length pages ≡ geo.vpages = sym (length-map pages is_present) ∙ ap length same ∙ all in
      subst (λ there. PagesStand (volume_line geo) m (read_pages (volume_line geo) image there)) same
      (stand-restarted Lasts m m image (volume_line geo) pages (device_pages-stand (volume_line geo) m present)
      (λ n cell is. line_there geo m n layout.lines (line_of_volume geo pages n cell size is)) survives shows).1

  -- and an image whose log is valid names the same pages
  pub presence_depicted : (word : ℕ → ℕ) → IsImageOn (volume_area geo) m word → first_wrong (volume_area geo) word ≡ None → presence_read geo image.word ≡ presence_read geo word
  unfolding words_read
  presence_depicted word is valid =
      let area = volume_area geo in
      let own : Replays area word (replayed area word) = record { valid = valid; home = λ p _. refl } in
      let told = replays-same area image.word word (replayed area word) (volume_shaped geo layout.valid) same own in
      ap (map (λ w. w == 1))
      (list_from-cong (λ i. replayed area image.word (place geo (of_volume_page i))) (λ i. replayed area word (place geo (of_volume_page i))) 0 geo.vpages
      (λ i from to. told.home (place geo (of_volume_page i)) (omega arith, omega (arith, to))))
    where
      same : (p : ℕ) → IsOf (volume_area geo) p → image.word p ≡ word p
      same p of =
          let on = there (p / 8) (volume_within geo (p / 8) (area_of_volume geo p layout.valid of)) in
          sym (torn-one (image.word p) (word p) (subst (IsTorn (word p)) (shows.words p (on, layout.good (p / 8) (area_in_metadata geo layout.valid p of))) (is p of)))

  -- The volume that was mounted there stands for the pages that are read.
  pub holds_depicted : (new : Medium) (v : VolumeState) → IsSound m → first_wrong (volume_area geo) (last_image m) ≡ None → WritesBackOutside (IsOfLogs geo) m new → v.geo ≡ geo
      → v.present ≡ presence_read geo (last_image m) → VolumeHolds v new (read_pages (volume_line geo) image (presence_read geo image.word))
  holds_depicted new v sound valid x same present =
      let read = presence_read geo image.word in
      let pages = read_pages (volume_line geo) image read in
      let size = length-presence_read geo image.word in
      record {
        there = presence_of-read_pages (volume_line geo) image read ∙ presence_depicted (last_image m) (volume_image-last geo m sound layout) valid ∙ sym present;
        stand = subst (λ g. PagesStand (volume_line g) new pages) (sym same)
            (pages-kept geo m new pages (length-read_pages (volume_line geo) image read ∙ size) (range_kept geo m new layout.valid x) (pages_depicted read size));
      }

  -- The journal that was mounted there stands for the files that are read.
  pub files_depicted : (new : Medium) (j : JournalState) → IsSound m → first_wrong (file_area geo) (last_image m) ≡ None → AreTables geo.fpages j.tables → WritesBackOutside (IsOfLogs geo) m new
      → j.geo ≡ geo → j.tables ≡ tables_read geo (last_image m) → FilesStand j.geo new j.tables (files_read geo image)
  files_depicted new j sound valid right x same tables =
      let is = tables ∙ sym (tables_depicted geo m image layout.valid layout.lines layout.good shows (last_image m) (file_image-last geo m sound layout) valid) in
      subst (λ g. FilesStand g new j.tables (files_read geo image)) (sym same)
      (files-kept geo m new j.tables (files_read geo image) right (file_pages_kept geo m new layout.valid x)
      (subst (λ (t : Tables). FilesStand geo m t (files_read geo image)) (sym is)
      (read-stands geo m image (subst (AreTables geo.fpages) is right) layout.lines shows)))
