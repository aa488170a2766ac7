-- The files that a device stands for once the power came back: each word has one of its values.
use Rattle.std.proofs.Common.{◌≡◌, ℕ, ◌/◌, ◌<◌, List, None, refl, sym, subst, ◌∙◌}
use Rattle.line_device.specs.History.{IsTorn, MayKeep}
use Rattle.line_device.specs.Medium.{IsHealthy, Medium, Survivors}
use Rattle.line_device.specs.Panel.{Image}
use Rattle.line_device.specs.Device.{Depicts}
use Rattle.line_device.specs.declared.line.Choice.{Choice}
use Rattle.line_device.proofs.TornLemmas.{may_keep-torn, torn-one}
use Rattle.nvm_base.proofs.FirstLemmas.{neither_there}
use Rattle.word_tables.specs.declared.geometry.Geometry.{Geometry}
use Rattle.word_tables.specs.Bounds.{IsValid}
use Rattle.word_tables.specs.Layout.{meta_lines, total_lines}
use Rattle.word_log.specs.Area.{IsOf}
use Rattle.word_log.specs.Replay.{Replays, first_wrong, replayed}
use Rattle.word_log.specs.Rest.{IsImageOn}
use Rattle.word_log.proofs.RestLemmas.{replays-same}
use Rattle.nvm_model.specs.Lines.{AreGood}
use Rattle.nvm_model.specs.Listing.{file_name}
use Rattle.nvm_model.specs.Storage.{File}
use Rattle.nvm_model.proofs.AlikeLemmas.{alike-among, alike-map, alike-map_among}
use Rattle.nvm_model.proofs.PageLemmas.{presence_of-read_pages}
use Rattle.nvm_model.proofs.RestartLemmas.{keeps-read, pages_stand-read, stand-restarted}
use Rattle.file_journal.specs.Area.{file_area}
use Rattle.file_journal.specs.Files.{files_of, unit_file_name}
use Rattle.file_journal.specs.Holds.{Holds}
use Rattle.file_journal.specs.Reading.{tables_of, tables_read, words_read, wrong_file_place, wrong_table}
use Rattle.file_journal.specs.Standing.{EachReadsFiles, FileStands, FilesStand, KeepsFile, KeepsFiles, ReadsFiles, file_read, files_read, line_of_file, pages_there}
use Rattle.file_journal.specs.Tables.{AreTables, Tables}
use Rattle.file_journal.proofs.AreaLemmas.{area_in_metadata, area_shaped}
use Rattle.file_journal.proofs.FileLineLemmas.{area_of_files, files_within, page_line_within}
use Rattle.file_journal.proofs.MountLemmas.{inodes_right, words_hold}
use Rattle.file_journal.proofs.StandingLemmas.{file_line_in, line_there_in}
use Rattle.file_journal.proofs.TableReadLemmas.{files_same, home_words-read, length-words_read, right_tables, tables_read-replays}

-- The device stands for the files that are read of it.
pub read-stands : (geo : Geometry) (m : Medium) (image : Image) → AreTables geo.fpages (tables_read geo image.word) → m.count ≡ total_lines geo → Depicts m image
    → FilesStand geo m (tables_read geo image.word) (files_read geo image)
unfolding files_read
read-stands geo m image are count depicts =
    let t = tables_read geo image.word in
    alike-map_among unit_file_name file_name (FileStands geo m) (file_read geo image) (files_of t) (λ on. refl)
    (λ on has. record {
      there = presence_of-read_pages (line_of_file geo on) image (pages_there on);
      stand = pages_stand-read m image (line_of_file geo on) (pages_there on) depicts
          (λ n is. subst (λ c. line_of_file geo on n < c) (sym count) (page_line_within geo (line_of_file geo on n) (line_there_in geo t on are has n is)));
    })

-- A restart leaves of files what it may leave.
pub files-restarted : (choice : Choice) (geo : Geometry) (old mid : Medium) (image : Image) (files : List File) → AreTables geo.fpages (tables_read geo image.word)
    → old.count ≡ total_lines geo → FilesStand geo old (tables_read geo image.word) files → Survivors image.unit choice old mid → Depicts mid image → KeepsFiles choice geo image files
files-restarted choice geo old mid image files are count stand left depicts =
    let t = tables_read geo image.word in
    alike-among unit_file_name file_name (FileStands geo old) (KeepsFile choice geo image) (files_of t) files
    (λ on file has same stands. record {
      there = stands.there;
      keeps = (stand-restarted choice old mid image (line_of_file geo on) file.pages stands.stand
          (λ n cell is. subst (λ c. line_of_file geo on n < c) (sym count)
          (page_line_within geo (line_of_file geo on n) (file_line_in geo t on file.pages are has stands.there n cell is))) left depicts).0;
    })
    stand

-- A restart may leave again what a restart left.
pub keeps_files-read : (choice : Choice) (geo : Geometry) (image : Image) → KeepsFiles choice geo image (files_read geo image)
unfolding files_read
keeps_files-read choice geo image =
    alike-map unit_file_name file_name (KeepsFile choice geo image) (file_read geo image) (files_of (tables_read geo image.word)) (λ on. refl)
    (λ on. record {
      there = presence_of-read_pages (line_of_file geo on) image (pages_there on);
      keeps = keeps-read choice (line_of_file geo on) image (pages_there on);
    })

-- a device whose lines of metadata are good, as it is shown
module _ (geo : Geometry) (m : Medium) (image : Image) (valid : IsValid geo) (count : m.count ≡ total_lines geo) (good : AreGood m (meta_lines geo)) (shows : Depicts m image) where
  -- an image of log and tables has the words that are shown
  pub shown_words : (word : ℕ → ℕ) → IsImageOn (file_area geo) m word → (p : ℕ) → IsOf (file_area geo) p → word p ≡ image.word p
  shown_words word is p of =
      let on : p / 8 < m.count = subst (λ c. p / 8 < c) (sym count) (files_within geo (p / 8) (area_of_files geo p of)) in
      torn-one (image.word p) (word p) (subst (IsTorn (word p)) (shows.words p (on, good (p / 8) (area_in_metadata geo valid p of))) (is p of))

  -- so each that is valid reads as the tables that are
  pub tables_depicted : (word : ℕ → ℕ) → IsImageOn (file_area geo) m word → first_wrong (file_area geo) word ≡ None → tables_read geo image.word ≡ tables_read geo word
  tables_depicted word is right = files_same geo image.word word valid (λ p of. sym (shown_words word is p of)) right

  -- where words hold tables after the replay, each image reads as the files that are shown
  pub each_files-shown : (word : ℕ → ℕ) (t : Tables) → Replays (file_area geo) image.word word → Holds geo word t → AreTables geo.fpages t → EachReadsFiles geo m (λ x. x ≡ files_read geo image)
  each_files-shown word t replays holds are is_word is =
      let same = tables_read-replays geo image.word word t replays holds are in
      record {
        tables = t;
        right = are;
        word = word;
        replays = replays-same (file_area geo) is_word image.word word (area_shaped geo valid) (shown_words is_word is) replays;
        holds = holds;
        files = files_read geo image;
        is = refl;
        stand = subst (λ (x : Tables). FilesStand geo m x (files_read geo image)) same (read-stands geo m image (subst (AreTables geo.fpages) (sym same) are) count shows);
      }

  -- and so they do where nothing is wrong with them
  pub each_files-depicted : wrong_file_place geo image.word ≡ None → EachReadsFiles geo m (λ x. x ≡ files_read geo image)
  each_files-depicted none =
      let right = neither_there (first_wrong (file_area geo) image.word) (wrong_table geo (words_read geo image.word)) none in
      let after = replayed (file_area geo) image.word in
      let own : Replays (file_area geo) image.word after = record { valid = right.0; home = λ p _. refl } in
      let words = words_read geo image.word in
      each_files-shown after (tables_of words) own (words_hold geo after words (home_words-read geo image.word after own) (inodes_right geo words right.1))
      (right_tables geo words valid (length-words_read geo image.word) right.1)

-- What a restart left of files is one of what the images before read as, and the device stands for what is read.
pub record CameBack (choice : Choice) (geo : Geometry) (image : Image) (P : List File → Type 0) (mid : Medium) : Type 0 where
  pub left : List File
  pub is : P left
  pub keeps : KeepsFiles choice geo image left
  pub each : EachReadsFiles geo mid (λ x. x ≡ files_read geo image)

pub files_back : (choice : Choice) (geo : Geometry) (old mid : Medium) (image : Image) (P : List File → Type 0) → IsValid geo → old.count ≡ total_lines geo → AreGood old (meta_lines geo)
    → EachReadsFiles geo old P → Survivors image.unit choice old mid → Depicts mid image → CameBack choice geo image P mid
files_back choice geo old mid image P valid count good each left shows = record {
  left = were.files;
  is = were.is;
  keeps = files-restarted choice geo old mid image were.files are count (subst (λ (x : Tables). FilesStand geo old x were.files) (sym same) were.stand) left shows;
  each = each_files-shown geo mid image valid (left.count ∙ count) (λ n below. left.bad n ∙ good n below) shows were.word were.tables were.replays were.holds were.right;
}
  where
    -- the start is an image of what was before
    start_was : IsImageOn (file_area geo) old image.word
    start_was p of =
        let on : p / 8 < old.count = subst (λ c. p / 8 < c) (sym count) (files_within geo (p / 8) (area_of_files geo p of)) in
        let healthy : IsHealthy old (p / 8) = (on, good (p / 8) (area_in_metadata geo valid p of)) in
        let back : IsHealthy mid (p / 8) = (subst (λ c. p / 8 < c) (sym left.count) on, left.bad (p / 8) ∙ healthy.1) in
        let word = left.words p healthy in
        let one : image.word p ≡ word.0 = cc (word.1.one, shows.words p back) in
        may_keep-torn image.unit (image.word p) (old.history p) (subst (λ v. MayKeep image.unit v (old.history p)) (sym one) word.1.was)

    were : ReadsFiles geo old P image.word
    were = each image.word start_was

    same : tables_read geo image.word ≡ were.tables
    same = tables_read-replays geo image.word were.word were.tables were.replays were.holds were.right

    are : AreTables geo.fpages (tables_read geo image.word)
    are = subst (AreTables geo.fpages) (sym same) were.right
