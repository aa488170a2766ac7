-- The files that a device stands for once its journal is mounted.
use Rattle.std.proofs.Common.{◌≡◌, ℕ, ◌/◌, ◌<◌, List, None, sym, subst, ◌∙◌}
use Rattle.line_device.specs.Device.{Depicts}
use Rattle.line_device.specs.Medium.{IsSound, Medium, last_image}
use Rattle.line_device.specs.Panel.{Image}
use Rattle.line_device.proofs.TornLemmas.{torn-in}
use Rattle.nvm_base.proofs.FirstLemmas.{neither_there}
use Rattle.word_tables.specs.declared.geometry.Geometry.{Geometry}
use Rattle.word_tables.specs.Bounds.{IsValid}
use Rattle.word_tables.specs.Layout.{file_pages, meta_lines, total_lines, HasLine}
use Rattle.word_log.specs.Replay.{first_wrong}
use Rattle.word_log.specs.Rest.{IsImageOn}
use Rattle.nvm_model.specs.Lines.{AreGood}
use Rattle.nvm_model.specs.Storage.{File}
use Rattle.nvm_model.proofs.KeptLemmas.{LineKept}
use Rattle.file_journal.specs.Area.{file_area}
use Rattle.file_journal.specs.Reading.{tables_read, words_read, wrong_file_place, wrong_table}
use Rattle.file_journal.specs.Standing.{EachReadsFiles, FilesStand, ReadsFiles, files_read}
use Rattle.file_journal.specs.Tables.{AreTables, Tables}
use Rattle.file_journal.proofs.AreaLemmas.{area_in_metadata}
use Rattle.file_journal.proofs.FileLineLemmas.{area_of_files, files_within}
use Rattle.file_journal.proofs.RestartLemmas.{read-stands, tables_depicted}
use Rattle.file_journal.proofs.StandingLemmas.{files-kept}
use Rattle.file_journal.proofs.TableReadLemmas.{length-words_read, no_wrong_file, right_tables, tables_read-replays}

-- the last values are an image of log and tables
pub file_image-last : (geo : Geometry) (m : Medium) → IsValid geo → m.count ≡ total_lines geo → AreGood m (meta_lines geo) → IsSound m → IsImageOn (file_area geo) m (last_image m)
file_image-last geo m valid count good sound p of =
    let on : p / 8 < m.count = subst (λ c. p / 8 < c) (sym count) (files_within geo (p / 8) (area_of_files geo p of)) in
    torn-in (last_image m p) (m.history p) (sound.last p (on, good (p / 8) (area_in_metadata geo valid p of)))

-- nothing is wrong with an image that reads as files
pub nothing_wrong_in : (geo : Geometry) (m : Medium) (P : List File → Type 0) (image : ℕ → ℕ) → ReadsFiles geo m P image → wrong_file_place geo image ≡ None
nothing_wrong_in geo m P image reads = no_wrong_file geo image reads.word reads.tables reads.replays reads.holds reads.right

-- Tables that a mount read stand for files such as the images before read as.
pub record MountedFiles (geo : Geometry) (P : List File → Type 0) (t : Tables) (m : Medium) : Type 0 where
  pub files : List File
  pub is : P files
  pub right : AreTables geo.fpages t
  pub stand : FilesStand geo m t files

pub mounted_files : (geo : Geometry) (old new : Medium) (P : List File → Type 0) (t : Tables) → IsImageOn (file_area geo) old (last_image old) → EachReadsFiles geo old P
    → t ≡ tables_read geo (last_image old) → ((n : ℕ) → HasLine geo file_pages n → LineKept old new n) → MountedFiles geo P t new
mounted_files geo old new P t is each read kept =
    let was = each (last_image old) is in
    let same : was.tables ≡ t = sym (read ∙ tables_read-replays geo (last_image old) was.word was.tables was.replays was.holds was.right) in
    record {
      files = was.files;
      is = was.is;
      right = subst (AreTables geo.fpages) same was.right;
      stand = subst (λ (x : Tables). FilesStand geo new x was.files) same (files-kept geo old new was.tables was.files was.right kept was.stand);
    }

-- The same where each word has one value, and nothing is wrong: they stand for the files that are shown.
pub depicted_files : (geo : Geometry) (old new : Medium) (image : Image) (t : Tables) → IsValid geo → old.count ≡ total_lines geo → AreGood old (meta_lines geo) → IsSound old
    → Depicts old image → wrong_file_place geo (last_image old) ≡ None → t ≡ tables_read geo (last_image old) → ((n : ℕ) → HasLine geo file_pages n → LineKept old new n)
    → AreTables geo.fpages t × FilesStand geo new t (files_read geo image)
depicted_files geo old new image t valid count good sound shows none read kept =
    let last = last_image old in
    let right = neither_there (first_wrong (file_area geo) last) (wrong_table geo (words_read geo last)) none in
    let shown = tables_depicted geo old image valid count good shows last (file_image-last geo old valid count good sound) right.0 in
    let same : tables_read geo image.word ≡ t = shown ∙ sym read in
    let are : AreTables geo.fpages t = subst (AreTables geo.fpages) (sym read) (right_tables geo (words_read geo last) valid (length-words_read geo last) right.1) in
    let stand = read-stands geo old image (subst (AreTables geo.fpages) (sym same) are) count shows in
    (are, files-kept geo old new t (files_read geo image) are kept (subst (λ (x : Tables). FilesStand geo old x (files_read geo image)) same stand))
