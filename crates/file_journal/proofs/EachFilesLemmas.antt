-- What each image reads as files, while lines of other areas are worked on, and where a mount replays the log.
use Rattle.std.proofs.Common.{ℕ, ◌/◌, inl, List, refl, arith}
use Rattle.line_device.specs.Medium.{Medium}
use Rattle.line_device.proofs.TornLemmas.{torn-part}
use Rattle.word_tables.specs.declared.geometry.Geometry.{Geometry}
use Rattle.word_tables.specs.Bounds.{IsValid}
use Rattle.word_tables.specs.Layout.{file_pages, size, HasLine}
use Rattle.word_log.specs.Area.{IsOf, gate_place}
use Rattle.word_log.specs.Replay.{Replays}
use Rattle.word_log.specs.Rest.{EachImage, IsImageOn, IsReached}
use Rattle.word_log.proofs.RestLemmas.{replays-reached}
use Rattle.nvm_model.specs.Storage.{File}
use Rattle.nvm_model.proofs.KeptLemmas.{LineKept}
use Rattle.file_journal.specs.Area.{file_area}
use Rattle.file_journal.specs.Standing.{EachReadsFiles, ReadsFiles}
use Rattle.file_journal.proofs.AreaLemmas.{area_shaped}
use Rattle.file_journal.proofs.StandingLemmas.{files-kept}

-- the gate is a word of the log
pub gate_of_files : (geo : Geometry) → IsOf (file_area geo) (gate_place (file_area geo))
unfolding size
gate_of_files geo = inl (omega arith, omega arith)

-- images of a medium whose words were only written back were its own
pub file_images-kept : (geo : Geometry) (old new : Medium) → ((p : ℕ) → IsOf (file_area geo) p → LineKept old new (p / 8)) → (image : ℕ → ℕ)
    → IsImageOn (file_area geo) new image → IsImageOn (file_area geo) old image
file_images-kept geo old new kept image is p of = torn-part (image p) _ _ ((kept p of).words p refl).part (is p of)

-- an image that replays to the same words reads as the same files, while the lines of units are only written back
read_on : (geo : Geometry) (old new : Medium) (P Q : List File → Type 0) (before image : ℕ → ℕ) → ((n : ℕ) → HasLine geo file_pages n → LineKept old new n) → (was : ReadsFiles geo old P before)
    → Replays (file_area geo) image was.word → Q was.files → ReadsFiles geo new Q image
read_on geo old new P Q before image kept was replays is = record {
  tables = was.tables;
  right = was.right;
  word = was.word;
  replays = replays;
  holds = was.holds;
  files = was.files;
  is = is;
  stand = files-kept geo old new was.tables was.files was.right kept was.stand;
}

-- what each image read as, it reads as where lines are only written back
pub each_files-kept : (geo : Geometry) (old new : Medium) (P : List File → Type 0)
    → ((image : ℕ → ℕ) → IsImageOn (file_area geo) new image → IsImageOn (file_area geo) old image)
    → ((n : ℕ) → HasLine geo file_pages n → LineKept old new n) → EachReadsFiles geo old P → EachReadsFiles geo new P
each_files-kept geo old new P images kept each image is =
    let was = each image (images image is) in read_on geo old new P P image image kept was was.replays was.is

-- and where a mount replays the log
pub each_files-reached : (geo : Geometry) (old new : Medium) (P : List File → Type 0) → IsValid geo → EachImage (file_area geo) new (IsReached (file_area geo) old)
    → ((n : ℕ) → HasLine geo file_pages n → LineKept old new n) → EachReadsFiles geo old P → EachReadsFiles geo new P
each_files-reached geo old new P valid reaches kept each image is =
    let reached = reaches image is in
    let was = each reached.before reached.was in
    read_on geo old new P P reached.before image kept was (replays-reached (file_area geo) old image was.word (area_shaped geo valid) reached was.replays) was.is

pub each_files-then : (geo : Geometry) (m : Medium) (P Q : List File → Type 0) → ((files : List File) → P files → Q files) → EachReadsFiles geo m P → EachReadsFiles geo m Q
each_files-then geo m P Q so each image is =
    let was = each image is in
    record {
      tables = was.tables;
      right = was.right;
      word = was.word;
      replays = was.replays;
      holds = was.holds;
      files = was.files;
      is = so was.files was.is;
      stand = was.stand;
    }
