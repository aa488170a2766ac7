-- Files lie apart from blocks and volume: work on those leaves them, and work on files leaves those.
use Rattle.std.proofs.Common.{◌≡◌, ℕ, ◌/◌, ◌<◌, ◌≤◌, inl, inr, List, refl, sym, subst, arith}
use Rattle.line_device.specs.Medium.{Medium}
use Rattle.line_device.proofs.HistoryLemmas.{is_in-part}
use Rattle.word_tables.specs.declared.geometry.Geometry.{Geometry}
use Rattle.word_tables.specs.Bounds.{IsValid}
use Rattle.word_tables.specs.Layout.{file_log, inodes, page_tables, file_pages, first_line, size, meta_lines, HasLine}
use Rattle.word_log.specs.Area.{IsOf}
use Rattle.nvm_model.specs.Lines.{AreStrong}
use Rattle.nvm_model.specs.Storage.{File}
use Rattle.nvm_model.proofs.KeptLemmas.{LineKept}
use Rattle.block_device.specs.Area.{IsBlockLine}
use Rattle.pm_volume.specs.Area.{IsOfVolume}
use Rattle.file_journal.specs.Area.{IsOfFiles, file_area}
use Rattle.file_journal.specs.Object.{JournalServes, JournalState}
use Rattle.file_journal.specs.Standing.{EachReadsFiles, FilesStand}
use Rattle.file_journal.specs.Tables.{AreTables}
use Rattle.file_journal.proofs.EachFilesLemmas.{each_files-kept, file_images-kept}
use Rattle.file_journal.proofs.FileLineLemmas.{area_of_files}
use Rattle.file_journal.proofs.ServesLemmas.{journal-kept}
use Rattle.file_journal.proofs.StandingLemmas.{files-kept}

-- in which area a line of files lies
by_area : {A : Type 0} (geo : Geometry) (n : ℕ) → IsOfFiles geo n → (HasLine geo file_log n → A) → (HasLine geo inodes n → A) → (HasLine geo page_tables n → A) → (HasLine geo file_pages n → A) → A
by_area {A} geo n of log names tables pages =
    elim of as (λ _. A) [
      | inl l ↦ log l
      | inr more ↦ elim more as (λ _. A) [ inl i ↦ names i | inr rest ↦ elim rest as (λ _. A) [ inl t ↦ tables t | inr p ↦ pages p ] ]
    ]

-- no line of files is the blocks'
pub files_not_blocks : (geo : Geometry) (n : ℕ) → IsOfFiles geo n → IsBlockLine geo n → ⊥
unfolding first_line size
files_not_blocks geo n of_files of_blocks =
    elim of_blocks as (λ _. ⊥) [
      | inl log ↦ apart log.0 log.1 (λ r. omega (arith, log, r)) (λ r. omega (arith, log, r)) (λ r. omega (arith, log, r)) (λ r. omega (arith, log, r))
      | inr more ↦ elim more as (λ _. ⊥) [
        | inl map ↦ apart map.0 map.1 (λ r. omega (arith, map, r)) (λ r. omega (arith, map, r)) (λ r. omega (arith, map, r)) (λ r. omega (arith, map, r))
        | inr data_ ↦ apart data_.0 data_.1 (λ r. omega (arith, data_, r)) (λ r. omega (arith, data_, r)) (λ r. omega (arith, data_, r)) (λ r. omega (arith, data_, r))
      ]
    ]
  where
    apart : {A B : ℕ} → A ≤ n → n < B → (HasLine geo file_log n → ⊥) → (HasLine geo inodes n → ⊥) → (HasLine geo page_tables n → ⊥) → (HasLine geo file_pages n → ⊥) → ⊥
    apart from to log names tables pages = by_area geo n of_files log names tables pages

-- and none is the volume's
pub files_not_volume : (geo : Geometry) (n : ℕ) → IsValid geo → IsOfFiles geo n → IsOfVolume geo n → ⊥
unfolding first_line size
files_not_volume geo n valid of_files of_volume =
    elim of_volume as (λ _. ⊥) [
      | inl log ↦ by_area geo n of_files (λ r. omega (arith, log, r)) (λ r. omega (arith, log, r)) (λ r. omega (arith, log, r)) (λ r. omega (arith, log, r))
      | inr more ↦ elim more as (λ _. ⊥) [
        | inl words ↦ by_area geo n of_files (λ r. omega (arith, words, r)) (λ r. omega (arith, words, r)) (λ r. omega (arith, words, r)) (λ r. omega (arith, words, r))
        | inr ranges ↦ elim ranges as (λ _. ⊥) [
          | inl first ↦ by_area geo n of_files (λ r. omega (arith, first, r)) (λ r. omega (arith, first, r)) (λ r. omega (arith, first, r)) (λ r. omega (arith, first, r))
          | inr second ↦ by_area geo n of_files (λ r. omega (arith, second, r)) (λ r. omega (arith, second, r)) (λ r. omega (arith, second, r)) (λ r. omega (arith, second, r))
        ]
      ]
    ]

-- nor is the first line theirs
pub first_not_files : (geo : Geometry) → IsOfFiles geo 0 → ⊥
unfolding first_line
first_not_files geo of = by_area geo 0 of (λ r. omega (arith, r)) (λ r. omega (arith, r)) (λ r. omega (arith, r)) (λ r. omega (arith, r))

page_of_files : (geo : Geometry) (n : ℕ) → HasLine geo file_pages n → IsOfFiles geo n
page_of_files geo n has = inr (inr (inr has))

-- Files where none of their lines is worked on: their journal is mounted still, their images read the same, and it stands for them.
module _ (geo : Geometry) (old new : Medium) (kept : (line : ℕ) → IsOfFiles geo line → LineKept old new line) where
  pub files_elsewhere : (P : List File → Type 0) → EachReadsFiles geo old P → EachReadsFiles geo new P
  files_elsewhere P each =
      each_files-kept geo old new P (file_images-kept geo old new (λ p of. kept (p / 8) (area_of_files geo p of)))
      (λ n has. kept n (page_of_files geo n has)) each

  pub journal_serves_elsewhere : (s : JournalState) → s.geo ≡ geo → AreStrong new (meta_lines s.geo) → new.count ≡ old.count → JournalServes s old → JournalServes s new
  journal_serves_elsewhere s same strong count serves =
      journal-kept s old new
      (λ p of v at. is_in-part v _ _ ((kept (p / 8) (area_of_files geo p (subst (λ g. IsOf (file_area g) p) same of))).words p refl).part at)
      strong count serves

  pub files_stand_elsewhere : (s : JournalState) (files : List File) → s.geo ≡ geo → AreTables geo.fpages s.tables → FilesStand s.geo old s.tables files → FilesStand s.geo new s.tables files
  files_stand_elsewhere s files same right stand =
      files-kept s.geo old new s.tables files (subst (λ g. AreTables g.fpages s.tables) (sym same) right)
      (λ n has. kept n (page_of_files geo n (subst (λ g. HasLine g file_pages n) same has))) stand
