-- Files while none of their lines is worked on: their journal goes on serving, their images read the same, and they stand.
use Rattle.std.proofs.Common.{◌≡◌, ℕ, ◌/◌, ◌<◌, inl, inr, List, refl, subst, arith}
use Rattle.line_device.specs.Medium.{Medium}
use Rattle.line_device.proofs.HistoryLemmas.{is_in-part}
use Rattle.word_tables.specs.declared.geometry.Geometry.{Geometry}
use Rattle.word_tables.specs.Layout.{file_pages, first_line, meta_lines, HasLine}
use Rattle.word_log.specs.Area.{IsOf}
use Rattle.nvm_model.specs.Lines.{AreStrong}
use Rattle.nvm_model.specs.Storage.{File}
use Rattle.nvm_model.proofs.KeptLemmas.{LineKept}
use Rattle.file_journal.specs.Area.{IsOfFiles, file_area}
use Rattle.file_journal.specs.Object.{JournalServes, JournalState}
use Rattle.file_journal.specs.Standing.{EachReadsFiles, FilesStand}
use Rattle.file_journal.specs.Tables.{AreTables, Tables}
use Rattle.file_journal.proofs.EachFilesLemmas.{each_files-kept, file_images-kept}
use Rattle.file_journal.proofs.FileLineLemmas.{area_of_files}
use Rattle.file_journal.proofs.ServesLemmas.{journal-kept}
use Rattle.file_journal.proofs.StandingLemmas.{files-kept}

-- the first line is not one of files
pub first_not_files : (geo : Geometry) → IsOfFiles geo 0 → ⊥
unfolding first_line
first_not_files geo of =
    elim of as (λ _. ⊥) [
      | inl log ↦ omega (arith, log)
      | inr more ↦ elim more as (λ _. ⊥) [ inl slots ↦ omega (arith, slots) | inr rest ↦ elim rest as (λ _. ⊥) [ inl tables ↦ omega (arith, tables) | inr pages ↦ omega (arith, pages) ] ]
    ]

-- nor is a word of it one of log and tables
pub first_not_tables : (geo : Geometry) (p : ℕ) → p < 8 → IsOf (file_area geo) p → ⊥
first_not_tables geo p below of = let e : p / 8 ≡ 0 = omega (arith, below) in first_not_files geo (subst (IsOfFiles geo) e (area_of_files geo p of))

module _ (geo : Geometry) (old new : Medium) (kept : (line : ℕ) → IsOfFiles geo line → LineKept old new line) where
  page_kept : (n : ℕ) → HasLine geo file_pages n → LineKept old new n
  page_kept n is = kept n (inr (inr (inr is)))

  pub files_elsewhere : (P : List File → Type 0) → EachReadsFiles geo old P → EachReadsFiles geo new P
  files_elsewhere P each = each_files-kept geo old new P (file_images-kept geo old new (λ p of. kept (p / 8) (area_of_files geo p of))) page_kept each

  pub journal_elsewhere : (s : JournalState) → s.geo ≡ geo → AreStrong new (meta_lines s.geo) → new.count ≡ old.count → JournalServes s old → JournalServes s new
  journal_elsewhere s same strong count serves =
      journal-kept s old new
      (λ p of v at. is_in-part v _ _ ((kept (p / 8) (area_of_files geo p (subst (λ g. IsOf (file_area g) p) same of))).words p refl).part at)
      strong count serves

  pub files_stand_elsewhere : (t : Tables) (files : List File) → AreTables geo.fpages t → FilesStand geo old t files → FilesStand geo new t files
  files_stand_elsewhere t files are stand = files-kept geo old new t files are page_kept stand
