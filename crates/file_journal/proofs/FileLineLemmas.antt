-- The lines of files: what is done to log and tables is done to them, and the pages' lines stay.
use Rattle.std.proofs.Common.{◌≡◌, inl, inr, ℕ, ◌/◌, ◌<◌, ◌≤◌, ◌+◌, subst, arith}
use Rattle.std.proofs.lemmas.Bool.{cases_lt}
use Rattle.line_device.specs.History.{WordWritesBack}
use Rattle.line_device.specs.Medium.{Medium}
use Rattle.line_words.specs.Words.{WritesBackOutside}
use Rattle.word_tables.specs.declared.geometry.Geometry.{Geometry}
use Rattle.word_tables.specs.Bounds.{IsValid}
use Rattle.word_tables.specs.Layout.{file_pages, first_line, inodes, meta_lines, size, total_lines, HasLine}
use Rattle.word_log.specs.Area.{IsOf}
use Rattle.nvm_model.proofs.KeptLemmas.{LineKept}
use Rattle.file_journal.specs.Area.{IsOfFiles, file_area}
use Rattle.file_journal.proofs.AreaLemmas.{area_in_metadata, tables_follow}

-- a word of log or tables lies in a line of files
pub area_of_files : (geo : Geometry) (p : ℕ) → IsOf (file_area geo) p → IsOfFiles geo (p / 8)
unfolding size
area_of_files geo p of =
    elim of as (λ _. IsOfFiles geo (p / 8)) [
      | inl log ↦ inl (omega (arith, log), omega (arith, log))
      | inr home ↦
          elim (cases_lt (p / 8) (first_line geo inodes + 64)) as (λ _. IsOfFiles geo (p / 8)) [
            | inl first ↦ inr (inl (omega (arith, home), omega (arith, first)))
            | inr second ↦ inr (inr (inl (omega (arith, home, second, tables_follow geo), omega (arith, home, tables_follow geo))))
          ]
    ]

-- all of them are on the device
pub page_line_within : (geo : Geometry) (n : ℕ) → HasLine geo file_pages n → n < total_lines geo
unfolding first_line size total_lines
page_line_within geo n is = omega (arith, is)

pub files_within : (geo : Geometry) (n : ℕ) → IsOfFiles geo n → n < total_lines geo
unfolding first_line size total_lines
files_within geo n of =
    elim of as (λ _. n < total_lines geo) [
      | inl log ↦ omega (arith, log)
      | inr more ↦ elim more as (λ _. n < total_lines geo) [
        | inl slots ↦ omega (arith, slots)
        | inr rest ↦ elim rest as (λ _. n < total_lines geo) [ inl tables ↦ omega (arith, tables) | inr pages ↦ omega (arith, pages) ]
      ]
    ]

-- pages' lines lie behind the metadata
pub page_line_behind : (geo : Geometry) (n : ℕ) → HasLine geo file_pages n → meta_lines geo ≤ n
unfolding first_line
page_line_behind geo n is = omega (arith, is)

-- and no word of them is one of log and tables
pub page_line_apart : (geo : Geometry) (n p : ℕ) → IsValid geo → HasLine geo file_pages n → p / 8 ≡ n → IsOf (file_area geo) p → ⊥
page_line_apart geo n p valid is at of = omega (arith, area_in_metadata geo valid p of, page_line_behind geo n is, at)

-- so work on log and tables leaves pages' lines, but for write-back
pub page_lines-kept : (geo : Geometry) (old new : Medium) → IsValid geo → WritesBackOutside (IsOf (file_area geo)) old new → (n : ℕ) → HasLine geo file_pages n → LineKept old new n
page_lines-kept geo old new valid x n is = record {
  bad = x.bad n;
  weak = x.weak n;
  words = λ p at. subst (λ k. WordWritesBack (old.is_weak k) (old.history p) (new.history p)) at (x.word_write_back p (page_line_apart geo n p valid is at));
}
