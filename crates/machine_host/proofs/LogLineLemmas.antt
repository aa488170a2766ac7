-- A mount changes logs and tables alone, and leaves the lines of pages.
use Rattle.std.proofs.Common.{ℕ, ◌*◌, ◌/◌, ◌<◌, ◌≤◌, inl, inr, arith}
use Rattle.line_device.specs.Medium.{Medium}
use Rattle.line_words.specs.Words.{WritesBackOutside}
use Rattle.word_tables.specs.declared.geometry.Geometry.{Geometry}
use Rattle.word_tables.specs.Bounds.{IsValid}
use Rattle.word_tables.specs.Layout.{file_pages, meta_lines, volume_line, HasLine}
use Rattle.nvm_model.proofs.KeptLemmas.{LineKept}
use Rattle.block_device.proofs.PlaceLemmas as block
use Rattle.pm_volume.proofs.AreaLemmas as volume
use Rattle.file_journal.proofs.AreaLemmas as file
use Rattle.file_journal.proofs.FileLineLemmas.{page_line_behind}
use Rattle.recovery.specs.Mounting.{IsOfLogs}
use Rattle.machine_host.proofs.LayoutLemmas.{kept-outside}
use Rattle.machine_host.proofs.VolumeLemmas.{volume_behind}

-- the words of logs and tables lie in the metadata
pub logs_in_metadata : (geo : Geometry) (p : ℕ) → IsValid geo → IsOfLogs geo p → p / 8 < meta_lines geo
logs_in_metadata geo p valid of =
    elim of as (λ _. p / 8 < meta_lines geo) [
      | inl of_blocks ↦ block.area_in_metadata geo valid p of_blocks
      | inr more ↦ elim more as (λ _. p / 8 < meta_lines geo) [ inl of_volume ↦ volume.area_in_metadata geo valid p of_volume | inr of_files ↦ file.area_in_metadata geo valid p of_files ]
    ]

module _ (geo : Geometry) (old new : Medium) (valid : IsValid geo) (x : WritesBackOutside (IsOfLogs geo) old new) where
  -- so a line behind them is only written back
  pub data_kept : (line : ℕ) → meta_lines geo ≤ line → LineKept old new line
  data_kept line behind = kept-outside (IsOfLogs geo) old new line (λ p at of. let within = logs_in_metadata geo p valid of in omega (arith, at, behind, within)) x

  -- among them those of the volume's pages, and of files'
  pub range_kept : (n : ℕ) → n < 64 * geo.vpages → LineKept old new (volume_line geo n)
  range_kept n lt = data_kept (volume_line geo n) (volume_behind geo n)

  pub file_pages_kept : (n : ℕ) → HasLine geo file_pages n → LineKept old new n
  file_pages_kept n has = data_kept n (page_line_behind geo n has)
