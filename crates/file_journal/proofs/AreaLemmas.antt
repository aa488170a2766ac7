-- Where the files' log and tables lie.
use Rattle.std.proofs.Common.{◌≡◌, inl, inr, ℕ, ◌+◌, ◌/◌, ◌<◌, IsTrue, refl, arith}
use Rattle.line_device.specs.Device.{Device}
use Rattle.line_device.specs.Medium.{Medium}
use Rattle.word_tables.specs.declared.geometry.Geometry.{Geometry}
use Rattle.word_tables.specs.Bounds.{IsValid}
use Rattle.word_tables.specs.Layout.{first_line, size, total_lines, meta_lines, inodes, page_tables}
use Rattle.word_tables.specs.Words.{place, of_inode, of_file_page}
use Rattle.word_log.specs.Area.{IsOf, IsHome, IsShaped, IsWhole, IsStrong, IsUsable, Fits}
use Rattle.nvm_model.specs.Lines.{AreGood, AreStrong}
use Rattle.file_journal.specs.Area.{file_area}

-- the page tables follow the inodes
pub tables_follow : (geo : Geometry) → first_line geo page_tables ≡ first_line geo inodes + 64
unfolding first_line
tables_follow geo = omega arith

module _ (geo : Geometry) (valid : IsValid geo) where
  pub area_shaped : IsShaped (file_area geo)
  unfolding first_line size
  area_shaped = record { len = refl; whole = refl; apart = λ p log home. omega (arith, log, home) }

  -- they fit on the device
  pub area_fits : (m : Medium) → m.count ≡ total_lines geo → Fits (file_area geo) m
  unfolding first_line size total_lines
  area_fits m count = record { shape = area_shaped; log = omega arith; home = omega arith }

  -- their words lie in the metadata
  pub area_in_metadata : (p : ℕ) → IsOf (file_area geo) p → p / 8 < meta_lines geo
  unfolding first_line size
  area_in_metadata p of = elim of as (λ _. p / 8 < meta_lines geo) [ inl log ↦ omega arith | inr home ↦ omega arith ]

  pub area_whole : (m : Medium) → AreGood m (meta_lines geo) → IsWhole (file_area geo) m
  area_whole m good p of = good (p / 8) (area_in_metadata p of)

  pub area_strong : (m : Medium) → AreStrong m (meta_lines geo) → IsStrong (file_area geo) m
  area_strong m strong p of = strong (p / 8) (area_in_metadata p of)

  pub area_usable : (d : Device) → d.medium.count ≡ total_lines geo → AreStrong d.medium (meta_lines geo) → AreGood d.medium (meta_lines geo) → IsTrue d.panel.power → IsUsable (file_area geo) d
  area_usable d count strong good on = record { on = on; fits = area_fits d.medium count; strong = area_strong d.medium strong; whole = area_whole d.medium good }

-- the words of an inode and those of pages are home words
pub inode_is_home : (geo : Geometry) (inode k : ℕ) → inode < 64 → k < 8 → IsHome (file_area geo) (place geo (of_inode inode 0) + k)
inode_is_home geo inode k below small = (omega arith, omega arith)

pub page_is_home : (geo : Geometry) (inode page : ℕ) → inode < 64 → page < 256 → IsHome (file_area geo) (place geo (of_file_page inode page))
page_is_home geo inode page below small = (omega (arith, tables_follow geo), omega (arith, tables_follow geo))
