-- Where the lines of a file's pages lie.
use Rattle.std.proofs.Common.{ℕ, ◌<◌}
use Rattle.line_device.specs.Medium.{Medium}
use Rattle.page_lines.specs.Placed.{AreApart}
use Rattle.file_journal.specs.Object.{JournalServes, JournalState}
use Rattle.file_journal.specs.Tables.{AreTables}
use Rattle.file_pages.specs.Object.{file_place, units_of}
use Rattle.file_pages.proofs.PlaceLemmas.{places_apart, units_own}

-- the lines of a file's pages are on the device, apart
pub file_apart : (s : JournalState) (m : Medium) (inode : ℕ) → AreTables s.geo.fpages s.tables → inode < 64 → JournalServes s m → AreApart (file_place s inode) m.count
file_apart s m inode are low serves = places_apart s.geo (units_of s.tables inode) (units_own s.geo.fpages s.tables are inode low) m.count serves.count
