-- What is said of the line of a byte of a file.
use Rattle.std.proofs.Common.{◌≡◌, ℕ, ◌*◌, ◌/◌, ◌<◌, ◌≤◌, if◌then◌else◌, Some, None, Result, Ok, Err, List, length, refl, sym, subst, arith}
use Rattle.std.proofs.lemmas.Bool.{le-leb}
use Rattle.nvm_base.specs.declared.units.LineNo.{LineNo}
use Rattle.line_device.specs.Medium.{Medium}
use Rattle.line_words.specs.Told.{Answers, Checks}
use Rattle.inode_table.specs.Slots.{pages_at}
use Rattle.nvm_model.specs.Page.{cell_of}
use Rattle.nvm_model.specs.Storage.{File}
use Rattle.file_journal.specs.Object.{JournalState}
use Rattle.file_journal.specs.Tables.{AreTables}
use Rattle.file_pages.specs.Object.{IsFileAt, file_place, pages_there, units_of}
use Rattle.file_pages.proofs.PassLemmas.{length-pages_on, pages_on}
use Rattle.file_pages.proofs.PlaceLemmas.{PagesOn, line_at, located}
use Rattle.scrub.specs.declared.fault.PlaceFault.TheVariants as place
use Rattle.scrub.specs.declared.fault.ScrubFault.{ScrubFault}
use Rattle.marked_lines.specs.Refusals.{cell_refusal, file_clear_refusal, file_refusal, mark_refusal}
use Rattle.scrub.specs.Refusals.{place_says, scrub_says}
use Rattle.marked_lines.specs.Refusals.ScrubRefusal.{Range}
use Rattle.scrub.proofs.PlacedLemmas.{clear_there, told_nothing, told_there}

module _ (s : JournalState) (m : Medium) (inode offset : ℕ) (are : AreTables s.geo.fpages s.tables) (all : List File) (file : File) (is : IsFileAt s m inode all file) where
  stands : PagesOn s.geo (units_of s.tables inode) m file.pages
  stands = pages_on s m inode all file are is

  pub file_size : length file.pages ≡ pages_at s.tables.files inode
  file_size = length-pages_on s m inode file.pages stands

  pub past_file : 4096 * pages_at s.tables.files inode ≤ offset → Checks {T = LineNo} place_says (file_refusal file.pages offset) (Err place.Range)
  past_file past =
      subst (λ b. Checks {T = LineNo} place_says (if b then Some Range else cell_refusal (cell_of file.pages (offset / 64))) (Err place.Range))
      (sym (le-leb (4096 * length file.pages) offset (omega (arith, past, file_size)))) refl

  pub file_nowhere : offset < 4096 * pages_at s.tables.files inode → file_place s inode (offset / 64) ≡ None → Checks {T = LineNo} place_says (file_refusal file.pages offset) (Err place.Nothing)
  file_nowhere below none =
      told_nothing (file_place s inode) (line_at s.geo (units_of s.tables inode)) (pages_there s inode) (located s.geo (units_of s.tables inode)) m file.pages stands.there stands.stand
      (length file.pages) offset (omega (arith, below, file_size)) none

  pub file_there : (line : LineNo) → offset < 4096 * pages_at s.tables.files inode → file_place s inode (offset / 64) ≡ Some line.0 → Checks place_says (file_refusal file.pages offset) (Ok line)
  file_there line below here =
      told_there (file_place s inode) (line_at s.geo (units_of s.tables inode)) (pages_there s inode) (located s.geo (units_of s.tables inode)) m file.pages stands.there stands.stand
      (length file.pages) offset line.0 line (omega (arith, below, file_size)) here

  -- a clear goes by the mark of the line that was found
  pub file_clear_there : (line : LineNo) {T : Type 0} (r : Result T ScrubFault) → Checks place_says (file_refusal file.pages offset) (Ok line) → file_place s inode (offset / 64) ≡ Some line.0
      → Answers scrub_says (mark_refusal (m.is_bad line.0)) r → Answers scrub_says (file_clear_refusal file.pages offset) r
  file_clear_there line r passes here told =
      clear_there (file_place s inode) (line_at s.geo (units_of s.tables inode)) (pages_there s inode) (located s.geo (units_of s.tables inode)) m file.pages stands.there stands.stand
      (length file.pages) offset line r passes here told
