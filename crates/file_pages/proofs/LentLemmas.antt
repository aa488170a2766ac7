-- A line of a file that is lent.
use Rattle.std.proofs.Common.{◌≡◌, ◌+◌, ◌*◌, ◌/◌, ◌%◌, ◌<◌, ◌≤◌, ℕ, Bool, true, false, length, slice_get, Option, Some, None, option_map, IfOk, IfSome, IsOkAnd, OnOk, Result, Ok, Err, List, refl, sym, ap, subst, ◌∙◌, arith}
use Rattle.std.specs.Borrow.{Bor}
use Rattle.std.specs.Option.{option_copied}
use Rattle.std.proofs.lemmas.Bool.{and_from, lt-ltb}
use Rattle.std.proofs.lemmas.Option.{none-some}
use Rattle.nvm_base.specs.declared.units.LineNo.{LineNo}
use Rattle.line_device.specs.Medium.{Medium}
use Rattle.line_words.specs.Told.{Answers, Checks}
use Rattle.word_tables.specs.Layout.{total_lines}
use Rattle.inode_table.specs.Slots.{pages_at}
use Rattle.nvm_model.specs.Cell.{Cell, touches}
use Rattle.nvm_model.specs.Lines.{span_shown}
use Rattle.nvm_model.specs.Page.{cell_of, first_bad_line, look}
use Rattle.nvm_model.specs.Storage.{File}
use Rattle.page_lines.proofs.LoadLemmas.{placed-line}
use Rattle.page_lines.proofs.ResultLemmas.{checks_first}
use Rattle.page_lines.proofs.StandingLemmas.{cell_at, cell_there, shown-look}
use Rattle.file_journal.specs.Object.{JournalState}
use Rattle.file_journal.specs.Tables.{AreTables}
use Rattle.file_pages.specs.declared.fault.PageFault.{PageFault}
use Rattle.file_pages.specs.declared.fault.PageFault.TheVariants as fault
use Rattle.file_pages.specs.Checked.{IsReadable}
use Rattle.file_pages.specs.Object.{IsFileAt, file_place, pages_there, units_of}
use Rattle.file_pages.specs.Refusals.{PageRefusal, bytes_refusal, page_says, poisoned_at, read_refusal, refused_if}
use Rattle.file_pages.specs.Refusals.PageRefusal.{Range}
use Rattle.nvm_model.specs.Blocks.{first_there}
use Rattle.file_pages.proofs.PassLemmas.{length-pages_on, pages_on}
use Rattle.file_pages.proofs.PlaceLemmas.{PagesOn, line_at, located, places_apart, units_own}

-- where a test passed, what it says holds of any good answer
pub passed_answers : {S T : Type 0} (why : Option PageRefusal) (place : Result S PageFault) (x : S) (y : T) → place ≡ Ok x → Checks page_says why place → Answers page_says why (Ok y)
passed_answers None place x y is checks = tt
passed_answers (Some why) place x y is checks = subst (Checks page_says (Some why)) is checks

-- and where it failed, of the same answer
pub refused_as : {S : Type 0} (T : Type 0) (why : Option PageRefusal) (place : Result S PageFault) (f : PageFault) → place ≡ Err f → Checks page_says why place → Checks {T = T} page_says why (Err f)
refused_as T None place f is checks = absurd (subst (Checks page_says None) is checks)
refused_as T (Some why) place f is checks = subst (Checks page_says (Some why)) is checks

line_touches : (line : ℕ) → touches (64 * line) 64 line ≡ true
line_touches line = and_from _ _ (lt-ltb (64 * line) (64 * line + 64) (omega arith)) (lt-ltb (64 * line) (64 * line + 64) (omega arith))

module _ (s : JournalState) (m : Medium) (inode line : ℕ) where
  pub lent_within : AreTables s.geo.fpages s.tables → inode < 64 → m.count ≡ total_lines s.geo → (place : Option LineNo) → option_map (λ l. l.0) place ≡ file_place s inode line → IfSome place (λ l. l.0 < m.count)
  lent_within are low count None is = tt
  lent_within are low count (Some l) is = (places_apart s.geo (units_of s.tables inode) (units_own s.geo.fpages s.tables are inode low) m.count count).on line l.0 (sym is)

  pub lent_good : IsReadable s m inode (record { start = 64 * line; len = 64 }) → (place : Option LineNo) → option_map (λ l. l.0) place ≡ file_place s inode line → IfSome place (λ l. m.is_bad l.0 ≡ false)
  lent_good readable None is = tt
  lent_good readable (Some l) is = readable.good line l.0 (line_touches line) (sym is)

  module _ (are : AreTables s.geo.fpages s.tables) (files : List File) (file : File) (at : IsFileAt s m inode files file) where
    -- a line past the last one
    pub past_refused : (T : Type 0) → 64 * pages_at s.tables.files inode ≤ line → Checks {T = T} page_says (read_refusal file.pages (64 * line) 64) (Err fault.Range)
    past_refused T past =
        let size = length-pages_on s m inode file.pages (pages_on s m inode files file are at) in
        let over = lt-ltb (4096 * length file.pages) (64 * line + 64) (omega (arith, past, size)) in
        checks_first page_says T T (bytes_refusal (length file.pages) (64 * line) 64) (poisoned_at (first_bad_line file.pages (64 * line) 64)) fault.Range fault.Range refl
        (subst (λ b. Checks {T = T} page_says (first_there (refused_if b Range) None) (Err fault.Range)) (sym over) refl)

    -- the bytes of one that is there
    pub lent_look : IsReadable s m inode (record { start = 64 * line; len = 64 }) → (place : Option LineNo) → option_map (λ l. l.0) place ≡ file_place s inode line
        → option_map (λ (l : LineNo). span_shown m (64 * l.0) 64) place ≡ option_map (λ cell. look file.pages (64 * line) 64) (cell_of file.pages line)
    lent_look readable place is = by_cell (cell_of file.pages line) refl place is
      where
        stands : PagesOn s.geo (units_of s.tables inode) m file.pages
        stands = pages_on s m inode files file are at

        here : (cell : Cell) → cell_of file.pages line ≡ Some cell → file_place s inode line ≡ Some (line_at s.geo (units_of s.tables inode) line)
        here cell found =
            (located s.geo (units_of s.tables inode)).here line
            (cell_there (file_place s inode) (line_at s.geo (units_of s.tables inode)) (pages_there s inode) (located s.geo (units_of s.tables inode)) m file.pages stands.there stands.stand line cell found)

        shown : (l : LineNo) → file_place s inode line ≡ Some l.0 → span_shown m (64 * l.0) 64 ≡ look file.pages (64 * line) 64
        shown l at_line =
            let n : 64 * line / 64 ≡ line = omega arith in
            let start : 64 * l.0 + 64 * line % 64 ≡ 64 * l.0 = omega arith in
            ap (λ k. span_shown m k 64) (sym start)
            ∙ placed-line (file_place s inode) m (64 * line) 64 l.0 (ap (file_place s inode) n ∙ at_line) (omega arith)
            ∙ shown-look (file_place s inode) (line_at s.geo (units_of s.tables inode)) (pages_there s inode) (located s.geo (units_of s.tables inode)) m file.pages stands.there stands.stand (record { start = 64 * line; len = 64 }) readable.good

        nowhere : cell_of file.pages line ≡ None → (l : LineNo) → file_place s inode line ≡ Some l.0 → ⊥
        nowhere found l at_line =
            by_presence (slice_get (pages_there s inode) (line / 64)) refl
          where
            by_presence : (o : Option Bool) → slice_get (pages_there s inode) (line / 64) ≡ o → ⊥
            by_presence (Some true) there =
                let cell = cell_at (file_place s inode) (line_at s.geo (units_of s.tables inode)) (pages_there s inode) (located s.geo (units_of s.tables inode)) m file.pages stands.there stands.stand line there in
                none-some cell.0 (sym found ∙ cell.1)
            by_presence (Some false) there = none-some l.0 (sym ((located s.geo (units_of s.tables inode)).nowhere line (λ is. cc)) ∙ at_line)
            by_presence None there = none-some l.0 (sym ((located s.geo (units_of s.tables inode)).nowhere line (λ is. cc)) ∙ at_line)

        by_cell : (o : Option Cell) → cell_of file.pages line ≡ o → (place : Option LineNo) → option_map (λ l. l.0) place ≡ file_place s inode line
            → option_map (λ (l : LineNo). span_shown m (64 * l.0) 64) place ≡ option_map (λ cell. look file.pages (64 * line) 64) o
        by_cell None found None is = refl
        by_cell None found (Some l) is = absurd (nowhere found l (sym is))
        by_cell (Some cell) found None is = absurd (none-some _ (is ∙ here cell found))
        by_cell (Some cell) found (Some l) is = ap (λ bytes. Some bytes) (shown l (sym is))

  -- so what is lent is the line's bytes, and nothing in a hole
  pub lent_shows : AreTables s.geo.fpages s.tables → (r : Result (Option (Bor (List ℕ))) PageFault) (place : Result (Option LineNo) PageFault) → OnOk place (IsReadable s m inode (record { start = 64 * line; len = 64 }))
      → IfOk place (λ p. option_map (λ l. l.0) p ≡ file_place s inode line)
      → IfOk r (λ lent. IsOkAnd place (λ p. option_copied lent ≡ option_map (λ (l : LineNo). span_shown m (64 * l.0) 64) p))
      → IfOk r (λ lent. (files : List File) (file : File) → IsFileAt s m inode files file → option_copied lent ≡ option_map (λ cell. look file.pages (64 * line) 64) (cell_of file.pages line))
  lent_shows are (Ok lent) (Ok p) readable is shown = λ files file at. shown ∙ lent_look are files file at readable p is
  lent_shows are (Ok lent) (Err f) readable is shown = absurd shown
  lent_shows are (Err f) place readable is shown = tt
