-- Bad lines of files, found one after the other.
use Rattle.std.proofs.Common.{◌≡◌, ℕ, ◌+◌, ◌*◌, ◌<◌, ◌≤◌, ◌&&◌, ◌||◌, Bool, true, false, cond, List, [], ◌∷◌, ◌++◌, length, sym, ap, ◌∙◌, inl, inr, arith}
use Rattle.std.specs.List.{filter, range_with_len}
use Rattle.std.proofs.lemmas.Bool.{cases_Bool}
use Rattle.std.proofs.lemmas.List.{append-nil, map-append}
use Rattle.nvm_base.specs.declared.units.Span.{Span}
use Rattle.nvm_base.specs.Units.{units_of}
use Rattle.line_device.specs.Medium.{Medium}
use Rattle.inode_table.specs.Slots.{pages_at}
use Rattle.nvm_model.specs.Cell.{touches}
use Rattle.nvm_model.specs.Events.{bad_numbers, offsets_of}
use Rattle.nvm_model.specs.Page.{Page, cell_of, is_bad_cell}
use Rattle.nvm_model.specs.Storage.{File}
use Rattle.nvm_model.specs.Touched.{bad_touched, is_bad_touched}
use Rattle.nvm_model.proofs.RangeLemmas.{filter-alike, filter-next, filter-within}
use Rattle.page_lines.proofs.LoopLemmas.{touches-within, within-touches}
use Rattle.page_lines.proofs.StandingLemmas.{bad_at}
use Rattle.file_journal.specs.Object.{JournalState}
use Rattle.file_journal.specs.Tables.{AreTables}
use Rattle.file_pages.specs.Object.{IsFileAt, file_place, pages_there, units_of as units_at}
use Rattle.file_pages.proofs.PassLemmas.{length-pages_on, pages_on}
use Rattle.file_pages.proofs.PlaceLemmas.{PagesOn, line_at, located}
use Rattle.marked_lines.specs.Lines.{bad_from}

-- one line more, which passes or not
module _ (p : ℕ → Bool) (a n : ℕ) where
  pub offsets-one : p (a + n) ≡ true → offsets_of (filter p (range_with_len a (n + 1))) ≡ offsets_of (filter p (range_with_len a n)) ++ 64 * (a + n) ∷ []
  offsets-one passes =
      ap offsets_of (filter-next p a n ∙ ap (λ b. filter p (range_with_len a n) ++ cond b ((a + n) ∷ []) []) passes)
      ∙ map-append (λ (k : ℕ). 64 * k) (filter p (range_with_len a n)) ((a + n) ∷ [])

  pub offsets-none : p (a + n) ≡ false → offsets_of (filter p (range_with_len a (n + 1))) ≡ offsets_of (filter p (range_with_len a n))
  offsets-none fails =
      ap offsets_of (filter-next p a n ∙ ap (λ b. filter p (range_with_len a n) ++ cond b ((a + n) ∷ []) []) fails ∙ append-nil (filter p (range_with_len a n)))

-- the bad lines that a span of pages touches are among its lines
module _ (span : Span) (pages : List Page) (some : 1 ≤ span.len) (within : span.start + span.len ≤ 4096 * length pages) where
  abbrev bad : ℕ → Bool
  bad n = is_bad_cell (cell_of pages n)

  untouched : (n : ℕ) → touches span.start span.len n ≡ false → is_bad_touched (span ∷ []) pages n ≡ false
  untouched n is = ap (λ b. (b || false) && bad n) is

  out : (n : ℕ) → ((units_of 64 span).start ≤ n → n < (units_of 64 span).start + (units_of 64 span).len → ⊥) → is_bad_touched (span ∷ []) pages n ≡ false
  out n beside =
      elim (cases_Bool (touches span.start span.len n)) as (λ _. is_bad_touched (span ∷ []) pages n ≡ false) [
        | inl is ↦ let at = within-touches span.start span.len n some is in absurd (beside at.0 at.1)
        | inr is ↦ untouched n is
      ]

  pub bad_touched-among : bad_touched (span ∷ []) pages ≡ filter bad (range_with_len (units_of 64 span).start (units_of 64 span).len)
  unfolding bad_touched
  bad_touched-among =
      filter-within (is_bad_touched (span ∷ []) pages) (units_of 64 span).start (units_of 64 span).len (64 * length pages) (omega (arith, some, within))
      (λ n before. out n (λ from to. omega (arith, from, before))) (λ n past. out n (λ from to. omega (arith, to, past)))
      ∙ filter-alike (is_bad_touched (span ∷ []) pages) bad (units_of 64 span).start (units_of 64 span).len
      (λ n from to. ap (λ b. (b || false) && bad n) (touches-within span.start span.len n some from to))

-- the lines of a file that are bad on the device are its bad cells
module _ (s : JournalState) (m : Medium) (inode : ℕ) (pages : List Page) (stands : PagesOn s.geo (units_at s.tables inode) m pages) where
  pub bad_from-cells : (first count : ℕ) → bad_from s m inode first count ≡ filter (λ n. is_bad_cell (cell_of pages n)) (range_with_len first count)
  bad_from-cells first count =
      ap (λ p. filter p (range_with_len first count))
      (λ i n. bad_at (file_place s inode) (line_at s.geo (units_at s.tables inode)) (pages_there s inode) (located s.geo (units_at s.tables inode)) m pages stands.there stands.stand n i)

  pub bad_from-all : bad_from s m inode 0 (64 * length pages) ≡ bad_numbers pages
  unfolding bad_numbers
  bad_from-all = bad_from-cells 0 (64 * length pages)

-- so a look at the lines of a span finds those of the file that it touches
pub found_touched : (s : JournalState) (m : Medium) (inode : ℕ) (are : AreTables s.geo.fpages s.tables) (all : List File) (file : File) → IsFileAt s m inode all file → (span lines : Span) → lines ≡ units_of 64 span
    → 1 ≤ span.len → span.start + span.len ≤ 4096 * pages_at s.tables.files inode → bad_from s m inode lines.start lines.len ≡ bad_touched (span ∷ []) file.pages
found_touched s m inode are all file is span lines same some within =
    let stands = pages_on s m inode all file are is in
    let size = length-pages_on s m inode file.pages stands in
    ap (λ (l : Span). bad_from s m inode l.start l.len) same
    ∙ bad_from-cells s m inode file.pages stands (units_of 64 span).start (units_of 64 span).len
    ∙ sym (bad_touched-among span file.pages some (omega (arith, within, size)))
