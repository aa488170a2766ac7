-- Bad lines of files, by their places on the device and by what the files' pages say.
use Rattle.std.proofs.Common.{◌-◌, ap₂, option_map, position, ◌≡◌, inl, inr, ℕ, ◌+◌, ◌*◌, ◌/◌, ◌<◌, ◌≤◌, true, false, not, List, Option, Some, None, length, refl, sym, ap, subst, ◌∙◌, arith}
use Rattle.std.proofs.lemmas.Bool.{le-ltb, and_from, cases_Bool, false≢true}
use Rattle.std.proofs.lemmas.Option.{slice_get_within}
use Rattle.std.specs.List.{range_with_len}
use Rattle.nvm_base.specs.declared.units.Span.{Span}
use Rattle.line_device.specs.Medium.{Medium}
use Rattle.inode_table.specs.Slots.{pages_at}
use Rattle.line_words.proofs.PositionLemmas.{none_among}
use Rattle.nvm_model.specs.Blocks.{first_there}
use Rattle.nvm_model.specs.Page.{cell_of, first_bad_line, is_bad_cell}
use Rattle.nvm_model.specs.Storage.{File}
use Rattle.page_lines.specs.Sought.{is_bad_at}
use Rattle.page_lines.proofs.StandingLemmas.{bad_at}
use Rattle.file_journal.specs.Object.{JournalServes, JournalState}
use Rattle.file_journal.specs.Tables.{AreTables}
use Rattle.file_journal.proofs.FileLineLemmas.{page_line_within}
use Rattle.file_pages.specs.Object.{IsFileAt, file_place, pages_there, units_of}
use Rattle.file_pages.specs.Refusals.{poisoned_at, read_refusal, refused_if}
use Rattle.file_pages.specs.Refusals.PageRefusal.{Range}
use Rattle.file_pages.proofs.PassLemmas.{length-pages_on, pages_on}
use Rattle.file_pages.proofs.PlaceLemmas.{length-units, line_at, located, place_in, place_is, unit_get, units_own}
use Rattle.file_actions.specs.Checked.{AreKept}
use Rattle.file_actions.specs.Rewriting.{covers_any, first_lost, is_lost, touches_any_page}
use Rattle.file_actions.proofs.FindLemmas.{found-first, found-none, none-passes}
use Rattle.file_actions.proofs.WitnessLemmas.{some_file}

module _ (s : JournalState) (m : Medium) (inode : ℕ) (are : AreTables s.geo.fpages s.tables) where
  pub place_within : inode < 64 → JournalServes s m → (n line : ℕ) → file_place s inode n ≡ Some line → line < m.count
  place_within low serves n line is =
      subst (λ c. line < c) (sym serves.count)
      (page_line_within s.geo line (place_in s.geo (units_of s.tables inode) (units_own s.geo.fpages s.tables are inode low) n line is))

  pub line_bad : (files : List File) (file : File) → IsFileAt s m inode files file → (n : ℕ) → is_bad_at m (file_place s inode n) ≡ is_bad_cell (cell_of file.pages n)
  line_bad files file at n =
      let stands = pages_on s m inode files file are at in
      bad_at (file_place s inode) (line_at s.geo (units_of s.tables inode)) (pages_there s inode) (located s.geo (units_of s.tables inode)) m file.pages stands.there stands.stand n

-- what the search for a lost line tells: the line, or that the others can be read
module _ (s : JournalState) (m : Medium) (inode : ℕ) (are : AreTables s.geo.fpages s.tables) (ranges : List Span) (files : List File) (file : File) (at : IsFileAt s m inode files file) where
  size : length file.pages ≡ pages_at s.tables.files inode
  size = length-pages_on s m inode file.pages (pages_on s m inode files file are at)

  pub lost_first : (n : ℕ) → n < 64 * pages_at s.tables.files inode → ((i : ℕ) → i < n → is_lost ranges file.pages i ≡ false) → is_lost ranges file.pages n ≡ true → Some n ≡ first_lost ranges file.pages
  unfolding first_lost
  lost_first n below before here = sym (found-first (is_lost ranges file.pages) 0 (64 * length file.pages) n (omega arith) (omega (arith, below, size)) (λ i _ lt. before i lt) here)

  pub lost_none : (n : ℕ) → 64 * pages_at s.tables.files inode ≤ n → ((i : ℕ) → i < n → is_lost ranges file.pages i ≡ false) → None ≡ first_lost ranges file.pages
  unfolding first_lost
  lost_none n all fails = sym (found-none (is_lost ranges file.pages) 0 (64 * length file.pages) (λ i _ lt. fails i (omega (arith, lt, size, all))))

  pub kept-line : first_lost ranges file.pages ≡ None → (n line : ℕ) → touches_any_page ranges (n / 64) ≡ true → covers_any ranges n ≡ false → file_place s inode n ≡ Some line → m.is_bad line ≡ false
  unfolding first_lost
  kept-line none n line touched out place =
      elim (cases_Bool (m.is_bad line)) as (λ _. m.is_bad line ≡ false) [
        | inl bad ↦
            let p = place_is s.geo (units_of s.tables inode) n line place in
            let within = slice_get_within (units_of s.tables inode) (n / 64) (Some p.0) (unit_get (units_of s.tables inode) (n / 64) p.0 p.1) in
            let below : n < 64 * length file.pages = omega (arith, within, length-units s.tables inode, size) in
            let cell = sym (line_bad s m inode are files file at n) ∙ ap (is_bad_at m) place ∙ bad in
            absurd (false≢true (sym (none-passes (is_lost ranges file.pages) 0 (64 * length file.pages) n none (omega arith) (omega (arith, below)))
            ∙ and_from _ _ touched (and_from _ _ cell (ap not out))))
        | inr good ↦ good
      ]

pub all_kept : (s : JournalState) (m : Medium) (inode : ℕ) (ranges : List Span) → AreTables s.geo.fpages s.tables → inode < 64
    → ((files : List File) (file : File) → IsFileAt s m inode files file → first_lost ranges file.pages ≡ None) → AreKept s m inode ranges
all_kept s m inode ranges are low none n line touched out place =
    let p = place_is s.geo (units_of s.tables inode) n line place in
    let within = slice_get_within (units_of s.tables inode) (n / 64) (Some p.0) (unit_get (units_of s.tables inode) (n / 64) p.0 p.1) in
    let some = some_file s m inode (n / 64) are low (omega (arith, within, length-units s.tables inode)) in
    kept-line s m inode are ranges some.listed some.file some.at (none some.listed some.file some.at) n line touched out place

-- a line of a page that ranges touch can be read, unless one of them covers it
pub line_read : (s : JournalState) (m : Medium) (inode : ℕ) → AreTables s.geo.fpages s.tables → (ranges : List Span) → AreKept s m inode ranges → (files : List File) (file : File) → IsFileAt s m inode files file
    → (line : ℕ) → touches_any_page ranges (line / 64) ≡ true → covers_any ranges line ≡ false → line < 64 * pages_at s.tables.files inode → read_refusal file.pages (64 * line) 64 ≡ None
unfolding first_bad_line
line_read s m inode are ranges kept files file at line touched out within =
    ap₂ (λ a b. first_there a b)
    (ap (λ b. first_there (refused_if b Range) None) (le-ltb (4096 * length file.pages) (64 * line + 64) (omega (arith, within, size s m inode are ranges files file at))))
    (ap (λ o. poisoned_at (option_map (λ k. 64 * line / 64 + k) o)) none)
  where
    good : (o : Option ℕ) → file_place s inode line ≡ o → is_bad_at m o ≡ false
    good None is = refl
    good (Some l) is = kept line l touched out is

    cell : is_bad_cell (cell_of file.pages line) ≡ false
    cell = sym (line_bad s m inode are files file at line) ∙ good (file_place s inode line) refl

    none : position (λ n. is_bad_cell (cell_of file.pages n)) (range_with_len (64 * line / 64) ((64 * line + 64 - 1) / 64 + 1 - 64 * line / 64)) ≡ None
    none = none_among (λ n. is_bad_cell (cell_of file.pages n)) (64 * line / 64) ((64 * line + 64 - 1) / 64 + 1 - 64 * line / 64)
        (λ k below. let e : 64 * line / 64 + k ≡ line = omega (arith, below) in ap (λ n. is_bad_cell (cell_of file.pages n)) e ∙ cell)
