-- The line of a file's line, as it is found.
use Rattle.std.proofs.Common.{◌≡◌, ℕ, ◌+◌, ◌*◌, ◌/◌, ◌%◌, ◌<◌, ◌≤◌, ◌^◌, Option, Some, None, option_map, slice_index_or, refl, sym, ap, ◌∙◌, arith}
use Rattle.std.proofs.lemmas.Option.{none-some}
use Rattle.word_tables.specs.declared.geometry.Geometry.{Geometry}
use Rattle.word_tables.specs.Bounds.{IsValid}
use Rattle.word_tables.specs.Layout.{file_line, total_lines}
use Rattle.inode_table.specs.Slots.{pages_at}
use Rattle.file_journal.specs.Tables.{AreTables, Tables, unit_at}
use Rattle.file_journal.proofs.FileLineLemmas.{page_line_within}
use Rattle.file_journal.proofs.ReplaceLemmas.{pages_at_most}
use Rattle.file_journal.proofs.StandingLemmas.{unit_line_in}
use Rattle.file_pages.specs.Object.{unit_place, units_of}
use Rattle.file_pages.proofs.PlaceLemmas.{entry_on, unit_here, unit_past}

lines_few : (geo : Geometry) → IsValid geo → total_lines geo < 2 ^ 20
unfolding total_lines
lines_few geo valid = omega (arith, valid.most_blocks, valid.most_vpages, valid.most_fpages)

pub file_line-few : (geo : Geometry) (u n line : ℕ) → IsValid geo → u < geo.fpages → line ≡ file_line geo u → line + n % 64 < 2 ^ 20
file_line-few geo u n line valid below is = omega (arith, is, lines_few geo valid, page_line_within geo (file_line geo u + n % 64) (unit_line_in geo u n below))

module _ (size : ℕ) (t : Tables) (are : AreTables size t) (inode : ℕ) (low : inode < 64) (page : ℕ) (within : page < pages_at t.files inode) where
  pub page_few : page < 256
  page_few = omega (arith, within, pages_at_most t.files inode are.names low)

  pub unit_below : (u : ℕ) → Some u ≡ unit_at t inode page → u < size
  unit_below u is = are.table.within (256 * inode + page) u (entry_on t inode page u are.table.all low page_few (sym is))

pub line_in_hole : (geo : Geometry) (t : Tables) (inode n : ℕ) → n / 64 < pages_at t.files inode → None ≡ unit_at t inode (n / 64) → None ≡ unit_place geo (units_of t inode) n
line_in_hole geo t inode n within is = ap (option_map (λ unit. file_line geo unit + n % 64)) (is ∙ sym (unit_here t inode (n / 64) within))

pub line_of_unit : (geo : Geometry) (t : Tables) (inode n u line : ℕ) → n / 64 < pages_at t.files inode → Some u ≡ unit_at t inode (n / 64) → line ≡ file_line geo u
    → Some (line + n % 64) ≡ unit_place geo (units_of t inode) n
line_of_unit geo t inode n u line within is at =
    ap (λ l. Some (l + n % 64)) at ∙ ap (option_map (λ unit. file_line geo unit + n % 64)) (is ∙ sym (unit_here t inode (n / 64) within))

pub line_past : (geo : Geometry) (t : Tables) (inode n : ℕ) → pages_at t.files inode ≤ n / 64 → None ≡ unit_place geo (units_of t inode) n
line_past geo t inode n past = ap (option_map (λ unit. file_line geo unit + n % 64)) (sym (unit_past t inode (n / 64) past))

-- a byte that has a line is no hole's, and one that has none is one's
module _ (geo : Geometry) (t : Tables) (inode offset : ℕ) where
  unit_of_byte : offset < 4096 * pages_at t.files inode → slice_index_or (units_of t inode) (offset / 64 / 64) None ≡ unit_at t inode (offset / 4096)
  unit_of_byte within =
      let page : offset / 64 / 64 ≡ offset / 4096 = omega arith in
      unit_here t inode (offset / 64 / 64) (omega arith) ∙ ap (unit_at t inode) page

  pub unit_by_place : (line : ℕ) → offset < 4096 * pages_at t.files inode → Some line ≡ unit_place geo (units_of t inode) (offset / 64) → unit_at t inode (offset / 4096) ≡ None → ⊥
  unit_by_place line within found none =
      let at = ap (option_map (λ unit. file_line geo unit + offset / 64 % 64)) (unit_of_byte within ∙ none) in
      none-some line (sym (found ∙ at))

  pub no_unit_by_place : offset < 4096 * pages_at t.files inode → None ≡ unit_place geo (units_of t inode) (offset / 64) → unit_at t inode (offset / 4096) ≡ None
  no_unit_by_place within found = sym (unit_of_byte within) ∙ nowhere (slice_index_or (units_of t inode) (offset / 64 / 64) None) found
    where
      nowhere : (o : Option ℕ) → None ≡ option_map (λ unit. file_line geo unit + offset / 64 % 64) o → o ≡ None
      nowhere None is = refl
      nowhere (Some u) is = absurd (none-some (file_line geo u + offset / 64 % 64) is)
