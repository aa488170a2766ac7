-- Lines of pages that lie on units one after the other.
use Rattle.std.proofs.Common.{◌≡◌, ℕ, ◌+◌, ◌-◌, ◌*◌, ◌/◌, ◌%◌, ◌<◌, ◌≤◌, Some, None, refl, sym, ap, subst, ◌∙◌, inl, inr, arith}
use Rattle.std.proofs.lemmas.Bool.{cases_lt}
use Rattle.std.proofs.lemmas.Option.{get_or_from_slice_get, none-some}
use Rattle.word_tables.specs.declared.geometry.Geometry.{Geometry}
use Rattle.word_tables.specs.Layout.{file_line}
use Rattle.inode_table.specs.Slots.{pages_at}
use Rattle.page_table.specs.declared.runs.Run.{Run}
use Rattle.page_table.specs.Pages.{IsOn}
use Rattle.page_table.specs.Runs.{IsRun}
use Rattle.page_lines.specs.declared.stretch.Stretch.{Stretch}
use Rattle.page_lines.specs.Stretches.{IsStretchOf}
use Rattle.page_lines.proofs.StretchLemmas.{line_along, within_line}
use Rattle.file_journal.specs.Tables.{AreTables, Tables, unit_at}
use Rattle.file_journal.proofs.UnitFileLemmas.{unit_at-past}
use Rattle.file_pages.specs.Object.{unit_place, units_of}
use Rattle.file_pages.proofs.LineLemmas.{line_in_hole, line_of_unit, line_past}

module _ (size : ℕ) (geo : Geometry) (t : Tables) (are : AreTables size t) (inode : ℕ) (low : inode < 64) where
  -- a page that is on a unit is one of the file's
  counted : (page unit : ℕ) → page < 256 → IsOn t.pages (256 * inode + page) unit → page < pages_at t.files inode
  counted page unit small on =
      elim (cases_lt page (pages_at t.files inode)) as (λ _. page < pages_at t.files inode) [
        | inl within ↦ within
        | inr past ↦ absurd (none-some unit (sym (unit_at-past size t inode page are low small past) ∙ get_or_from_slice_get t.pages (256 * inode + page) (Some unit) None on))
      ]

  module _ (page : ℕ) (run : Run) (is : IsRun t.pages inode page run) where
    pub run_below : run.unit < size
    run_below =
        let first : run.unit + 0 ≡ run.unit = omega arith in
        are.table.within (256 * inode + (run.page + 0)) run.unit
        (subst (λ (u : ℕ). IsOn t.pages (256 * inode + (run.page + 0)) u) first (is.on 0 (omega (arith, is.from, is.to))))

    run_line : (n : ℕ) → 64 * run.page ≤ n → n < 64 * run.page + 64 * run.len → Some (file_line geo run.unit + (n - 64 * run.page)) ≡ unit_place geo (units_of t inode) n
    run_line n from below =
        let k = n / 64 - run.page in
        let at : run.page + k ≡ n / 64 = omega (arith, from) in
        let on : IsOn t.pages (256 * inode + n / 64) (run.unit + k) = subst (λ (i : ℕ). IsOn t.pages (256 * inode + i) (run.unit + k)) at (is.on k (omega (arith, from, below))) in
        let there = counted (n / 64) (run.unit + k) (omega (arith, below, is.within)) on in
        let line : file_line geo run.unit + (n - 64 * run.page) ≡ file_line geo (run.unit + k) + n % 64 = omega (arith, from) in
        ap (λ (l : ℕ). Some l) line
        ∙ line_of_unit geo t inode n (run.unit + k) (file_line geo (run.unit + k)) there (sym (get_or_from_slice_get t.pages (256 * inode + n / 64) (Some (run.unit + k)) None on)) refl

    pub run_stretch : (s : Stretch) (line : ℕ) → s.start ≡ 64 * run.page → s.len ≡ 64 * run.len → s.line ≡ Some line → line ≡ file_line geo run.unit
        → IsStretchOf (unit_place geo (units_of t inode)) s
    run_stretch s line starts long lies first n inside =
        let w = within_line s (64 * run.page) (64 * run.len) starts long n inside in
        line_along s (64 * run.page) (64 * run.len) starts long n (Some line) lies inside
        ∙ ap (λ (l : ℕ). Some (l + (n - 64 * run.page))) first ∙ run_line n w.0 w.1

  -- the lines of one page
  pub page_stretch : (page unit line : ℕ) (s : Stretch) → page < pages_at t.files inode → Some unit ≡ unit_at t inode page → s.start ≡ 64 * page → s.len ≡ 64 → s.line ≡ Some line
      → line ≡ file_line geo unit → IsStretchOf (unit_place geo (units_of t inode)) s
  page_stretch page unit line s there on starts long lies first n inside =
      let w = within_line s (64 * page) 64 starts long n inside in
      let at : page ≡ n / 64 = omega (arith, w.0, w.1) in
      let rest : n - 64 * page ≡ n % 64 = omega (arith, w.0, w.1) in
      line_along s (64 * page) 64 starts long n (Some line) lies inside
      ∙ ap (λ (l : ℕ). Some (line + l)) rest
      ∙ line_of_unit geo t inode n unit line (omega (arith, at, there)) (on ∙ ap (unit_at t inode) at) first

  pub hole_stretch : (page : ℕ) (s : Stretch) → page < pages_at t.files inode → unit_at t inode page ≡ None → s.start ≡ 64 * page → s.len ≡ 64 → s.line ≡ None
      → IsStretchOf (unit_place geo (units_of t inode)) s
  hole_stretch page s there hole starts long lies n inside =
      let w = within_line s (64 * page) 64 starts long n inside in
      let at : page ≡ n / 64 = omega (arith, w.0, w.1) in
      line_along s (64 * page) 64 starts long n None lies inside
      ∙ line_in_hole geo t inode n (omega (arith, at, there)) (sym (subst (λ (i : ℕ). unit_at t inode i ≡ None) at hole))

-- a line past the pages
pub past_stretch : (geo : Geometry) (t : Tables) (inode line : ℕ) (s : Stretch) → pages_at t.files inode ≤ line / 64 → s.start ≡ line → s.len ≡ 1 → s.line ≡ None
    → IsStretchOf (unit_place geo (units_of t inode)) s
past_stretch geo t inode line s past starts long lies n inside =
    let w = within_line s line 1 starts long n inside in
    let at : n ≡ line = omega (arith, w.0, w.1) in
    line_along s line 1 starts long n None lies inside ∙ line_past geo t inode n (omega (arith, at, past))
