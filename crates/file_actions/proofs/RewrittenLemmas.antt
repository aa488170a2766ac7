-- Pages switched to units that have their new bytes.
use Rattle.std.proofs.Common.{◌≡◌, ◌⊎◌, inl, inr, ℕ, ◌+◌, ◌*◌, ◌/◌, ◌%◌, ◌<◌, Bool, true, false, is_some, if◌then◌else◌, List, map, Option, Some, None, option_and_then, option_map, get_or, length, slice_get, slice_index_or, refl, sym, ap, subst, ◌∙◌, arith}
use Rattle.std.proofs.lemmas.Bool.{cases_Bool, false≢true}
use Rattle.std.proofs.lemmas.Option.{none-some, get_or_from_slice_get, same_Some, slice_get-map, slice_get_within}
use Rattle.nvm_base.specs.declared.units.Span.{Span}
use Rattle.line_device.specs.Medium.{Medium}
use Rattle.line_words.specs.Words.{WritesBackOutside}
use Rattle.word_tables.specs.declared.geometry.Geometry.{Geometry}
use Rattle.word_tables.specs.Bounds.{IsValid}
use Rattle.word_tables.specs.Layout.{HasLine, file_line, file_pages}
use Rattle.word_log.specs.Area.{IsOf}
use Rattle.inode_table.specs.Slots.{pages_at}
use Rattle.nvm_model.specs.Cell.{Cell, CellStands, cell_byte}
use Rattle.nvm_model.specs.Cell.Cell.{Bad, Kept}
use Rattle.nvm_model.specs.Files.{OneFileLeft, on_pages}
use Rattle.nvm_model.specs.Listing as list
use Rattle.nvm_model.specs.Listing.{change_file, file_name}
use Rattle.nvm_model.specs.Numbered.{list_from, map_from}
use Rattle.nvm_model.specs.Page.{Page, byte_in, cell_in, cell_of, is_bad_cell, is_present, presence_of}
use Rattle.nvm_model.specs.Page.Page.{Present}
use Rattle.nvm_model.specs.Storage.{File}
use Rattle.nvm_model.proofs.KeptLemmas.{LineKept, cell-kept}
use Rattle.nvm_model.proofs.NumberedLemmas.{length-list_from, slice_get-list_from, slice_get-map_from}
use Rattle.nvm_model.proofs.OneFileLemmas.{alike-change_among, left-change, left-same}
use Rattle.page_lines.specs.Shown.{placed_byte}
use Rattle.page_lines.specs.Sought.{is_bad_at}
use Rattle.page_lines.proofs.LoopLemmas.{within-touches}
use Rattle.page_lines.proofs.StandingLemmas.{bad_at, shown-look}
use Rattle.file_journal.specs.Area.{file_area}
use Rattle.file_journal.specs.Changes.{switched, unit_for}
use Rattle.file_journal.specs.Files.{files_of, switched_file, unit_file_name}
use Rattle.file_journal.specs.Images.{EachReadsTables, IsEither}
use Rattle.file_journal.specs.Object.{JournalState}
use Rattle.file_journal.specs.Standing.{EachReadsFiles, FileStands, FilesStand, line_on}
use Rattle.file_journal.specs.Switches.{IsSwitch}
use Rattle.file_journal.specs.Tables.{AreTables}
use Rattle.file_journal.proofs.FileLineLemmas.{page_lines-kept}
use Rattle.file_journal.proofs.NamedFileLemmas.{files_of-switched}
use Rattle.file_journal.proofs.StandingLemmas.{files-kept, unit_line_in}
use Rattle.file_journal.proofs.SwitchLemmas.{unit_for_by}
use Rattle.file_pages.specs.Fresh.{durable_cell}
use Rattle.file_pages.specs.Object.{IsFileAt, unit_place, units_of}
use Rattle.file_pages.proofs.FilledLemmas.{either_images, map_from-after, map_from-alike, map_from-before}
use Rattle.file_pages.proofs.ListedLemmas.{found_on, that_units}
use Rattle.file_pages.proofs.PlaceLemmas.{PagesOn, length-units, line_at, located}
use Rattle.file_pages.proofs.SwitchedLemmas.{unit_for-is}
use Rattle.file_actions.proofs.LineLemmas.{shown_byte}
use Rattle.file_actions.specs.Made.{AreMade, AreWritten, new_byte, new_line}
use Rattle.file_actions.specs.Rewriting.{byte_laid, durable_line, rewritten, rewritten_page, touches_any_page}

-- pages that stand on the same lines have the same bytes
byte_in-same : (geo : Geometry) (units : List (Option ℕ)) (m : Medium) (a b : List Page) → PagesOn geo units m a → PagesOn geo units m b → (i : ℕ) → byte_in a i ≡ byte_in b i
byte_in-same geo units m a b one two i =
    elim (cases_Bool (is_bad_at m (place (i / 64)))) as (λ _. byte_in a i ≡ byte_in b i) [
      | inl bad ↦ lost a (cell_of a (i / 64)) refl (sym (is_bad a one) ∙ bad) ∙ sym (lost b (cell_of b (i / 64)) refl (sym (is_bad b two) ∙ bad))
      | inr good ↦ shown a one good ∙ sym (shown b two good)
    ]
  where
    place : ℕ → Option ℕ
    place = unit_place geo units

    is_bad : (pages : List Page) → PagesOn geo units m pages → is_bad_at m (place (i / 64)) ≡ is_bad_cell (cell_of pages (i / 64))
    is_bad pages stands = bad_at (unit_place geo units) (line_at geo units) (map is_some units) (located geo units) m pages stands.there stands.stand (i / 64)

    lost : (pages : List Page) (o : Option Cell) → cell_of pages (i / 64) ≡ o → is_bad_cell (cell_of pages (i / 64)) ≡ true → byte_in pages i ≡ 0
    lost pages None is bad = absurd (false≢true (sym (ap is_bad_cell is) ∙ bad))
    lost pages (Some Bad) is bad = ap (λ (c : Option Cell). elim c as (λ _. ℕ) [ None ↦ 0 | Some cell ↦ cell_byte cell (i % 64) ]) is
    lost pages (Some (Kept weak words)) is bad = absurd (false≢true (sym (ap is_bad_cell is) ∙ bad))

    shown : (pages : List Page) → PagesOn geo units m pages → is_bad_at m (place (i / 64)) ≡ false → byte_in pages i ≡ get_or (list_from (placed_byte (unit_place geo units) m) i 1) 0 0
    shown pages stands good =
        let e : i + 0 ≡ i = omega arith in
        sym (ap (byte_in pages) e) ∙ sym (shown_byte pages i 1 0 (omega arith))
        ∙ ap (λ xs. get_or xs 0 0)
        (sym (shown-look (unit_place geo units) (line_at geo units) (map is_some units) (located geo units) m pages stands.there stands.stand (record { start = i; len = 1 })
        (λ n line touched at.
        let here = within-touches i 1 n (omega arith) touched in
        let same : n ≡ i / 64 = omega (arith, here.0, here.1) in
        sym (ap (is_bad_at m) (sym (ap (unit_place geo units) same) ∙ at)) ∙ good)))

-- a page that ranges touch is there then
present-rewritten : (ranges : List Span) (bytes : List ℕ) (ps : List Page) (i : ℕ) (page : Page) → is_present (rewritten_page ranges bytes ps i page) ≡ (if touches_any_page ranges i then true else is_present page)
present-rewritten ranges bytes ps i page =
    elim (cases_Bool (touches_any_page ranges i)) as (λ _. is_present (rewritten_page ranges bytes ps i page) ≡ (if touches_any_page ranges i then true else is_present page)) [
      | inl touched ↦
          ap (λ b. is_present (if b then Present (list_from (durable_line (new_byte ranges bytes ps)) (64 * i) 64) else page)) touched
          ∙ sym (ap (λ b. if b then true else is_present page) touched)
      | inr out ↦
          ap (λ b. is_present (if b then Present (list_from (durable_line (new_byte ranges bytes ps)) (64 * i) 64) else page)) out
          ∙ sym (ap (λ b. if b then true else is_present page) out)
    ]

module _ (s : JournalState) (valid : IsValid s.geo) (are : AreTables s.geo.fpages s.tables) (inode : ℕ) (ranges : List Span) (bytes : List ℕ) (switches : List (ℕ × Option ℕ)) (free : List Bool)
    (x : AreMade s inode ranges (pages_at s.tables.files inode) switches free) (old mid new : Medium) (y : (listed : List File) → FilesStand s.geo old s.tables listed → FilesStand s.geo mid s.tables listed)
    (written : AreWritten s old inode ranges bytes mid switches) (z : WritesBackOutside (IsOf (file_area s.geo)) mid new) where
  abbrev mine : List (Option ℕ)
  mine = units_of s.tables inode

  abbrev after : List (Option ℕ)
  after = map_from (unit_for switches) 0 (units_of s.tables inode)

  kept : (n : ℕ) → HasLine s.geo file_pages n → LineKept mid new n
  kept = page_lines-kept s.geo mid new valid z

  unit_after : (k : ℕ) (o : Option ℕ) → slice_get mine k ≡ Some o → slice_index_or after k None ≡ unit_for switches k o
  unit_after k o is =
      let e : 0 + k ≡ k = omega arith in
      get_or_from_slice_get after k (unit_for switches k o) None
      (slice_get-map_from (unit_for switches) 0 mine k ∙ ap (option_map (unit_for switches (0 + k))) is ∙ ap (λ i. Some (unit_for switches i o)) e)

  mine_within : (k : ℕ) (o : Option ℕ) → slice_get mine k ≡ Some o → k < pages_at s.tables.files inode
  mine_within k o is = subst (λ n. k < n) (length-units s.tables inode) (slice_get_within mine k o is)

  -- a page that ranges touch gets its unit
  unit_got : (k : ℕ) (o : Option ℕ) → slice_get mine k ≡ Some o → touches_any_page ranges k ≡ true → (i : ℕ) × (u : ℕ) × IsSwitch switches i k (Some u) × (unit_for switches k o ≡ Some u)
  unit_got k o is touched =
      let e = x.each k (mine_within k o is) touched in (
        e.0,
        e.1,
        e.2,
        unit_for-is switches k (Some e.1) o e.0
            (λ j a at.
            let same = x.distinct j e.0 k a (Some e.1) at e.2 in
            let pair : (k, a) ≡ (k, Some e.1) = same_Some _ _ (sym at ∙ ap (λ n. slice_get switches n) same ∙ e.2) in
            ap (λ (c : ℕ × Option ℕ). c.1) pair)
            e.2,
      )

  -- any other page stays on its own
  unit_stays : (k : ℕ) (o : Option ℕ) → touches_any_page ranges k ≡ false → unit_for switches k o ≡ o
  unit_stays k o out =
      elim (unit_for_by switches k o) as (λ _. unit_for switches k o ≡ o) [
        | inl found ↦ absurd (false≢true (sym out ∙ (x.page found.0 k (unit_for switches k o) found.1).1))
        | inr same ↦ same
      ]

  there_after : (k : ℕ) (o : Option ℕ) → slice_get mine k ≡ Some o → (if touches_any_page ranges k then true else is_some o) ≡ is_some (unit_for switches k o)
  there_after k o is =
      elim (cases_Bool (touches_any_page ranges k)) as (λ _. (if touches_any_page ranges k then true else is_some o) ≡ is_some (unit_for switches k o)) [
        | inl touched ↦ ap (λ b. if b then true else is_some o) touched ∙ sym (ap is_some (unit_got k o is touched).3)
        | inr out ↦ ap (λ b. if b then true else is_some o) out ∙ sym (ap is_some (unit_stays k o out))
      ]

  module _ (files : List File) (file : File) (at : IsFileAt s old inode files file) where
    still : FilesStand s.geo new s.tables files
    still = files-kept s.geo mid new s.tables files are kept (y files at.stand)

    -- a line of a page that was switched
    line_stands : (k i u n : ℕ) → IsSwitch switches i k (Some u) → n / 64 ≡ k → CellStands new (file_line s.geo u + n % 64) (durable_line (new_byte ranges bytes file.pages) n)
    line_stands k i u n is here =
        let unit = x.unit i k (Some u) is in
        let below = subst (λ v. v < s.geo.fpages) (sym (same_Some u unit.0 unit.1)) unit.2 in
        let e : 64 * k + n % 64 ≡ n = omega (arith, here) in
        cell-kept mid new (file_line s.geo u + n % 64) (durable_line (new_byte ranges bytes file.pages) n) (kept (file_line s.geo u + n % 64) (unit_line_in s.geo u n below))
        (subst (λ j. CellStands mid (file_line s.geo u + n % 64) (durable_cell (new_line ranges bytes file.pages j))) e (written i k u is files file at (n % 64) (omega arith)))

    -- pages that stand on the same units have the same bytes
    module _ (ps : List Page) (stands : PagesOn s.geo mine new ps) where
      bytes_same : (i : ℕ) → byte_in file.pages i ≡ byte_in ps i
      bytes_same i = byte_in-same s.geo mine new file.pages ps (found_on s.geo s.tables are inode file.name at.named new files file still at.found) stands i

      line_stands_of : (k i u n : ℕ) → IsSwitch switches i k (Some u) → n / 64 ≡ k → CellStands new (file_line s.geo u + n % 64) (durable_line (new_byte ranges bytes ps) n)
      line_stands_of k i u n is here =
          subst (λ (f : ℕ → ℕ). CellStands new (file_line s.geo u + n % 64) (durable_line f n)) (λ j place. byte_laid ranges bytes place (bytes_same place j)) (line_stands k i u n is here)

      page_there : (k : ℕ) (page : Page) → slice_get ps k ≡ Some page → (o : Option ℕ) × (slice_get mine k ≡ Some o) × (is_some o ≡ is_present page)
      page_there k page is = by_unit (slice_get mine k) refl (sym (slice_get-map is_some mine k) ∙ ap (λ (bs : List Bool). slice_get bs k) (sym stands.there) ∙ slice_get-map is_present ps k ∙ ap (option_map is_present) is)
        where
          by_unit : (o : Option (Option ℕ)) → slice_get mine k ≡ o → option_map is_some o ≡ Some (is_present page) → (u : Option ℕ) × (slice_get mine k ≡ Some u) × (is_some u ≡ is_present page)
          by_unit None was is = cc
          by_unit (Some u) was is = (u, was, same_Some _ _ is)

      there_rewritten : presence_of (map_from (rewritten_page ranges bytes ps) 0 ps) ≡ map is_some after
      there_rewritten =
          map_from-after is_present (rewritten_page ranges bytes ps) 0 ps
          ∙ map_from-alike (λ i page. is_present (rewritten_page ranges bytes ps i page)) (λ i page. if touches_any_page ranges i then true else is_present page) 0 ps (λ j page is. present-rewritten ranges bytes ps (0 + j) page)
          ∙ sym (map_from-before (λ i there. if touches_any_page ranges i then true else there) is_present 0 ps)
          ∙ ap (map_from (λ i there. if touches_any_page ranges i then true else there) 0) stands.there
          ∙ map_from-before (λ i there. if touches_any_page ranges i then true else there) is_some 0 mine
          ∙ map_from-alike (λ i o. if touches_any_page ranges i then true else is_some o) (λ i o. is_some (unit_for switches i o)) 0 mine (λ k o is. at_zero k o is)
          ∙ sym (map_from-after is_some (unit_for switches) 0 mine)
        where
          at_zero : (k : ℕ) (o : Option ℕ) → slice_get mine k ≡ Some o → (if touches_any_page ranges (0 + k) then true else is_some o) ≡ is_some (unit_for switches (0 + k) o)
          at_zero k o is =
              let e : 0 + k ≡ k = omega arith in
              ap (λ i. if touches_any_page ranges i then true else is_some o) e ∙ there_after k o is ∙ sym (ap (λ i. is_some (unit_for switches i o)) e)

      -- a page as it is then
      page_then : (k : ℕ) (page : Page) → slice_get ps k ≡ Some page → slice_get (map_from (rewritten_page ranges bytes ps) 0 ps) k ≡ Some (rewritten_page ranges bytes ps k page)
      page_then k page is =
          let e : 0 + k ≡ k = omega arith in
          slice_get-map_from (rewritten_page ranges bytes ps) 0 ps k ∙ ap (option_map (rewritten_page ranges bytes ps (0 + k))) is ∙ ap (λ i. Some (rewritten_page ranges bytes ps i page)) e

      page_from : (k : ℕ) (now : Page) → slice_get (map_from (rewritten_page ranges bytes ps) 0 ps) k ≡ Some now → (page : Page) × (slice_get ps k ≡ Some page) × (rewritten_page ranges bytes ps k page ≡ now)
      page_from k now is = by_page (slice_get ps k) refl (sym (slice_get-map_from (rewritten_page ranges bytes ps) 0 ps k) ∙ is)
        where
          by_page : (o : Option Page) → slice_get ps k ≡ o → option_map (rewritten_page ranges bytes ps (0 + k)) o ≡ Some now → (page : Page) × (slice_get ps k ≡ Some page) × (rewritten_page ranges bytes ps k page ≡ now)
          by_page None was is = cc
          by_page (Some page) was is =
              let e : 0 + k ≡ k = omega arith in
              (page, was, sym (ap (λ i. rewritten_page ranges bytes ps i page) e) ∙ same_Some _ _ is)

      new_cells : ℕ → List Cell
      new_cells k = list_from (durable_line (new_byte ranges bytes ps)) (64 * k) 64

      rewritten_touched : (k : ℕ) (page : Page) → touches_any_page ranges k ≡ true → rewritten_page ranges bytes ps k page ≡ Present (new_cells k)
      unfolding new_cells
      rewritten_touched k page touched = ap (λ b. if b then Present (list_from (durable_line (new_byte ranges bytes ps)) (64 * k) 64) else page) touched

      rewritten_out : (k : ℕ) (page : Page) → touches_any_page ranges k ≡ false → rewritten_page ranges bytes ps k page ≡ page
      rewritten_out k page out = ap (λ b. if b then Present (list_from (durable_line (new_byte ranges bytes ps)) (64 * k) 64) else page) out

      whole_then : (i : ℕ) (cells : List Cell) → slice_get (map_from (rewritten_page ranges bytes ps) 0 ps) i ≡ Some (Present cells) → length cells ≡ 64
      unfolding new_cells
      whole_then i cells is =
          let was = page_from i (Present cells) is in
          elim (cases_Bool (touches_any_page ranges i)) as (λ _. length cells ≡ 64) [
            | inl touched ↦
                let same : Present (new_cells i) ≡ Present cells = sym (rewritten_touched i was.0 touched) ∙ was.2 in
                let cells_same : new_cells i ≡ cells = cc in
                ap length (sym cells_same) ∙ length-list_from (durable_line (new_byte ranges bytes ps)) (64 * i) 64
            | inr out ↦ stands.stand.whole i cells (was.1 ∙ ap (λ (p : Page). Some p) (sym (rewritten_out i was.0 out) ∙ was.2))
          ]

      lines_then : (n : ℕ) (cell : Cell) → cell_of (map_from (rewritten_page ranges bytes ps) 0 ps) n ≡ Some cell → CellStands new (line_at s.geo after n) cell
      unfolding new_cells
      lines_then n cell is = by_page (slice_get ps (n / 64)) refl
        where
          by_page : (o : Option Page) → slice_get ps (n / 64) ≡ o → CellStands new (line_at s.geo after n) cell
          by_page None was =
              let none = slice_get-map_from (rewritten_page ranges bytes ps) 0 ps (n / 64) ∙ ap (option_map (rewritten_page ranges bytes ps (0 + n / 64))) was in
              absurd (none-some cell (sym (ap (option_and_then (λ page. cell_in page (n % 64))) none) ∙ is))
          by_page (Some page) was =
              let there = page_there (n / 64) page was in
              let now = page_then (n / 64) page was in
              let here : cell_in (rewritten_page ranges bytes ps (n / 64) page) (n % 64) ≡ Some cell = sym (ap (option_and_then (λ p. cell_in p (n % 64))) now) ∙ is in
              elim (cases_Bool (touches_any_page ranges (n / 64))) as (λ _. CellStands new (line_at s.geo after n) cell) [
                | inl touched ↦
                    let got = unit_got (n / 64) there.0 there.1 touched in
                    let unit = unit_after (n / 64) there.0 there.1 ∙ got.3 in
                    let e : 64 * (n / 64) + n % 64 ≡ n = omega arith in
                    let listed = slice_get-list_from (durable_line (new_byte ranges bytes ps)) (64 * (n / 64)) 64 (n % 64) (omega arith) in
                    let same : durable_line (new_byte ranges bytes ps) n ≡ cell =
                    ap (durable_line (new_byte ranges bytes ps)) (sym e) ∙ same_Some _ _ (sym listed ∙ sym (ap (λ p. cell_in p (n % 64)) (rewritten_touched (n / 64) page touched)) ∙ here) in
                    subst (λ (o : Option ℕ). CellStands new (line_on s.geo o n) cell) (sym unit)
                    (subst (CellStands new (file_line s.geo got.1 + n % 64)) same (line_stands_of (n / 64) got.0 got.1 n got.2 refl))
                | inr out ↦
                    let was_cell : cell_of ps n ≡ Some cell = ap (option_and_then (λ p. cell_in p (n % 64))) was ∙ sym (ap (λ p. cell_in p (n % 64)) (rewritten_out (n / 64) page out)) ∙ here in
                    let unit = unit_after (n / 64) there.0 there.1 ∙ unit_stays (n / 64) there.0 out in
                    let before = get_or_from_slice_get mine (n / 64) there.0 None there.1 in
                    subst (λ (o : Option ℕ). CellStands new (line_on s.geo o n) cell) (before ∙ sym unit) (stands.stand.lines n cell was_cell)
              ]

      pub rewritten_on : PagesOn s.geo after new (rewritten ranges bytes ps)
      unfolding rewritten
      rewritten_on = record { there = there_rewritten; stand = record { whole = whole_then; lines = lines_then } }

    pub rewritten-files : FilesStand s.geo new (switched inode switches s.tables) (change_file file_name file.name (on_pages (rewritten ranges bytes)) files)
    rewritten-files =
        subst (λ xs. list.AreAlike unit_file_name file_name (FileStands s.geo new) xs (change_file file_name file.name (on_pages (rewritten ranges bytes)) files))
        (sym (files_of-switched s.geo.fpages s.tables are file.name inode at.named switches))
        (alike-change_among unit_file_name file_name (FileStands s.geo new) (FileStands s.geo new) file.name (switched_file switches) (on_pages (rewritten ranges bytes)) (files_of s.tables) files
        (λ a b has is is_file stands.
        let same = that_units s.geo s.tables are inode file.name at.named a has is in
        let stands_on = subst (λ us. PagesOn s.geo us new b.pages) same (record { there = stands.there; stand = stands.stand }) in
        let now = rewritten_on b.pages stands_on in
        let back = subst (λ us. PagesOn s.geo (map_from (unit_for switches) 0 us) new (rewritten ranges bytes b.pages)) (sym same) now in
        (is ∙ sym is_file, record { there = back.there; stand = back.stand }))
        (λ a b has out same stands. stands)
        still)

    pub rewritten-images : AreTables s.geo.fpages (switched inode switches s.tables) → EachReadsTables s.geo new (IsEither s.tables (switched inode switches s.tables))
        → EachReadsFiles s.geo new (OneFileLeft file.name (λ was left. (left ≡ was) ⊎ (left ≡ rewritten ranges bytes was)) files)
    rewritten-images right each =
        either_images s.geo new s.tables (switched inode switches s.tables) (OneFileLeft file.name (λ was left. (left ≡ was) ⊎ (left ≡ rewritten ranges bytes was)) files)
        files (change_file file_name file.name (on_pages (rewritten ranges bytes)) files) are right still rewritten-files
        (left-same file.name _ (λ p. inl refl) files) (left-change file.name (rewritten ranges bytes) _ (λ p. inr refl) files) each
