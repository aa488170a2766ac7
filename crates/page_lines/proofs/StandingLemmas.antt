-- Pages whose lines lie at given places: what a search finds, what a load shows, and what they become as their lines turn.
use Rattle.std.proofs.Common.{◌≡◌, ℕ, ◌+◌, ◌*◌, ◌/◌, ◌%◌, ◌<◌, ◌≤◌, ◌&&◌, Bool, true, false, not, Option, Some, None, option_map, option_and_then, Result, Ok, Err, OnErr, OnOk, List, length, slice_get, refl, sym, ap, subst, ◌∙◌, arith}
use Rattle.std.proofs.Math.Bool.{and_comm}
use Rattle.std.proofs.lemmas.Bool.{false≢true, and_from, lt-ltb}
use Rattle.std.proofs.lemmas.Option.{slice_get-map, slice_get-get_or}
use Rattle.nvm_base.specs.declared.units.Span.{Span}
use Rattle.line_device.specs.Medium.{Medium}
use Rattle.nvm_model.specs.Cell.{Cell, CellStands, cell_byte, covers, lowest_touched, touches}
use Rattle.nvm_model.specs.Cell.Cell.{Bad, Kept}
use Rattle.nvm_model.specs.Numbered.{list_from, map_from}
use Rattle.nvm_model.specs.Page.{Page, PagesStand, byte_in, cell_in, cell_of, first_bad_line, first_uncovered_line, is_bad_cell, is_present, look, map_lines, presence_of}
use Rattle.nvm_model.specs.Page.Page.{Absent, Present}
use Rattle.nvm_model.proofs.InterruptedLemmas.{ArePagesLeft, IsLeft, pages_left}
use Rattle.nvm_model.proofs.NumberedLemmas.{length-map_from, list_from-same, slice_get-map_from}
use Rattle.nvm_model.proofs.PageLemmas.{cell_of-map, page_of_line}
use Rattle.nvm_model.proofs.StandLemmas.{byte_in-stand}
use Rattle.page_lines.specs.declared.finding.BadLines.TheVariants.{All, NotCovered}
use Rattle.page_lines.specs.Shown.{byte_on, placed_byte}
use Rattle.page_lines.specs.Sought.{is_bad_at, lowest_bad_in}
use Rattle.page_lines.specs.Turns.{MayTurn, Turns}

-- The lines of pages that are there have places, and no others have.
pub record Located (place : ℕ → Option ℕ) (at : ℕ → ℕ) (there : List Bool) : Type 0 where
  pub here : (n : ℕ) → slice_get there (n / 64) ≡ Some true → place n ≡ Some (at n)
  pub nowhere : (n : ℕ) → (slice_get there (n / 64) ≡ Some true → ⊥) → place n ≡ None

-- the line of the device that a cell stands at is bad where the cell is
pub cell_bad : (m : Medium) (line : ℕ) (cell : Cell) → CellStands m line cell → m.is_bad line ≡ is_bad_cell (Some cell)
cell_bad m line Bad stands = stands
cell_bad m line (Kept weak words) stands = stands.0

-- a page that is there has the line
pub has_line : (cells : List Cell) (k : ℕ) → length cells ≡ 64 → k < 64 → (cell : Cell) × (slice_get cells k ≡ Some cell)
has_line cells k whole below = (_, slice_get-get_or cells k Bad (omega (arith, whole, below)))

pub touches-byte : (start len i : ℕ) → start ≤ i → i < start + len → touches start len (i / 64) ≡ true
touches-byte start len i from to = and_from _ _ (lt-ltb start (64 * (i / 64) + 64) (omega arith)) (lt-ltb (64 * (i / 64)) (start + len) (omega arith))

pub byte_of : ℕ → Option Cell → ℕ
byte_of i None = 0
byte_of i (Some cell) = cell_byte cell (i % 64)

module _ (place : ℕ → Option ℕ) (at : ℕ → ℕ) (there : List Bool) (located : Located place at there) (m : Medium) (pages : List Page) (is_there : presence_of pages ≡ there) (stand : PagesStand at m pages) where
  pub page_there : (i : ℕ) → slice_get there i ≡ option_map is_present (slice_get pages i)
  page_there i = ap (λ (xs : List Bool). slice_get xs i) (sym is_there) ∙ slice_get-map is_present pages i

  -- where a line lies whose page is there, and what its cell is
  pub cell_there : (n : ℕ) (cell : Cell) → cell_of pages n ≡ Some cell → slice_get there (n / 64) ≡ Some true
  cell_there n cell is = ap (λ (xs : List Bool). slice_get xs (n / 64)) (sym is_there) ∙ page_of_line pages n cell is

  pub cell_at : (n : ℕ) → slice_get there (n / 64) ≡ Some true → (cell : Cell) × (cell_of pages n ≡ Some cell)
  cell_at n is = by_page (slice_get pages (n / 64)) refl (sym (page_there (n / 64)) ∙ is)
    where
      by_page : (o : Option Page) → slice_get pages (n / 64) ≡ o → option_map is_present o ≡ Some true → (cell : Cell) × (cell_of pages n ≡ Some cell)
      by_page None was is = cc
      by_page (Some Absent) was is = cc
      by_page (Some (Present cells)) was is =
          let has = has_line cells (n % 64) (stand.whole (n / 64) cells was) (omega arith) in
          (has.0, ap (option_and_then (λ page. cell_in page (n % 64))) was ∙ has.1)

  -- a line whose page is not there has no place
  not_there : (n : ℕ) (o : Option Page) → slice_get pages (n / 64) ≡ o → (option_map is_present o ≡ Some true → ⊥) → place n ≡ None
  not_there n o was lacks = located.nowhere n (λ is. lacks (sym (page_there (n / 64) ∙ ap (option_map is_present) was) ∙ is))

  pub bad_at : (n : ℕ) → is_bad_at m (place n) ≡ is_bad_cell (cell_of pages n)
  bad_at n = by_page (slice_get pages (n / 64)) refl
    where
      by_page : (o : Option Page) → slice_get pages (n / 64) ≡ o → is_bad_at m (place n) ≡ is_bad_cell (cell_of pages n)
      by_page None was = ap (is_bad_at m) (not_there n None was (λ e. cc e)) ∙ sym (ap (λ o. is_bad_cell (option_and_then (λ page. cell_in page (n % 64)) o)) was)
      by_page (Some Absent) was = ap (is_bad_at m) (not_there n (Some Absent) was (λ e. cc e)) ∙ sym (ap (λ o. is_bad_cell (option_and_then (λ page. cell_in page (n % 64)) o)) was)
      by_page (Some (Present cells)) was =
          let is = page_there (n / 64) ∙ ap (option_map is_present) was in
          let cell = cell_at n is in
          ap (is_bad_at m) (located.here n is) ∙ cell_bad m (at n) cell.0 (stand.lines n cell.0 cell.1) ∙ sym (ap is_bad_cell cell.1)

  -- so a search of the device finds what the pages say
  pub finds_bad : (span : Span) → lowest_bad_in All place m span ≡ first_bad_line pages span.start span.len
  unfolding first_bad_line
  finds_bad span = ap (λ p. lowest_touched p span.start span.len) (λ i n. bad_at n i)

  pub finds_uncovered : (span : Span) → lowest_bad_in NotCovered place m span ≡ first_uncovered_line pages span.start span.len
  unfolding first_uncovered_line
  finds_uncovered span = ap (λ p. lowest_touched p span.start span.len) (λ i n. same n i)
    where
      same : (n : ℕ) → (not (covers span.start span.len n) && is_bad_at m (place n)) ≡ (is_bad_cell (cell_of pages n) && not (covers span.start span.len n))
      same n = and_comm (not (covers span.start span.len n)) (is_bad_at m (place n)) ∙ ap (λ b. b && not (covers span.start span.len n)) (bad_at n)

  module _ (span : Span) (good : (n line : ℕ) → touches span.start span.len n ≡ true → place n ≡ Some line → m.is_bad line ≡ false) where
    byte_shown : (i : ℕ) → span.start ≤ i → i < span.start + span.len → placed_byte place m i ≡ byte_in pages i
    unfolding byte_of
    byte_shown i from to = by_page (slice_get pages (i / 64 / 64)) refl
      where
        none : (o : Option Page) → slice_get pages (i / 64 / 64) ≡ o → (option_map is_present o ≡ Some true → ⊥) → option_and_then (λ page. cell_in page (i / 64 % 64)) o ≡ None → placed_byte place m i ≡ byte_in pages i
        none o was lacks nothing =
            ap (byte_on m i) (not_there (i / 64) o was lacks) ∙ sym (ap (byte_of i) (ap (option_and_then (λ page. cell_in page (i / 64 % 64))) was ∙ nothing))

        by_page : (o : Option Page) → slice_get pages (i / 64 / 64) ≡ o → placed_byte place m i ≡ byte_in pages i
        by_page None was = none None was (λ e. cc e) refl
        by_page (Some Absent) was = none (Some Absent) was (λ e. cc e) refl
        by_page (Some (Present cells)) was =
            let is = page_there (i / 64 / 64) ∙ ap (option_map is_present) was in
            let cell = cell_at (i / 64) is in
            let here = located.here (i / 64) is in
            ap (byte_on m i) here ∙ by_cell cell.0 cell.1 (stand.lines (i / 64) cell.0 cell.1) (good (i / 64) (at (i / 64)) (touches-byte span.start span.len i from to) here)
          where
            by_cell : (cell : Cell) → cell_of pages (i / 64) ≡ Some cell → CellStands m (at (i / 64)) cell → m.is_bad (at (i / 64)) ≡ false → byte_on m i (Some (at (i / 64))) ≡ byte_in pages i
            by_cell Bad is stands healthy = absurd (false≢true (sym healthy ∙ stands))
            by_cell (Kept weak words) is stands healthy = sym (byte_in-stand at m pages weak words i is stands)

    -- what the device shows is what the pages show
    pub shown-look : list_from (placed_byte place m) span.start span.len ≡ look pages span.start span.len
    unfolding look
    shown-look = list_from-same (placed_byte place m) (byte_in pages) span.start span.start span.len (λ k below. byte_shown (span.start + k) (omega arith) (omega arith))

  module _ (new : Medium) where
    -- each line that is there turned
    pub stand-turned : (f : ℕ → Cell → Cell) → ((n line : ℕ) → place n ≡ Some line → Turns (f n) line m new) → PagesStand at new (map_from (map_lines f) 0 pages)
    stand-turned f turned = record {
      whole = whole-mapped f pages stand.whole;
      lines = λ n cell is.
          let was = changed_from (f n) (cell_of pages n) cell (sym (cell_of-map f pages n) ∙ is) in
          subst (CellStands new (at n)) was.2 ((turned n (at n) (located.here n (cell_there n was.0 was.1))).stands was.0 (stand.lines n was.0 was.1));
    }
      where
        whole-mapped : (f : ℕ → Cell → Cell) (pages : List Page) → ((i : ℕ) (cells : List Cell) → slice_get pages i ≡ Some (Present cells) → length cells ≡ 64) → (i : ℕ) (cells : List Cell) → slice_get (map_from (map_lines f) 0 pages) i ≡ Some (Present cells) → length cells ≡ 64
        whole-mapped f pages whole i cells is = by_page (slice_get pages i) refl (sym (slice_get-map_from (map_lines f) 0 pages i) ∙ is)
          where
            by_page : (o : Option Page) → slice_get pages i ≡ o → option_map (map_lines f (0 + i)) o ≡ Some (Present cells) → length cells ≡ 64
            by_page None was is = cc
            by_page (Some Absent) was is = cc
            by_page (Some (Present old)) was is =
                let same : map_from f (64 * (0 + i)) old ≡ cells = cc in ap length (sym same) ∙ length-map_from f (64 * (0 + i)) old ∙ whole i old was

        changed_from : (f : Cell → Cell) (o : Option Cell) (y : Cell) → option_map f o ≡ Some y → (x : Cell) × (o ≡ Some x) × (f x ≡ y)
        changed_from f None y e = cc
        changed_from f (Some x) y e = (x, refl, cc)

    -- each line that is there turned, or may have been
    pub left-turned : {T E : Type 0} (r : Result T E) (f : ℕ → Cell → Cell) (R : ℕ → Cell → Cell → Type 0) → ((n : ℕ) (cell : Cell) → R n cell (f n cell))
        → OnOk r ((n line : ℕ) → place n ≡ Some line → Turns (f n) line m new) → OnErr r ((n line : ℕ) → place n ≡ Some line → MayTurn (R n) line m new)
        → ArePagesLeft R at new pages
    left-turned r f R leaves done stopped = pages_left R at new pages stand.whole each
      where
        each : (n : ℕ) (cell : Cell) → cell_of pages n ≡ Some cell → IsLeft (R n) (at n) new cell
        each n cell is = by_result r done stopped (located.here n (cell_there n cell is)) (stand.lines n cell is)
          where
            by_result : {T E : Type 0} (r : Result T E) → OnOk r ((n line : ℕ) → place n ≡ Some line → Turns (f n) line m new) → OnErr r ((n line : ℕ) → place n ≡ Some line → MayTurn (R n) line m new) → place n ≡ Some (at n) → CellStands m (at n) cell → IsLeft (R n) (at n) new cell
            by_result (Ok v) turned may here stands = record { left = f n cell; may = leaves n cell; stands = (turned n (at n) here).stands cell stands }
            by_result (Err e) turned may here stands =
                let l = (may n (at n) here).leaves cell stands in record { left = l.0; may = l.1; stands = l.2 }
