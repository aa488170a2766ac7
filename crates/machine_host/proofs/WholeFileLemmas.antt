-- Spans that have all bytes of a file.
use Rattle.std.proofs.Common.{◌≡◌, ◌+◌, ◌*◌, ◌<◌, ◌≤◌, ◌++◌, ◌∙◌, ◌&&◌, ℕ, true, List, [], ◌∷◌, length, refl, sym, ap, ap₂, subst, arith}
use Rattle.std.specs.List.{filter, range_with_len}
use Rattle.std.proofs.lemmas.Bool.{lt-ltb}
use Rattle.std.proofs.lemmas.List.{append-nil}
use Rattle.line_device.specs.Medium.{Medium}
use Rattle.nvm_base.specs.declared.units.Span.{Span}
use Rattle.inode_table.specs.Slots.{pages_at}
use Rattle.nvm_model.specs.Cell.{touches}
use Rattle.nvm_model.specs.Page.{Page, cell_of, is_bad_cell}
use Rattle.nvm_model.specs.Storage.{File}
use Rattle.nvm_model.specs.Touched.{bad_touched, is_bad_touched}
use Rattle.nvm_model.proofs.SeveralLemmas.{touches-one}
use Rattle.file_journal.specs.Tables.{AreTables}
use Rattle.file_journal.proofs.ReplaceLemmas.{pages_at_most}
use Rattle.file_pages.specs.Object.{IsFileAt}
use Rattle.file_pages.proofs.PassLemmas.{length-pages_on, pages_on}
use Rattle.file_actions.specs.Refusals.{all_bytes}
use Rattle.machine_host.specs.declared.held.HeldFiles.{HeldFiles}
use Rattle.machine_host.specs.Flushing.{HoldsLost, LinesTold}
use Rattle.machine_model.specs.OnEvents.{events_of}
use Rattle.machine_host.proofs.LayoutLemmas.{filter-same}

-- so many bytes from the start on
abbrev pub first_bytes : ℕ → List Span
first_bytes len = record { start = 0; len = len } ∷ []

-- they touch each line that begins in them
touches_first : (len n : ℕ) → 64 * n < len → touches 0 len n ≡ true
touches_first len n below = ap₂ (λ a b. a && b) (lt-ltb 0 (64 * n + 64) (omega arith)) (lt-ltb (64 * n) (0 + len) (omega (arith, below)))

bad_first : (len n : ℕ) (pages : List Page) → 64 * n < len → is_bad_touched (first_bytes len) pages n ≡ is_bad_cell (cell_of pages n)
bad_first len n pages below = ap (λ b. b && is_bad_cell (cell_of pages n)) (touches-one (record { start = 0; len = len }) n ∙ touches_first len n below)

-- so the bad lines of a file are the same wherever they end past it
pub bad_touched-all : (pages : List Page) (one other : ℕ) → 4096 * length pages ≤ one → 4096 * length pages ≤ other → bad_touched (first_bytes one) pages ≡ bad_touched (first_bytes other) pages
unfolding bad_touched
bad_touched-all pages one other first second =
    filter-same (is_bad_touched (first_bytes one) pages) (is_bad_touched (first_bytes other) pages) 0 (64 * length pages)
    (λ n below. bad_first one n pages (omega (arith, below, first)) ∙ sym (bad_first other n pages (omega (arith, below, second))))

-- a file with no pages has none
pub bad_touched-empty : (spans : List Span) (pages : List Page) → length pages ≡ 0 → bad_touched spans pages ≡ []
unfolding bad_touched
bad_touched-empty spans pages empty = ap (λ n. filter (is_bad_touched spans pages) (range_with_len 0 (64 * n))) empty

-- Of the file of an inode, whose size the tables have.
module _ (m : Medium) (inode : ℕ) (f : HeldFiles) (right : AreTables f.pages.journal.geo.fpages f.pages.journal.tables) (below : inode < 64) where
  abbrev pub size : ℕ
  size = pages_at f.pages.journal.tables.files inode

  sized : (files : List File) (file : File) → IsFileAt f.pages.journal m inode files file → length file.pages ≡ size
  sized files file at = length-pages_on f.pages.journal m inode file.pages (pages_on f.pages.journal m inode files file right at)

  whole_lost : (files : List File) (file : File) → IsFileAt f.pages.journal m inode files file → bad_touched (first_bytes (4096 * size)) file.pages ≡ bad_touched all_bytes file.pages
  whole_lost files file at =
      let same = sized files file at in
      let few : size ≤ 256 = pages_at_most f.pages.journal.tables.files inode right.names below in
      bad_touched-all file.pages (4096 * size) 1048576 (omega (arith, same)) (omega (arith, same, few))

  pub holds_whole : HoldsLost f m inode all_bytes → HoldsLost f m inode (first_bytes (4096 * size))
  holds_whole room = record {
    files = room.files;
    file = room.file;
    at = room.at;
    enough = subst (λ (ns : List ℕ). length ns ≤ f.events.spare) (sym (whole_lost room.files room.file room.at)) room.enough;
  }

  pub told_whole : (name : List ℕ) (new : HeldFiles) → LinesTold name inode (first_bytes (4096 * size)) m f new → LinesTold name inode all_bytes m f new
  told_whole name new told = record {
    events = λ files file at. told.events files file at ∙ ap (λ ns. f.events.items ++ events_of f.mappings.mappings name ns) (whole_lost files file at);
    spare = λ files file at. ap (λ (ns : List ℕ). new.events.spare + length ns) (sym (whole_lost files file at)) ∙ told.spare files file at;
    others = told.others;
  }

  pub told_none : (name : List ℕ) (spans : List Span) → size ≡ 0 → LinesTold name inode spans m f f
  told_none name spans empty = record {
    events = λ files file at. sym (ap (λ ns. f.events.items ++ events_of f.mappings.mappings name ns) (bad_touched-empty spans file.pages (sized files file at ∙ empty)) ∙ append-nil f.events.items);
    spare = λ files file at. let none = ap (λ (ns : List ℕ). length ns) (bad_touched-empty spans file.pages (sized files file at ∙ empty)) in omega (arith, none);
    others = refl;
  }
