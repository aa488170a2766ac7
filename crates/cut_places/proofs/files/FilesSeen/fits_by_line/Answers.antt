-- Each read is asked.
use Rattle.std.proofs.Common.{◌≡◌, ◌<◌, ◌≤◌, ◌+◌, ℕ, Bool, true, false, List, length, get_or, take, sym, ap, ◌∙◌}
use Rattle.std.specs.List.{list_all}
use Rattle.std.proofs.lemmas.Bool.{and_from}
use Rattle.std.proofs.lemmas.List.{take_all}
use Rattle.std.proofs.lemmas.List.Folds.{list_all-map, list_all_at, list_all_more}
use Rattle.nvm_model.specs.Listing.{file_of}
use Rattle.sights.specs.AskedReads.Reads.{page_read}
use Rattle.sights.specs.Outcomes.Files.{FileRead}
use Rattle.sights.specs.AskedReads.declared.reads.FileRead.{FileRead as Asked}
use Rattle.sights.specs.AskedReads.Reads.{file_read, file_reads_asked}
use Rattle.cut_places.specs.FileChanges.{LinesChange, lines_of}
use Rattle.cut_places.specs.FileFitting.{either_fits, fit_by_line, read_passes}
use Rattle.cut_places.specs.FilesState.{FileState, FilesState, name_seen}
use Rattle.cut_places.proofs.files.FilesSeen.fits_by_line.Goals as goal

module _ (asked : List Asked) (name : List ℕ) (c : LinesChange) where
  abbrev passes : List FileState → Asked → Bool
  passes files r = read_passes (either_fits (file_reads_asked asked) name c r.name) (page_read r.pages) (file_of name_seen r.name files)

  all_reads : (s : FilesState) → list_all (passes s.files) asked ≡ fit_by_line name c (file_reads_asked asked) s
  all_reads s = sym (list_all-map (λ (r : FileRead). read_passes (either_fits (file_reads_asked asked) name c r.name) r.pages (file_of name_seen r.name s.files)) file_read asked)

  -- one read, of files that are shown
  told : (files shown : List FileState) (i : ℕ) (r : Asked) (b t : Bool) → shown ≡ files → r ≡ get_or asked i r → b ≡ passes shown r → b ≡ t → passes files (get_or asked i r) ≡ t
  told files shown i r b t same at is so = sym (ap (passes files) at) ∙ sym (ap (λ fs. passes fs r) same) ∙ sym is ∙ so

  stops : (s : FilesState) (shown : List FileState) (i : ℕ) (r : Asked) (b : Bool) → i < length asked → shown ≡ s.files → r ≡ get_or asked i r → b ≡ passes shown r → b ≡ false
      → false ≡ fit_by_line name c (file_reads_asked asked) s
  stops s shown i r b lt same at is so = sym (list_all_at (passes s.files) asked i r lt (told s.files shown i r b false same at is so)) ∙ all_reads s

  goes : (files shown : List FileState) (i : ℕ) (r : Asked) (b : Bool) → i < length asked → shown ≡ files → r ≡ get_or asked i r → b ≡ passes shown r → b ≡ true
      → list_all (passes files) (take i asked) ≡ true → list_all (passes files) (take (i + 1) asked) ≡ true
  goes files shown i r b lt same at is so all = list_all_more (passes files) asked i r lt ∙ and_from _ _ all (told files shown i r b true same at is so)

  ends : (s : FilesState) (i : ℕ) → length asked ≤ i → list_all (passes s.files) (take i asked) ≡ true → true ≡ fit_by_line name c (file_reads_asked asked) s
  ends s i past all = sym all ∙ ap (list_all (passes s.files)) (take_all i asked past) ∙ all_reads s

pub returns-then-not-branch : goal.returns-then-not-branch
returns-then-not-branch c =
    stops c.args.reads.now c.args.name.now (lines_of c.args.lines.now) c.args.self.now c.deref.result.now c.loop-read.read-index c.read-item.result c.in_ok-read_fits_either.field-0 c.loop-read-test.true
    (c.deref.ensures.value ∙ ap (λ (s : FilesState). s.files) c.self.view_is) c.read-item.is c.in_ok-read_fits_either.ensures c.if-not-branch.true

pub loop-read-preserved : goal.loop-read-preserved
loop-read-preserved c =
    goes c.args.reads.now c.args.name.now (lines_of c.args.lines.now) c.args.self.now.files c.deref.result.now c.loop-read.read-index c.read-item.result c.in_ok-read_fits_either.field-0
    c.loop-read-test.true (c.deref.ensures.value ∙ ap (λ (s : FilesState). s.files) c.self.view_is) c.read-item.is c.in_ok-read_fits_either.ensures c.if-not-branch.false c.loop-read.invariant

pub returns : goal.returns
returns c = ends c.args.reads.now c.args.name.now (lines_of c.args.lines.now) c.args.self.now c.loop-read.read-index c.loop-read-test.false c.loop-read.invariant
