-- Whether reads of files may be answered so, as files are, and where a cut falls inside a command.
use Rattle.std.proofs.Common.{◌≡◌, inl, inr, ℕ, ◌/◌, ◌≤◌, ◌&&◌, ◌||◌, nat_lt, Bool, true, false, cond, Some, None, List, [], ◌∷◌, length, map, refl, sym, ap, ◌∙◌, arith}
use Rattle.std.specs.List.{list_all}
use Rattle.std.specs.Str.{bytes_eq}
use Rattle.nvm_model.specs.Cell.{Cell}
use Rattle.nvm_model.specs.Listing.{AreAlike, file_name, rises}
use Rattle.nvm_model.specs.Page.{Page, cell_of, fill}
use Rattle.nvm_model.specs.Storage.{File}
use Rattle.nvm_model.proofs.PageLemmas.{length-fill}
use Rattle.script_text.specs.Action.{Action}
use Rattle.sights.specs.MachineModel.Commands.{refusal}
use Rattle.sights.specs.MachineModel.Machine.{Machine}
use Rattle.sights.specs.MachineModel.OnPages.{pages_named}
use Rattle.sights.specs.Durable.Durable.{AllHaveLines, HaveLines, IsComplete}
use Rattle.sights.proofs.Durable.FileThereLemmas.{lines-named}
use Rattle.sights.specs.Outcomes.Files.{FileRead, all_but, each_file, file_fits, files_fit, is_file_reply, reads_of}
use Rattle.sights.specs.Outcomes.Left.{files_may_pass, files_pass, stored_file, synced_file}
use Rattle.sights.specs.Outcomes.Pages.{PageRead, all_lines_read, line_fits}
use Rattle.sights.specs.AskedReads.Fitting.{cell_fits}
use Rattle.sights.specs.Seeing.{seen}
use Rattle.sights.proofs.PassLemmas.{one_of_two}
use Rattle.sights.proofs.SeenLemmas.{seen-fill}
use Rattle.sights.proofs.ShowLemmas.{fits_seen, tests_same}
use Rattle.cut_places.specs.declared.line.FileLine.{FileLine}
use Rattle.cut_places.specs.FileChanges.{FilesChange, LinesChange, files_changed, left_by, pages_changed}
use Rattle.cut_places.specs.FileChanges.FilesChange.{Nothing, Makes, Removes, Renames, Resizes, Changes, Maps, Unmaps}
use Rattle.cut_places.specs.FileChanges.LinesChange.{Puts, Persists, Rewrites, Zeroes, Loses, Weakens, Clears}
use Rattle.cut_places.specs.FileCommands.{files_change}
use Rattle.cut_places.specs.FileFitting.{either_fits, fit_either, fit_inside, fit_now, now_fits, reads_pass}
use Rattle.cut_places.specs.Maps.{uncopied}
use Rattle.cut_places.specs.SeesFiles.{AreLines, SeesFile, SeesFiles, are_held}
use Rattle.cut_places.specs.FilesState.{FileState, FilesState, files_after, line_of_after, name_seen}
use Rattle.cut_places.proofs.AllLemmas.{IsOneOf, all_alike}
use Rattle.cut_places.proofs.CommandLemmas.{command_follows}
use Rattle.cut_places.proofs.HeldLemmas.{MayChange, SeesWhole, all_whole, files_follow, line_follows}
use Rattle.cut_places.proofs.LeftLemmas.{left_by_command}
use Rattle.cut_places.proofs.PageChangeLemmas.{MarksThere, seen_past}
use Rattle.cut_places.proofs.ReadLemmas.{reads_same}

line_is : (f : ℕ → Cell) (lines : List FileLine) (line : FileLine) → AreLines f lines → IsOneOf line lines → line.line ≡ f line.number
line_is f [] line are is = absurd is
line_is f (other ∷ lines) line are (inl same) = ap (λ (l : FileLine). l.line) same ∙ are.0 ∙ sym (ap (λ (l : FileLine). f l.number) same)
line_is f (other ∷ lines) line are (inr later) = line_is f lines line are.1 later

module _ (reads : List FileRead) where
  -- as files are now
  abbrev line_now : List ℕ → List Page → ℕ → Bool
  line_now name pages n = line_fits (reads_of name reads) n (cell_of pages n)

  now_agrees : (name : List ℕ) (pages : List Page) (line : FileLine) → line.line ≡ seen pages line.number → line_now name pages line.number ≡ cell_fits (reads_of name reads) line.number line.line
  now_agrees name pages line is = fits_seen (reads_of name reads) line.number (cell_of pages line.number) ∙ ap (cell_fits (reads_of name reads) line.number) (sym is)

  pub now_same : (numbers : List ℕ) (held : List FileState) (files : List File) → AreAlike name_seen file_name (SeesFile numbers) held files → are_held numbers reads ≡ true
      → files_fit each_file reads files ≡ reads_pass (now_fits reads) reads held
  now_same numbers held files alike all =
      reads_same (SeesFile numbers) numbers (λ x y sees. sees) held files alike line_now (now_fits reads)
      (λ name x y sees line is. now_agrees name y.pages line (line_is (seen y.pages) x.lines line sees.lines is)) reads all

  -- each line of one file as it is, or as it would be
  module _ (text : List ℕ) (c : LinesChange) (marks : (pages : List Page) → MarksThere c pages) where
    abbrev line_then : List ℕ → List Page → ℕ → Bool
    line_then name pages n = line_fits (reads_of name reads) n (cell_of (pages_changed c pages) n)

    abbrev line_either : List ℕ → List Page → ℕ → Bool
    line_either name pages n = line_now name pages n || (bytes_eq text name && line_then name pages n)

    either_agrees : (numbers : List ℕ) (name : List ℕ) (x : FileState) (y : File) → SeesWhole numbers x y → (line : FileLine) → IsOneOf line x.lines
        → line_either name y.pages line.number ≡ either_fits reads text c name x.pages line
    either_agrees numbers name x y known line is =
        let at = line_is (seen y.pages) x.lines line known.0.lines is in
        let made = line_follows c y.pages known.1 (marks y.pages) x.pages line known.0.pages at in
        ap (λ b. b || (bytes_eq text name && line_then name y.pages line.number)) (now_agrees name y.pages line at)
        ∙ ap (λ b. cell_fits (reads_of name reads) line.number line.line || (bytes_eq text name && b))
        (fits_seen (reads_of name reads) line.number (cell_of (pages_changed c y.pages) line.number) ∙ ap (cell_fits (reads_of name reads) line.number) (sym made.1)
        ∙ ap (λ n. cell_fits (reads_of name reads) n (line_of_after x.pages c line).line) (sym made.0))

    by_line_same : (T : List PageRead → List Page → Bool)
        → ((rs : List PageRead) (pages : List Page) → HaveLines pages
        → T rs pages ≡ list_all (λ n. line_fits rs n (cell_of pages n) || line_fits rs n (cell_of (pages_changed c pages) n)) (all_lines_read rs))
        → (numbers : List ℕ) (held : List FileState) (files : List File) → AllHaveLines files → AreAlike name_seen file_name (SeesFile numbers) held files → are_held numbers reads ≡ true
        → files_fit (all_but text T) reads files ≡ reads_pass (either_fits reads text c) reads held
    by_line_same T is numbers held files whole alike all =
        all_alike (λ (r : FileRead). is_file_reply files r && all_but text T r.name (reads_of r.name reads) (pages_named r.name files))
        (λ (r : FileRead). is_file_reply files r && list_all (line_either r.name (pages_named r.name files)) (all_lines_read (reads_of r.name reads))) reads
        (λ r among. ap (λ b. is_file_reply files r && b) (by_name r (bytes_eq text r.name)))
        ∙ reads_same (SeesWhole numbers) numbers (λ x y known. known.0) held files (all_whole numbers held files whole alike) line_either (either_fits reads text c) (either_agrees numbers) reads all
      where
        or_nothing : (b : Bool) → b ≡ (b || false)
        or_nothing true = refl
        or_nothing false = refl

        by_name : (r : FileRead) (b : Bool)
            → cond b (T (reads_of r.name reads) (pages_named r.name files)) (file_fits (reads_of r.name reads) (pages_named r.name files))
            ≡ list_all (λ n. line_now r.name (pages_named r.name files) n || (b && line_then r.name (pages_named r.name files) n)) (all_lines_read (reads_of r.name reads))
        by_name r true = is (reads_of r.name reads) (pages_named r.name files) (lines-named r.name files whole)
        by_name r false =
            tests_same (line_now r.name (pages_named r.name files)) (λ n. line_now r.name (pages_named r.name files) n || false) (all_lines_read (reads_of r.name reads))
            (λ n. or_nothing (line_now r.name (pages_named r.name files) n))

  -- a store fills the pages first that it touches, which no read sees
  filled_seen : (at len : ℕ) (pages : List Page) (n : ℕ) → HaveLines pages → seen (fill at len pages) n ≡ seen pages n
  filled_seen at len pages n whole = by_place (nat_lt (n / 64) (length pages)) refl
    where
      by_place : (b : Bool) → nat_lt (n / 64) (length pages) ≡ b → seen (fill at len pages) n ≡ seen pages n
      by_place true lt = seen-fill at len pages n whole (grind arith)
      by_place false past =
          let behind : length pages ≤ n / 64 = grind arith in
          let still : length (fill at len pages) ≤ n / 64 = omega (arith, length-fill at len pages, behind) in
          seen_past (fill at len pages) n still ∙ sym (seen_past pages n behind)

  pub stored : (at : ℕ) (bytes : List ℕ) (rs : List PageRead) (pages : List Page) → HaveLines pages
      → stored_file at bytes rs pages ≡ list_all (λ n. line_fits rs n (cell_of pages n) || line_fits rs n (cell_of (pages_changed (Puts at bytes) pages) n)) (all_lines_read rs)
  stored at bytes rs pages whole =
      ap (λ b. list_all (λ n. line_fits rs n (cell_of pages n)) (all_lines_read rs) || b)
      (tests_same (λ n. line_fits rs n (cell_of (fill at (length bytes) pages) n) || line_fits rs n (cell_of (pages_changed (Puts at bytes) pages) n))
      (λ n. line_fits rs n (cell_of pages n) || line_fits rs n (cell_of (pages_changed (Puts at bytes) pages) n)) (all_lines_read rs)
      (λ n. ap (λ b. b || line_fits rs n (cell_of (pages_changed (Puts at bytes) pages) n))
      (fits_seen rs n (cell_of (fill at (length bytes) pages) n) ∙ ap (cell_fits rs n) (filled_seen at (length bytes) pages n whole) ∙ sym (fits_seen rs n (cell_of pages n)))))
      ∙ one_of_two (λ n. line_fits rs n (cell_of pages n)) (λ n. line_fits rs n (cell_of (pages_changed (Puts at bytes) pages) n)) (all_lines_read rs)

  -- inside a change
  module _ (s : FilesState) (files : List File) (alike : AreAlike name_seen file_name (SeesFile s.numbers) s.files files) (all : are_held s.numbers reads ≡ true) where
    now_is : files_fit each_file reads files ≡ fit_now reads s
    now_is = now_same s.numbers s.files files alike all

    module _ (whole : AllHaveLines files) (up : rises file_name files ≡ true) where
      either_is : (change : FilesChange) → MayChange change files → (files_fit each_file reads files || files_fit each_file reads (files_changed change files)) ≡ fit_either change reads s
      either_is change may =
          ap (λ b. b || files_fit each_file reads (files_changed change files)) now_is
          ∙ ap (λ b. fit_now reads s || b)
          (now_same s.numbers (files_after change s.numbers s.files) (files_changed change files) (files_follow change s.numbers s.files files may whole up alike) all)

      lines_inside : (name : List ℕ) (lines : LinesChange) → MayChange (Changes name lines) files
          → files_pass (left_by (Changes name lines)) reads files (files_changed (Changes name lines) files) ≡ fit_inside (Changes name lines) reads s
      lines_inside name (Puts at bytes) may = by_line_same name (Puts at bytes) (λ pages. tt) (stored_file at bytes) (stored at bytes) s.numbers s.files files whole alike all
      lines_inside name (Persists spans) may = by_line_same name (Persists spans) (λ pages. tt) (synced_file spans) (λ rs pages has. refl) s.numbers s.files files whole alike all
      lines_inside name (Rewrites ranges bytes) may = either_is (Changes name (Rewrites ranges bytes)) may
      lines_inside name (Zeroes page count) may = either_is (Changes name (Zeroes page count)) may
      lines_inside name (Loses line) may = now_is
      lines_inside name (Weakens line) may = now_is
      lines_inside name (Clears line) may = either_is (Changes name (Clears line)) may

      inside_same : (change : FilesChange) → MayChange change files → files_pass (left_by change) reads files (files_changed change files) ≡ fit_inside change reads s
      inside_same Nothing may = now_is
      inside_same (Makes name pages) may = either_is (Makes name pages) may
      inside_same (Removes name) may = either_is (Removes name) may
      inside_same (Renames name to) may = either_is (Renames name to) may
      inside_same (Resizes name pages) may = either_is (Resizes name pages) may
      inside_same (Changes name lines) may = lines_inside name lines may
      inside_same (Maps name span kind) may = now_is
      inside_same (Unmaps handle) may = now_is

-- inside a command
pub command_inside : (reads : List FileRead) (held : FilesState) (h : Machine) (action : Action) → SeesFiles held h → IsComplete h → are_held held.numbers reads ≡ true → refusal h action ≡ None
    → fit_inside (files_change held.mappings.mappings action) reads held ≡ files_may_pass h.mappings (Some action) reads h.files
command_inside reads held h action sees complete all allowed =
    ap (λ ms. fit_inside (files_change ms action) reads held) sees.mappings
    ∙ sym (inside_same reads held h.files sees.files all complete.file_lines sees.in_order (files_change (map uncopied h.mappings) action) (command_follows h sees.handles action allowed).may)
    ∙ sym (left_by_command reads h.files h.mappings action)
