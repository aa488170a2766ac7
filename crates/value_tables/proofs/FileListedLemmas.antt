-- What is listed of a word of a file is what a look of it alone may show.
use Rattle.std.proofs.Common.{◌≡◌, ℕ, ◌+◌, ◌*◌, ◌/◌, ◌%◌, ◌&&◌, ◌||◌, nat_lt, Bool, true, false, cond, Option, Some, None, option_map, List, [], ◌∷◌, ◌++◌, length, map, refl, sym, ap, ◌∙◌, arith}
use Rattle.std.specs.List.{list_all, list_any}
use Rattle.std.specs.Str.{bytes_eq}
use Rattle.std.proofs.lemmas.Bool.{eq-eqb, le-ltb, lt-ltb, ltb-false, ltb-true}
use Rattle.std.proofs.lemmas.Bool.Decides.{same_from_decides}
use Rattle.std.proofs.lemmas.Slice.Eq.{bytes_eq-Decides}
use Rattle.nvm_model.specs.Blocks.{first_there}
use Rattle.nvm_model.specs.Cell.{Cell}
use Rattle.nvm_model.specs.Files.{on_pages}
use Rattle.nvm_model.specs.Listing.{change_file, file_name, file_of, has_file, is_named}
use Rattle.nvm_model.specs.Page.{Page, cell_of, is_bad_cell}
use Rattle.nvm_model.specs.Storage.{File, Mapping}
use Rattle.reply_text.specs.declared.reply.Why.{Why}
use Rattle.reply_text.specs.declared.reply.Why.TheVariants as because
use Rattle.script_text.specs.Action.{Action}
use Rattle.cut_places.specs.MachineModel.Machine.{Machine}
use Rattle.cut_places.specs.MachineModel.OnPages.{pages_named}
use Rattle.cut_places.specs.Durable.Durable.{AllHaveLines}
use Rattle.cut_places.proofs.Durable.FileThereLemmas.{lines-named}
use Rattle.cut_places.specs.Outcomes.Blocks.{block_fits}
use Rattle.cut_places.specs.Outcomes.Files.{FileRead, all_but, each_file, file_fits, files_fit, is_reply_of, reads_of}
use Rattle.cut_places.specs.Outcomes.Left.{blocks_may_pass, files_may_pass, files_pass, stored_file, synced_file, volume_may_pass}
use Rattle.cut_places.specs.Outcomes.Outcome.{AllHaveValues}
use Rattle.cut_places.specs.Outcomes.Pages.{PageRead, PageReply, all_lines_read, is_given, is_refused_for, is_reply, is_reply_by, line_fits}
use Rattle.cut_places.specs.Outcomes.Pages.PageReply.{Shows, Poison, Refuses}
use Rattle.cut_places.specs.Outcomes.Seen.{may_show}
use Rattle.cut_places.specs.AskedReads.Fitting.{cell_fits}
use Rattle.cut_places.specs.SightsSeen.Seeing.{seen}
use Rattle.cut_places.proofs.SightsSeen.PassLemmas.{EachUnit}
use Rattle.cut_places.proofs.SightsSeen.ShowLemmas.{fits_seen}
use Rattle.cut_places.specs.FileChanges.{FilesChange, LinesChange, files_changed, left_by, pages_changed}
use Rattle.cut_places.specs.FileChanges.FilesChange.{Nothing, Makes, Removes, Renames, Resizes, Changes, Maps, Unmaps}
use Rattle.cut_places.specs.FileChanges.LinesChange.{Puts, Persists, Rewrites, Zeroes, Loses, Weakens, Clears}
use Rattle.cut_places.specs.FileCommands.{files_change}
use Rattle.cut_places.specs.Maps.{uncopied}
use Rattle.cut_places.proofs.InsideLemmas.{stored}
use Rattle.cut_places.proofs.LeftLemmas.{left_by_command, left_same}
use Rattle.cut_places.proofs.PageChangeLemmas.{length_changed}
use Rattle.value_tables.specs.Left.{FileSide, file_left, file_side, files_left, of_files, side_of}
use Rattle.value_tables.specs.Left.FileSide.{NoFile, PastEnd, OfLine}
use Rattle.value_tables.specs.Listed.{HasWords, file_word_read, has_bytes, lists_bytes}
use Rattle.value_tables.specs.Values.{cells_of, history_of, is_missing, is_past, may_be_bad, word_values}
use Rattle.value_tables.proofs.BlockLemmas.{no_line}
use Rattle.value_tables.proofs.FileValueLemmas.{SideHasWords, sides_have}
use Rattle.value_tables.proofs.ListedLemmas.{always, no_block}
use Rattle.value_tables.proofs.OnceLemmas.{any_of, any_value}
use Rattle.value_tables.proofs.WordLemmas.{poison_given, read_of, shows_poison, shows_word, word_line}

or_none : (b : Bool) → b ≡ (b || false)
or_none true = refl
or_none false = refl

either_of : (a b : Bool) → (a || b) ≡ (a || (b || false))
either_of a b = ap (λ c. a || c) (or_none b)

once_more : (b : Bool) → b ≡ (b || (b || false))
once_more true = refl
once_more false = refl

and_true : (b : Bool) → (b && true) ≡ b
and_true true = refl
and_true false = refl

-- the file of a name where the pages of one changed
turned : (a b : List ℕ) → bytes_eq a b ≡ bytes_eq b a
turned a b = same_from_decides {P = a ≡ b} (bytes_eq a b) (bytes_eq b a) (bytes_eq-Decides a b) (λ told. sym ((bytes_eq-Decides b a).0 told), λ same. (bytes_eq-Decides b a).1 (sym same))

abbrev changed_if : Bool → (List Page → List Page) → File → File
changed_if changes f y = cond changes (on_pages f y) y

changed_found : (text name : List ℕ) (f : List Page → List Page) (files : List File)
    → file_of file_name name (change_file file_name text (on_pages f) files) ≡ option_map (changed_if (bytes_eq text name) f) (file_of file_name name files)
changed_found text name f [] = refl
changed_found text name f (x ∷ files) =
    ap (λ b. cond b (Some (changed_if (bytes_eq x.name text) f x)) (file_of file_name name (change_file file_name text (on_pages f) files))) (same_name (bytes_eq x.name text))
    ∙ by_name (bytes_eq x.name name) refl (changed_found text name f files)
  where
    same_name : (b : Bool) → bytes_eq (changed_if b f x).name name ≡ bytes_eq x.name name
    same_name true = refl
    same_name false = refl

    by_name : (b : Bool) → bytes_eq x.name name ≡ b
        → file_of file_name name (change_file file_name text (on_pages f) files) ≡ option_map (changed_if (bytes_eq text name) f) (file_of file_name name files)
        → cond b (Some (changed_if (bytes_eq x.name text) f x)) (file_of file_name name (change_file file_name text (on_pages f) files))
        ≡ option_map (changed_if (bytes_eq text name) f) (cond b (Some x) (file_of file_name name files))
    by_name true is rest = ap (λ b. Some (changed_if b f x)) (ap (λ t. bytes_eq t text) ((bytes_eq-Decides x.name name).0 is) ∙ turned name text)
    by_name false is rest = rest

there : (name : List ℕ) (files : List File) (o : Option File) → file_of file_name name files ≡ o → has_file file_name name files ≡ elim o [ None ↦ false | Some y ↦ true ]
there name [] None is = refl
there name [] (Some y) is = cc is
there name (x ∷ files) o is = by_name (is_named file_name name x) is (there name files o)
  where
    by_name : (b : Bool) → cond b (Some x) (file_of file_name name files) ≡ o → (file_of file_name name files ≡ o → has_file file_name name files ≡ elim o [ None ↦ false | Some y ↦ true ])
        → (b || has_file file_name name files) ≡ elim o [ None ↦ false | Some y ↦ true ]
    by_name true found rest = ap (λ p. elim p [ None ↦ false | Some y ↦ true ]) found
    by_name false found rest = rest found

module _ (name : List ℕ) (p : ℕ) (reply : PageReply) where
  abbrev read : PageRead
  read = record { start = 8 * p; len = 8; reply = reply }

  abbrev one_read : List FileRead
  one_read = record { name = name; pages = read } ∷ []

  -- it may be answered so where the word is sought there
  abbrev side_fits : FileSide → Bool
  side_fits NoFile = is_refused_for because.Missing reply
  side_fits PastEnd = is_refused_for because.Range reply
  side_fits (OfLine cell) = is_given (8 * p) 8 reply && cell_fits (read_of p reply) (p / 8) cell

  -- by a test of the lines of pages
  abbrev side_by : (List Page → ℕ → Bool) → Option File → Bool
  side_by test None = is_refused_for because.Missing reply
  side_by test (Some y) = cond (nat_lt (p / 512) (length y.pages)) (is_given (8 * p) 8 reply && test y.pages (p / 8)) (is_refused_for because.Range reply)

  module _ (test : ℕ → Bool) where
    -- the word is given of its line, and none is looked at where it is refused
    given : (r : PageReply) → (is_given (8 * p) 8 r && list_all test (all_lines_read (read_of p r))) ≡ (is_given (8 * p) 8 r && test (p / 8))
    given (Shows bytes) = ap (λ lines. is_given (8 * p) 8 (Shows bytes) && list_all test (lines ++ [])) (word_line p) ∙ ap (λ b. is_given (8 * p) 8 (Shows bytes) && b) (and_true (test (p / 8)))
    given (Poison at) = ap (λ lines. is_given (8 * p) 8 (Poison at) && list_all test (lines ++ [])) (word_line p) ∙ ap (λ b. is_given (8 * p) 8 (Poison at) && b) (and_true (test (p / 8)))
    given (Refuses why) = refl

    refused : (why : Why) (r : PageReply) → (is_refused_for why r && list_all test (all_lines_read (read_of p r))) ≡ is_refused_for why r
    refused why (Shows bytes) = refl
    refused why (Poison at) = refl
    refused why (Refuses other) = and_true (is_refused_for why (Refuses other))

    in_pages : (count : ℕ)
        → (is_reply (4096 * count) read && list_all test (all_lines_read (read ∷ [])))
        ≡ cond (nat_lt (p / 512) count) (is_given (8 * p) 8 reply && test (p / 8)) (is_refused_for because.Range reply)
    in_pages count = by_place (nat_lt (p / 512) count) refl
      where
        by_place : (b : Bool) → nat_lt (p / 512) count ≡ b
            → (is_reply (4096 * count) read && list_all test (all_lines_read (read ∷ []))) ≡ cond b (is_given (8 * p) 8 reply && test (p / 8)) (is_refused_for because.Range reply)
        by_place true is =
            let fits : nat_lt (4096 * count) (8 * p + 8) ≡ false = le-ltb (4096 * count) (8 * p + 8) (omega (arith, ltb-true (p / 512) count is)) in
            ap (λ b. is_reply_by (first_there (cond b (Some because.Range) None) None) (8 * p) 8 reply && list_all test (all_lines_read (read ∷ []))) fits ∙ given reply
        by_place false is =
            let past : nat_lt (4096 * count) (8 * p + 8) ≡ true = lt-ltb (4096 * count) (8 * p + 8) (omega (arith, ltb-false (p / 512) count is)) in
            ap (λ b. is_reply_by (first_there (cond b (Some because.Range) None) None) (8 * p) 8 reply && list_all test (all_lines_read (read ∷ []))) past ∙ refused because.Range reply

  same_reads : reads_of name one_read ≡ read ∷ []
  same_reads = ap (λ b. cond b (read ∷ []) []) ((bytes_eq-Decides name name).1 refl)

  -- one read of all files
  by_lines : (T : List ℕ → List PageRead → List Page → Bool) (files : List File) (test : List Page → ℕ → Bool)
      → T name (read ∷ []) (pages_named name files) ≡ list_all (test (pages_named name files)) (all_lines_read (read ∷ [])) → files_fit T one_read files ≡ side_by test (file_of file_name name files)
  by_lines T files test is =
      ap (λ reads. (is_reply_of (has_file file_name name files) (4096 * length (pages_named name files)) read && T name reads (pages_named name files)) && true) same_reads
      ∙ and_true (is_reply_of (has_file file_name name files) (4096 * length (pages_named name files)) read && T name (read ∷ []) (pages_named name files))
      ∙ ap (λ b. is_reply_of (has_file file_name name files) (4096 * length (pages_named name files)) read && b) is
      ∙ by_found (file_of file_name name files) (there name files (file_of file_name name files) refl)
    where
      by_found : (o : Option File) → has_file file_name name files ≡ elim o [ None ↦ false | Some y ↦ true ]
          → (is_reply_of (has_file file_name name files) (4096 * length {A = Page} (elim o [ None ↦ [] | Some file ↦ file.pages ])) read
          && list_all (test (elim o [ None ↦ [] | Some file ↦ file.pages ])) (all_lines_read (read ∷ [])))
          ≡ side_by test o
      by_found None has = ap (λ b. is_reply_of b 0 read && list_all (test []) (all_lines_read (read ∷ []))) has ∙ refused (test []) because.Missing reply
      by_found (Some y) has =
          ap (λ b. is_reply_of b (4096 * length y.pages) read && list_all (test y.pages) (all_lines_read (read ∷ []))) has ∙ in_pages (test y.pages) (length y.pages)

  -- lines as they are
  abbrev line_now : List Page → ℕ → Bool
  line_now pages n = line_fits (read ∷ []) n (cell_of pages n)

  seen_now : (pages : List Page) → line_now pages (p / 8) ≡ cell_fits (read_of p reply) (p / 8) (seen pages (p / 8))
  seen_now pages = fits_seen (read ∷ []) (p / 8) (cell_of pages (p / 8))

  side_now : (o : Option File) → side_by line_now o ≡ side_fits (side_of p o)
  side_now None = refl
  side_now (Some y) = by_place (nat_lt (p / 512) (length y.pages))
    where
      by_place : (b : Bool) → cond b (is_given (8 * p) 8 reply && line_now y.pages (p / 8)) (is_refused_for because.Range reply) ≡ side_fits (cond b (OfLine (seen y.pages (p / 8))) PastEnd)
      by_place true = ap (λ b. is_given (8 * p) 8 reply && b) (seen_now y.pages)
      by_place false = refl

  fits_now : (files : List File) → files_fit each_file one_read files ≡ side_fits (file_side name p files)
  fits_now files = by_lines each_file files line_now refl ∙ side_now (file_of file_name name files)

  -- where each line of one file may have changed
  module _ (text : List ℕ) (c : LinesChange) where
    abbrev line_either : List Page → ℕ → Bool
    line_either pages n = line_now pages n || line_now (pages_changed c pages) n

    abbrev new_side : Bool → Option File → FileSide
    new_side b o = side_of p (option_map (changed_if b (pages_changed c)) o)

    both : (g a b : Bool) → (g && (a || b)) ≡ ((g && a) || ((g && b) || false))
    both true a b = either_of a b
    both false a b = refl

    side_either : (o : Option File) → side_by line_either o ≡ list_any side_fits (side_of p o ∷ new_side true o ∷ [])
    side_either None = once_more (is_refused_for because.Missing reply)
    side_either (Some y) =
        by_place (nat_lt (p / 512) (length y.pages))
        ∙ ap (λ n. list_any side_fits (side_of p (Some y) ∷ cond (nat_lt (p / 512) n) (OfLine (seen (pages_changed c y.pages) (p / 8))) PastEnd ∷ [])) (sym (length_changed c y.pages))
      where
        by_place : (b : Bool) → cond b (is_given (8 * p) 8 reply && line_either y.pages (p / 8)) (is_refused_for because.Range reply)
            ≡ list_any side_fits (cond b (OfLine (seen y.pages (p / 8))) PastEnd ∷ cond b (OfLine (seen (pages_changed c y.pages) (p / 8))) PastEnd ∷ [])
        by_place true =
            ap (λ b. is_given (8 * p) 8 reply && (b || line_now (pages_changed c y.pages) (p / 8))) (seen_now y.pages)
            ∙ ap (λ b. is_given (8 * p) 8 reply && (cell_fits (read_of p reply) (p / 8) (seen y.pages (p / 8)) || b)) (seen_now (pages_changed c y.pages))
            ∙ both (is_given (8 * p) 8 reply) (cell_fits (read_of p reply) (p / 8) (seen y.pages (p / 8))) (cell_fits (read_of p reply) (p / 8) (seen (pages_changed c y.pages) (p / 8)))
        by_place false = once_more (is_refused_for because.Range reply)

    same_side : (o : Option File) → side_by line_now o ≡ list_any side_fits (side_of p o ∷ new_side false o ∷ [])
    same_side None = once_more (is_refused_for because.Missing reply)
    same_side (Some y) = side_now (Some y) ∙ once_more (side_fits (side_of p (Some y)))

    part_passes : (T : List PageRead → List Page → Bool) (files : List File)
        → T (read ∷ []) (pages_named name files) ≡ list_all (line_either (pages_named name files)) (all_lines_read (read ∷ []))
        → files_fit (all_but text T) one_read files ≡ list_any side_fits (file_side name p files ∷ file_side name p (files_changed (Changes text c) files) ∷ [])
    part_passes T files is =
        by_name (bytes_eq text name) refl
        ∙ ap (λ o. list_any side_fits (file_side name p files ∷ side_of p o ∷ [])) (sym (changed_found text name (pages_changed c) files))
      where
        by_name : (b : Bool) → bytes_eq text name ≡ b
            → files_fit (all_but text T) one_read files ≡ list_any side_fits (file_side name p files ∷ new_side (bytes_eq text name) (file_of file_name name files) ∷ [])
        by_name true told =
            by_lines (all_but text T) files line_either (ap (λ b. cond b (T (read ∷ []) (pages_named name files)) (file_fits (read ∷ []) (pages_named name files))) told ∙ is)
            ∙ side_either (file_of file_name name files)
            ∙ ap (λ b. list_any side_fits (file_side name p files ∷ new_side b (file_of file_name name files) ∷ [])) (sym told)
        by_name false told =
            by_lines (all_but text T) files line_now (ap (λ b. cond b (T (read ∷ []) (pages_named name files)) (file_fits (read ∷ []) (pages_named name files))) told)
            ∙ same_side (file_of file_name name files)
            ∙ ap (λ b. list_any side_fits (file_side name p files ∷ new_side b (file_of file_name name files) ∷ [])) (sym told)

  -- whatever is left of them
  module _ (files : List File) (whole : AllHaveLines files) where
    abbrev left_shows : FilesChange → Type 0
    left_shows change =
        files_pass (left_by change) one_read files (files_changed change files)
        ≡ list_any side_fits (of_files (left_by change) (file_side name p files) (file_side name p (files_changed change files)))

    one : files_fit each_file one_read files ≡ list_any side_fits (file_side name p files ∷ [])
    one = fits_now files ∙ or_none (side_fits (file_side name p files))

    either : (to : List File)
        → (files_fit each_file one_read files || files_fit each_file one_read to) ≡ list_any side_fits (file_side name p files ∷ file_side name p to ∷ [])
    either to =
        ap (λ b. b || files_fit each_file one_read to) (fits_now files) ∙ ap (λ b. side_fits (file_side name p files) || b) (fits_now to)
        ∙ either_of (side_fits (file_side name p files)) (side_fits (file_side name p to))

    left_passes : (change : FilesChange) → left_shows change
    left_passes Nothing = one
    left_passes (Makes text pages) = either (files_changed (Makes text pages) files)
    left_passes (Removes text) = either (files_changed (Removes text) files)
    left_passes (Renames text to) = either (files_changed (Renames text to) files)
    left_passes (Resizes text pages) = either (files_changed (Resizes text pages) files)
    left_passes (Changes text (Puts at bytes)) =
        part_passes text (Puts at bytes) (stored_file at bytes) files (stored one_read at bytes (read ∷ []) (pages_named name files) (lines-named name files whole))
    left_passes (Changes text (Persists spans)) = part_passes text (Persists spans) (synced_file spans) files refl
    left_passes (Changes text (Rewrites ranges bytes)) = either (files_changed (Changes text (Rewrites ranges bytes)) files)
    left_passes (Changes text (Zeroes page count)) = either (files_changed (Changes text (Zeroes page count)) files)
    left_passes (Changes text (Loses line)) = one
    left_passes (Changes text (Weakens line)) = one
    left_passes (Changes text (Clears line)) = either (files_changed (Changes text (Clears line)) files)
    left_passes (Maps text span kind) = one
    left_passes (Unmaps handle) = one

    may_pass : (mappings : List Mapping) (o : Option Action) → files_may_pass mappings o one_read files ≡ list_any side_fits (files_left mappings o files name p)
    may_pass mappings None = one
    may_pass mappings (Some action) =
        left_by_command one_read files mappings action ∙ left_passes (files_change (map uncopied mappings) action)
        ∙ sym (left_same (λ left to. list_any side_fits (of_files left (file_side name p files) (file_side name p to))) files (λ to. refl) mappings action)

of_parts : (a b c : Bool) → a ≡ true → b ≡ true → ((true && a) && ((true && b) && c)) ≡ c
of_parts true true c x y = refl
of_parts false b c x y = cc x
of_parts true false c x y = cc y

module _ (off : Machine) (name : List ℕ) (p : ℕ) (whole : AllHaveLines off.files) where
  shown : (reply : PageReply) → may_show (file_word_read name p reply) off ≡ list_any (side_fits name p reply) (file_left off name p)
  shown reply =
      of_parts (volume_may_pass off.geometry off.interrupted (line_fits []) off.volume []) (blocks_may_pass off.interrupted (block_fits []) off.blocks [])
      (files_may_pass off.mappings off.interrupted (one_read name p reply) off.files) (no_line off.geometry off.interrupted off.volume) (no_block off.interrupted off.blocks)
      ∙ may_pass name p reply off.files whole off.mappings off.interrupted

  same_any : (f g : FileSide → Bool) (sides : List FileSide) → ((side : FileSide) → f side ≡ g side) → list_any f sides ≡ list_any g sides
  same_any f g sides same = any_of (λ side. Unit {0}) f g sides (always sides) (λ side has. same side)

  pub missing_listed : list_any is_missing (file_left off name p) ≡ may_show (file_word_read name p (Refuses because.Missing)) off
  missing_listed = same_any is_missing (side_fits name p (Refuses because.Missing)) (file_left off name p) same ∙ sym (shown (Refuses because.Missing))
    where
      same : (side : FileSide) → is_missing side ≡ side_fits name p (Refuses because.Missing) side
      same NoFile = refl
      same PastEnd = refl
      same (OfLine cell) = refl

  pub past_listed : list_any is_past (file_left off name p) ≡ may_show (file_word_read name p (Refuses because.Range)) off
  past_listed = same_any is_past (side_fits name p (Refuses because.Range)) (file_left off name p) same ∙ sym (shown (Refuses because.Range))
    where
      same : (side : FileSide) → is_past side ≡ side_fits name p (Refuses because.Range) side
      same NoFile = refl
      same PastEnd = refl
      same (OfLine cell) = refl

  -- of the lines that may have it
  of_cells : (reply : PageReply) (test : Cell → Bool) (sides : List FileSide) → is_refused_for because.Missing reply ≡ false → is_refused_for because.Range reply ≡ false → is_given (8 * p) 8 reply ≡ true
      → EachUnit SideHasWords sides → ((cell : Cell) → HasWords cell → cell_fits (read_of p reply) (p / 8) cell ≡ test cell) → list_any test (cells_of sides) ≡ list_any (side_fits name p reply) sides
  of_cells reply test [] missing past given have each = refl
  of_cells reply test (NoFile ∷ sides) missing past given have each =
      of_cells reply test sides missing past given have.1 each ∙ ap (λ b. b || list_any (side_fits name p reply) sides) (sym missing)
  of_cells reply test (PastEnd ∷ sides) missing past given have each =
      of_cells reply test sides missing past given have.1 each ∙ ap (λ b. b || list_any (side_fits name p reply) sides) (sym past)
  of_cells reply test (OfLine cell ∷ sides) missing past given have each =
      ap (λ b. test cell || b) (of_cells reply test sides missing past given have.1 each)
      ∙ ap (λ b. b || list_any (side_fits name p reply) sides) (sym (ap (λ b. b && cell_fits (read_of p reply) (p / 8) cell) given ∙ each cell have.0))

  module _ (values : AllHaveValues off.files) where
    have : EachUnit SideHasWords (file_left off name p)
    have = sides_have name p off.mappings off.interrupted off.files whole values

    pub file_words_listed : (bytes : List ℕ) → length bytes ≡ 8 → lists_bytes bytes (word_values (p % 8) (cells_of (file_left off name p))) ≡ may_show (file_word_read name p (Shows bytes)) off
    file_words_listed bytes eight =
        any_value (has_bytes bytes) (p % 8) [] (cells_of (file_left off name p))
        ∙ of_cells (Shows bytes) (λ cell. lists_bytes bytes (history_of (p % 8) cell)) (file_left off name p) refl refl (eq-eqb (length bytes) 8 eight) have
        (λ cell has. shows_word p bytes cell has eight)
        ∙ sym (shown (Shows bytes))

    pub file_poison_listed : may_be_bad (cells_of (file_left off name p)) ≡ may_show (file_word_read name p (Poison (64 * (p / 8)))) off
    file_poison_listed =
        of_cells (Poison (64 * (p / 8))) (λ cell. is_bad_cell (Some cell)) (file_left off name p) refl refl (poison_given p) have (λ cell has. shows_poison p cell)
        ∙ sym (shown (Poison (64 * (p / 8))))
