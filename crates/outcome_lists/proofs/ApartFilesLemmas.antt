-- A look of several words of files is shown where each of them alone is, or each group of them old together or new together.
use Rattle.std.proofs.Common.{◌≡◌, inl, inr, ℕ, ◌*◌, ◌/◌, ◌==◌, ◌&&◌, ◌||◌, Bool, true, false, cond, not, Option, Some, None, List, [], ◌∷◌, length, map, refl, sym, ap, subst, ◌∙◌}
use Rattle.std.specs.List.{list_all}
use Rattle.std.specs.Str.{bytes_eq}
use Rattle.std.proofs.lemmas.Bool.{and_from, and_parts, eq-eqb, or_cases, or_left, or_right}
use Rattle.std.proofs.lemmas.List.{nil_from_length}
use Rattle.std.proofs.lemmas.Slice.Eq.{bytes_eq-Decides}
use Rattle.nvm_model.specs.Files.{on_pages}
use Rattle.nvm_model.specs.Listing.{file_name, file_of, has_file, is_named}
use Rattle.nvm_model.specs.Page.{Page, cell_of}
use Rattle.nvm_model.specs.Storage.{File, Mapping}
use Rattle.script_text.specs.Action.{Action}
use Rattle.script_text.specs.Action.Action.{PoisonFile, WeakenFile}
use Rattle.explorer.specs.MachineModel.Commands.{meaning}
use Rattle.explorer.specs.MachineModel.Meaning.{FilesLeft}
use Rattle.explorer.specs.MachineModel.Meaning.FilesLeft.{Unchanged, OldOrNew, StoredInPart, SyncedInPart}
use Rattle.explorer.specs.MachineModel.OnPages.{pages_named}
use Rattle.explorer.specs.Durable.Durable.{AllHaveLines}
use Rattle.explorer.proofs.Durable.FileThereLemmas.{lines-files_altered, lines-named}
use Rattle.explorer.specs.Outcomes.Files.{FileRead, all_but, each_file, file_fits, files_fit, is_file_reply, is_reply_of, reads_of}
use Rattle.explorer.specs.Outcomes.Left.{files_may_pass, files_pass, stored_file, synced_file}
use Rattle.explorer.specs.Outcomes.Outcome.{AllHaveValues, HaveValues}
use Rattle.explorer.specs.Outcomes.Pages.{PageRead, all_lines_read, line_fits}
use Rattle.explorer.proofs.OutcomeRuns.FileValueLemmas.{files_made_have}
use Rattle.explorer.specs.SightsSeen.Seeing.{seen}
use Rattle.explorer.specs.CutPlaces.FileChanges.{FilesChange, LinesChange, files_changed, left_by, pages_changed}
use Rattle.explorer.specs.CutPlaces.FileChanges.FilesChange.{Nothing, Makes, Removes, Renames, Resizes, Changes, Maps, Unmaps}
use Rattle.explorer.specs.CutPlaces.FileChanges.LinesChange.{Puts, Persists, Rewrites, Zeroes, Loses, Weakens, Clears}
use Rattle.explorer.specs.CutPlaces.FileCommands.{files_change}
use Rattle.explorer.specs.CutPlaces.Maps.{uncopied}
use Rattle.explorer.proofs.CutPlaces.AllLemmas.{same_test}
use Rattle.explorer.proofs.CutPlaces.InsideLemmas.{stored}
use Rattle.explorer.proofs.CutPlaces.LeftLemmas.{left_by_command, left_same}
use Rattle.explorer.proofs.CutPlaces.PageChangeLemmas.{length_changed}
use Rattle.explorer.specs.ValueTables.Listed.{HasWords}
use Rattle.explorer.proofs.ValueTables.FileValueLemmas.{seen_has}
use Rattle.explorer.proofs.Witnesses.ListLemmas.{IsAmong, all_from, all_of}
use Rattle.outcome_lists.specs.Apart.{grouped}
use Rattle.outcome_lists.specs.ApartFiles.{AreDistinctWords, is_same_line, is_same_word, shows_word, words_apart, words_shown_apart}
use Rattle.outcome_lists.proofs.ApartBlocksLemmas.{all_same, and_true, grouped_same, or_same, then_so, where_so}
use Rattle.outcome_lists.proofs.WordReadLemmas.{AreApart}
use Rattle.outcome_lists.proofs.PagesApartLemmas.{on_line, part_apart}

-- names that are the same
named_same : (a b : List ℕ) → bytes_eq a b ≡ true → a ≡ b
named_same a b same = (bytes_eq-Decides a b).0 same

same_named : (a b : List ℕ) → a ≡ b → bytes_eq a b ≡ true
same_named a b same = (bytes_eq-Decides a b).1 same

-- the reads of one file among others
own_reads : (f : PageRead → Bool) (name : List ℕ) (reads : List FileRead) → list_all f (reads_of name reads) ≡ list_all (λ (r : FileRead). not (bytes_eq r.name name) || f r.pages) reads
own_reads f name [] = refl
own_reads f name (r ∷ reads) = by_name (bytes_eq r.name name) (own_reads f name reads)
  where
    by_name : (b : Bool) → list_all f (reads_of name reads) ≡ list_all (λ (q : FileRead). not (bytes_eq q.name name) || f q.pages) reads
        → list_all f (cond b (r.pages ∷ reads_of name reads) (reads_of name reads)) ≡ ((not b || f r.pages) && list_all (λ (q : FileRead). not (bytes_eq q.name name) || f q.pages) reads)
    by_name true rest = ap (λ b. f r.pages && b) rest
    by_name false rest = rest

-- they are of words of that file, no two of the same one
not_both : (a b : Bool) → a ≡ true → not (a && b) ≡ true → not b ≡ true
not_both true b is so = so
not_both false b is so = cc is

apart_in : (name : List ℕ) (reads : List FileRead) → AreDistinctWords reads → AreApart (reads_of name reads)
apart_in name [] are = tt
apart_in name (r ∷ reads) are = by_name (bytes_eq r.name name) refl (apart_in name reads are.2)
  where
    unlike : bytes_eq r.name name ≡ true → (s : FileRead) → IsAmong s reads → bytes_eq s.name name ≡ true → not (r.pages.start == s.pages.start) ≡ true
    unlike is s among also =
        not_both (bytes_eq r.name s.name) (r.pages.start == s.pages.start) (same_named r.name s.name (named_same r.name name is ∙ sym (named_same s.name name also)))
        (all_of (λ t. not (is_same_word r t)) s reads are.1 among)

    by_name : (b : Bool) → bytes_eq r.name name ≡ b → AreApart (reads_of name reads) → AreApart (cond b (r.pages ∷ reads_of name reads) (reads_of name reads))
    by_name true is rest = (
      are.0,
      own_reads (λ (s : PageRead). not (r.pages.start == s.start)) name reads
          ∙ all_from (λ (s : FileRead). not (bytes_eq s.name name) || not (r.pages.start == s.pages.start)) reads
          (λ s among. where_so (bytes_eq s.name name) (not (r.pages.start == s.pages.start)) (unlike is s among)),
      rest,
    )
    by_name false is rest = rest

-- each read goes together with itself
own_line : (r : FileRead) → is_same_line r r ≡ true
own_line r = and_from (bytes_eq r.name r.name) (r.pages.start / 64 == r.pages.start / 64) (same_named r.name r.name refl) (eq-eqb (r.pages.start / 64) (r.pages.start / 64) refl)

-- Files of which each line has a value of each word.
abbrev HaveWords : List File → Type 0
HaveWords files = (name : List ℕ) (n : ℕ) → HasWords (seen (pages_named name files) n)

-- one read alone is of its file alone
alone_shown : (files : List File) (r : FileRead) → shows_word files r ≡ (is_file_reply files r && file_fits (r.pages ∷ []) (pages_named r.name files))
alone_shown files r =
    and_true (is_file_reply files r && file_fits (reads_of r.name (r ∷ [])) (pages_named r.name files))
    ∙ ap (λ b. is_file_reply files r && file_fits (cond b (r.pages ∷ []) []) (pages_named r.name files)) (same_named r.name r.name refl)

module _ (reads : List FileRead) (are : AreDistinctWords reads) where
  -- the reads of the line of one, in files
  abbrev group : List File → FileRead → Bool
  group files x = list_all (λ y. not (is_same_line x y) || shows_word files y) reads

  module _ (files : List File) (have : HaveWords files) where
    -- line n of a file
    abbrev on_line_of : List ℕ → ℕ → Bool
    on_line_of name n = on_line (pages_named name files) (have name) (reads_of name reads) n

    abbrev fits_in : List ℕ → ℕ → FileRead → Bool
    fits_in name n r = not (n == r.pages.start / 64) || file_fits (r.pages ∷ []) (pages_named name files)

    -- where a line fits its reads each of them is shown, and back
    to_group : ((y : FileRead) → IsAmong y reads → is_file_reply files y ≡ true) → (x : FileRead) → on_line_of x.name (x.pages.start / 64) ≡ true → group files x ≡ true
    to_group replied x fits = all_from (λ y. not (is_same_line x y) || shows_word files y) reads (λ y among. where_so (is_same_line x y) (shows_word files y) (shown y among))
      where
        shown : (y : FileRead) → IsAmong y reads → is_same_line x y ≡ true → shows_word files y ≡ true
        shown y among with =
            let parts = and_parts (bytes_eq x.name y.name) (x.pages.start / 64 == y.pages.start / 64) with in
            let named = sym (named_same x.name y.name parts.0) in
            alone_shown files y
            ∙ and_from (is_file_reply files y) (file_fits (y.pages ∷ []) (pages_named y.name files)) (replied y among)
            (ap (λ name. file_fits (y.pages ∷ []) (pages_named name files)) named
            ∙ then_so (x.pages.start / 64 == y.pages.start / 64) (file_fits (y.pages ∷ []) (pages_named x.name files)) parts.1
            (then_so (bytes_eq y.name x.name) (fits_in x.name (x.pages.start / 64) y) (same_named y.name x.name named)
            (all_of (λ (r : FileRead). not (bytes_eq r.name x.name) || fits_in x.name (x.pages.start / 64) r) y reads
            (sym (own_reads (λ (r : PageRead). not (x.pages.start / 64 == r.start / 64) || file_fits (r ∷ []) (pages_named x.name files)) x.name reads) ∙ fits) among)))

    from_group : (y : FileRead) → group files y ≡ true → (name : List ℕ) → bytes_eq y.name name ≡ true → on_line_of name (y.pages.start / 64) ≡ true
    from_group y all name is =
        own_reads (λ (r : PageRead). not (y.pages.start / 64 == r.start / 64) || file_fits (r ∷ []) (pages_named name files)) name reads
        ∙ all_from (λ (r : FileRead). not (bytes_eq r.name name) || fits_in name (y.pages.start / 64) r) reads
        (λ z among. where_so (bytes_eq z.name name) (fits_in name (y.pages.start / 64) z)
        (λ also. where_so (y.pages.start / 64 == z.pages.start / 64) (file_fits (z.pages ∷ []) (pages_named name files)) (fits z among (named_same z.name name also))))
      where
        fits : (z : FileRead) → IsAmong z reads → z.name ≡ name → (y.pages.start / 64 == z.pages.start / 64) ≡ true → file_fits (z.pages ∷ []) (pages_named name files) ≡ true
        fits z among named same =
            ap (λ text. file_fits (z.pages ∷ []) (pages_named text files)) (sym named)
            ∙ (and_parts (is_file_reply files z) (file_fits (z.pages ∷ []) (pages_named z.name files))
            (sym (alone_shown files z)
            ∙ then_so (is_same_line y z) (shows_word files z)
            (and_from (bytes_eq y.name z.name) (y.pages.start / 64 == z.pages.start / 64) (same_named y.name z.name (named_same y.name name is ∙ sym named)) same)
            (all_of (λ t. not (is_same_line y t) || shows_word files t) z reads all among))).1

  -- Files of which each line may be old or new, and which have the same pages.
  module _ (old new : List File) (have : HaveWords old) (had : HaveWords new) (replies : (r : FileRead) → is_file_reply new r ≡ is_file_reply old r) where
    -- line n of the file of a name, and all lines that reads of that file look at
    abbrev line_either : List ℕ → ℕ → Bool
    line_either name n = line_fits (reads_of name reads) n (cell_of (pages_named name old) n) || line_fits (reads_of name reads) n (cell_of (pages_named name new) n)

    abbrev passes_in_part : FileRead → Bool
    passes_in_part r = is_file_reply old r && list_all (line_either r.name) (all_lines_read (reads_of r.name reads))

    abbrev either_on : List ℕ → ℕ → Bool
    either_on name n = on_line_of old have name n || on_line_of new had name n

    -- a read passes where each line of its file that is looked at may be old or new
    part_is : (r : FileRead) → passes_in_part r ≡ (is_file_reply old r && list_all (λ (q : FileRead). not (bytes_eq q.name r.name) || either_on r.name (q.pages.start / 64)) reads)
    part_is r =
        ap (λ b. is_file_reply old r && b)
        (part_apart (pages_named r.name old) (pages_named r.name new) (have r.name) (had r.name) (reads_of r.name reads) (apart_in r.name reads are)
        ∙ own_reads (λ (q : PageRead). either_on r.name (q.start / 64)) r.name reads)

    abbrev all_near : FileRead → Bool
    all_near r = list_all (λ (q : FileRead). not (bytes_eq q.name r.name) || either_on r.name (q.pages.start / 64)) reads

    -- then each group is shown by the old files or by the new ones
    forth : list_all passes_in_part reads ≡ true → grouped is_same_line (shows_word old) (shows_word new) reads ≡ true
    forth all = all_from (λ x. group old x || group new x) reads one_group
      where
        replied : (y : FileRead) → IsAmong y reads → is_file_reply old y ≡ true
        replied y among = (and_parts (is_file_reply old y) (list_all (line_either y.name) (all_lines_read (reads_of y.name reads))) (all_of passes_in_part y reads all among)).0

        own_fits : (x : FileRead) → IsAmong x reads → either_on x.name (x.pages.start / 64) ≡ true
        own_fits x is =
            then_so (bytes_eq x.name x.name) (either_on x.name (x.pages.start / 64)) (same_named x.name x.name refl)
            (all_of (λ (q : FileRead). not (bytes_eq q.name x.name) || either_on x.name (q.pages.start / 64)) x reads
            (and_parts (is_file_reply old x) (all_near x) (sym (part_is x) ∙ all_of passes_in_part x reads all is)).1 is)

        one_group : (x : FileRead) → IsAmong x reads → (group old x || group new x) ≡ true
        one_group x is =
            elim (or_cases (on_line_of old have x.name (x.pages.start / 64)) (on_line_of new had x.name (x.pages.start / 64)) (own_fits x is)) as (λ _. (group old x || group new x) ≡ true) [
              | inl one ↦ or_left (group old x) (group new x) (to_group old have replied x one)
              | inr other ↦ or_right (group old x) (group new x) (to_group new had (λ y among. replies y ∙ replied y among) x other)
            ]

    -- and where each group is, each read passes
    back : grouped is_same_line (shows_word old) (shows_word new) reads ≡ true → list_all passes_in_part reads ≡ true
    back all =
        all_from passes_in_part reads
        (λ x is. part_is x
        ∙ and_from (is_file_reply old x) (all_near x) (replied x is)
        (all_from (λ (q : FileRead). not (bytes_eq q.name x.name) || either_on x.name (q.pages.start / 64)) reads
        (λ q among. where_so (bytes_eq q.name x.name) (either_on x.name (q.pages.start / 64)) (near x q among))))
      where
        one_group : (q : FileRead) → IsAmong q reads → (group old q || group new q) ≡ true
        one_group q among = all_of (λ x. group old x || group new x) q reads all among

        answered : (files : List File) (x : FileRead) → IsAmong x reads → group files x ≡ true → is_file_reply files x ≡ true
        answered files x is fits =
            (and_parts (is_file_reply files x) (file_fits (x.pages ∷ []) (pages_named x.name files))
            (sym (alone_shown files x) ∙ then_so (is_same_line x x) (shows_word files x) (own_line x) (all_of (λ y. not (is_same_line x y) || shows_word files y) x reads fits is))).0

        replied : (x : FileRead) → IsAmong x reads → is_file_reply old x ≡ true
        replied x is =
            elim (or_cases (group old x) (group new x) (one_group x is)) as (λ _. is_file_reply old x ≡ true) [
              | inl one ↦ answered old x is one
              | inr other ↦ sym (replies x) ∙ answered new x is other
            ]

        near : (x q : FileRead) → IsAmong q reads → bytes_eq q.name x.name ≡ true → either_on x.name (q.pages.start / 64) ≡ true
        near x q among named =
            elim (or_cases (group old q) (group new q) (one_group q among)) as (λ _. either_on x.name (q.pages.start / 64) ≡ true) [
              | inl one ↦ or_left (on_line_of old have x.name (q.pages.start / 64)) (on_line_of new had x.name (q.pages.start / 64)) (from_group old have q one x.name named)
              | inr other ↦ or_right (on_line_of old have x.name (q.pages.start / 64)) (on_line_of new had x.name (q.pages.start / 64)) (from_group new had q other x.name named)
            ]

    in_groups : list_all passes_in_part reads ≡ grouped is_same_line (shows_word old) (shows_word new) reads
    in_groups = same_test (list_all passes_in_part reads) (grouped is_same_line (shows_word old) (shows_word new) reads) forth back

  -- files in one state
  whole_files : (files : List File) → HaveWords files → files_fit each_file reads files ≡ list_all (shows_word files) reads
  whole_files files have =
      all_same (λ (r : FileRead). is_file_reply files r && file_fits (reads_of r.name reads) (pages_named r.name files)) (passes_in_part files files have have (λ r. refl)) reads
      (λ r is. ap (λ b. is_file_reply files r && b)
      (all_same (λ n. line_fits (reads_of r.name reads) n (cell_of (pages_named r.name files) n)) (line_either files files have have (λ q. refl) r.name) (all_lines_read (reads_of r.name reads))
      (λ n among. sym (or_same (line_fits (reads_of r.name reads) n (cell_of (pages_named r.name files) n))))))
      ∙ in_groups files files have have (λ r. refl)
      ∙ grouped_same is_same_line own_line (shows_word files) reads

-- Files of which the lines of one changed.
module _ (text : List ℕ) (c : LinesChange) where
  abbrev changed : List File → List File
  changed files = files_changed (Changes text c) files

  abbrev changed_if : Bool → File → File
  changed_if b x = cond b (on_pages (pages_changed c) x) x

  keeps_name : (b : Bool) (x : File) (name : List ℕ) → bytes_eq (changed_if b x).name name ≡ bytes_eq x.name name
  keeps_name true x name = refl
  keeps_name false x name = refl

  -- they have the same names, and the same pages but of that one
  changed_there : (name : List ℕ) (files : List File) → has_file file_name name (changed files) ≡ has_file file_name name files
  changed_there name [] = refl
  changed_there name (x ∷ files) =
      ap (λ b. b || has_file file_name name (changed files)) (keeps_name (bytes_eq x.name text) x name) ∙ ap (λ b. bytes_eq x.name name || b) (changed_there name files)

  changed_pages : (name : List ℕ) (files : List File) → pages_named name (changed files) ≡ cond (bytes_eq text name) (pages_changed c (pages_named name files)) (pages_named name files)
  changed_pages name [] = none (bytes_eq text name)
    where
      none : (b : Bool) → [] ≡ cond b (pages_changed c []) []
      none true = sym (nil_from_length (pages_changed c []) (length_changed c []))
      none false = refl
  changed_pages name (x ∷ files) =
      ap (λ b. elim (cond b (Some (changed_if (bytes_eq x.name text) x)) (file_of file_name name (changed files))) [ None ↦ [] | Some file ↦ file.pages ]) (keeps_name (bytes_eq x.name text) x name)
      ∙ by_name (bytes_eq x.name name) refl (changed_pages name files)
    where
      pages_if : (b : Bool) → (changed_if b x).pages ≡ cond b (pages_changed c x.pages) x.pages
      pages_if true = refl
      pages_if false = refl

      turned : (a b : List ℕ) → bytes_eq a b ≡ bytes_eq b a
      turned a b = same_test (bytes_eq a b) (bytes_eq b a) (λ is. same_named b a (sym (named_same a b is))) (λ is. same_named a b (sym (named_same b a is)))

      by_name : (b : Bool) → bytes_eq x.name name ≡ b
          → pages_named name (changed files) ≡ cond (bytes_eq text name) (pages_changed c (pages_named name files)) (pages_named name files)
          → elim (cond b (Some (changed_if (bytes_eq x.name text) x)) (file_of file_name name (changed files))) [ None ↦ [] | Some file ↦ file.pages ]
          ≡ cond (bytes_eq text name) (pages_changed c (elim (cond b (Some x) (file_of file_name name files)) [ None ↦ [] | Some file ↦ file.pages ]))
          (elim (cond b (Some x) (file_of file_name name files)) [ None ↦ [] | Some file ↦ file.pages ])
      by_name true is rest =
          pages_if (bytes_eq x.name text)
          ∙ ap (λ b. cond b (pages_changed c x.pages) x.pages) (ap (λ name. bytes_eq name text) (named_same x.name name is) ∙ turned name text)
      by_name false is rest = rest

  -- a read of them is answered as before
  changed_replies : (files : List File) (r : FileRead) → is_file_reply (changed files) r ≡ is_file_reply files r
  changed_replies files r =
      ap (λ b. is_reply_of b (4096 * length (pages_named r.name (changed files))) r.pages) (changed_there r.name files)
      ∙ ap (λ n. is_reply_of (has_file file_name r.name files) (4096 * n) r.pages) (ap length (changed_pages r.name files) ∙ by_name (bytes_eq text r.name))
    where
      by_name : (b : Bool) → length (cond b (pages_changed c (pages_named r.name files)) (pages_named r.name files)) ≡ length (pages_named r.name files)
      by_name true = length_changed c (pages_named r.name files)
      by_name false = refl

  module _ (reads : List FileRead) (are : AreDistinctWords reads) (files : List File) (have : HaveWords files) (had : HaveWords (changed files)) where
    -- each of their lines may be old or new
    part_of_file : (T : List PageRead → List Page → Bool)
        → ((r : FileRead) → T (reads_of r.name reads) (pages_named r.name files)
        ≡ list_all (λ n. line_fits (reads_of r.name reads) n (cell_of (pages_named r.name files) n) || line_fits (reads_of r.name reads) n (cell_of (pages_changed c (pages_named r.name files)) n)) (all_lines_read (reads_of r.name reads)))
        → files_fit (all_but text T) reads files ≡ grouped is_same_line (shows_word files) (shows_word (changed files)) reads
    part_of_file T is =
        all_same (λ (r : FileRead). is_file_reply files r && all_but text T r.name (reads_of r.name reads) (pages_named r.name files))
        (λ (r : FileRead). is_file_reply files r && list_all (λ n. now r n || line_fits (reads_of r.name reads) n (cell_of (pages_named r.name (changed files)) n)) (all_lines_read (reads_of r.name reads))) reads
        (λ r among. ap (λ b. is_file_reply files r && b)
        (by_name r (bytes_eq text r.name)
        ∙ ap (λ pages. list_all (λ n. now r n || line_fits (reads_of r.name reads) n (cell_of pages n)) (all_lines_read (reads_of r.name reads))) (sym (changed_pages r.name files))))
        ∙ in_groups reads are files (changed files) have had (changed_replies files)
      where
        now : FileRead → ℕ → Bool
        now r n = line_fits (reads_of r.name reads) n (cell_of (pages_named r.name files) n)

        by_name : (r : FileRead) (b : Bool)
            → cond b (T (reads_of r.name reads) (pages_named r.name files)) (file_fits (reads_of r.name reads) (pages_named r.name files))
            ≡ list_all (λ n. now r n || line_fits (reads_of r.name reads) n (cell_of (cond b (pages_changed c (pages_named r.name files)) (pages_named r.name files)) n)) (all_lines_read (reads_of r.name reads))
        by_name r true = is r
        by_name r false = all_same (now r) (λ n. now r n || now r n) (all_lines_read (reads_of r.name reads)) (λ n among. sym (or_same (now r n)))

-- lines of files have words where they have values
named_values : (name : List ℕ) (files : List File) → AllHaveValues files → HaveValues (pages_named name files)
named_values name [] all = λ n cell is. cc is
named_values name (x ∷ files) all = by_name (is_named file_name name x) (named_values name files all.1)
  where
    by_name : (b : Bool) → HaveValues (pages_named name files) → HaveValues (elim (cond b (Some x) (file_of file_name name files)) [ None ↦ [] | Some file ↦ file.pages ])
    by_name true rest = all.0
    by_name false rest = rest

have_words : (files : List File) → AllHaveLines files → AllHaveValues files → HaveWords files
have_words files lines values = λ name n. seen_has (pages_named name files) n (lines-named name files lines) (named_values name files values)

-- the new files, where some may be new
abbrev new_of : FilesLeft → List File → List File → List File
new_of Unchanged old to = old
new_of OldOrNew old to = to
new_of (StoredInPart name offset bytes) old to = to
new_of (SyncedInPart name spans) old to = to

-- they have words as the old ones do
meant_lines : (action : Action) (mappings : List Mapping) (files : List File) → AllHaveLines files → AllHaveLines ((meaning action).files mappings files)
meant_lines (PoisonFile text offset) mappings files all = all
meant_lines (WeakenFile text offset) mappings files all = all
meant_lines action mappings files all = lines-files_altered action mappings files all

new_have : (left : FilesLeft) (old to : List File) → HaveWords old → HaveWords to → HaveWords (new_of left old to)
new_have Unchanged old to have had = have
new_have OldOrNew old to have had = had
new_have (StoredInPart name offset bytes) old to have had = had
new_have (SyncedInPart name spans) old to have had = had

module _ (reads : List FileRead) (are : AreDistinctWords reads) (files : List File) (lines : AllHaveLines files) (values : AllHaveValues files) where
  have : HaveWords files
  have = have_words files lines values

  one_state : files_fit each_file reads files ≡ list_all (shows_word files) reads
  one_state = whole_files reads are files have

  -- all old or all new
  either : (to : List File) → HaveWords to → (files_fit each_file reads files || files_fit each_file reads to) ≡ (list_all (shows_word files) reads || list_all (shows_word to) reads)
  either to had = ap (λ b. b || files_fit each_file reads to) one_state ∙ ap (λ b. list_all (shows_word files) reads || b) (whole_files reads are to had)

  -- whatever changes them
  left_apart : (change : FilesChange) → HaveWords (new_of (left_by change) files (files_changed change files))
      → files_pass (left_by change) reads files (files_changed change files) ≡ words_apart (left_by change) (shows_word files) (shows_word (files_changed change files)) reads
  left_apart Nothing had = one_state
  left_apart (Makes text pages) had = either (files_changed (Makes text pages) files) had
  left_apart (Removes text) had = either (files_changed (Removes text) files) had
  left_apart (Renames text to) had = either (files_changed (Renames text to) files) had
  left_apart (Resizes text pages) had = either (files_changed (Resizes text pages) files) had
  left_apart (Changes text (Puts at bytes)) had =
      part_of_file text (Puts at bytes) reads are files have had (stored_file at bytes)
      (λ r. stored reads at bytes (reads_of r.name reads) (pages_named r.name files) (lines-named r.name files lines))
  left_apart (Changes text (Persists spans)) had = part_of_file text (Persists spans) reads are files have had (synced_file spans) (λ r. refl)
  left_apart (Changes text (Rewrites ranges bytes)) had = either (files_changed (Changes text (Rewrites ranges bytes)) files) had
  left_apart (Changes text (Zeroes page count)) had = either (files_changed (Changes text (Zeroes page count)) files) had
  left_apart (Changes text (Loses line)) had = one_state
  left_apart (Changes text (Weakens line)) had = one_state
  left_apart (Changes text (Clears line)) had = either (files_changed (Changes text (Clears line)) files) had
  left_apart (Maps text span kind) had = one_state
  left_apart (Unmaps handle) had = one_state

  -- where such an action was interrupted, or none
  pub files_pass_apart : (mappings : List Mapping) (o : Option Action) → files_may_pass mappings o reads files ≡ words_shown_apart mappings o reads files
  files_pass_apart mappings None = one_state
  files_pass_apart mappings (Some action) =
      left_by_command reads files mappings action
      ∙ left_apart (files_change (map uncopied mappings) action)
      (subst HaveWords (left_same (λ left to. new_of left files to) files (λ to. refl) mappings action)
      (new_have ((meaning action).files_left mappings) files ((meaning action).files mappings files) have
      (have_words ((meaning action).files mappings files) (meant_lines action mappings files lines) (files_made_have action mappings files values))))
      ∙ sym (left_same (λ left to. words_apart left (shows_word files) (shows_word to) reads) files (λ to. refl) mappings action)
