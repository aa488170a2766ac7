-- What is reported of files and their lines: files that fit a question fit what is reported of them with it.
use Rattle.std.proofs.Common.{◌≡◌, ℕ, ◌+◌, ◌-◌, ◌*◌, ◌/◌, ◌<◌, ◌==◌, ◌&&◌, nat_lt, Bool, true, false, cond, not, Option, Some, None, ◌⊎◌, inl, inr, List, [], ◌∷◌, ◌++◌, filter, map, refl, sym, ap, subst, ◌∙◌, arith, append_assoc}
use Rattle.std.specs.List.{list_all}
use Rattle.std.specs.Str.{bytes_eq}
use Rattle.std.proofs.lemmas.Bool.{and_from, and_parts, le-ltb, lt-ltb, ltb-true}
use Rattle.std.proofs.lemmas.List.Folds.{list_all-append}
use Rattle.std.proofs.lemmas.Slice.Eq.{bytes_eq-Decides}
use Rattle.nvm_model.specs.Blocks.{first_there}
use Rattle.nvm_model.specs.Cell.{Cell}
use Rattle.nvm_model.specs.Listing.{file_of}
use Rattle.reply_text.specs.Answer.{why_text}
use Rattle.reply_text.specs.declared.reply.Why.{Why}
use Rattle.reply_text.specs.declared.reply.Why.TheVariants as because
use Rattle.cut_places.specs.Outcomes.Files.{FileRead, reads_of}
use Rattle.cut_places.specs.Outcomes.Pages.{PageRead, all_lines_read, is_refused_for, is_reply, is_reply_by}
use Rattle.cut_places.specs.Outcomes.Pages.PageReply.{Refuses}
use Rattle.cut_places.specs.AskedReads.Fitting.{cell_fits}
use Rattle.cut_places.specs.declared.line.FileLine.{FileLine}
use Rattle.cut_places.specs.FileLines.{line_held}
use Rattle.cut_places.specs.FileFitting.{now_fits, read_passes, reads_pass, seen_pass}
use Rattle.cut_places.specs.SeesFiles.{are_held, is_held, line_numbers}
use Rattle.cut_places.specs.FilesState.{FileState, name_seen}
use Rattle.cut_places.proofs.AllLemmas.{IsOneOf}
use Rattle.cut_places.proofs.LeftLinesLemmas.{AllHaveLines, HasLines}
use Rattle.cut_places.proofs.ReadLemmas.{lines_of_read, lines_same}
use Rattle.witnesses.specs.Files.{line_there, places_read}
use Rattle.witnesses.specs.Keeping.{HasEach}
use Rattle.witnesses.specs.Lines.{left_of}
use Rattle.witnesses.specs.Sizes.{pages_in}
use Rattle.witnesses.specs.Telling.{pages_told}
use Rattle.cut_places.proofs.AsideLemmas.{line_aside}
use Rattle.witnesses.proofs.AskedLemmas.{line_reply_is, lines_at}
use Rattle.witnesses.proofs.LineToldLemmas.{kept_fits, told_as, told_fits}
use Rattle.witnesses.proofs.HeldPlaceLemmas.{asked_held, place_among, spot}
use Rattle.witnesses.proofs.ListLemmas.{IsAmong, all_from, all_of, among_or_not}
use Rattle.witnesses.proofs.FilesReadLemmas.{all_flat, among_filter, filter_among, fits_more, line_found, line_is, lines_within, no_lines, numbers_among, read_among, read_told, reads_of-append, refuse_in, size_of, sizes_of, sizes_refuse, there_told, told_in, told_of}

module _ (asked looked : List FileRead) (numbers : List ℕ) (files : List FileState) (fit : reads_pass (now_fits asked) asked files ≡ true)
    (covers : (place : List ℕ × ℕ) → IsAmong place (places_read asked) → IsAmong place (places_read looked))
    (held : are_held numbers looked ≡ true) (have : AllHaveLines numbers files)
    (words : (name : List ℕ) (n : ℕ) (line : Cell) → is_held numbers n ≡ true → line_there n (file_of name_seen name files) ≡ Some line → HasEach line) where
  abbrev tale : List FileRead
  tale = told_of asked files looked ++ sizes_of asked files looked

  abbrev both : List FileRead
  both = asked ++ tale

  asked_are_held : are_held numbers asked ≡ true
  asked_are_held = asked_held numbers asked looked covers held

  -- one file
  module _ (name : List ℕ) (x : FileState) (found : file_of name_seen name files ≡ Some x) where
    abbrev has : HasLines numbers x
    has = have name x found

    abbrev f : ℕ → Cell
    f = has.0

    abbrev rs : List PageRead
    rs = reads_of name asked

    -- the lines of it that are reported
    abbrev ns : List ℕ
    ns = filter (λ n. nat_lt (n / 64) x.pages) (all_lines_read (reads_of name looked))

    agree : (more : List FileRead) (line : FileLine) → IsOneOf line x.lines → cell_fits (reads_of name more) line.number (f line.number) ≡ now_fits more name x.pages line
    agree more line is = ap (cell_fits (reads_of name more) line.number) (sym (line_is f x.lines line has.2 is))

    line_of_number : (n : ℕ) → is_held numbers n ≡ true → line_held n x.lines ≡ Some (f n)
    line_of_number n is = line_found f x.lines n has.2 (subst (λ ms. is_held ms n ≡ true) (sym has.1) is)

    looked_held : (n : ℕ) → IsAmong n (all_lines_read (reads_of name looked)) → is_held numbers n ≡ true
    looked_held n among =
        let one = read_among name looked n among in
        all_of (is_held numbers) n (lines_of_read one.0.pages) (all_of (λ (q : FileRead). list_all (is_held numbers) (lines_of_read q.pages)) one.0 looked held one.1) one.3

    -- a question's read of it
    module _ (r : FileRead) (is : IsAmong r asked) (same : r.name ≡ name) where
      passes : read_passes (now_fits asked name) r.pages (Some x) ≡ true
      passes =
          sym (ap (read_passes (now_fits asked name) r.pages) found)
          ∙ subst (λ text. read_passes (now_fits asked text) r.pages (file_of name_seen text files) ≡ true) same
          (all_of (λ (q : FileRead). read_passes (now_fits asked q.name) q.pages (file_of name_seen q.name files)) r asked fit is)

      replied : is_reply (4096 * x.pages) r.pages ≡ true
      replied = (and_parts (is_reply (4096 * x.pages) r.pages) (seen_pass (now_fits asked name x.pages) r.pages x.lines) passes).0

      lines_held : list_all (is_held (line_numbers x.lines)) (lines_of_read r.pages) ≡ true
      lines_held =
          subst (λ ms. list_all (is_held ms) (lines_of_read r.pages) ≡ true) (sym has.1)
          (all_of (λ (q : FileRead). list_all (is_held numbers) (lines_of_read q.pages)) r asked asked_are_held is)

      lines_fit : list_all (λ n. cell_fits rs n (f n)) (lines_of_read r.pages) ≡ true
      lines_fit =
          lines_same (λ n. cell_fits rs n (f n)) (now_fits asked name x.pages) x.lines (agree asked) (4096 * x.pages) r.pages replied lines_held
          ∙ (and_parts (is_reply (4096 * x.pages) r.pages) (seen_pass (now_fits asked name x.pages) r.pages x.lines) passes).1

      told_here : (n : ℕ) → IsAmong n (lines_of_read r.pages) → IsAmong n ns
      told_here n among =
          let within : n < 64 * x.pages = ltb-true n (64 * x.pages) (all_of (λ m. nat_lt m (64 * x.pages)) n (lines_of_read r.pages) (lines_within x.pages r.pages replied) among) in
          let page : n / 64 < x.pages = omega (arith, within) in
          among_filter (λ n. nat_lt (n / 64) x.pages) n (all_lines_read (reads_of name looked))
          (numbers_among name looked n (covers (spot name n) (subst (λ text. IsAmong (spot text n) (places_read asked)) same (place_among asked r is n among)))) (lt-ltb (n / 64) x.pages page)

    -- each reply of the question is one that a read of it has
    own_replies : (reads : List FileRead) → ((r : FileRead) → IsAmong r reads → IsAmong r asked) → list_all (is_reply (4096 * x.pages)) (reads_of name reads) ≡ true
    own_replies [] each = refl
    own_replies (r ∷ reads) each = by_name (bytes_eq r.name name) refl (own_replies reads (λ q among. each q (inr among)))
      where
        by_name : (b : Bool) → bytes_eq r.name name ≡ b → list_all (is_reply (4096 * x.pages)) (reads_of name reads) ≡ true
            → list_all (is_reply (4096 * x.pages)) (cond b (r.pages ∷ reads_of name reads) (reads_of name reads)) ≡ true
        by_name true same rest =
            and_from (is_reply (4096 * x.pages) r.pages) (list_all (is_reply (4096 * x.pages)) (reads_of name reads)) (replied r (each r (inl refl)) ((bytes_eq-Decides r.name name).0 same)) rest
        by_name false other rest = rest

    -- a line that exists fits the question
    there_fits : (n : ℕ) → is_held numbers n ≡ true → nat_lt (n / 64) x.pages ≡ true → cell_fits rs n (f n) ≡ true
    there_fits n own page = by_asked (among_or_not n (all_lines_read rs))
      where
        there : line_there n (file_of name_seen name files) ≡ Some (f n)
        there = ap (line_there n) found ∙ ap (λ b. cond b (line_held n x.lines) None) page ∙ line_of_number n own

        by_asked : IsAmong n (all_lines_read rs) ⊎ (list_all (λ m. not (m == n)) (all_lines_read rs) ≡ true) → cell_fits rs n (f n) ≡ true
        by_asked (inl among) =
            let one = read_among name asked n among in all_of (λ m. cell_fits rs m (f m)) n (lines_of_read one.0.pages) (lines_fit one.0 one.1 one.2) one.3
        by_asked (inr out) = line_aside n (4096 * x.pages) rs (own_replies asked (λ r is. is)) out (f n) (words name n (f n) own there)

    all_fit : (n : ℕ) → IsAmong n ns → cell_fits rs n (f n) ≡ true
    all_fit n among = let parts = filter_among (λ n. nat_lt (n / 64) x.pages) n (all_lines_read (reads_of name looked)) among in there_fits n (looked_held n parts.0) parts.1

    told_reads : reads_of name both ≡ (rs ++ map (told_as (λ n. n) rs f) ns) ++ reads_of name (sizes_of asked files looked)
    told_reads =
        reads_of-append name asked tale
        ∙ ap (λ ts. rs ++ ts)
        (reads_of-append name (told_of asked files looked) (sizes_of asked files looked)
        ∙ ap (λ ts. ts ++ reads_of name (sizes_of asked files looked)) (told_in asked files name x found f looked (λ n among. line_of_number n (looked_held n among))))
        ∙ sym (append_assoc rs (map (told_as (λ n. n) rs f) ns) (reads_of name (sizes_of asked files looked)))

    alike : (n m : ℕ) → IsAmong n ns → IsAmong m ns → n ≡ m → f n ≡ f m
    alike n m among also same = ap f same

    whole : (n : ℕ) → IsAmong n ns → cell_fits (reads_of name both) n (f n) ≡ true
    whole n among =
        ap (λ ts. cell_fits ts n (f n)) told_reads
        ∙ fits_more (rs ++ map (told_as (λ n. n) rs f) ns) (reads_of name (sizes_of asked files looked)) (refuse_in name (sizes_of asked files looked) (sizes_refuse asked files looked)) n (f n)
        (told_fits (λ m. m) rs ns f all_fit alike n among (Some (f n)) (kept_fits (λ m. m) rs ns f all_fit alike n among))

    module _ (r : FileRead) (is : IsAmong r asked) (same : r.name ≡ name) where
      read_fits : read_passes (now_fits both name) r.pages (Some x) ≡ true
      read_fits =
          and_from (is_reply (4096 * x.pages) r.pages) (seen_pass (now_fits both name x.pages) r.pages x.lines) (replied r is same)
          (sym (lines_same (λ n. cell_fits (reads_of name both) n (f n)) (now_fits both name x.pages) x.lines (agree both) (4096 * x.pages) r.pages (replied r is same) (lines_held r is same))
          ∙ all_from (λ n. cell_fits (reads_of name both) n (f n)) (lines_of_read r.pages) (λ n among. whole n (told_here r is same n among)))

    -- what is reported of a line that exists
    page_fits : (n : ℕ) → IsAmong n (all_lines_read (reads_of name looked)) → (b : Bool) → nat_lt (n / 64) x.pages ≡ b
        → list_all (λ (r : FileRead). read_passes (now_fits both name) r.pages (Some x)) (there_told asked files name n (cond b (line_held n x.lines) None)) ≡ true
    page_fits n among false past = refl
    page_fits n among true page =
        subst (λ o. list_all (λ (r : FileRead). read_passes (now_fits both name) r.pages (Some x)) (there_told asked files name n o) ≡ true) (sym (line_of_number n own))
        (and_from (read_passes (now_fits both name) (told_as (λ m. m) rs f n) (Some x)) true one_fits refl)
      where
        own : is_held numbers n ≡ true
        own = looked_held n among

        in_pages : n / 64 < x.pages
        in_pages = ltb-true (n / 64) x.pages page

        within : n < 64 * x.pages
        within = omega (arith, in_pages)

        reply : is_reply (4096 * x.pages) (told_as (λ m. m) rs f n) ≡ true
        reply = line_reply_is x.pages n (left_of rs n (f n)) within

        one : lines_of_read (told_as (λ m. m) rs f n) ≡ n ∷ []
        one = lines_at n (left_of rs n (f n))

        fits : cell_fits (reads_of name both) n (f n) ≡ true
        fits = whole n (among_filter (λ n. nat_lt (n / 64) x.pages) n (all_lines_read (reads_of name looked)) among page)

        one_fits : read_passes (now_fits both name) (told_as (λ m. m) rs f n) (Some x) ≡ true
        one_fits =
            and_from (is_reply (4096 * x.pages) (told_as (λ m. m) rs f n)) (seen_pass (now_fits both name x.pages) (told_as (λ m. m) rs f n) x.lines) reply
            (sym (lines_same (λ m. cell_fits (reads_of name both) m (f m)) (now_fits both name x.pages) x.lines (agree both) (4096 * x.pages) (told_as (λ m. m) rs f n) reply
            (ap (list_all (is_held (line_numbers x.lines))) one ∙ and_from (is_held (line_numbers x.lines) n) true (subst (λ ms. is_held ms n ≡ true) (sym has.1) own) refl))
            ∙ ap (list_all (λ m. cell_fits (reads_of name both) m (f m))) one ∙ and_from (cell_fits (reads_of name both) n (f n)) true fits refl)

  abbrev passes_both : FileRead → Bool
  passes_both r = read_passes (now_fits both r.name) r.pages (file_of name_seen r.name files)

  one_fits : (r : FileRead) → IsAmong r asked → passes_both r ≡ true
  one_fits r is = by_file (file_of name_seen r.name files) refl
    where
      by_file : (o : Option FileState) → file_of name_seen r.name files ≡ o → passes_both r ≡ true
      by_file None none =
          ap (read_passes (now_fits both r.name) r.pages) none
          ∙ (sym (ap (read_passes (now_fits asked r.name) r.pages) none) ∙ all_of (λ (q : FileRead). read_passes (now_fits asked q.name) q.pages (file_of name_seen q.name files)) r asked fit is)
      by_file (Some x) found = ap (read_passes (now_fits both r.name) r.pages) found ∙ read_fits r.name x found r is refl

  -- reported of one name
  named : (name : List ℕ) (test : PageRead → Bool) (n : ℕ) (o : Option Cell)
      → list_all (λ (r : FileRead). read_passes (now_fits both r.name) r.pages (file_of name_seen r.name files)) (there_told asked files name n o)
      ≡ list_all (λ (r : FileRead). read_passes (now_fits both name) r.pages (file_of name_seen name files)) (there_told asked files name n o)
  named name test n None = refl
  named name test n (Some line) = refl

  line_fits : (r : FileRead) → IsAmong r looked → (n : ℕ) → IsAmong n (lines_of_read r.pages) → list_all passes_both (there_told asked files r.name n (line_there n (file_of name_seen r.name files))) ≡ true
  line_fits r is n among =
      named r.name (λ p. true) n (line_there n (file_of name_seen r.name files)) ∙ by_file (file_of name_seen r.name files) refl
    where
      by_file : (o : Option FileState) → file_of name_seen r.name files ≡ o
          → list_all (λ (q : FileRead). read_passes (now_fits both r.name) q.pages (file_of name_seen r.name files)) (there_told asked files r.name n (line_there n (file_of name_seen r.name files))) ≡ true
      by_file None none = ap (λ o. list_all (λ (q : FileRead). read_passes (now_fits both r.name) q.pages (file_of name_seen r.name files)) (there_told asked files r.name n (line_there n o))) none
      by_file (Some x) found =
          ap (λ o. list_all (λ (q : FileRead). read_passes (now_fits both r.name) q.pages o) (there_told asked files r.name n (line_there n o))) found
          ∙ page_fits r.name x found n (numbers_among r.name looked n (place_among looked r is n among)) (nat_lt (n / 64) x.pages) refl

  lines_told_fit : (r : FileRead) → IsAmong r looked → list_all passes_both (read_told asked files r) ≡ true
  lines_told_fit r is =
      all_flat passes_both (λ n. there_told asked files r.name n (line_there n (file_of name_seen r.name files))) (lines_of_read r.pages) (line_fits r is)

  -- how long files are reported to be
  refused_so : (why : Why) → is_refused_for why (Refuses why) ≡ true
  refused_so why = (bytes_eq-Decides (why_text why) (why_text why)).1 refl

  ends_there : (pages : ℕ) → is_reply (4096 * pages) (record { start = 4096 * pages; len = 0; reply = Refuses because.Length }) ≡ true
  ends_there pages =
      let last : Option Why = None in
      ap (λ b. is_reply_by (first_there (cond b (Some because.Range) (Some because.Length)) last) (4096 * pages) 0 (Refuses because.Length)) (le-ltb (4096 * pages) (4096 * pages + 0) (omega arith))
      ∙ refused_so because.Length

  past_its_end : (pages : ℕ) → is_reply (4096 * pages) (record { start = 4096 * pages + 1; len = 0; reply = Refuses because.Range }) ≡ true
  past_its_end pages =
      let last : Option Why = None in
      ap (λ b. is_reply_by (first_there (cond b (Some because.Range) (Some because.Length)) last) (4096 * pages + 1) 0 (Refuses because.Range)) (lt-ltb (4096 * pages) (4096 * pages + 1 + 0) (omega arith))
      ∙ refused_so because.Range

  size_fits : (name : List ℕ) (o : Option FileState) → file_of name_seen name files ≡ o → list_all passes_both (pages_told name (pages_in o)) ≡ true
  size_fits name None none =
      and_from (read_passes (now_fits both name) (record { start = 0; len = 0; reply = Refuses because.Missing }) (file_of name_seen name files)) true
      (ap (read_passes (now_fits both name) (record { start = 0; len = 0; reply = Refuses because.Missing })) none ∙ refused_so because.Missing) refl
  size_fits name (Some x) found =
      let ends : PageRead = record { start = 4096 * x.pages; len = 0; reply = Refuses because.Length } in
      let past : PageRead = record { start = 4096 * x.pages + 1; len = 0; reply = Refuses because.Range } in
      and_from (read_passes (now_fits both name) ends (file_of name_seen name files)) (read_passes (now_fits both name) past (file_of name_seen name files) && true)
      (ap (read_passes (now_fits both name) ends) found
      ∙ and_from (is_reply (4096 * x.pages) ends) (seen_pass (now_fits both name x.pages) ends x.lines) (ends_there x.pages) (no_lines (now_fits both name x.pages) (4096 * x.pages) 0 because.Length x.lines))
      (and_from (read_passes (now_fits both name) past (file_of name_seen name files)) true
      (ap (read_passes (now_fits both name) past) found
      ∙ and_from (is_reply (4096 * x.pages) past) (seen_pass (now_fits both name x.pages) past x.lines) (past_its_end x.pages)
      (no_lines (now_fits both name x.pages) (4096 * x.pages + 1) 0 because.Range x.lines)) refl)

  -- each line that exists fits the question
  pub line_left_fits : (name : List ℕ) (n : ℕ) (line : Cell) → is_held numbers n ≡ true → line_there n (file_of name_seen name files) ≡ Some line → cell_fits (reads_of name asked) n line ≡ true
  line_left_fits name n line own is = by_file (file_of name_seen name files) refl
    where
      by_page : (x : FileState) (found : file_of name_seen name files ≡ Some x) (b : Bool) → nat_lt (n / 64) x.pages ≡ b → cond b (line_held n x.lines) None ≡ Some line
          → cell_fits (reads_of name asked) n line ≡ true
      by_page x found true page there =
          let same : (have name x found).0 n ≡ line = cc (sym (line_of_number name x found n own) ∙ there) in
          sym (ap (cell_fits (reads_of name asked) n) same) ∙ there_fits name x found n own page
      by_page x found false past there = cc there

      by_file : (o : Option FileState) → file_of name_seen name files ≡ o → cell_fits (reads_of name asked) n line ≡ true
      by_file None none = let wrong : line_there n None ≡ Some line = sym (ap (line_there n) none) ∙ is in cc wrong
      by_file (Some x) found = by_page x found (nat_lt (n / 64) x.pages) refl (sym (ap (line_there n) found) ∙ is)

  -- all of them fit
  pub both_fit : reads_pass (now_fits both) both files ≡ true
  both_fit =
      list_all-append passes_both asked tale
      ∙ and_from (list_all passes_both asked) (list_all passes_both tale) (all_from passes_both asked one_fits)
      (list_all-append passes_both (told_of asked files looked) (sizes_of asked files looked)
      ∙ and_from (list_all passes_both (told_of asked files looked)) (list_all passes_both (sizes_of asked files looked))
      (all_flat passes_both (read_told asked files) looked lines_told_fit)
      (all_flat passes_both (size_of asked files) looked (λ r is. size_fits r.name (file_of name_seen r.name files) refl)))

  abbrev holds : FileRead → Bool
  holds r = list_all (is_held numbers) (lines_of_read r.pages)

  line_holds : (name : List ℕ) (n : ℕ) → is_held numbers n ≡ true → (o : Option Cell) → list_all holds (there_told asked files name n o) ≡ true
  line_holds name n own None = refl
  line_holds name n own (Some line) =
      and_from (holds (record { name = name; pages = told_as (λ m. m) (reads_of name asked) (λ m. line) n })) true
      (ap (list_all (is_held numbers)) (lines_at n (left_of (reads_of name asked) n line)) ∙ and_from (is_held numbers n) true own refl) refl

  size_holds : (name : List ℕ) (o : Option ℕ) → list_all holds (pages_told name o) ≡ true
  size_holds name None = refl
  size_holds name (Some pages) = refl

  -- and look at lines that are held
  pub both_held : are_held numbers both ≡ true
  both_held =
      list_all-append holds asked tale
      ∙ and_from (list_all holds asked) (list_all holds tale) asked_are_held
      (list_all-append holds (told_of asked files looked) (sizes_of asked files looked)
      ∙ and_from (list_all holds (told_of asked files looked)) (list_all holds (sizes_of asked files looked))
      (all_flat holds (read_told asked files) looked
      (λ r is.
      all_flat holds (λ n. there_told asked files r.name n (line_there n (file_of name_seen r.name files))) (lines_of_read r.pages)
      (λ n among. line_holds r.name n (all_of (is_held numbers) n (lines_of_read r.pages) (all_of holds r looked held is) among) (line_there n (file_of name_seen r.name files)))))
      (all_flat holds (size_of asked files) looked (λ r is. size_holds r.name (pages_in (file_of name_seen r.name files)))))
