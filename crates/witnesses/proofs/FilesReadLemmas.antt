-- What is reported of files and their lines: the reads of it, and which lines they look at.
use Rattle.std.proofs.Common.{◌≡◌, ℕ, ◌+◌, ◌-◌, ◌*◌, ◌/◌, ◌≤◌, ◌==◌, ◌||◌, nat_lt, Bool, true, false, cond, Option, Some, None, ◌⊎◌, inl, inr, List, [], ◌∷◌, ◌++◌, filter, find, flat_map, map, slice_index_or, refl, sym, ap, subst, ◌∙◌, arith}
use Rattle.std.specs.List.{list_all, list_any}
use Rattle.std.specs.Str.{bytes_eq}
use Rattle.std.proofs.lemmas.Bool.{and_from, and_parts, eqb-true, lt-ltb}
use Rattle.std.proofs.lemmas.List.{map-append}
use Rattle.std.proofs.lemmas.List.Elements.{filter-append}
use Rattle.std.proofs.lemmas.List.Folds.{list_all-append}
use Rattle.std.proofs.lemmas.Slice.Eq.{bytes_eq-Decides}
use Rattle.nvm_model.specs.Blocks.{first_there}
use Rattle.nvm_model.specs.Cell.{Cell}
use Rattle.nvm_model.specs.Cell.Cell.{Bad, Kept}
use Rattle.nvm_model.specs.Listing.{file_of}
use Rattle.reply_text.specs.declared.reply.Why.{Why}
use Rattle.reply_text.specs.declared.reply.Why.TheVariants as because
use Rattle.cut_places.specs.Outcomes.Files.{FileRead, reads_of}
use Rattle.cut_places.specs.Outcomes.Pages.{PageRead, PageReply, agrees, all_agree, all_allow_good, all_lines_read, allows_bad, allows_good, is_refused_for, is_reply, is_reply_by, lines_read, words_fit}
use Rattle.cut_places.specs.Outcomes.Pages.PageReply.{Shows, Poison, Refuses}
use Rattle.cut_places.specs.AskedReads.Fitting.{cell_fits}
use Rattle.cut_places.specs.declared.line.FileLine.{FileLine}
use Rattle.cut_places.specs.FileLines.{line_held}
use Rattle.cut_places.specs.FileFitting.{seen_pass}
use Rattle.cut_places.specs.SeesFiles.{AreLines, is_held, line_numbers}
use Rattle.cut_places.specs.FilesState.{FileState, name_seen}
use Rattle.cut_places.proofs.AllLemmas.{IsOneOf}
use Rattle.cut_places.proofs.ReadLemmas.{lines_of_read}
use Rattle.witnesses.specs.Files.{line_there, places_read}
use Rattle.witnesses.specs.Sizes.{pages_in}
use Rattle.witnesses.specs.Telling.{pages_told}
use Rattle.witnesses.proofs.LineToldLemmas.{told_as}
use Rattle.witnesses.proofs.HeldPlaceLemmas.{of_first, spot}
use Rattle.witnesses.proofs.ListLemmas.{IsAmong, among_first, among_last, among_parts, any_more, range_all, range_each}

-- tests of lists of lists, and of what some items become
pub all_flat : {A B : Type 0} (test : B → Bool) (f : A → List B) (xs : List A) → ((x : A) → IsAmong x xs → list_all test (f x) ≡ true) → list_all test (flat_map f xs) ≡ true
all_flat test f [] each = refl
all_flat test f (x ∷ xs) each =
    list_all-append test (f x) (flat_map f xs)
    ∙ and_from (list_all test (f x)) (list_all test (flat_map f xs)) (each x (inl refl)) (all_flat test f xs (λ y is. each y (inr is)))

pub map_among : {A B : Type 0} (f g : A → B) (xs : List A) → ((x : A) → IsAmong x xs → f x ≡ g x) → map f xs ≡ map g xs
map_among f g [] same = refl
map_among f g (x ∷ xs) same = ap (λ y. y ∷ map f xs) (same x (inl refl)) ∙ ap (λ ys. g x ∷ ys) (map_among f g xs (λ y is. same y (inr is)))

-- a line by its number
pub line_is : (f : ℕ → Cell) (lines : List FileLine) (line : FileLine) → AreLines f lines → IsOneOf line lines → line.line ≡ f line.number
line_is f [] line are is = absurd is
line_is f (other ∷ lines) line are (inl same) = subst (λ (l : FileLine). l.line ≡ f l.number) (sym same) are.0
line_is f (other ∷ lines) line are (inr later) = line_is f lines line are.1 later

pub line_found : (f : ℕ → Cell) (lines : List FileLine) (n : ℕ) → AreLines f lines → is_held (line_numbers lines) n ≡ true → line_held n lines ≡ Some (f n)
line_found f [] n are held = cc held
line_found f (line ∷ lines) n are held = by_number (line.number == n) refl held (line_found f lines n are.1)
  where
    by_number : (b : Bool) → (line.number == n) ≡ b → (b || is_held (line_numbers lines) n) ≡ true → (is_held (line_numbers lines) n ≡ true → line_held n lines ≡ Some (f n))
        → elim (cond b (Some line) (find (λ (l : FileLine). l.number == n) lines)) [ None ↦ None | Some l ↦ Some l.line ] ≡ Some (f n)
    by_number true is some rest = ap Some (are.0 ∙ ap f (eqb-true line.number n is))
    by_number false is some rest = rest some

-- the lines that a read looks at are those of a storage of that number of pages that answers it so
module _ (pages start len : ℕ) (reply : PageReply) (given : (why : Why) → is_refused_for why reply ≡ true → ⊥) (is : is_reply (4096 * pages) (record { start = start; len = len; reply = reply }) ≡ true) where
  answered : (start + len ≤ 4096 * pages) × (1 ≤ len)
  answered = by_range (nat_lt (4096 * pages) (start + len)) refl is
    where
      by_length : (start + len ≤ 4096 * pages) → (b : Bool) → (len == 0) ≡ b
          → is_reply_by (first_there (cond b (Some because.Length) None) (cond (nat_lt 65536 len) (Some because.Limit) None)) start len reply ≡ true → (start + len ≤ 4096 * pages) × (1 ≤ len)
      by_length within true none told = absurd (given because.Length told)
      by_length within false some told = (within, grind arith)

      by_range : (b : Bool) → nat_lt (4096 * pages) (start + len) ≡ b
          → is_reply_by (first_there (cond b (Some because.Range) (cond (len == 0) (Some because.Length) None)) (cond (nat_lt 65536 len) (Some because.Limit) None)) start len reply ≡ true
          → (start + len ≤ 4096 * pages) × (1 ≤ len)
      by_range true out told = absurd (given because.Range told)
      by_range false in_range told = by_length (grind arith) (len == 0) refl told

  touched_within : list_all (λ n. nat_lt n (64 * pages)) (lines_read start len (Poison 0)) ≡ true
  touched_within =
      range_all (λ n. nat_lt n (64 * pages)) (start / 64) ((start + len - 1) / 64 + 1 - start / 64)
      (λ k from to. lt-ltb k (64 * pages) (omega (arith, to, answered.0, answered.1)))

pub lines_within : (pages : ℕ) (r : PageRead) → is_reply (4096 * pages) r ≡ true → list_all (λ n. nat_lt n (64 * pages)) (lines_of_read r) ≡ true
lines_within pages r is = by_reply r.reply is
  where
    by_reply : (reply : PageReply) → is_reply (4096 * pages) (record { start = r.start; len = r.len; reply = reply }) ≡ true → list_all (λ n. nat_lt n (64 * pages)) (lines_read r.start r.len reply) ≡ true
    by_reply (Shows bytes) told = touched_within pages r.start r.len (Shows bytes) (λ why refused. cc refused) told
    by_reply (Poison at) told = touched_within pages r.start r.len (Poison at) (λ why refused. cc refused) told
    by_reply (Refuses why) told = refl

-- a read that is reported of no such file looks at no line
none_looked : (start len : ℕ) (reply : PageReply) → is_refused_for because.Missing reply ≡ true → lines_read start len reply ≡ []
none_looked start len (Shows bytes) told = cc told
none_looked start len (Poison at) told = cc told
none_looked start len (Refuses why) told = refl

pub reads_of-append : (name : List ℕ) (xs ys : List FileRead) → reads_of name (xs ++ ys) ≡ reads_of name xs ++ reads_of name ys
reads_of-append name [] ys = refl
reads_of-append name (x ∷ xs) ys = by_name (bytes_eq x.name name) (reads_of-append name xs ys)
  where
    by_name : (b : Bool) → reads_of name (xs ++ ys) ≡ reads_of name xs ++ reads_of name ys
        → cond b (x.pages ∷ reads_of name (xs ++ ys)) (reads_of name (xs ++ ys)) ≡ cond b (x.pages ∷ reads_of name xs) (reads_of name xs) ++ reads_of name ys
    by_name true rest = ap (λ rs. x.pages ∷ rs) rest
    by_name false rest = rest

-- reads that are refused tell nothing of lines
abbrev AllRefuse : List PageRead → Type 0
AllRefuse [] = Unit {0}
AllRefuse (r ∷ reads) = ((why : Why) × (r.reply ≡ Refuses why)) × AllRefuse reads

abbrev EachRefuses : List FileRead → Type 0
EachRefuses [] = Unit {0}
EachRefuses (r ∷ reads) = ((why : Why) × (r.pages.reply ≡ Refuses why)) × EachRefuses reads

each_refuses-append : (xs ys : List FileRead) → EachRefuses xs → EachRefuses ys → EachRefuses (xs ++ ys)
each_refuses-append [] ys first last = last
each_refuses-append (x ∷ xs) ys first last = (first.0, each_refuses-append xs ys first.1 last)

pub refuse_in : (name : List ℕ) (reads : List FileRead) → EachRefuses reads → AllRefuse (reads_of name reads)
refuse_in name [] each = tt
refuse_in name (r ∷ reads) each = by_name (bytes_eq r.name name) (refuse_in name reads each.1)
  where
    by_name : (b : Bool) → AllRefuse (reads_of name reads) → AllRefuse (cond b (r.pages ∷ reads_of name reads) (reads_of name reads))
    by_name true rest = (each.0, rest)
    by_name false rest = rest

module _ (xs zs : List PageRead) (refuse : AllRefuse zs) where
  none_told : (test : PageRead → Bool) → ((r : PageRead) (why : Why) → r.reply ≡ Refuses why → test r ≡ true) → (some : List PageRead) → AllRefuse some → list_all test some ≡ true
  none_told test each [] all = refl
  none_told test each (r ∷ some) all = and_from (test r) (list_all test some) (each r all.0.0 all.0.1) (none_told test each some all.1)

  more_told : (test : PageRead → Bool) → ((r : PageRead) (why : Why) → r.reply ≡ Refuses why → test r ≡ true) → list_all test xs ≡ true → list_all test (xs ++ zs) ≡ true
  more_told test each passes = list_all-append test xs zs ∙ and_from (list_all test xs) (list_all test zs) passes (none_told test each zs refuse)

  pub fits_more : (n : ℕ) (line : Cell) → cell_fits xs n line ≡ true → cell_fits (xs ++ zs) n line ≡ true
  fits_more n Bad fit = more_told (λ (r : PageRead). allows_bad n r.start r.len r.reply) (λ r why is. ap (allows_bad n r.start r.len) is) fit
  fits_more n (Kept weak words) fit =
      let parts = and_parts (all_allow_good xs n) (words_fit xs n words) fit in
      and_from (all_allow_good (xs ++ zs) n) (words_fit (xs ++ zs) n words)
      (more_told (λ (r : PageRead). allows_good n r.reply) (λ r why is. ap (allows_good n) is) parts.0)
      (range_all (λ w. list_any (all_agree (xs ++ zs) (8 * n + w)) (slice_index_or words w [])) 0 8
      (λ w from word.
      any_more (all_agree xs (8 * n + w)) (all_agree (xs ++ zs) (8 * n + w)) (slice_index_or words w [])
      (λ v agree. more_told (λ (r : PageRead). agrees (8 * n + w) v r.start r.len r.reply) (λ r why is. ap (agrees (8 * n + w) v r.start r.len) is) agree)
      (range_each (λ w. list_any (all_agree xs (8 * n + w)) (slice_index_or words w [])) 0 8 parts.1 w from word)))

-- no line is looked at by a read that is refused
pub no_lines : (test : FileLine → Bool) (start len : ℕ) (why : Why) (lines : List FileLine) → seen_pass test (record { start = start; len = len; reply = Refuses why }) lines ≡ true
no_lines test start len why [] = refl
no_lines test start len why (line ∷ lines) = no_lines test start len why lines

module _ (asked : List FileRead) (files : List FileState) where
  abbrev found_in : List ℕ → Option FileState
  found_in name = file_of name_seen name files

  -- line n of the file of a name, reported as it is left, if it exists; and all such lines at which reads look
  abbrev pub there_told : List ℕ → ℕ → Option Cell → List FileRead
  there_told name n None = []
  there_told name n (Some line) = record { name = name; pages = told_as (λ m. m) (reads_of name asked) (λ m. line) n } ∷ []

  abbrev pub read_told : FileRead → List FileRead
  read_told r = flat_map (λ n. there_told r.name n (line_there n (found_in r.name))) (lines_of_read r.pages)

  abbrev pub told_of : List FileRead → List FileRead
  told_of reads = flat_map read_told reads

  -- and whether files are there, and how long
  abbrev pub size_of : FileRead → List FileRead
  size_of r = pages_told r.name (pages_in (found_in r.name))

  abbrev pub sizes_of : List FileRead → List FileRead
  sizes_of reads = flat_map size_of reads

  pages_refuse : (name : List ℕ) (o : Option ℕ) → EachRefuses (pages_told name o)
  pages_refuse name None = ((because.Missing, refl), tt)
  pages_refuse name (Some pages) = ((because.Length, refl), ((because.Range, refl), tt))

  pub sizes_refuse : (reads : List FileRead) → EachRefuses (sizes_of reads)
  sizes_refuse [] = tt
  sizes_refuse (r ∷ reads) = each_refuses-append (size_of r) (sizes_of reads) (pages_refuse r.name (pages_in (found_in r.name))) (sizes_refuse reads)

  -- those lines of one file
  there_of_other : (text name : List ℕ) → bytes_eq text name ≡ false → (n : ℕ) (o : Option Cell) → reads_of name (there_told text n o) ≡ []
  there_of_other text name other n None = refl
  there_of_other text name other n (Some line) = ap (λ b. cond b (told_as (λ m. m) (reads_of text asked) (λ m. line) n ∷ []) []) other

  other_told : (text name : List ℕ) → bytes_eq text name ≡ false → (ns : List ℕ) → reads_of name (flat_map (λ n. there_told text n (line_there n (found_in text))) ns) ≡ []
  other_told text name other [] = refl
  other_told text name other (n ∷ ns) =
      reads_of-append name (there_told text n (line_there n (found_in text))) (flat_map (λ n. there_told text n (line_there n (found_in text))) ns)
      ∙ ap (λ rs. rs ++ reads_of name (flat_map (λ n. there_told text n (line_there n (found_in text))) ns)) (there_of_other text name other n (line_there n (found_in text)))
      ∙ other_told text name other ns

  module _ (name : List ℕ) (x : FileState) (found : found_in name ≡ Some x) (f : ℕ → Cell) where
    abbrev in_range : ℕ → Bool
    in_range n = nat_lt (n / 64) x.pages

    abbrev page_of : ℕ → PageRead
    page_of n = told_as (λ m. m) (reads_of name asked) f n

    own_told : (ns : List ℕ) → ((n : ℕ) → IsAmong n ns → line_held n x.lines ≡ Some (f n))
        → reads_of name (flat_map (λ n. there_told name n (line_there n (found_in name))) ns) ≡ map page_of (filter in_range ns)
    own_told [] each = refl
    own_told (n ∷ ns) each =
        reads_of-append name (there_told name n (line_there n (found_in name))) (flat_map (λ n. there_told name n (line_there n (found_in name))) ns)
        ∙ ap (λ rs. reads_of name (there_told name n (line_there n (found_in name))) ++ rs) (own_told ns (λ m is. each m (inr is)))
        ∙ ap (λ o. reads_of name (there_told name n o) ++ map page_of (filter in_range ns)) (ap (line_there n) found)
        ∙ by_page (in_range n)
      where
        own_name : (line : Cell) → reads_of name (there_told name n (Some line)) ≡ told_as (λ m. m) (reads_of name asked) (λ m. line) n ∷ []
        own_name line = ap (λ b. cond b (told_as (λ m. m) (reads_of name asked) (λ m. line) n ∷ []) []) ((bytes_eq-Decides name name).1 refl)

        by_page : (b : Bool) → reads_of name (there_told name n (cond b (line_held n x.lines) None)) ++ map page_of (filter in_range ns) ≡ map page_of (cond b (n ∷ filter in_range ns) (filter in_range ns))
        by_page true =
            ap (λ o. reads_of name (there_told name n o) ++ map page_of (filter in_range ns)) (each n (inl refl)) ∙ ap (λ rs. rs ++ map page_of (filter in_range ns)) (own_name (f n))
        by_page false = refl

    pub told_in : (reads : List FileRead) → ((n : ℕ) → IsAmong n (all_lines_read (reads_of name reads)) → line_held n x.lines ≡ Some (f n))
        → reads_of name (told_of reads) ≡ map page_of (filter in_range (all_lines_read (reads_of name reads)))
    told_in [] each = refl
    told_in (r ∷ reads) each = reads_of-append name (read_told r) (told_of reads) ∙ by_name (bytes_eq r.name name) refl each (told_in reads)
      where
        by_name : (b : Bool) → bytes_eq r.name name ≡ b
            → ((n : ℕ) → IsAmong n (all_lines_read (cond b (r.pages ∷ reads_of name reads) (reads_of name reads))) → line_held n x.lines ≡ Some (f n))
            → (((n : ℕ) → IsAmong n (all_lines_read (reads_of name reads)) → line_held n x.lines ≡ Some (f n))
            → reads_of name (told_of reads) ≡ map page_of (filter in_range (all_lines_read (reads_of name reads))))
            → reads_of name (read_told r) ++ reads_of name (told_of reads) ≡ map page_of (filter in_range (all_lines_read (cond b (r.pages ∷ reads_of name reads) (reads_of name reads))))
        by_name true is held rest =
            ap (λ text. reads_of name (flat_map (λ n. there_told text n (line_there n (found_in text))) (lines_of_read r.pages)) ++ reads_of name (told_of reads)) ((bytes_eq-Decides r.name name).0 is)
            ∙ ap (λ rs. rs ++ reads_of name (told_of reads)) (own_told (lines_of_read r.pages) (λ n among. held n (among_first n (lines_of_read r.pages) (all_lines_read (reads_of name reads)) among)))
            ∙ ap (λ rs. map page_of (filter in_range (lines_of_read r.pages)) ++ rs) (rest (λ n among. held n (among_last n (lines_of_read r.pages) (all_lines_read (reads_of name reads)) among)))
            ∙ sym (ap (map page_of) (filter-append in_range (lines_of_read r.pages) (all_lines_read (reads_of name reads)))
            ∙ map-append page_of (filter in_range (lines_of_read r.pages)) (filter in_range (all_lines_read (reads_of name reads))))
        by_name false is held rest = ap (λ rs. rs ++ reads_of name (told_of reads)) (other_told r.name name is (lines_of_read r.pages)) ∙ rest held

-- the numbers of the lines at which the reads of one file look are those of its places
pub numbers_among : (name : List ℕ) (reads : List FileRead) (n : ℕ) → IsAmong (spot name n) (places_read reads) → IsAmong n (all_lines_read (reads_of name reads))
numbers_among name [] n is = absurd is
numbers_among name (r ∷ reads) n is =
    elim (among_parts (spot name n) (map (spot r.name) (lines_of_read r.pages)) (places_read reads) is)
    as (λ _. IsAmong n (all_lines_read (cond (bytes_eq r.name name) (r.pages ∷ reads_of name reads) (reads_of name reads)))) [
      | inl here ↦ let one = of_first r.name (spot name n) (lines_of_read r.pages) here in first (bytes_eq r.name name) ((bytes_eq-Decides r.name name).1 one.0) one.1
      | inr later ↦ last (bytes_eq r.name name) (numbers_among name reads n later)
    ]
  where
    first : (b : Bool) → b ≡ true → IsAmong n (lines_of_read r.pages) → IsAmong n (all_lines_read (cond b (r.pages ∷ reads_of name reads) (reads_of name reads)))
    first true is among = among_first n (lines_of_read r.pages) (all_lines_read (reads_of name reads)) among
    first false is among = cc is

    last : (b : Bool) → IsAmong n (all_lines_read (reads_of name reads)) → IsAmong n (all_lines_read (cond b (r.pages ∷ reads_of name reads) (reads_of name reads)))
    last true among = among_last n (lines_of_read r.pages) (all_lines_read (reads_of name reads)) among
    last false among = among

-- and back
abbrev LooksAt : List ℕ → List FileRead → ℕ → Type 0
LooksAt name reads n = (r : FileRead) × IsAmong r reads × (r.name ≡ name) × IsAmong n (lines_of_read r.pages)

looks_later : (name : List ℕ) (q : FileRead) (reads : List FileRead) (n : ℕ) → LooksAt name reads n → LooksAt name (q ∷ reads) n
looks_later name q reads n one = (one.0, inr one.1, one.2, one.3)

looks_here : (name : List ℕ) (q : FileRead) (reads : List FileRead) (n : ℕ) → q.name ≡ name → (IsAmong n (all_lines_read (reads_of name reads)) → LooksAt name reads n)
    → IsAmong n (lines_of_read q.pages) ⊎ IsAmong n (all_lines_read (reads_of name reads)) → LooksAt name (q ∷ reads) n
looks_here name q reads n same rest (inl here) = (q, inl refl, same, here)
looks_here name q reads n same rest (inr there) = looks_later name q reads n (rest there)

looks_by : (name : List ℕ) (q : FileRead) (reads : List FileRead) (n : ℕ) → (IsAmong n (all_lines_read (reads_of name reads)) → LooksAt name reads n) → (b : Bool) → bytes_eq q.name name ≡ b
    → IsAmong n (all_lines_read (cond b (q.pages ∷ reads_of name reads) (reads_of name reads))) → LooksAt name (q ∷ reads) n
looks_by name q reads n rest true same among =
    looks_here name q reads n ((bytes_eq-Decides q.name name).0 same) rest (among_parts n (lines_of_read q.pages) (all_lines_read (reads_of name reads)) among)
looks_by name q reads n rest false other among = looks_later name q reads n (rest among)

pub read_among : (name : List ℕ) (reads : List FileRead) (n : ℕ) → IsAmong n (all_lines_read (reads_of name reads)) → LooksAt name reads n
read_among name [] n is = absurd is
read_among name (q ∷ reads) n is = looks_by name q reads n (λ there. read_among name reads n there) (bytes_eq q.name name) refl is

in_filter : (b : Bool) (m n : ℕ) (rest : List ℕ) → IsAmong n rest → IsAmong n (cond b (m ∷ rest) rest)
in_filter true m n rest among = inr among
in_filter false m n rest among = among

is_filtered : (b : Bool) (m n : ℕ) (rest : List ℕ) → b ≡ true → n ≡ m → IsAmong n (cond b (m ∷ rest) rest)
is_filtered true m n rest passes same = inl same
is_filtered false m n rest passes same = cc passes

pub among_filter : (test : ℕ → Bool) (n : ℕ) (ns : List ℕ) → IsAmong n ns → test n ≡ true → IsAmong n (filter test ns)
among_filter test n [] is passes = absurd is
among_filter test n (m ∷ ns) (inl same) passes = is_filtered (test m) m n (filter test ns) (sym (ap test same) ∙ passes) same
among_filter test n (m ∷ ns) (inr later) passes = in_filter (test m) m n (filter test ns) (among_filter test n ns later passes)

of_filter : (test : ℕ → Bool) (b : Bool) (m n : ℕ) (ns : List ℕ) → test m ≡ b → (IsAmong n (filter test ns) → IsAmong n ns × (test n ≡ true)) → IsAmong n (cond b (m ∷ filter test ns) (filter test ns))
    → IsAmong n (m ∷ ns) × (test n ≡ true)
of_filter test true m n ns passes rest (inl same) = (inl same, ap test same ∙ passes)
of_filter test true m n ns passes rest (inr later) = let one = rest later in (inr one.0, one.1)
of_filter test false m n ns fails rest later = let one = rest later in (inr one.0, one.1)

pub filter_among : (test : ℕ → Bool) (n : ℕ) (ns : List ℕ) → IsAmong n (filter test ns) → IsAmong n ns × (test n ≡ true)
filter_among test n [] is = absurd is
filter_among test n (m ∷ ns) is = of_filter test (test m) m n ns refl (λ later. filter_among test n ns later) is
