-- Files as a cut leaves them: reads are answered so by them, and by no others than it may leave.
use Rattle.std.proofs.Common.{◌≡◌, ℕ, ◌*◌, ◌/◌, ◌&&◌, ◌||◌, Bool, true, false, cond, not, Option, Some, None, List, [], ◌∷◌, map, nat_lt, option_map, if◌then◌else◌, refl, sym, ap, subst, ◌∙◌}
use Rattle.std.specs.Str.{bytes_eq}
use Rattle.std.proofs.lemmas.Bool.{and_from, and_parts, or_left, or_right}
use Rattle.std.proofs.lemmas.List.Folds.{list_all-map}
use Rattle.std.proofs.lemmas.Slice.Eq.{bytes_eq-Decides}
use Rattle.nvm_model.specs.Cell.{Cell}
use Rattle.nvm_model.specs.Listing.{change_file, file_of, is_named}
use Rattle.sights.specs.Outcomes.Files.{FileRead}
use Rattle.sights.specs.Outcomes.Pages.{PageRead, is_reply}
use Rattle.cut_places.specs.declared.line.FileLine.{FileLine}
use Rattle.cut_places.specs.FileChanges.{FilesChange, LinesChange, line_changed}
use Rattle.cut_places.specs.FileChanges.FilesChange.{Nothing, Makes, Removes, Renames, Resizes, Changes, Maps, Unmaps}
use Rattle.cut_places.specs.FileChanges.LinesChange.{Puts, Persists, Rewrites, Zeroes, Loses, Weakens, Clears}
use Rattle.cut_places.specs.FileFitting.{either_fits, fit_by_line, fit_either, fit_now, looks_at, now_fits, read_passes, seen_pass}
use Rattle.cut_places.specs.FileLeaving.{files_left, fit_there, left_by_line, left_either, left_of_lines, line_left, lines_left}
use Rattle.cut_places.specs.SeesFiles.{AreLines, line_numbers}
use Rattle.cut_places.specs.FilesState.{FileState, FilesState, after, line_of_after, name_seen}
use Rattle.cut_places.proofs.AllLemmas.{all_so}

-- what follows where one test does not pass
or_then : (a b c : Bool) → (b ≡ true → c ≡ true) → (a || b) ≡ true → (a || c) ≡ true
or_then true b c next so = refl
or_then false b c next so = next so

-- the file of a name has it
pub named : (text : List ℕ) (files : List FileState) (x : FileState) → file_of name_seen text files ≡ Some x → x.name ≡ text
named text [] x found = cc found
named text (y ∷ files) x found = by_test (bytes_eq y.name text) refl found (named text files x)
  where
    by_test : (b : Bool) → bytes_eq y.name text ≡ b → cond b (Some y) (file_of name_seen text files) ≡ Some x → (file_of name_seen text files ≡ Some x → x.name ≡ text) → x.name ≡ text
    by_test true is found rest = sym (ap (λ (o : Option FileState). elim o [ None ↦ [] | Some z ↦ z.name ]) found) ∙ (bytes_eq-Decides y.name text).0 is
    by_test false is found rest = rest found

-- the file of a name where those of one are changed, which keep it
pub found_changed : (text name : List ℕ) (f : FileState → FileState) → ((x : FileState) → (f x).name ≡ x.name) → (files : List FileState)
    → file_of name_seen text (change_file name_seen name f files) ≡ option_map (λ x. if is_named name_seen name x then f x else x) (file_of name_seen text files)
found_changed text name f keeps [] = refl
found_changed text name f keeps (x ∷ files) =
    ap (λ n. cond (bytes_eq n text) (Some (if is_named name_seen name x then f x else x)) (file_of name_seen text (change_file name_seen name f files))) (same_name (is_named name_seen name x))
    ∙ by_test (bytes_eq x.name text) (found_changed text name f keeps files)
  where
    same_name : (b : Bool) → (cond b (f x) x).name ≡ x.name
    same_name true = keeps x
    same_name false = refl

    by_test : (b : Bool) → file_of name_seen text (change_file name_seen name f files) ≡ option_map (λ y. if is_named name_seen name y then f y else y) (file_of name_seen text files)
        → cond b (Some (if is_named name_seen name x then f x else x)) (file_of name_seen text (change_file name_seen name f files))
        ≡ option_map (λ y. if is_named name_seen name y then f y else y) (cond b (Some x) (file_of name_seen text files))
    by_test true rest = refl
    by_test false rest = rest

-- One line, as it is left where these reads ask.
module _ (reads : List FileRead) (name : List ℕ) (c : LinesChange) (pages : ℕ) where
  after_number : (b : Bool) (line : FileLine) → (cond b (record line { line = line_changed c line.number line.line }) line).number ≡ line.number
  after_number true line = refl
  after_number false line = refl

  pub left_number : (line : FileLine) → (line_left reads name c pages line).number ≡ line.number
  left_number line = by_fit (now_fits reads name pages line)
    where
      by_fit : (b : Bool) → (cond b line (line_of_after pages c line)).number ≡ line.number
      by_fit true = refl
      by_fit false = after_number (nat_lt (line.number / 64) pages) line

  -- it fits them, where it may be left so
  line_fits : (line : FileLine) → either_fits reads name c name pages line ≡ true → now_fits reads name pages (line_left reads name c pages line) ≡ true
  line_fits line some = by_fit (now_fits reads name pages line) refl some
    where
      by_fit : (b : Bool) → now_fits reads name pages line ≡ b → (b || (bytes_eq name name && now_fits reads name pages (line_of_after pages c line))) ≡ true
          → now_fits reads name pages (cond b line (line_of_after pages c line)) ≡ true
      by_fit true is so = is
      by_fit false is so = (and_parts (bytes_eq name name) (now_fits reads name pages (line_of_after pages c line)) so).1

  -- and what it fits may be left
  line_passes : (more : List FileRead) (line : FileLine) → now_fits more name pages (line_left reads name c pages line) ≡ true → either_fits more name c name pages line ≡ true
  line_passes more line fits = by_fit (now_fits reads name pages line) fits
    where
      by_fit : (b : Bool) → now_fits more name pages (cond b line (line_of_after pages c line)) ≡ true → either_fits more name c name pages line ≡ true
      by_fit true so = or_left (now_fits more name pages line) _ so
      by_fit false so =
          or_right (now_fits more name pages line) (bytes_eq name name && now_fits more name pages (line_of_after pages c line))
          (and_from (bytes_eq name name) (now_fits more name pages (line_of_after pages c line)) ((bytes_eq-Decides name name).1 refl) so)

  -- all lines of the file
  seen_fit : (r : PageRead) (lines : List FileLine) → seen_pass (either_fits reads name c name pages) r lines ≡ true → seen_pass (now_fits reads name pages) r (map (line_left reads name c pages) lines) ≡ true
  seen_fit r lines all =
      list_all-map (λ (line : FileLine). not (looks_at r.start r.len r.reply line.number) || now_fits reads name pages line) (line_left reads name c pages) lines
      ∙ all_so (λ (line : FileLine). not (looks_at r.start r.len r.reply line.number) || either_fits reads name c name pages line)
      (λ (line : FileLine). not (looks_at r.start r.len r.reply (line_left reads name c pages line).number) || now_fits reads name pages (line_left reads name c pages line)) lines
      (λ line is so.
      ap (λ n. not (looks_at r.start r.len r.reply n) || now_fits reads name pages (line_left reads name c pages line)) (left_number line)
      ∙ or_then (not (looks_at r.start r.len r.reply line.number)) (either_fits reads name c name pages line) (now_fits reads name pages (line_left reads name c pages line)) (line_fits line) so) all

  seen_passes : (more : List FileRead) (r : PageRead) (lines : List FileLine) → seen_pass (now_fits more name pages) r (map (line_left reads name c pages) lines) ≡ true → seen_pass (either_fits more name c name pages) r lines ≡ true
  seen_passes more r lines all =
      all_so (λ (line : FileLine). not (looks_at r.start r.len r.reply (line_left reads name c pages line).number) || now_fits more name pages (line_left reads name c pages line))
      (λ (line : FileLine). not (looks_at r.start r.len r.reply line.number) || either_fits more name c name pages line) lines
      (λ line is so.
      or_then (not (looks_at r.start r.len r.reply line.number)) (now_fits more name pages (line_left reads name c pages line)) (either_fits more name c name pages line) (line_passes more line)
      (sym (ap (λ n. not (looks_at r.start r.len r.reply n) || now_fits more name pages (line_left reads name c pages line)) (left_number line)) ∙ so))
      (sym (list_all-map (λ (line : FileLine). not (looks_at r.start r.len r.reply line.number) || now_fits more name pages line) (line_left reads name c pages) lines) ∙ all)

  -- lines of these numbers, each told by its number, stay such
  pub left_numbers : (lines : List FileLine) → line_numbers (map (line_left reads name c pages) lines) ≡ line_numbers lines
  left_numbers [] = refl
  left_numbers (line ∷ lines) = ap (λ n. n ∷ line_numbers (map (line_left reads name c pages) lines)) (left_number line) ∙ ap (λ ns. line.number ∷ ns) (left_numbers lines)

  pub left_lines : (f : ℕ → Cell) (lines : List FileLine) → AreLines f lines
      → AreLines (λ n. (line_left reads name c pages (record { number = n; line = f n })).line) (map (line_left reads name c pages) lines)
  left_lines f [] are = tt
  left_lines f (line ∷ lines) are = (
    ap (λ cell. (line_left reads name c pages (record { number = line.number; line = cell })).line) are.0
        ∙ sym (ap (λ n. (line_left reads name c pages (record { number = n; line = f n })).line) (left_number line)),
    left_lines f lines are.1,
  )

-- One read, and all of them, where lines of the file of one name are left.
module _ (reads : List FileRead) (name : List ℕ) (c : LinesChange) where
  others : (test : List FileRead) (text : List ℕ) (x : FileState) → x.name ≡ text → bytes_eq x.name name ≡ false → bytes_eq name text ≡ false
  others test text x is other = by_same (bytes_eq name text) refl
    where
      by_same : (b : Bool) → bytes_eq name text ≡ b → b ≡ false
      by_same true same =
          let equal : x.name ≡ name = is ∙ sym ((bytes_eq-Decides name text).0 same) in
          let both : true ≡ false = sym ((bytes_eq-Decides x.name name).1 equal) ∙ other in cc both
      by_same false same = refl

  one_fits : (files : List FileState) (r : FileRead) → read_passes (either_fits reads name c r.name) r.pages (file_of name_seen r.name files) ≡ true
      → read_passes (now_fits reads r.name) r.pages (file_of name_seen r.name (change_file name_seen name (lines_left reads name c) files)) ≡ true
  one_fits files r passes =
      ap (read_passes (now_fits reads r.name) r.pages) (found_changed r.name name (lines_left reads name c) (λ x. refl) files)
      ∙ by_found (file_of name_seen r.name files) refl passes
    where
      by_name : (x : FileState) → x.name ≡ r.name → (b : Bool) → bytes_eq x.name name ≡ b → (is_reply (4096 * x.pages) r.pages && seen_pass (either_fits reads name c r.name x.pages) r.pages x.lines) ≡ true
          → read_passes (now_fits reads r.name) r.pages (Some (cond b (lines_left reads name c x) x)) ≡ true
      by_name x is true same so =
          let parts = and_parts (is_reply (4096 * x.pages) r.pages) (seen_pass (either_fits reads name c r.name x.pages) r.pages x.lines) so in
          let text : name ≡ r.name = sym ((bytes_eq-Decides x.name name).0 same) ∙ is in
          and_from (is_reply (4096 * x.pages) r.pages) (seen_pass (now_fits reads r.name x.pages) r.pages (map (line_left reads name c x.pages) x.lines)) parts.0
          (subst (λ t. seen_pass (either_fits reads name c t x.pages) r.pages x.lines ≡ true → seen_pass (now_fits reads t x.pages) r.pages (map (line_left reads name c x.pages) x.lines) ≡ true) text
          (seen_fit reads name c x.pages r.pages x.lines) parts.1)
      by_name x is false same so =
          let parts = and_parts (is_reply (4096 * x.pages) r.pages) (seen_pass (either_fits reads name c r.name x.pages) r.pages x.lines) so in
          and_from (is_reply (4096 * x.pages) r.pages) (seen_pass (now_fits reads r.name x.pages) r.pages x.lines) parts.0
          (all_so (λ (line : FileLine). not (looks_at r.pages.start r.pages.len r.pages.reply line.number) || either_fits reads name c r.name x.pages line)
          (λ (line : FileLine). not (looks_at r.pages.start r.pages.len r.pages.reply line.number) || now_fits reads r.name x.pages line) x.lines
          (λ line among some.
          or_then (not (looks_at r.pages.start r.pages.len r.pages.reply line.number)) (either_fits reads name c r.name x.pages line) (now_fits reads r.name x.pages line)
          (λ either. or_nothing (now_fits reads r.name x.pages line) (bytes_eq name r.name) (now_fits reads r.name x.pages (line_of_after x.pages c line)) (others reads r.name x is same) either) some) parts.1)
        where
          or_nothing : (a b d : Bool) → b ≡ false → (a || (b && d)) ≡ true → a ≡ true
          or_nothing true b d none some = refl
          or_nothing false true d none some = cc none
          or_nothing false false d none some = some

      by_found : (o : Option FileState) → file_of name_seen r.name files ≡ o → read_passes (either_fits reads name c r.name) r.pages o ≡ true
          → read_passes (now_fits reads r.name) r.pages (option_map (λ x. if is_named name_seen name x then lines_left reads name c x else x) o) ≡ true
      by_found None found so = so
      by_found (Some x) found so = by_name x (named r.name files x found) (is_named name_seen name x) refl so

  one_passes : (more : List FileRead) (files : List FileState) (r : FileRead)
      → read_passes (now_fits more r.name) r.pages (file_of name_seen r.name (change_file name_seen name (lines_left reads name c) files)) ≡ true
      → read_passes (either_fits more name c r.name) r.pages (file_of name_seen r.name files) ≡ true
  one_passes more files r passes =
      by_found (file_of name_seen r.name files) refl
      (sym (ap (read_passes (now_fits more r.name) r.pages) (found_changed r.name name (lines_left reads name c) (λ x. refl) files)) ∙ passes)
    where
      by_name : (x : FileState) → x.name ≡ r.name → (b : Bool) → bytes_eq x.name name ≡ b → read_passes (now_fits more r.name) r.pages (Some (cond b (lines_left reads name c x) x)) ≡ true
          → (is_reply (4096 * x.pages) r.pages && seen_pass (either_fits more name c r.name x.pages) r.pages x.lines) ≡ true
      by_name x is true same so =
          let parts = and_parts (is_reply (4096 * x.pages) r.pages) (seen_pass (now_fits more r.name x.pages) r.pages (map (line_left reads name c x.pages) x.lines)) so in
          let text : name ≡ r.name = sym ((bytes_eq-Decides x.name name).0 same) ∙ is in
          and_from (is_reply (4096 * x.pages) r.pages) (seen_pass (either_fits more name c r.name x.pages) r.pages x.lines) parts.0
          (subst (λ t. seen_pass (now_fits more t x.pages) r.pages (map (line_left reads name c x.pages) x.lines) ≡ true → seen_pass (either_fits more name c t x.pages) r.pages x.lines ≡ true) text
          (seen_passes reads name c x.pages more r.pages x.lines) parts.1)
      by_name x is false same so =
          let parts = and_parts (is_reply (4096 * x.pages) r.pages) (seen_pass (now_fits more r.name x.pages) r.pages x.lines) so in
          and_from (is_reply (4096 * x.pages) r.pages) (seen_pass (either_fits more name c r.name x.pages) r.pages x.lines) parts.0
          (all_so (λ (line : FileLine). not (looks_at r.pages.start r.pages.len r.pages.reply line.number) || now_fits more r.name x.pages line)
          (λ (line : FileLine). not (looks_at r.pages.start r.pages.len r.pages.reply line.number) || either_fits more name c r.name x.pages line) x.lines
          (λ line among some.
          or_then (not (looks_at r.pages.start r.pages.len r.pages.reply line.number)) (now_fits more r.name x.pages line) (either_fits more name c r.name x.pages line)
          (λ now. or_left (now_fits more r.name x.pages line) (bytes_eq name r.name && now_fits more r.name x.pages (line_of_after x.pages c line)) now) some) parts.1)

      by_found : (o : Option FileState) → file_of name_seen r.name files ≡ o
          → read_passes (now_fits more r.name) r.pages (option_map (λ x. if is_named name_seen name x then lines_left reads name c x else x) o) ≡ true
          → read_passes (either_fits more name c r.name) r.pages o ≡ true
      by_found None found so = so
      by_found (Some x) found so = by_name x (named r.name files x found) (is_named name_seen name x) refl so

  by_line_fits : (s : FilesState) → fit_by_line name c reads s ≡ true → fit_now reads (left_by_line name c reads s) ≡ true
  by_line_fits s all =
      all_so (λ (r : FileRead). read_passes (either_fits reads name c r.name) r.pages (file_of name_seen r.name s.files))
      (λ (r : FileRead). read_passes (now_fits reads r.name) r.pages (file_of name_seen r.name (change_file name_seen name (lines_left reads name c) s.files))) reads
      (λ r is. one_fits s.files r) all

  by_line_passes : (more : List FileRead) (s : FilesState) → fit_now more (left_by_line name c reads s) ≡ true → fit_by_line name c more s ≡ true
  by_line_passes more s all =
      all_so (λ (r : FileRead). read_passes (now_fits more r.name) r.pages (file_of name_seen r.name (change_file name_seen name (lines_left reads name c) s.files)))
      (λ (r : FileRead). read_passes (either_fits more name c r.name) r.pages (file_of name_seen r.name s.files)) more
      (λ r is. one_passes more s.files r) all

-- What is left fits the reads, where a cut may leave what they ask for.
module _ (reads : List FileRead) (s : FilesState) where
  either_left : (change : FilesChange) → fit_either change reads s ≡ true → fit_now reads (left_either change reads s) ≡ true
  either_left change some = by_fit (fit_now reads s) refl some
    where
      by_fit : (b : Bool) → fit_now reads s ≡ b → (b || fit_now reads (after change s)) ≡ true → fit_now reads (cond b s (after change s)) ≡ true
      by_fit true is so = is
      by_fit false is so = so

  lines_fit : (name : List ℕ) (c : LinesChange) → fit_there (Some (Changes name c)) reads s ≡ true → fit_now reads (left_of_lines name c reads s) ≡ true
  lines_fit name (Puts at bytes) so = by_line_fits reads name (Puts at bytes) s so
  lines_fit name (Persists spans) so = by_line_fits reads name (Persists spans) s so
  lines_fit name (Rewrites ranges bytes) so = either_left (Changes name (Rewrites ranges bytes)) so
  lines_fit name (Zeroes page count) so = either_left (Changes name (Zeroes page count)) so
  lines_fit name (Loses line) so = so
  lines_fit name (Weakens line) so = so
  lines_fit name (Clears line) so = either_left (Changes name (Clears line)) so

  pub left_fits : (o : Option FilesChange) → fit_there o reads s ≡ true → fit_now reads (files_left o reads s) ≡ true
  left_fits None so = so
  left_fits (Some Nothing) so = so
  left_fits (Some (Makes name pages)) so = either_left (Makes name pages) so
  left_fits (Some (Removes name)) so = either_left (Removes name) so
  left_fits (Some (Renames name to)) so = either_left (Renames name to) so
  left_fits (Some (Resizes name pages)) so = either_left (Resizes name pages) so
  left_fits (Some (Changes name c)) so = lines_fit name c so
  left_fits (Some (Maps name span kind)) so = so
  left_fits (Some (Unmaps handle)) so = so

  -- and a cut may leave what fits it
  module _ (more : List FileRead) where
    either_passes : (change : FilesChange) → fit_now more (left_either change reads s) ≡ true → fit_either change more s ≡ true
    either_passes change fits = by_fit (fit_now reads s) fits
      where
        by_fit : (b : Bool) → fit_now more (cond b s (after change s)) ≡ true → fit_either change more s ≡ true
        by_fit true so = or_left (fit_now more s) (fit_now more (after change s)) so
        by_fit false so = or_right (fit_now more s) (fit_now more (after change s)) so

    lines_pass : (name : List ℕ) (c : LinesChange) → fit_now more (left_of_lines name c reads s) ≡ true → fit_there (Some (Changes name c)) more s ≡ true
    lines_pass name (Puts at bytes) so = by_line_passes reads name (Puts at bytes) more s so
    lines_pass name (Persists spans) so = by_line_passes reads name (Persists spans) more s so
    lines_pass name (Rewrites ranges bytes) so = either_passes (Changes name (Rewrites ranges bytes)) so
    lines_pass name (Zeroes page count) so = either_passes (Changes name (Zeroes page count)) so
    lines_pass name (Loses line) so = so
    lines_pass name (Weakens line) so = so
    lines_pass name (Clears line) so = either_passes (Changes name (Clears line)) so

    pub left_passes : (o : Option FilesChange) → fit_now more (files_left o reads s) ≡ true → fit_there o more s ≡ true
    left_passes None so = so
    left_passes (Some Nothing) so = so
    left_passes (Some (Makes name pages)) so = either_passes (Makes name pages) so
    left_passes (Some (Removes name)) so = either_passes (Removes name) so
    left_passes (Some (Renames name to)) so = either_passes (Renames name to) so
    left_passes (Some (Resizes name pages)) so = either_passes (Resizes name pages) so
    left_passes (Some (Changes name c)) so = lines_pass name c so
    left_passes (Some (Maps name span kind)) so = so
    left_passes (Some (Unmaps handle)) so = so
