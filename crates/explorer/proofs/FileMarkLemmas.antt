-- What is kept of lines of files is marked as their rows in a table are.
use Rattle.std.proofs.Common.{◌≡◌, ◌⊎◌, inl, inr, ℕ, ◌+◌, ◌*◌, ◌/◌, ◌%◌, ◌<◌, ◌||◌, nat_lt, Bool, true, false, cond, Option, Some, None, List, [], ◌∷◌, ◌++◌, flat_map, map, refl, sym, ap, ap₂, subst, ◌∙◌, arith}
use Rattle.std.specs.List.{list_all, list_any}
use Rattle.std.specs.Option.{option_and_then}
use Rattle.std.proofs.lemmas.Bool.{and_parts}
use Rattle.std.proofs.lemmas.List.{map-append}
use Rattle.std.proofs.lemmas.List.Folds.{list_any-append}
use Rattle.nvm_model.specs.Cell.{Cell}
use Rattle.nvm_model.specs.Listing.{file_of}
use Rattle.script_text.specs.Action.{Action}
use Rattle.cut_places.specs.MachineModel.Machine.{Machine}
use Rattle.cut_places.specs.Outcomes.Files.{FileRead, reads_of}
use Rattle.cut_places.specs.AskedReads.Fitting.{cell_fits}
use Rattle.cut_places.specs.FileLines.{line_held}
use Rattle.cut_places.specs.FilesState.{FileState, FilesState, name_seen}
use Rattle.cut_places.specs.SeesFiles.{are_held, is_held}
use Rattle.cut_places.specs.Sights.{files_once_done}
use Rattle.cut_places.specs.SightsSeen.declared.way.Way.{Way}
use Rattle.cut_places.proofs.LeftLinesLemmas.{AllHaveLines, HasLines}
use Rattle.cut_places.proofs.ReadLemmas.{lines_of_read}
use Rattle.cut_places.proofs.SightsSeen.PassLemmas.{EachUnit}
use Rattle.value_tables.specs.declared.shown.Shown.TheVariants.{FileWord}
use Rattle.value_tables.specs.Left.{FileSide, file_left}
use Rattle.value_tables.specs.Left.FileSide.{NoFile, OfLine, PastEnd}
use Rattle.value_tables.specs.Listed.{HasWords}
use Rattle.value_tables.specs.Sides.{AreFilesLeft, new_side, side_at, side_held, side_in}
use Rattle.value_tables.specs.Values.{cells_of}
use Rattle.value_tables.proofs.FileValueLemmas.{SideHasWords}
use Rattle.witnesses.specs.declared.file_kept.FileLineKept.{FileLineKept}
use Rattle.witnesses.specs.declared.line_kept.LineLeft.{LineLeft}
use Rattle.witnesses.specs.Files.{files_made, files_way, left_there, line_kept_in, line_kept_of, line_there, place_of, places_of, read_kept}
use Rattle.witnesses.specs.Leaving.{made_by, mixing}
use Rattle.witnesses.specs.Lines.{could_differ, left_of}
use Rattle.witnesses.proofs.FilesReadLemmas.{line_found}
use Rattle.witnesses.proofs.ListLemmas.{IsAmong, among_first, among_last}
use Rattle.witnesses.proofs.SidesLemmas.{left_there_is}
use Rattle.explorer.specs.Choosing.{file_line_choices, has_choice, side_count}
use Rattle.explorer.proofs.ChoiceLemmas.{kept_choice, side_differs}
use Rattle.explorer.proofs.MarkLemmas.{list_same}

-- the new files, where a cut may leave some of them
abbrev pub new_by : Option Way → FilesState → Option FilesState
new_by None new = None
new_by (Some way) new = Some new

once : (b : Bool) → (b || b) ≡ (b || false)
once true = refl
once false = refl

-- the lines of some sides and of others
cells_append : (a b : List FileSide) → cells_of (a ++ b) ≡ cells_of a ++ cells_of b
cells_append [] b = refl
cells_append (NoFile ∷ a) b = cells_append a b
cells_append (PastEnd ∷ a) b = cells_append a b
cells_append (OfLine cell ∷ a) b = ap (λ cells. cell ∷ cells) (cells_append a b)

pub have_cells : (sides : List FileSide) → EachUnit SideHasWords sides → EachUnit HasWords (cells_of sides)
have_cells [] have = tt
have_cells (NoFile ∷ sides) have = have_cells sides have.1
have_cells (PastEnd ∷ sides) have = have_cells sides have.1
have_cells (OfLine cell ∷ sides) have = (have.0, have_cells sides have.1)

-- a line that is held, of a file that is there
abbrev HasIt : ℕ → Option FileState → Type 0
HasIt n None = Unit {0}
HasIt n (Some x) = (c : Cell) × (line_held n x.lines ≡ Some c)

has_it : (numbers : List ℕ) (files : List FileState) (n : ℕ) (name : List ℕ) → AllHaveLines numbers files → is_held numbers n ≡ true → HasIt n (file_of name_seen name files)
has_it numbers files n name have held = by_file (file_of name_seen name files) refl
  where
    by_file : (o : Option FileState) → file_of name_seen name files ≡ o → HasIt n o
    by_file None none = tt
    by_file (Some x) found =
        let lines : HasLines numbers x = have name x found in (lines.0 n, line_found lines.0 x.lines n lines.2 (subst (λ ns. is_held ns n ≡ true) (sym lines.1) held))

module _ (n p : ℕ) (line : p / 8 ≡ n) (page : p / 512 ≡ n / 64) where
  -- where word p is sought, by line n
  side_is : (x : FileState) → side_held p (Some x) ≡ cond (nat_lt (n / 64) x.pages) (side_in (line_held n x.lines)) (PastEnd ∷ [])
  side_is x =
      ap (λ m. cond (nat_lt m x.pages) (side_in (line_held (p / 8) x.lines)) (PastEnd ∷ [])) page
      ∙ ap (λ m. cond (nat_lt (n / 64) x.pages) (side_in (line_held m x.lines)) (PastEnd ∷ [])) line

  side_differs_so : (w : ℕ) (kept : LineLeft) (o : Option FileState) → HasIt n o → list_any (side_differs w kept) (side_held p o) ≡ could_differ (line_there n o) w kept
  side_differs_so w kept None has = refl
  side_differs_so w kept (Some x) has = ap (list_any (side_differs w kept)) (side_is x) ∙ by_page (nat_lt (n / 64) x.pages)
    where
      or_zero : (b : Bool) → (b || false) ≡ b
      or_zero true = refl
      or_zero false = refl

      by_line : (o : Option Cell) (c : Cell) → o ≡ Some c → list_any (side_differs w kept) (side_in o) ≡ could_differ o w kept
      by_line None c is = cc is
      by_line (Some d) c is = or_zero (could_differ (Some d) w kept)

      by_page : (b : Bool) → list_any (side_differs w kept) (cond b (side_in (line_held n x.lines)) (PastEnd ∷ [])) ≡ could_differ (cond b (line_held n x.lines) None) w kept
      by_page true = by_line (line_held n x.lines) has.0 has.1
      by_page false = refl

  side_among : (o : Option FileState) (c : Cell) → line_there n o ≡ Some c → IsAmong c (cells_of (side_held p o))
  side_among None c is = cc is
  side_among (Some x) c is = subst (λ sides. IsAmong c (cells_of sides)) (sym (side_is x)) (by_page (nat_lt (n / 64) x.pages) is)
    where
      by_page : (b : Bool) → cond b (line_held n x.lines) None ≡ Some c → IsAmong c (cells_of (cond b (side_in (line_held n x.lines)) (PastEnd ∷ [])))
      by_page true is = subst (λ o. IsAmong c (cells_of (side_in o))) (sym is) (inl refl)
      by_page false is = cc is

  module _ (inside : Option Action) (now : FilesState) (name : List ℕ) where
    abbrev made_at : Option Way → FilesState
    made_at way = made_by files_once_done (mixing way inside) now

    -- a line of the files as they are, or as the command makes them
    both_differ : (w : ℕ) (kept : LineLeft) (way : Option Way) → HasIt n (file_of name_seen name now.files) → HasIt n (file_of name_seen name (made_at way).files)
        → (could_differ (line_there n (file_of name_seen name now.files)) w kept || could_differ (line_there n (file_of name_seen name (made_at way).files)) w kept)
        ≡ list_any (side_differs w kept) (side_at now name p ++ new_side (new_by way (made_by files_once_done inside now)) name p)
    both_differ w kept None has had =
        once (could_differ (line_there n (file_of name_seen name now.files)) w kept)
        ∙ ap (λ b. b || false) (sym (side_differs_so w kept (file_of name_seen name now.files) has))
        ∙ sym (list_any-append (side_differs w kept) (side_at now name p) [])
    both_differ w kept (Some way) has had =
        ap (λ b. b || could_differ (line_there n (file_of name_seen name (made_at (Some way)).files)) w kept) (sym (side_differs_so w kept (file_of name_seen name now.files) has))
        ∙ ap (λ b. list_any (side_differs w kept) (side_at now name p) || b) (sym (side_differs_so w kept (file_of name_seen name (made_at (Some way)).files) had))
        ∙ sym (list_any-append (side_differs w kept) (side_at now name p) (side_at (made_at (Some way)) name p))

    old_among : (c : Cell) (way : Option Way) → line_there n (file_of name_seen name now.files) ≡ Some c
        → IsAmong c (cells_of (side_at now name p ++ new_side (new_by way (made_by files_once_done inside now)) name p))
    old_among c way old =
        subst (IsAmong c) (sym (cells_append (side_at now name p) (new_side (new_by way (made_by files_once_done inside now)) name p)))
        (among_first c (cells_of (side_at now name p)) (cells_of (new_side (new_by way (made_by files_once_done inside now)) name p)) (side_among (file_of name_seen name now.files) c old))

    pub both_among : (c : Cell) (way : Option Way) → (line_there n (file_of name_seen name now.files) ≡ Some c) ⊎ (line_there n (file_of name_seen name (made_at way).files) ≡ Some c)
        → IsAmong c (cells_of (side_at now name p ++ new_side (new_by way (made_by files_once_done inside now)) name p))
    both_among c way (inl old) = old_among c way old
    both_among c None (inr new) = old_among c None new
    both_among c (Some way) (inr new) =
        subst (IsAmong c) (sym (cells_append (side_at now name p) (side_at (made_at (Some way)) name p)))
        (among_last c (cells_of (side_at now name p)) (cells_of (side_at (made_at (Some way)) name p)) (side_among (file_of name_seen name (made_at (Some way)).files) c new))

module _ (inside : Option Action) (reads : List FileRead) (now : FilesState) (off : Machine)
    (are : AreFilesLeft (file_left off) now (new_by (option_and_then (files_way now) inside) (made_by files_once_done inside now)))
    (fits : (name : List ℕ) (n : ℕ) (line : Cell) → is_held now.numbers n ≡ true → line_there n (file_of name_seen name (left_there inside reads now).files) ≡ Some line → cell_fits (reads_of name reads) n line ≡ true)
    (have_now : AllHaveLines now.numbers now.files) (have_made : AllHaveLines now.numbers (files_made inside now).files)
    (words : (name : List ℕ) (p : ℕ) → EachUnit SideHasWords (file_left off name p)) where
  abbrev way : Option Way
  way = option_and_then (files_way now) inside

  abbrev found_in : FilesState → List ℕ → Option FileState
  found_in s name = file_of name_seen name s.files

  abbrev kept_of : FileRead → ℕ → Cell → FileLineKept
  kept_of r n line = line_kept_of reads r.name n (found_in now r.name) (found_in (files_made inside now) r.name) line

  abbrev kept_in : FileRead → ℕ → Option Cell → List FileLineKept
  kept_in r n o = line_kept_in reads r.name n (found_in now r.name) (found_in (files_made inside now) r.name) o

  line_free : (r : FileRead) (n : ℕ) → is_held now.numbers n ≡ true → (line : Cell) → line_there n (found_in (left_there inside reads now) r.name) ≡ Some line
      → (kept_of r n line).free ≡ file_line_choices off (r.name, n)
  line_free r n own cell there =
      let name = r.name in
      let rs = reads_of name reads in
      let kept = left_of rs n cell in
      list_same (λ w. could_differ (line_there n (found_in now name)) w kept || could_differ (line_there n (found_in (files_made inside now) name)) w kept)
      (λ w. has_choice off (FileWord name (8 * n + w))) 0 8
      (λ w from to.
      let word : w < 8 = omega (arith, to) in
      let line : (8 * n + w) / 8 ≡ n = omega (arith, word) in
      let page : (8 * n + w) / 512 ≡ n / 64 = omega (arith, word) in
      let place : (8 * n + w) % 8 ≡ w = omega (arith, word) in
      let sides = are name (8 * n + w) (ap (is_held now.numbers) line ∙ own) in
      both_differ n (8 * n + w) line page inside now name w kept way (has_it now.numbers now.files n name have_now own) (has_it now.numbers (files_made inside now).files n name have_made own)
      ∙ ap (list_any (side_differs w kept)) (sym sides)
      ∙ kept_choice rs n w word (file_left off name (8 * n + w)) cell
      (subst (λ ss. IsAmong cell (cells_of ss)) (sym sides) (both_among n (8 * n + w) line page inside now name cell way (left_there_is reads now name n cell inside there))) (fits name n cell own there)
      (have_cells (file_left off name (8 * n + w)) (words name (8 * n + w)))
      ∙ ap (λ k. nat_lt 1 (side_count k (file_left off name (8 * n + w)))) (sym place))

  -- the words of each line that exists are marked so
  one_marked : (r : FileRead) (n : ℕ) → is_held now.numbers n ≡ true → (o : Option Cell) → line_there n (found_in (left_there inside reads now) r.name) ≡ o
      → map (λ (k : FileLineKept). k.free) (kept_in r n o) ≡ map (file_line_choices off) (places_of (kept_in r n o))
  one_marked r n own None there = refl
  one_marked r n own (Some line) there = ap (λ marks. marks ∷ []) (line_free r n own line there)

  both_marked : (xs ys : List FileLineKept) → map (λ (k : FileLineKept). k.free) xs ≡ map (file_line_choices off) (places_of xs) → map (λ (k : FileLineKept). k.free) ys ≡ map (file_line_choices off) (places_of ys)
      → map (λ (k : FileLineKept). k.free) (xs ++ ys) ≡ map (file_line_choices off) (places_of (xs ++ ys))
  both_marked xs ys first last =
      map-append (λ (k : FileLineKept). k.free) xs ys ∙ ap₂ (λ a b. a ++ b) first last
      ∙ sym (map-append (file_line_choices off) (places_of xs) (places_of ys)) ∙ sym (ap (map (file_line_choices off)) (map-append place_of xs ys))

  abbrev line_kept : FileRead → ℕ → List FileLineKept
  line_kept r n = kept_in r n (line_there n (found_in (left_there inside reads now) r.name))

  lines_marked : (r : FileRead) (ns : List ℕ) → list_all (is_held now.numbers) ns ≡ true
      → map (λ (k : FileLineKept). k.free) (flat_map (line_kept r) ns) ≡ map (file_line_choices off) (places_of (flat_map (line_kept r) ns))
  lines_marked r [] own = refl
  lines_marked r (n ∷ ns) own =
      let parts = and_parts (is_held now.numbers n) (list_all (is_held now.numbers) ns) own in
      both_marked (line_kept r n) (flat_map (line_kept r) ns) (one_marked r n parts.0 (line_there n (found_in (left_there inside reads now) r.name)) refl) (lines_marked r ns parts.1)

  pub files_marked : (looked : List FileRead) → are_held now.numbers looked ≡ true
      → map (λ (k : FileLineKept). k.free) (flat_map (read_kept reads now (files_made inside now) (left_there inside reads now)) looked)
      ≡ map (file_line_choices off) (places_of (flat_map (read_kept reads now (files_made inside now) (left_there inside reads now)) looked))
  files_marked [] held = refl
  files_marked (r ∷ looked) held =
      let parts = and_parts (list_all (is_held now.numbers) (lines_of_read r.pages)) (are_held now.numbers looked) held in
      both_marked (flat_map (line_kept r) (lines_of_read r.pages)) (flat_map (read_kept reads now (files_made inside now) (left_there inside reads now)) looked)
      (lines_marked r (lines_of_read r.pages) parts.0) (files_marked looked parts.1)
