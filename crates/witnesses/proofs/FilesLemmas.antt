-- What is kept of files is left by a cut that leaves what the question asks.
use Rattle.std.proofs.Common.{◌≡◌, inl, inr, ℕ, ◌/◌, ◌&&◌, ◌||◌, nat_lt, Bool, true, false, cond, Option, Some, None, List, [], ◌∷◌, ◌++◌, filter, flat_map, map, option_map, refl, sym, ap, ap₂, subst, ◌∙◌}
use Rattle.std.specs.List.{list_all, list_any}
use Rattle.std.specs.Str.{bytes_eq}
use Rattle.std.proofs.lemmas.Bool.{and_parts, or_left, or_right}
use Rattle.std.proofs.lemmas.List.{map-append}
use Rattle.std.proofs.lemmas.List.Elements.{filter-append}
use Rattle.std.proofs.lemmas.Slice.Eq.{bytes_eq-Decides}
use Rattle.nvm_model.specs.Cell.{Cell}
use Rattle.nvm_model.specs.Listing.{file_of}
use Rattle.script_text.specs.Action.{Action}
use Rattle.cut_places.specs.MachineModel.Machine.{Machine}
use Rattle.cut_places.specs.Durable.Durable.{IsComplete}
use Rattle.cut_places.specs.Outcomes.Files.{FileRead}
use Rattle.cut_places.specs.Outcomes.Left.{files_may_pass}
use Rattle.cut_places.specs.Outcomes.Pages.{lines_read}
use Rattle.cut_places.specs.Outcomes.Seen.{files_may_show}
use Rattle.cut_places.specs.FileChanges.{FilesChange}
use Rattle.cut_places.specs.FileChanges.FilesChange.{Nothing, Makes, Removes, Renames, Resizes, Changes, Maps, Unmaps}
use Rattle.cut_places.specs.FileChanges.LinesChange.{Puts, Persists, Rewrites, Zeroes, Loses, Weakens, Clears}
use Rattle.cut_places.specs.FileCommands.{files_change}
use Rattle.cut_places.specs.FileLeaving.{fit_there}
use Rattle.cut_places.specs.FileLines.{line_held}
use Rattle.cut_places.specs.SeesFiles.{SeesFiles, are_held, is_held}
use Rattle.cut_places.specs.FilesState.{FileState, FilesState, name_seen}
use Rattle.cut_places.proofs.InsideLemmas.{command_inside, now_same}
use Rattle.cut_places.proofs.LeavingLemmas.{left_fits, left_passes}
use Rattle.cut_places.proofs.LeftLinesLemmas.{AllHaveLines, HasLines, left_have}
use Rattle.cut_places.proofs.ReadLemmas.{lines_of_read}
use Rattle.witnesses.specs.declared.file_kept.FileLineKept.{FileLineKept}
use Rattle.witnesses.specs.declared.size_kept.SizeKept.{SizeKept}
use Rattle.witnesses.specs.Files.{left_there, line_kept_in, line_there, place_of, places_of, places_read, read_kept}
use Rattle.witnesses.specs.Keeping.{HasEach}
use Rattle.witnesses.specs.Places.{IsReached, state_at}
use Rattle.witnesses.specs.Sizes.{has_line, is_before_end, names_of_sizes, names_read, pages_in, pages_of, size_read}
use Rattle.witnesses.specs.Telling.{file_told, size_told}
use Rattle.witnesses.proofs.FilesReadLemmas.{line_found, sizes_of, there_told, told_of}
use Rattle.witnesses.proofs.FilesToldLemmas.{both_fit, both_held}
use Rattle.witnesses.proofs.HeldPlaceLemmas.{spot}
use Rattle.witnesses.proofs.ListLemmas.{IsAmong, all_of}

-- a cut may leave all that is asked where nothing is
pub none_fit : (o : Option FilesChange) (s : FilesState) → fit_there o [] s ≡ true
none_fit None s = refl
none_fit (Some Nothing) s = refl
none_fit (Some (Makes name pages)) s = refl
none_fit (Some (Removes name)) s = refl
none_fit (Some (Renames name to)) s = refl
none_fit (Some (Resizes name pages)) s = refl
none_fit (Some (Changes name (Puts at bytes))) s = refl
none_fit (Some (Changes name (Persists spans))) s = refl
none_fit (Some (Changes name (Rewrites ranges bytes))) s = refl
none_fit (Some (Changes name (Zeroes page count))) s = refl
none_fit (Some (Changes name (Loses line))) s = refl
none_fit (Some (Changes name (Weakens line))) s = refl
none_fit (Some (Changes name (Clears line))) s = refl
none_fit (Some (Maps name span kind)) s = refl
none_fit (Some (Unmaps handle)) s = refl

-- all that is told of files that are left so
abbrev pub files_tale : List FileRead → List FileRead → List FileState → List FileRead
files_tale asked looked files = told_of asked files looked ++ sizes_of asked files looked

module _ (asked : List FileRead) (now made left : FilesState) where
  line_tale : (r : FileRead) (n : ℕ) (o : Option Cell)
      → map file_told (line_kept_in asked r.name n (file_of name_seen r.name now.files) (file_of name_seen r.name made.files) o) ≡ there_told asked left.files r.name n o
  line_tale r n None = refl
  line_tale r n (Some line) = refl

  lines_tale : (r : FileRead) (ns : List ℕ)
      → map file_told (flat_map (λ n. line_kept_in asked r.name n (file_of name_seen r.name now.files) (file_of name_seen r.name made.files) (line_there n (file_of name_seen r.name left.files))) ns)
      ≡ flat_map (λ n. there_told asked left.files r.name n (line_there n (file_of name_seen r.name left.files))) ns
  lines_tale r [] = refl
  lines_tale r (n ∷ ns) =
      map-append file_told (line_kept_in asked r.name n (file_of name_seen r.name now.files) (file_of name_seen r.name made.files) (line_there n (file_of name_seen r.name left.files)))
      (flat_map (λ n. line_kept_in asked r.name n (file_of name_seen r.name now.files) (file_of name_seen r.name made.files) (line_there n (file_of name_seen r.name left.files))) ns)
      ∙ ap₂ (λ xs ys. xs ++ ys) (line_tale r n (line_there n (file_of name_seen r.name left.files))) (lines_tale r ns)

  reads_tale : (some : List FileRead) → map file_told (flat_map (read_kept asked now made left) some) ≡ told_of asked left.files some
  reads_tale [] = refl
  reads_tale (r ∷ some) =
      map-append file_told (read_kept asked now made left r) (flat_map (read_kept asked now made left) some)
      ∙ ap₂ (λ xs ys. xs ++ ys) (lines_tale r (lines_read r.pages.start r.pages.len r.pages.reply)) (reads_tale some)

  sizes_tale : (some : List FileRead) → flat_map size_told (map (size_read now made left) some) ≡ sizes_of asked left.files some
  sizes_tale [] = refl
  sizes_tale (r ∷ some) = ap (λ reads. size_told (size_read now made left r) ++ reads) (sizes_tale some)

  -- what is told of all that is kept is that
  pub kept_tale : (looked : List FileRead) → map file_told (flat_map (read_kept asked now made left) looked) ++ flat_map size_told (map (size_read now made left) looked) ≡ files_tale asked looked left.files
  kept_tale looked = ap₂ (λ xs ys. xs ++ ys) (reads_tale looked) (sizes_tale looked)

  pub names_kept : (looked : List FileRead) → names_of_sizes (map (size_read now made left) looked) ≡ names_read looked
  names_kept [] = refl
  names_kept (r ∷ looked) = ap (λ names. r.name ∷ names) (names_kept looked)

  -- each line at which a read looks and that exists is kept
  module _ (looked : List FileRead) (numbers : List ℕ) (held : are_held numbers looked ≡ true) (have : AllHaveLines numbers left.files) where
    abbrev sizes : List SizeKept
    sizes = map (size_read now made left) looked

    abbrev kept_one : FileRead → ℕ → Option Cell → List FileLineKept
    kept_one r n o = line_kept_in asked r.name n (file_of name_seen r.name now.files) (file_of name_seen r.name made.files) o

    -- whether it exists, by the lengths that are kept
    by_sizes : (name : List ℕ) (n : ℕ) (some : List FileRead) (b : Bool) → is_before_end n (pages_of left name) ≡ b
        → (list_any (λ (r : FileRead). bytes_eq r.name name) some ≡ true → has_line (map (size_read now made left) some) (spot name n) ≡ b)
    by_sizes name n [] b is any = cc any
    by_sizes name n (r ∷ some) b is any = by_name (bytes_eq r.name name) refl any (by_sizes name n some b is)
      where
        others : (c : Bool) → list_any (λ (r : FileRead). bytes_eq r.name name) some ≡ c → (list_any (λ (r : FileRead). bytes_eq r.name name) some ≡ true → has_line (map (size_read now made left) some) (spot name n) ≡ b)
            → (b || has_line (map (size_read now made left) some) (spot name n)) ≡ b
        others true at rest = ap (λ c. b || c) (rest at) ∙ twice b
          where
            twice : (b : Bool) → (b || b) ≡ b
            twice true = refl
            twice false = refl
        others false at rest = ap (λ c. b || c) (none_of some at) ∙ or_false b
          where
            or_false : (b : Bool) → (b || false) ≡ b
            or_false true = refl
            or_false false = refl

            none_of : (some : List FileRead) → list_any (λ (r : FileRead). bytes_eq r.name name) some ≡ false → has_line (map (size_read now made left) some) (spot name n) ≡ false
            none_of [] at = refl
            none_of (q ∷ some) at = by_first (bytes_eq q.name name) at (none_of some)
              where
                by_first : (c : Bool) → (c || list_any (λ (r : FileRead). bytes_eq r.name name) some) ≡ false
                    → (list_any (λ (r : FileRead). bytes_eq r.name name) some ≡ false → has_line (map (size_read now made left) some) (spot name n) ≡ false)
                    → ((c && is_before_end n (pages_of left q.name)) || has_line (map (size_read now made left) some) (spot name n)) ≡ false
                by_first true at rest = cc at
                by_first false at rest = rest at

        by_name : (c : Bool) → bytes_eq r.name name ≡ c → (c || list_any (λ (r : FileRead). bytes_eq r.name name) some) ≡ true
            → (list_any (λ (r : FileRead). bytes_eq r.name name) some ≡ true → has_line (map (size_read now made left) some) (spot name n) ≡ b)
            → ((c && is_before_end n (pages_of left r.name)) || has_line (map (size_read now made left) some) (spot name n)) ≡ b
        by_name true same at rest =
            ap (λ c. c || has_line (map (size_read now made left) some) (spot name n)) (ap (λ text. is_before_end n (pages_of left text)) ((bytes_eq-Decides r.name name).0 same) ∙ is)
            ∙ others (list_any (λ (r : FileRead). bytes_eq r.name name) some) refl rest
        by_name false other at rest = rest at

    named : (name : List ℕ) (some : List FileRead) (r : FileRead) → IsAmong r some → r.name ≡ name → list_any (λ (r : FileRead). bytes_eq r.name name) some ≡ true
    named name [] r is same = absurd is
    named name (q ∷ some) r (inl here) same =
        or_left (bytes_eq q.name name) _ ((bytes_eq-Decides q.name name).1 (sym (ap (λ (p : FileRead). p.name) here) ∙ same))
    named name (q ∷ some) r (inr later) same = or_right (bytes_eq q.name name) _ (named name some r later same)

    by_line : (r : FileRead) → IsAmong r looked → (n : ℕ) → is_held numbers n ≡ true
        → map place_of (line_kept_in asked r.name n (file_of name_seen r.name now.files) (file_of name_seen r.name made.files) (line_there n (file_of name_seen r.name left.files)))
        ≡ filter (has_line sizes) ((spot r.name n) ∷ [])
    by_line r is n own =
        by_file (file_of name_seen r.name left.files) refl
        ∙ sym (ap (λ b. cond b ((spot r.name n) ∷ []) []) (by_sizes r.name n looked (is_before_end n (pages_of left r.name)) refl (named r.name looked r is refl)))
      where
        by_file : (o : Option FileState) → file_of name_seen r.name left.files ≡ o → map place_of (kept_one r n (line_there n (file_of name_seen r.name left.files)))
            ≡ cond (is_before_end n (pages_of left r.name)) ((spot r.name n) ∷ []) []
        by_file None none =
            ap (λ o. map place_of (kept_one r n (line_there n o))) none ∙ sym (ap (λ o. cond (is_before_end n (pages_in o)) ((spot r.name n) ∷ []) []) none)
        by_file (Some x) found =
            ap (λ o. map place_of (kept_one r n (line_there n o))) found ∙ by_page (nat_lt (n / 64) x.pages) ∙ sym (ap (λ o. cond (is_before_end n (pages_in o)) ((spot r.name n) ∷ []) []) found)
          where
            has : HasLines numbers x
            has = have r.name x found

            by_page : (b : Bool) → map place_of (kept_one r n (cond b (line_held n x.lines) None)) ≡ cond b ((spot r.name n) ∷ []) []
            by_page true = ap (λ o. map place_of (kept_one r n o)) (line_found has.0 x.lines n has.2 (subst (λ ms. is_held ms n ≡ true) (sym has.1) own))
            by_page false = refl

    of_lines : (r : FileRead) → IsAmong r looked → (ns : List ℕ) → list_all (is_held numbers) ns ≡ true
        → places_of (flat_map (λ n. line_kept_in asked r.name n (file_of name_seen r.name now.files) (file_of name_seen r.name made.files) (line_there n (file_of name_seen r.name left.files))) ns)
        ≡ filter (has_line sizes) (map (spot r.name) ns)
    of_lines r is [] own = refl
    of_lines r is (n ∷ ns) own =
        let parts = and_parts (is_held numbers n) (list_all (is_held numbers) ns) own in
        map-append place_of (line_kept_in asked r.name n (file_of name_seen r.name now.files) (file_of name_seen r.name made.files) (line_there n (file_of name_seen r.name left.files)))
        (flat_map (λ n. line_kept_in asked r.name n (file_of name_seen r.name now.files) (file_of name_seen r.name made.files) (line_there n (file_of name_seen r.name left.files))) ns)
        ∙ ap₂ (λ xs ys. xs ++ ys) (by_line r is n parts.0) (of_lines r is ns parts.1)
        ∙ sym (filter-append (has_line sizes) ((spot r.name n) ∷ []) (map (spot r.name) ns))

    of_reads : (some : List FileRead) → ((r : FileRead) → IsAmong r some → IsAmong r looked)
        → places_of (flat_map (read_kept asked now made left) some) ≡ filter (has_line sizes) (places_read some)
    of_reads [] each = refl
    of_reads (r ∷ some) each =
        let is = each r (inl refl) in
        map-append place_of (read_kept asked now made left r) (flat_map (read_kept asked now made left) some)
        ∙ ap₂ (λ xs ys. xs ++ ys)
        (of_lines r is (lines_of_read r.pages) (all_of (λ (q : FileRead). list_all (is_held numbers) (lines_of_read q.pages)) r looked held is))
        (of_reads some (λ q among. each q (inr among)))
        ∙ sym (filter-append (has_line sizes) (map (spot r.name) (lines_of_read r.pages)) (places_read some))

    pub places_kept : places_of (flat_map (read_kept asked now made left) looked) ≡ filter (has_line sizes) (places_read looked)
    places_kept = of_reads looked (λ r is. is)

-- The state may show all that is told of files, with what is asked of them.
module _ (h : Machine) (inside : Option Action) (s : FilesState) (asked looked : List FileRead) (settled : h.interrupted ≡ None) (sees : SeesFiles s h) (complete : IsComplete h) (reached : IsReached h inside)
    (covers : (place : List ℕ × ℕ) → IsAmong place (places_read asked) → IsAmong place (places_read looked))
    (held : are_held s.numbers looked ≡ true) (fit : fit_there (option_map (files_change s.mappings.mappings) inside) asked s ≡ true)
    (words : (name : List ℕ) (n : ℕ) (line : Cell) → is_held s.numbers n ≡ true → line_there n (file_of name_seen name (left_there inside asked s).files) ≡ Some line → HasEach line) where
  abbrev change : Option FilesChange
  change = option_map (files_change s.mappings.mappings) inside

  abbrev left : FilesState
  left = left_there inside asked s

  abbrev both : List FileRead
  both = asked ++ files_tale asked looked left.files

  have : AllHaveLines s.numbers left.files
  have = left_have s h inside asked sees complete (λ action is. subst (IsReached h) is reached)

  all_held : are_held s.numbers both ≡ true
  all_held = both_held asked looked s.numbers left.files (left_fits asked s change fit) covers held have words

  all_fit : fit_there change both s ≡ true
  all_fit = left_passes asked s both change (both_fit asked looked s.numbers left.files (left_fits asked s change fit) covers held have words)

  pub files_kept_shown : files_may_show (state_at h inside) both ≡ true
  files_kept_shown = by_place inside refl
    where
      by_place : (o : Option Action) → inside ≡ o → files_may_show (state_at h inside) both ≡ true
      by_place None is =
          ap (λ o. files_may_show (state_at h o) both) is ∙ ap (λ o. files_may_pass h.mappings o both h.files) settled
          ∙ now_same both s.numbers s.files h.files sees.files all_held ∙ (sym (ap (λ o. fit_there (option_map (files_change s.mappings.mappings) o) both s) is) ∙ all_fit)
      by_place (Some action) is =
          ap (λ o. files_may_show (state_at h o) both) is
          ∙ sym (command_inside both s h action sees complete all_held (subst (IsReached h) is reached))
          ∙ (sym (ap (λ o. fit_there (option_map (files_change s.mappings.mappings) o) both s) is) ∙ all_fit)
