-- What is kept of how long files are is marked where a cut may leave it otherwise.
use Rattle.std.proofs.Common.{◌≡◌, ◌&&◌, not, ℕ, Bool, true, false, cond, Option, Some, None, List, [], ◌∷◌, length, map, option_map, is_some, refl, sym, ap, ◌∙◌, eq-eqb}
use Rattle.std.specs.Str.{bytes_eq}
use Rattle.nvm_model.specs.Listing.{AreAlike, file_name, file_of, is_named}
use Rattle.nvm_model.specs.Storage.{File}
use Rattle.script_text.specs.Action.{Action}
use Rattle.cut_places.specs.MachineModel.Commands.{refusal}
use Rattle.cut_places.specs.MachineModel.Machine.{Machine}
use Rattle.cut_places.specs.Durable.Durable.{IsComplete}
use Rattle.cut_places.specs.Outcomes.Files.{FileRead}
use Rattle.cut_places.specs.SightsSeen.declared.way.Way.{Way}
use Rattle.cut_places.specs.FileChanges.{FilesChange, files_changed, left_by}
use Rattle.cut_places.specs.FileCommands.{files_change}
use Rattle.cut_places.specs.Maps.{uncopied}
use Rattle.cut_places.specs.SeesFiles.{SeesFile, SeesFiles}
use Rattle.cut_places.specs.FilesState.{FileState, FilesState, files_after, name_seen}
use Rattle.cut_places.specs.Sights.{files_once_done}
use Rattle.cut_places.proofs.CommandLemmas.{command_follows}
use Rattle.cut_places.proofs.HeldLemmas.{files_follow}
use Rattle.cut_places.proofs.LeftLemmas.{left_same}
use Rattle.witnesses.specs.declared.size_kept.SizeKept.{SizeKept}
use Rattle.witnesses.specs.Files.{files_made, files_way}
use Rattle.witnesses.specs.Leaving.{made_by, mixing}
use Rattle.witnesses.specs.Places.{IsReached, state_at}
use Rattle.witnesses.specs.Sizes.{names_read, pages_in, pages_of as pages_held, same_pages, size_read}
use Rattle.explorer.specs.Choosing.{is_mixed, pages_of, size_choice, size_differs}

-- a file has as many pages as are held of it
pages_same : (numbers : List ℕ) (name : List ℕ) (kept : List FileState) (files : List File) → AreAlike name_seen file_name (SeesFile numbers) kept files
    → pages_in (file_of name_seen name kept) ≡ pages_of name files
pages_same numbers name [] [] alike = refl
pages_same numbers name [] (y ∷ files) alike = absurd alike
pages_same numbers name (x ∷ kept) [] alike = absurd alike
pages_same numbers name (x ∷ kept) (y ∷ files) alike =
    ap (λ b. pages_in (cond b (Some x) (file_of name_seen name kept))) (ap (λ text. bytes_eq text name) alike.0)
    ∙ by_name (is_named file_name name y) (pages_same numbers name kept files alike.2)
  where
    by_name : (b : Bool) → pages_in (file_of name_seen name kept) ≡ pages_of name files
        → pages_in (cond b (Some x) (file_of name_seen name kept)) ≡ option_map (λ (file : File). length file.pages) (cond b (Some y) (file_of file_name name files))
    by_name true rest = ap Some alike.1.pages
    by_name false rest = rest

same_self : (o : Option ℕ) → same_pages o o ≡ true
same_self None = refl
same_self (Some pages) = eq-eqb pages pages refl

module _ (h : Machine) (now : FilesState) (sees : SeesFiles now h) (settled : h.interrupted ≡ None) (whole : IsComplete h) (name : List ℕ) where
  module _ (action : Action) (allowed : refusal h action ≡ None) where
    abbrev change : FilesChange
    change = files_change (map uncopied h.mappings) action

    abbrev new : FilesState
    new = files_once_done action now

    old_pages : pages_held now name ≡ pages_of name h.files
    old_pages = pages_same now.numbers name now.files h.files sees.files

    new_pages : pages_held new name ≡ pages_of name (files_changed change h.files)
    new_pages =
        ap (λ ms. pages_in (file_of name_seen name (files_after (files_change ms action) now.numbers now.files))) sees.mappings
        ∙ pages_same now.numbers name (files_after change now.numbers now.files) (files_changed change h.files)
        (files_follow change now.numbers now.files h.files (command_follows h sees.handles action allowed).may whole.file_lines sees.in_order sees.files)

    -- where some files are mixed
    by_way : (way : Option Way) → not (same_pages (pages_held now name) (pages_held (made_by files_once_done (mixing way (Some action)) now) name))
        ≡ (is_some way && not (same_pages (pages_of name h.files) (pages_of name (files_changed change h.files))))
    by_way None = ap not (same_self (pages_held now name))
    by_way (Some way) = ap (λ o. not (same_pages o (pages_held new name))) old_pages ∙ ap (λ o. not (same_pages (pages_of name h.files) o)) new_pages

    cut_differs : not (same_pages (pages_held now name) (pages_held (files_made (Some action) now) name)) ≡ size_choice (state_at h (Some action)) name
    cut_differs =
        by_way (files_way now action)
        ∙ ap (λ ms. is_mixed (left_by (files_change ms action)) && not (same_pages (pages_of name h.files) (pages_of name (files_changed change h.files)))) sees.mappings
        ∙ sym (left_same (λ left to. is_mixed left && not (same_pages (pages_of name h.files) (pages_of name to))) h.files (λ to. refl) h.mappings action)

  rest_differs : not (same_pages (pages_held now name) (pages_held (files_made None now) name)) ≡ size_choice (state_at h None) name
  rest_differs = ap not (same_self (pages_held now name)) ∙ at_rest h.interrupted settled
    where
      at_rest : (o : Option Action) → o ≡ None → false ≡ size_differs h.mappings h.files name o
      at_rest None is = refl
      at_rest (Some action) is = cc is

  pub differs : (inside : Option Action) → IsReached h inside → not (same_pages (pages_held now name) (pages_held (files_made inside now) name)) ≡ size_choice (state_at h inside) name
  differs None can = rest_differs
  differs (Some action) can = cut_differs action can

pub sizes_marked : (h : Machine) (inside : Option Action) (now left : FilesState) → SeesFiles now h → h.interrupted ≡ None → IsComplete h → IsReached h inside → (looked : List FileRead)
    → map (λ (k : SizeKept). k.free) (map (size_read now (files_made inside now) left) looked) ≡ map (size_choice (state_at h inside)) (names_read looked)
sizes_marked h inside now left sees settled whole can [] = refl
sizes_marked h inside now left sees settled whole can (r ∷ looked) =
    ap (λ b. b ∷ map (λ (k : SizeKept). k.free) (map (size_read now (files_made inside now) left) looked)) (differs h now sees settled whole r.name inside can)
    ∙ ap (λ marks. size_choice (state_at h inside) r.name ∷ marks) (sizes_marked h inside now left sees settled whole can looked)
