-- The events of files, by the units that their pages are on.
use Rattle.std.proofs.Common.{◌≡◌, ℕ, ◌+◌, ◌*◌, ◌<◌, ◌≤◌, List, [], ◌∷◌, ◌++◌, Option, Some, None, map, take, length, slice_index_or, is_some, refl, sym, ap, ap₂, ◌∙◌, arith}
use Rattle.std.specs.List.{filter, flat_map, range_with_len}
use Rattle.std.proofs.lemmas.List.{append-nil, get_or-map, length-map, take_all, take_more}
use Rattle.std.proofs.lemmas.Grind.{flat_map-append}
use Rattle.std.proofs.lemmas.List.Elements.{Contains-get_or}
use Rattle.std.proofs.lemmas.Option.{get_or_from_slice_get}
use Rattle.line_device.specs.Medium.{Medium}
use Rattle.nvm_base.specs.declared.files.FileEntry.{FileEntry}
use Rattle.word_tables.specs.declared.geometry.Geometry.{Geometry}
use Rattle.inode_table.specs.Slots.{IsNamed, pages_at, pages_of}
use Rattle.nvm_model.specs.Events.{bad_numbers, found_event, found_events, offsets_of, restart_events}
use Rattle.nvm_model.specs.Listing.{AreAlike, file_name}
use Rattle.nvm_model.specs.Numbered.{list_from}
use Rattle.nvm_model.proofs.NumberedLemmas.{length-list_from}
use Rattle.nvm_model.specs.Page.{is_present}
use Rattle.nvm_model.specs.Storage.{Event, File}
use Rattle.page_lines.specs.Sought.{is_bad_at}
use Rattle.page_lines.proofs.StandingLemmas.{bad_at}
use Rattle.file_journal.specs.Files.{UnitFile, entry_of, files_of, unit_file_name}
use Rattle.file_journal.specs.Listing.{listed}
use Rattle.file_journal.specs.Object.{JournalState}
use Rattle.file_journal.specs.Standing.{FileStands, FilesStand}
use Rattle.file_journal.specs.Tables.{Tables, unit_at}
use Rattle.file_journal.proofs.EntryLemmas.{entries-files_of}
use Rattle.file_journal.proofs.StandingLemmas.{IsOfInode, inode_of_file}
use Rattle.file_pages.specs.Object.{unit_place, units_of}
use Rattle.file_pages.proofs.PlaceLemmas.{line_at, located}
use Rattle.marked_lines.specs.Lines.{bad_from}

-- of pages on these units, the bad lines
abbrev pub bad_on : Geometry → Medium → List (Option ℕ) → ℕ → List ℕ
bad_on geo m units pages = filter (λ n. is_bad_at m (unit_place geo units n)) (range_with_len 0 (64 * pages))

-- the events of a file
abbrev pub unit_events : Geometry → Medium → UnitFile → List Event
unit_events geo m on = map (found_event on.name) (offsets_of (bad_on geo m on.units (length on.units)))

-- one file more
module _ (s : JournalState) (m : Medium) where
  abbrev events : UnitFile → List Event
  events on = unit_events s.geo m on

  -- what is told of an inode is told of its file
  of_inode : (on : UnitFile) (of : IsOfInode s.tables on) → map (found_event on.name) (offsets_of (bad_from s m of.inode 0 (64 * pages_at s.tables.files of.inode))) ≡ events on
  of_inode on of =
      let pages : pages_at s.tables.files of.inode ≡ of.file.pages = ap pages_of (get_or_from_slice_get s.tables.files of.inode (Some of.file) None of.is) in
      let units : units_of s.tables of.inode ≡ on.units = ap (list_from (unit_at s.tables of.inode) 0) pages ∙ sym (ap (λ (x : UnitFile). x.units) of.units) in
      let size : pages_at s.tables.files of.inode ≡ length on.units = sym (length-list_from (unit_at s.tables of.inode) 0 (pages_at s.tables.files of.inode)) ∙ ap (λ (us : List (Option ℕ)). length us) units in
      ap₂ (λ (us : List (Option ℕ)) n. map (found_event on.name) (offsets_of (bad_on s.geo m us n))) units size

  pub events-next : (k : ℕ) (e : FileEntry) (before after : List Event) → k < length (listed s.tables) → e ≡ slice_index_or (listed s.tables) k e
      → before ≡ flat_map events (take k (files_of s.tables))
      → ((inode : ℕ) → IsNamed s.tables.files inode e.name → after ≡ before ++ map (found_event e.name) (offsets_of (bad_from s m inode 0 (64 * pages_at s.tables.files inode))))
      → after ≡ flat_map events (take (k + 1) (files_of s.tables))
  events-next k e before after within is told tells =
      tells of.inode named
      ∙ ap₂ (λ b (n : List ℕ). b ++ map (found_event n) (offsets_of (bad_from s m of.inode 0 (64 * pages_at s.tables.files of.inode)))) told name
      ∙ ap (λ es. flat_map events (take k (files_of s.tables)) ++ es) (of_inode on of)
      ∙ sym (ap (flat_map events) (take_more (files_of s.tables) k none below)
      ∙ flat_map-append events (take k (files_of s.tables)) (on ∷ [])
      ∙ ap (λ es. flat_map events (take k (files_of s.tables)) ++ es) (append-nil (events on)))
    where
      none : UnitFile
      none = record { name = []; units = [] }

      below : k < length (files_of s.tables)
      below = omega (arith, within, ap (λ (l : List FileEntry). length l) (entries-files_of s.tables), length-map (files_of s.tables) entry_of)

      on : UnitFile
      on = slice_index_or (files_of s.tables) k none

      of : IsOfInode s.tables on
      of = inode_of_file s.tables on (Contains-get_or (files_of s.tables) k none below)

      name : e.name ≡ on.name
      name =
          ap (λ (f : FileEntry). f.name)
          (is ∙ sym (ap (λ (l : List FileEntry). slice_index_or l k e) (entries-files_of s.tables)) ∙ get_or-map entry_of (files_of s.tables) k none e below)

      named : IsNamed s.tables.files of.inode e.name
      named = record { file = of.file; is = of.is; named = sym (ap (λ (x : UnitFile). x.name) of.units) ∙ sym name }

  pub events-all : (k : ℕ) (told : List Event) → length (listed s.tables) ≤ k → told ≡ flat_map events (take k (files_of s.tables)) → told ≡ flat_map events (files_of s.tables)
  events-all k told all is =
      is ∙ ap (flat_map events) (take_all k (files_of s.tables) (omega (arith, all, ap (λ (l : List FileEntry). length l) (entries-files_of s.tables), length-map (files_of s.tables) entry_of)))

-- the events of a file that the device stands for
file_told : (geo : Geometry) (m : Medium) (on : UnitFile) (file : File) → on.name ≡ file.name → FileStands geo m on file → unit_events geo m on ≡ found_events file
unfolding bad_numbers
file_told geo m on file same stands =
    ap₂ (λ (n : List ℕ) ks. map (found_event n) (offsets_of ks)) same
    (ap (λ n. bad_on geo m on.units n) size
    ∙ ap (λ p. filter p (range_with_len 0 (64 * length file.pages))) (λ i n. bad_at (unit_place geo on.units) (line_at geo on.units) (map is_some on.units) (located geo on.units) m file.pages stands.there stands.stand n i))
  where
    size : length on.units ≡ length file.pages
    size = sym (length-map on.units is_some) ∙ sym (ap length stands.there) ∙ length-map file.pages is_present

-- and of all
pub files_told : (geo : Geometry) (m : Medium) (t : Tables) (files : List File) → FilesStand geo m t files → flat_map (unit_events geo m) (files_of t) ≡ restart_events files
unfolding restart_events
files_told geo m t files stand = each (files_of t) files stand
  where
    each : (xs : List UnitFile) (ys : List File) → AreAlike unit_file_name file_name (FileStands geo m) xs ys → flat_map (unit_events geo m) xs ≡ flat_map found_events ys
    each [] [] alike = refl
    each [] (y ∷ ys) alike = absurd alike
    each (x ∷ xs) [] alike = absurd alike
    each (x ∷ xs) (y ∷ ys) alike = ap₂ (λ a b. a ++ b) (file_told geo m x y alike.0 alike.1) (each xs ys alike.2)
