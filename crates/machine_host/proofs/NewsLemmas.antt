-- Lines of files that a media error takes, or that become weak: their events, and the room for these.
use Rattle.std.proofs.Common.{◌≡◌, ◌+◌, ◌*◌, ◌/◌, ◌%◌, ◌<◌, ◌≤◌, ◌&&◌, ◌++◌, ◌∙◌, ℕ, Bool, true, false, not, nat_lt, Option, Some, None, is_some, option_and_then, Result, Ok, Err, OnOk, List, [], ◌∷◌, length, sym, ap, ap₂, subst, arith, if◌then◌else◌}
use Rattle.std.proofs.lemmas.Bool.{and_parts, lt-ltb}
use Rattle.std.proofs.lemmas.Bool.Decides.{nat_tests}
use Rattle.std.proofs.lemmas.Option.{slice_get_past}
use Rattle.line_device.specs.Device.{Device}
use Rattle.line_device.specs.Medium.{Medium}
use Rattle.line_words.specs.Told.{Told, OnRefused, refusal_of}
use Rattle.line_words.specs.Told.Told.{Refuses, Starves, Stops}
use Rattle.nvm_base.specs.declared.units.Span.{Span}
use Rattle.inode_table.specs.Slots.{inode_of, pages_at}
use Rattle.inode_table.proofs.SlotLemmas.{found_is_named}
use Rattle.nvm_model.specs.Cell.{Cell, lose_cell, touches, weaken_cell}
use Rattle.nvm_model.specs.Events.{weak_file_lines}
use Rattle.nvm_model.specs.Files.{on_pages}
use Rattle.nvm_model.specs.Listing.{change_file, file_name}
use Rattle.nvm_model.specs.Page.{Page, cell_in, cell_of, change_line, is_bad_cell}
use Rattle.nvm_model.specs.Storage.{Event, File}
use Rattle.nvm_model.specs.Touched.{is_bad_touched, next_bad_touched, touches_any}
use Rattle.nvm_model.proofs.NextLemmas.{IsLowestFrom, next-lowest}
use Rattle.nvm_model.proofs.SeveralLemmas.{touches-one}
use Rattle.file_journal.specs.Standing.{FilesStand}
use Rattle.file_journal.specs.Tables.{AreTables}
use Rattle.file_pages.specs.Object.{IsFileAt, PagesState}
use Rattle.file_pages.proofs.FoundLemmas.{file-found, FoundFile}
use Rattle.machine_host.specs.declared.held.HeldFiles.{HeldFiles}
use Rattle.machine_model.specs.OnEvents.{line_event, taken_events}
use Rattle.machine_host.specs.Stands.{HasRoom}
use Rattle.machine_host.proofs.EventLemmas.{weak-weakened}
use Rattle.machine_host.proofs.WeakFileLemmas.{change-weak}
use Rattle.machine_host.proofs.WeakLineLemmas.{lose-weak}
use Rattle.std.specs.Prelude.{IfErr}
use Rattle.marked_lines.specs.Refusals.{ScrubRefusal}
use Rattle.machine_host.proofs.MediaLemmas.{IsRefusal}
use Rattle.file_pages.proofs.PassLemmas.{length-pages_on, pages_on}
use Rattle.file_journal.specs.Object.{JournalState}

-- one byte
abbrev pub byte_at : ℕ → Span
byte_at offset = record { start = offset; len = 1 }

-- A line is bad where it is the next bad one that a byte of it touches.
pub byte_bad : (pages : List Page) (offset : ℕ) → is_some (next_bad_touched (byte_at offset ∷ []) pages 0) ≡ is_bad_cell (cell_of pages (offset / 64))
byte_bad pages offset = by_lowest (next_bad_touched (byte_at offset ∷ []) pages 0) (next-lowest (byte_at offset ∷ []) pages 0)
  where
    here : ℕ
    here = offset / 64

    touched : touches offset 1 here ≡ true
    touched = ap₂ (λ a b. a && b) (lt-ltb offset (64 * here + 64) (omega arith)) (lt-ltb (64 * here) (offset + 1) (omega arith))

    by_lowest : (o : Option ℕ) → IsLowestFrom 0 (is_bad_touched (byte_at offset ∷ []) pages) o → is_some o ≡ is_bad_cell (cell_of pages here)
    by_lowest None none = sym (ap (λ b. b && is_bad_cell (cell_of pages here)) (sym (touches-one (byte_at offset) here ∙ touched)) ∙ none here (omega arith))
    by_lowest (Some n) least =
        let parts = and_parts (touches_any (byte_at offset ∷ []) n) (is_bad_cell (cell_of pages n)) least.1 in
        let at = and_parts (nat_lt offset (64 * n + 64)) (nat_lt (64 * n) (offset + 1)) (sym (touches-one (byte_at offset) n) ∙ parts.0) in
        let same : n ≡ here = (let low : offset < 64 * n + 64 = (let e = at.0 in grind (arith, nat_tests)) in let high : 64 * n < offset + 1 = (let e = at.1 in grind (arith, nat_tests)) in omega (arith, low, high)) in
        sym parts.1 ∙ ap (λ k. is_bad_cell (cell_of pages k)) same

-- and none is past the end
pub past_good : (pages : List Page) (offset : ℕ) → 4096 * length pages ≤ offset → is_bad_cell (cell_of pages (offset / 64)) ≡ false
past_good pages offset past = ap (λ (o : Option Page). is_bad_cell (option_and_then (λ page. cell_in page (offset / 64 % 64)) o)) (slice_get_past pages (offset / 64 / 64) (omega (arith, past)))

-- the events of a line that was taken
pub news : (events : List Event) (name : List ℕ) (f : HeldFiles) (n : ℕ) (pages : List Page) (was : Bool) → was ≡ is_bad_cell (cell_of pages n)
    → events ++ (if not was then line_event f.mappings.mappings name n ∷ [] else []) ≡ events ++ taken_events f.mappings.mappings name n pages
news events name f n pages true is = ap (λ (b : Bool). events ++ (if b then [] else line_event f.mappings.mappings name n ∷ [])) is
news events name f n pages false is = ap (λ (b : Bool). events ++ (if b then [] else line_event f.mappings.mappings name n ∷ [])) is

-- A line is marked, or all is as it was: there is room, where it was taken for one line more.
module _ (f g : HeldFiles) (old new : Medium) (right : AreTables f.pages.journal.geo.fpages f.pages.journal.tables) (name : List ℕ) (inode offset : ℕ)
    (here : inode_of name f.pages.journal.tables.files ≡ Some inode) (room : HasRoom f old) (same : g.pages ≡ f.pages) where
  found : FoundFile f.pages.journal old inode name room.files
  found = file-found f.pages.journal old right name room.files room.stand inode (found_is_named name f.pages.journal.tables.files inode here)

  room_marked : {E : Type 0} (mark : Cell → Cell) (r : Result (Unit {0}) E) → weak_file_lines (change_file file_name found.file.name (on_pages (change_line mark (offset / 64))) room.files) ≤ g.events.spare
      → weak_file_lines room.files ≤ g.events.spare → IfErr r (λ _. new ≡ old)
      → OnOk r ((files : List File) (file : File) → IsFileAt f.pages.journal old inode files file → FilesStand f.pages.journal.geo new f.pages.journal.tables (change_file file_name file.name (on_pages (change_line mark (offset / 64))) files))
      → HasRoom g new
  room_marked mark (Ok u) marked still kept ok = record {
    files = change_file file_name found.file.name (on_pages (change_line mark (offset / 64))) room.files;
    stand = subst (λ (p : PagesState). FilesStand p.journal.geo new p.journal.tables (change_file file_name found.file.name (on_pages (change_line mark (offset / 64))) room.files)) (sym same) (ok room.files found.file found.at);
    enough = marked;
  }
  room_marked mark (Err e) marked still kept ok = record {
    files = room.files;
    stand = subst (λ (m : Medium). FilesStand g.pages.journal.geo m g.pages.journal.tables room.files) (sym kept) (subst (λ (p : PagesState). FilesStand p.journal.geo old p.journal.tables room.files) (sym same) room.stand);
    enough = still;
  }

  -- a line that is taken is weak no more
  pub room_taken : {E : Type 0} (r : Result (Unit {0}) E) → weak_file_lines room.files ≤ g.events.spare → IfErr r (λ _. new ≡ old)
      → OnOk r ((files : List File) (file : File) → IsFileAt f.pages.journal old inode files file → FilesStand f.pages.journal.geo new f.pages.journal.tables (change_file file_name file.name (on_pages (change_line lose_cell (offset / 64))) files))
      → HasRoom g new
  room_taken r still kept ok =
      let less = change-weak found.file.name (on_pages (change_line lose_cell (offset / 64))) (λ file. lose-weak (offset / 64) file.pages) room.files in
      room_marked lose_cell r (omega (arith, less, still)) still kept ok

  -- and one that is made weak is one more
  pub room_weakened : {E : Type 0} (r : Result (Unit {0}) E) → weak_file_lines room.files + 1 ≤ g.events.spare → IfErr r (λ _. new ≡ old)
      → OnOk r ((files : List File) (file : File) → IsFileAt f.pages.journal old inode files file → FilesStand f.pages.journal.geo new f.pages.journal.tables (change_file file_name file.name (on_pages (change_line weaken_cell (offset / 64))) files))
      → HasRoom g new
  room_weakened r more kept ok =
      let most = weak-weakened f.pages.journal right old inode room.files found.file found.at (offset / 64) in
      room_marked weaken_cell r (omega (arith, most, more)) (omega (arith, more)) kept ok

-- a mark that was refused left the device
pub kept_at : {E : Type 0} (says : E → Told ScrubRefusal) (old new : Device) (r : Result (Unit {0}) E) → IfErr r (λ f. IsRefusal (says f)) → OnRefused says r (new ≡ old) → IfErr r (λ _. new.medium ≡ old.medium)
kept_at says old new (Ok u) told untouched = tt
kept_at says old new (Err f) told untouched = ap (λ d. d.medium) (untouched (λ none. by_told (says f) told none))
  where
    by_told : (t : Told ScrubRefusal) → IsRefusal t → refusal_of t ≡ None → ⊥
    by_told (Refuses w) is none = cc none
    by_told (Stops by) is none = is
    by_told Starves is none = is

-- a byte past the end of a file
pub ends_at : (s : JournalState) (m : Medium) (inode : ℕ) (files : List File) (file : File) → AreTables s.geo.fpages s.tables → IsFileAt s m inode files file
    → (size offset : ℕ) → size ≡ pages_at s.tables.files inode → nat_lt (4096 * size) (offset + 1) ≡ true → 4096 * length file.pages ≤ offset
ends_at s m inode files file are at size offset is past =
    let all = length-pages_on s m inode file.pages (pages_on s m inode files file are at) in
    let beyond : 4096 * size < offset + 1 = grind (arith, nat_tests) in omega (arith, beyond, is, all)
