-- What the device tells of files, and of one line of a file.
use Rattle.std.proofs.Common.{◌≡◌, ◌≢◌, ◌*◌, ◌/◌, ◌+◌, ◌<◌, ◌≤◌, ◌||◌, ℕ, Bool, true, false, nat_lt, Option, Some, None, option_map, List, [], ◌∷◌, length, map, slice_index_or, take, if◌then◌else◌, refl, sym, ap, ap₂, subst, ◌∙◌, arith}
use Rattle.std.proofs.lemmas.Bool.{le-ltb}
use Rattle.std.specs.List.{All}
use Rattle.std.proofs.lemmas.List.Elements.{All-contains_itself}
use Rattle.std.proofs.lemmas.Option.{same_Some}
use Rattle.line_device.specs.Device.{Device}
use Rattle.line_device.specs.Word.{word_at}
use Rattle.nvm_base.specs.declared.files.FileEntry.{FileEntry}
use Rattle.nvm_model.specs.Blocks.{first_there}
use Rattle.nvm_model.specs.Cell.{Cell}
use Rattle.nvm_model.specs.Cell.Cell.{Bad, Kept}
use Rattle.nvm_model.specs.Events.{is_weak_cell}
use Rattle.nvm_model.specs.Files.{entry_of_file}
use Rattle.nvm_model.specs.Listing.{file_name, file_of, has_file, is_named}
use Rattle.nvm_model.specs.Numbered.{list_from}
use Rattle.nvm_model.specs.Page.{Page, cell_of, first_bad_line, look}
use Rattle.nvm_model.specs.Storage.{File}
use Rattle.file_journal.specs.Listing.{listed}
use Rattle.file_journal.proofs.AgreeLemmas.{listed-right}
use Rattle.file_pages.specs.Refusals.{poisoned_at}
use Rattle.reply_text.specs.Answer.{Answer}
use Rattle.reply_text.specs.Answer.Answer.{Bytes, Files, PoisonFile, Refused as IsRefused}
use Rattle.reply_text.specs.declared.reply.Why.TheVariants as because
use Rattle.script_text.specs.Action.Action.{FRead, ListFiles}
use Rattle.cut_places.specs.MachineModel.declared.mode.Mode.{Mode}
use Rattle.cut_places.specs.MachineModel.declared.mode.Mode.TheVariants.{On, Off, Unsettled, Stopped}
use Rattle.cut_places.specs.MachineModel.declared.needs.Needs.TheVariants.{Usable}
use Rattle.cut_places.specs.MachineModel.Machine.{Machine}
use Rattle.cut_places.specs.MachineModel.Commands.{fate, meaning, refusal}
use Rattle.cut_places.specs.MachineModel.Meaning.{first_reason, mode_refusal, most_refusal}
use Rattle.cut_places.specs.MachineModel.OnFileErrors.{is_weak_line, is_weak_there}
use Rattle.cut_places.specs.MachineModel.OnPages.{page_answer, pages_named}
use Rattle.machine_host.specs.Stands.{Comes, HostServes, HostState, Stands}
use Rattle.machine_host.proofs.FilesCallLemmas.{listed_seen}
use Rattle.cut_places.specs.Outcomes.Finds.{IsReady}
use Rattle.cut_places.specs.SightsSeen.Seeing.{or_zeros, seen}
use Rattle.explorer.specs.Coming.{came_of}
use Rattle.explorer.specs.Files.{HasFewPages}
use Rattle.explorer.specs.Starting.{AreDurable, Begins, HaveDurable}
use Rattle.explorer.specs.Stopping.{DeviceStopped}
use Rattle.explorer.proofs.CauseLemmas.{by_answer, cut_off_unless_done}
use Rattle.explorer.proofs.ComesLemmas.{CameTo, came_to, done, refused, stopped, was_refused}
use Rattle.explorer.proofs.LookLemmas.{bad_seen, head_of, length-look, line_bad, same_bytes, shown_line, told_done}

-- the file of a name is there, and its pages are durable where those of all files are
has_found : (name : List ℕ) (files : List File) (file : File) → file_of file_name name files ≡ Some file → has_file file_name name files ≡ true
has_found name [] file found = cc found
has_found name (x ∷ files) file found = by_name (is_named file_name name x) found (has_found name files file)
  where
    by_name : (b : Bool) → (if b then Some x else file_of file_name name files) ≡ Some file → (file_of file_name name files ≡ Some file → has_file file_name name files ≡ true)
        → (b || has_file file_name name files) ≡ true
    by_name true found later = refl
    by_name false found later = later found

durable_found : (name : List ℕ) (files : List File) (file : File) → HaveDurable files → file_of file_name name files ≡ Some file → AreDurable file.pages
durable_found name [] file durable found = cc found
durable_found name (x ∷ files) file durable found = by_name (is_named file_name name x) found (durable_found name files file durable.1)
  where
    by_name : (b : Bool) → (if b then Some x else file_of file_name name files) ≡ Some file → (file_of file_name name files ≡ Some file → AreDurable file.pages) → AreDurable file.pages
    by_name true found later = subst (λ (f : File). AreDurable f.pages) (same_Some x file found) durable.0
    by_name false found later = later found

pages_found : (name : List ℕ) (files : List File) (file : File) → file_of file_name name files ≡ Some file → pages_named name files ≡ file.pages
pages_found name files file found = ap (λ (o : Option File). elim o [ None ↦ [] | Some f ↦ f.pages ]) found

weak_seen : (o : Option Cell) → is_weak_line o ≡ is_weak_cell (or_zeros o)
weak_seen None = refl
weak_seen (Some cell) = refl

-- why a read of a file is refused
abbrev unreadable : List ℕ → Option ℕ → Option Answer
unreadable name l = option_map (page_answer name) (poisoned_at l)

none_unreadable : (name : List ℕ) (l : Option ℕ) → unreadable name l ≡ None → l ≡ None
none_unreadable name None is = refl
none_unreadable name (Some n) is = cc is

bad_named : (name : List ℕ) (l : Option ℕ) (answer : Answer) → unreadable name l ≡ Some answer → (m : ℕ) × (l ≡ Some m)
bad_named name None answer is = cc is
bad_named name (Some m) answer is = (m, refl)

no_poison : (name : List ℕ) (l : Option ℕ) (answer : Answer) → unreadable name l ≡ Some answer → ((text : List ℕ) (offset : ℕ) → answer ≢ PoisonFile text offset) → ⊥
no_poison name None answer is other = cc is
no_poison name (Some m) answer is other = other name (64 * m) (cc is)

-- a read of a line that the file has is refused only where the line is bad
read_refused : (h : Machine) (name : List ℕ) (n : ℕ) (file : File) → h.mode ≡ On → file_of file_name name h.files ≡ Some file → n / 64 < length file.pages
    → refusal h (FRead name (64 * n) 64) ≡ unreadable name (first_bad_line file.pages (64 * n) 64)
unfolding refusal
read_refused h name n file on found within =
    let past : nat_lt (4096 * length file.pages) (64 * n + 64) ≡ false = le-ltb (4096 * length file.pages) (64 * n + 64) (omega (arith, within)) in
    ap (λ mode. first_reason (mode_refusal mode h.bad_meta Usable) h.bad_meta ((meaning (FRead name (64 * n) 64)).reasons h)) on
    ∙ ap₂ (λ (has : Bool) (pages : List Page). first_there (if has then None else Some (IsRefused because.Missing))
    (first_there (option_map IsRefused (most_refusal 65536 (4096 * length pages) (64 * n) 64)) (unreadable name (first_bad_line pages (64 * n) 64))))
    (has_found name h.files file found) (pages_found name h.files file found)
    ∙ ap (λ over. first_there (option_map IsRefused (first_there (if over then Some because.Range else None) None)) (unreadable name (first_bad_line file.pages (64 * n) 64))) past

module _ (host : HostState) (h : Machine) (name : List ℕ) (n : ℕ) (file : File) (answer : Answer) (old new : Device) (begins : Begins h)
    (found : file_of file_name name h.files ≡ Some file) (within : n / 64 < length file.pages)
    (comes : Comes h (FRead name (64 * n) 64) (fate h (FRead name (64 * n) 64)) answer host old new) where
  refused_so : refusal h (FRead name (64 * n) 64) ≡ unreadable name (first_bad_line file.pages (64 * n) 64)
  refused_so = read_refused h name n file begins.ready.mode found within

  pub told_file_read : (weak : Bool) (work : List ℕ) (k : ℕ) → (Stands host new h → weak ≡ is_weak_there name n h.files) → answer ≡ Bytes (take k work) → k ≤ length work
      → (Kept weak (list_from (λ w. word_at (take 64 work) w ∷ []) 0 8) ≡ seen file.pages n) × Stands host new h
  told_file_read weak work k marked is fits =
      let told = told_done host h (FRead name (64 * n) 64) answer old new refl comes (ap came_of is) in
      let stands : Stands host new h = subst (Stands host new) told.1.1 comes.stands in
      let pages : pages_named name h.files ≡ file.pages = pages_found name h.files file found in
      let bytes : take k work ≡ look file.pages (64 * n) 64 =
      same_bytes (take k work) (look (pages_named name h.files) (64 * n) 64) (sym is ∙ told.1.0) ∙ ap (λ (p : List Page). look p (64 * n) 64) pages in
      let head : take 64 work ≡ look file.pages (64 * n) 64 = head_of work (look file.pages (64 * n) 64) k 64 fits bytes (length-look file.pages (64 * n) 64) in
      let none : first_bad_line file.pages (64 * n) 64 ≡ None = none_unreadable name (first_bad_line file.pages (64 * n) 64) (sym refused_so ∙ told.0) in
      let mark : weak ≡ is_weak_cell (seen file.pages n) = marked stands ∙ ap (λ (p : List Page). is_weak_line (cell_of p n)) pages ∙ weak_seen (cell_of file.pages n) in (
        ap (λ (b : List ℕ). Kept weak (list_from (λ w. word_at b w ∷ []) 0 8)) head ∙ shown_line file.pages n weak (durable_found name h.files file begins.files found) none mark,
        stands,
      )

  pub told_file_poison : (text : List ℕ) (offset : ℕ) → answer ≡ PoisonFile text offset → (Bad ≡ seen file.pages n) × Stands host new h
  told_file_poison text offset is =
      let told = was_refused h (FRead name (64 * n) 64) answer comes.next (came_to host h (FRead name (64 * n) 64) answer old new refl comes) (sym (ap came_of is)) in
      let bad = bad_named name (first_bad_line file.pages (64 * n) 64) answer (sym refused_so ∙ told.0) in
      (bad_seen file.pages n (line_bad file.pages n bad.0 bad.1), subst (Stands host new) told.1 comes.stands)

  pub no_file_line_told : ((read : List ℕ) → answer ≢ Bytes read) → ((text : List ℕ) (offset : ℕ) → answer ≢ PoisonFile text offset) → DeviceStopped old.panel new.panel
  no_file_line_told unread other = by_case (came_to host h (FRead name (64 * n) 64) answer old new refl comes)
    where
      by_case : CameTo h (FRead name (64 * n) 64) answer comes.next → DeviceStopped old.panel new.panel
      by_case (refused is why same) = absurd (no_poison name (first_bad_line file.pages (64 * n) 64) answer (sym refused_so ∙ why) other)
      by_case (done is allowed same) = absurd (unread (look (pages_named name h.files) (64 * n) 64) (told_done host h (FRead name (64 * n) 64) answer old new refl comes is).1.0)
      by_case (stopped by is) = by_answer host h (FRead name (64 * n) 64) answer old new comes by is

-- what is not refused is asked in mode On
usable_on : (mode : Mode) (bad_meta : List ℕ) (others : Option Answer) → first_there (mode_refusal mode bad_meta Usable) others ≡ None → mode ≡ On
usable_on On bad_meta others allowed = refl
usable_on Off bad_meta others allowed = cc allowed
usable_on Unsettled bad_meta others allowed = cc allowed
usable_on Stopped bad_meta others allowed = cc allowed

pub read_on : (h : Machine) (name : List ℕ) (offset len : ℕ) → refusal h (FRead name offset len) ≡ None → h.mode ≡ On
unfolding refusal
read_on h name offset len allowed = usable_on h.mode h.bad_meta _ allowed

list_on : (h : Machine) → refusal h ListFiles ≡ None → h.mode ≡ On
unfolding refusal
list_on h allowed = usable_on h.mode h.bad_meta _ allowed

-- the list of the files
list_allowed : (h : Machine) → h.mode ≡ On → refusal h ListFiles ≡ None
unfolding refusal
list_allowed h on = ap (λ mode. first_reason (mode_refusal mode h.bad_meta Usable) h.bad_meta ((meaning ListFiles).reasons h)) on

same_files : (a b : List FileEntry) → Files a ≡ Files b → a ≡ b
same_files a b is = cc is

module _ (host : HostState) (h : Machine) (answer : Answer) (old new : Device) (comes : Comes h ListFiles (fate h ListFiles) answer host old new) where
  -- what was listed, of a state in mode On
  pub record Listed (entries : List FileEntry) : Type 0 where
    pub on : h.mode ≡ On
    pub are : entries ≡ map entry_of_file h.files
    pub stands : Stands host new h

  pub told_list : (entries : List FileEntry) → answer ≡ Files entries → Listed entries
  told_list entries is =
      let told = told_done host h ListFiles answer old new refl comes (ap came_of is) in
      record { on = list_on h told.0; are = same_files entries (map entry_of_file h.files) (sym is ∙ told.1.0); stands = subst (Stands host new) told.1.1 comes.stands }

  pub no_list_told : IsReady h → ((entries : List FileEntry) → answer ≢ Files entries) → DeviceStopped old.panel new.panel
  no_list_told ready other =
      cut_off_unless_done host h ListFiles answer old new comes refl (list_allowed h ready.mode)
      (λ is. other (map entry_of_file h.files) (told_done host h ListFiles answer old new refl comes is).1.0)

-- no file that is listed has more than 256 pages
pub few_listed : (host : HostState) (d : Device) (h : Machine) (entries : List FileEntry) → HostServes host d → Stands host d h → h.mode ≡ On → entries ≡ map entry_of_file h.files
    → All HasFewPages entries
few_listed host d h entries serves stands mode are =
    let on : host.mode ≡ On = stands.mode ∙ mode in
    let tables = host.files.pages.journal.tables in
    let right = (serves.mounted on).journal_right in
    let same : listed tables ≡ entries = listed_seen host host d h refl on serves stands ∙ sym are in
    subst (All HasFewPages) same (λ k e lt. (listed-right host.geometry.fpages tables (slice_index_or (listed tables) k e) right (All-contains_itself (listed tables) k e lt)).1)
