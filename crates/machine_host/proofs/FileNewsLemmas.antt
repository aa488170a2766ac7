-- What a poisoning and a weakening of a line of a file come to, with the events then.
use Rattle.std.proofs.Common.{◌≡◌, ◌+◌, ◌/◌, ◌≤◌, ◌&&◌, ◌++◌, ◌∙◌, ℕ, Bool, false, not, Some, Result, Ok, Err, is_ok, OnOk, List, [], ◌∷◌, refl, sym, ap, ap₂, subst, arith, if◌then◌else◌}
use Rattle.std.specs.Prelude.{IfErr}
use Rattle.std.proofs.lemmas.List.{append-nil}
use Rattle.line_device.specs.Device.{Device}
use Rattle.line_device.specs.Medium.{WritesBack}
use Rattle.line_words.specs.Told.{Answers, OnRefused}
use Rattle.inode_table.specs.Slots.{inode_of}
use Rattle.mappings.specs.Object.{MappingsState}
use Rattle.nvm_model.specs.Cell.{lose_cell, weaken_cell}
use Rattle.nvm_model.specs.Events.{weak_file_lines}
use Rattle.nvm_model.specs.Files.{on_pages}
use Rattle.nvm_model.specs.Listing.{change_file, file_name}
use Rattle.nvm_model.specs.Page.{Page, cell_of, change_line, is_bad_cell}
use Rattle.nvm_model.specs.Storage.{Event, File}
use Rattle.nvm_model.proofs.KeptLemmas.{line_kept-write_back}
use Rattle.file_journal.specs.Standing.{FilesStand}
use Rattle.file_pages.specs.Object.{IsFileAt, PagesServe, PagesState}
use Rattle.scrub.specs.Lines.{IsFileLine}
use Rattle.scrub.specs.Others.{WritesBackBut}
use Rattle.marked_lines.specs.Refusals.{file_refusal}
use Rattle.scrub.specs.Refusals.{place_says, weaken_says}
use Rattle.scrub.specs.declared.fault.PlaceFault.{PlaceFault}
use Rattle.scrub.specs.declared.fault.WeakenFault.{WeakenFault}
use Rattle.reply_text.specs.Answer.{Answer}
use Rattle.reply_text.specs.Answer.Answer.{Done}
use Rattle.script_text.specs.Action.Action.{PoisonFile, WeakenFile}
use Rattle.machine_host.specs.declared.held.HeldFiles.{HeldFiles}
use Rattle.machine_model.specs.declared.mode.Mode.TheVariants.{On}
use Rattle.machine_host.specs.Faults.{answer_after, IsRoomier}
use Rattle.machine_model.specs.Machine.{Machine}
use Rattle.machine_model.specs.OnEvents.{line_event, taken_events}
use Rattle.machine_model.specs.OnMedia.{line_answer}
use Rattle.machine_model.specs.OnPages.{pages_named}
use Rattle.machine_host.specs.Responding.{Answered}
use Rattle.machine_host.specs.Stands.{HasRoom, HostServes, HostState, Stands}
use Rattle.machine_host.proofs.CallLemmas.{on_refused-then}
use Rattle.machine_host.proofs.ElsewhereLemmas.{serves_ordered}
use Rattle.machine_host.proofs.FileErrorLemmas.{file_is, file_line_answered, pages_seen}
use Rattle.machine_host.proofs.FilePageLemmas.{right_now}
use Rattle.machine_host.proofs.FilesAsideLemmas.{files_stand_elsewhere}
use Rattle.machine_host.proofs.LineLemmas.{if_err_all, place_refuses}
use Rattle.machine_host.proofs.MediaLemmas.{IsRefusal}
use Rattle.machine_host.proofs.NewsLemmas.{kept_at, news, room_taken, room_weakened}
use Rattle.machine_host.proofs.RoomLemmas.{room_still, serves_telling}

-- what a host tells where nothing is news
none_new : {A : Type 0} (xs ys zs : List A) (b : Bool) → ys ≡ xs ++ (if b then zs else []) → b ≡ false → ys ≡ xs
none_new xs ys zs b is none = is ∙ ap (λ b. xs ++ (if b then zs else [])) none ∙ append-nil xs

-- Of a host, after room was taken for one line more.
module _ (host : HostState) (old new : Device) (on : host.mode ≡ On) (serves : HostServes host old) (name : List ℕ) (inode offset : ℕ) (here : inode_of name host.files.pages.journal.tables.files ≡ Some inode) (f : HeldFiles)
    (files_are : f ≡ record host.files { events = f.events }) (items : f.events.items ≡ host.files.events.items)
    (enough : (files : List File) → FilesStand host.files.pages.journal.geo old.medium host.files.pages.journal.tables files → weak_file_lines files + 1 ≤ f.events.spare) where
  abbrev room : HasRoom host.files old.medium
  room = (serves.mounted on).room

  -- A line is taken, and told where that is news.
  module _ (after : HeldFiles) (r : Result (Unit {0}) PlaceFault) (was is_news : Bool) (told : after ≡ record f { events = after.events })
      (adds : after.events.items ≡ f.events.items ++ (if is_news then line_event f.mappings.mappings name (offset / 64) ∷ [] else [])) (spare : f.events.spare ≤ after.events.spare + 1)
      (was_is : (files : List File) (file : File) → IsFileAt f.pages.journal old.medium inode files file → was ≡ is_bad_cell (cell_of file.pages (offset / 64))) (news_is : is_news ≡ (is_ok r && not was))
      (roomy : host.files.events.spare ≤ f.events.spare) (silent : is_news ≡ false → after ≡ f) where
    after_is : after ≡ record host.files { events = after.events }
    after_is = told ∙ ap (λ (x : HeldFiles). record x { events = after.events }) files_are

    unheard : (q : Result (Unit {0}) PlaceFault) → is_news ≡ (is_ok q && not was) → OnRefused place_says q (after.events.items ≡ host.files.events.items)
    unheard (Ok u) is = tt
    unheard (Err x) is = λ _. none_new f.events.items after.events.items (line_event f.mappings.mappings name (offset / 64) ∷ []) is_news adds is ∙ items

    unspent : (q : Result (Unit {0}) PlaceFault) → is_news ≡ (is_ok q && not was) → OnRefused place_says q (host.files.events.spare ≤ after.events.spare)
    unspent (Ok u) is = tt
    unspent (Err x) is = λ _. subst (λ (k : HeldFiles). host.files.events.spare ≤ k.events.spare) (sym (silent is)) roomy

    heard : (q : Result (Unit {0}) PlaceFault) → is_news ≡ (is_ok q && not was)
        → OnOk q ((h : Machine) → Stands host old h → after.events.items ≡ h.events ++ taken_events h.mappings name (offset / 64) (pages_named name h.files))
    heard (Ok u) is = λ h stands.
        let file = file_is host host old refl on serves name inode here h stands in
        let at = subst (λ (x : HeldFiles). IsFileAt x.pages.journal old.medium inode h.files file.file) (sym files_are) file.at in
        adds ∙ ap (λ b. f.events.items ++ (if b then line_event f.mappings.mappings name (offset / 64) ∷ [] else [])) is
        ∙ news f.events.items name f (offset / 64) file.file.pages was (was_is h.files file.file at)
        ∙ ap₂ (λ (es : List Event) (x : HeldFiles). es ++ taken_events x.mappings.mappings name (offset / 64) file.file.pages) (items ∙ stands.events on) files_are
        ∙ ap₂ (λ (s : MappingsState) (pages : List Page). h.events ++ taken_events s.mappings name (offset / 64) pages) (stands.mappings on) (sym (pages_seen host host old refl on serves name inode here h stands))
    heard (Err x) is = tt

    pub poison_told : (answer : Answer) → new.panel ≡ old.panel
        → ((files : List File) (file : File) → IsFileAt f.pages.journal old.medium inode files file → Answers place_says (file_refusal file.pages offset) r) → OnRefused place_says r (new ≡ old)
        → OnOk r ((files : List File) (file : File) → IsFileAt f.pages.journal old.medium inode files file
        → FilesStand f.pages.journal.geo new.medium f.pages.journal.tables (change_file file_name file.name (on_pages (change_line lose_cell (offset / 64))) files))
        → WritesBackBut (IsFileLine f.pages.journal inode (offset / 64)) old.medium new.medium → PagesServe f.pages new.medium → answer ≡ answer_after place_says line_answer Done r
        → Answered (PoisonFile name offset) answer host (record host { files = after }) old new
    poison_told answer panel refused untouched ok outside served answer_is =
        let pages : f.pages ≡ host.files.pages = ap (λ (x : HeldFiles). x.pages) files_are in
        let ok_here = subst (λ (p : PagesState). OnOk r ((files : List File) (file : File) → IsFileAt p.journal old.medium inode files file
        → FilesStand p.journal.geo new.medium p.journal.tables (change_file file_name file.name (on_pages (change_line lose_cell (offset / 64))) files))) pages ok in
        let left = enough room.files room.stand in
        subst (λ (x : HeldFiles). Answered (PoisonFile name offset) answer host (record host { files = x }) old new) (sym after_is)
        (file_line_answered host old new serves on panel name inode offset here after.events place_says lose_cell (λ h. h.events ++ taken_events h.mappings name (offset / 64) (pages_named name h.files)) (PoisonFile name offset) r answer refl refl
        (λ h. refl) (λ h. refl) (subst (λ (p : PagesState). (files : List File) (file : File) → IsFileAt p.journal old.medium inode files file → Answers place_says (file_refusal file.pages offset) r) pages refused) (if_err_all r place_refuses) untouched
        ok_here (subst (λ (p : PagesState). WritesBackBut (IsFileLine p.journal inode (offset / 64)) old.medium new.medium) pages outside) (subst (λ (p : PagesState). PagesServe p new.medium) pages served) (unheard r news_is) (unspent r news_is) (heard r news_is)
        (room_taken host.files (record host.files { events = after.events }) old.medium new.medium (right_now host host old refl on serves) name inode offset here room refl r (omega (arith, left, spare))
        (kept_at place_says old new r (if_err_all r place_refuses) untouched) ok_here)
        answer_is refl)

  abbrev with_room : HostState
  with_room = record host { files = f }

  -- A line is made weak.
  pub weaken_told : host.files.events.spare ≤ f.events.spare → (r : Result (Unit {0}) WeakenFault) (answer : Answer) → IfErr r (λ x. IsRefusal (weaken_says x)) → new.panel ≡ old.panel
      → ((files : List File) (file : File) → IsFileAt f.pages.journal old.medium inode files file → Answers weaken_says (file_refusal file.pages offset) r) → OnRefused weaken_says r (new ≡ old)
      → OnOk r ((files : List File) (file : File) → IsFileAt f.pages.journal old.medium inode files file
      → FilesStand f.pages.journal.geo new.medium f.pages.journal.tables (change_file file_name file.name (on_pages (change_line weaken_cell (offset / 64))) files))
      → WritesBackBut (IsFileLine f.pages.journal inode (offset / 64)) old.medium new.medium → PagesServe f.pages new.medium → answer ≡ answer_after weaken_says line_answer Done r
      → Answered (WeakenFile name offset) answer host with_room old new
  weaken_told roomy r answer refuses panel refused untouched ok outside served answer_is =
      let pages : f.pages ≡ host.files.pages = ap (λ (x : HeldFiles). x.pages) files_are in
      let ok_here = subst (λ (p : PagesState). OnOk r ((files : List File) (file : File) → IsFileAt p.journal old.medium inode files file
      → FilesStand p.journal.geo new.medium p.journal.tables (change_file file_name file.name (on_pages (change_line weaken_cell (offset / 64))) files))) pages ok in
      subst (λ (x : HeldFiles). Answered (WeakenFile name offset) answer host (record host { files = x }) old new) (sym files_are)
      (file_line_answered host old new serves on panel name inode offset here f.events weaken_says weaken_cell (λ h. h.events) (WeakenFile name offset) r answer refl refl
      (λ h. refl) (λ h. refl) (subst (λ (p : PagesState). (files : List File) (file : File) → IsFileAt p.journal old.medium inode files file → Answers weaken_says (file_refusal file.pages offset) r) pages refused) refuses untouched
      ok_here (subst (λ (p : PagesState). WritesBackBut (IsFileLine p.journal inode (offset / 64)) old.medium new.medium) pages outside) (subst (λ (p : PagesState). PagesServe p new.medium) pages served)
      (on_refused-then weaken_says r (λ _. items) untouched) (on_refused-then weaken_says r (λ _. roomy) untouched) (all_ok r (λ h stands. items ∙ stands.events on))
      (room_weakened host.files (record host.files { events = f.events }) old.medium new.medium (right_now host host old refl on serves) name inode offset here room refl r (enough room.files room.stand)
      (kept_at weaken_says old new r refuses untouched) ok_here)
      answer_is refl)
    where
      all_ok : {P : Type 0} (q : Result (Unit {0}) WeakenFault) → P → OnOk q P
      all_ok (Ok u) p = p
      all_ok (Err x) p = tt

  -- There was room for its event, and then no memory.
  pub weaken_starved : host.files.events.spare ≤ f.events.spare → WritesBack old.medium new.medium → new.panel ≡ old.panel → (IsRoomier host with_room × WritesBack old.medium new.medium × (new.panel ≡ old.panel)) × HostServes with_room new
  weaken_starved spare written panel = (
    (record { events = f.events; same = ap (λ (x : HeldFiles). record host { files = x }) files_are; items = items; spare = spare }, written, panel),
    subst (λ (x : HeldFiles). HostServes (record host { files = x }) new) (sym files_are)
        (serves_telling host new f.events (serves_ordered host host.mode old new serves written (ap (λ p. p.power) panel ∙ serves.power) (λ on. on) (λ stop. stop))
        (λ is. room_still host.files (record host.files { events = f.events }) old.medium new.medium
        (λ files stand. files_stand_elsewhere host.geometry old.medium new.medium (λ n of. line_kept-write_back old.medium new.medium n written) host.files.pages.journal files (serves.mounted on).journal_geometry (serves.mounted on).journal_right stand)
        spare room)),
  )
