-- What a mapping of a file comes to, once the mappings were asked for it.
use Rattle.std.proofs.lemmas.Bool.Decides.{nat_tests}
use Rattle.std.proofs.Common.{◌≡◌, ◌≢◌, ◌+◌, ◌*◌, ◌==◌, length, nat_lt, ◌++◌, ◌≤◌, ◌∙◌, ℕ, Bool, true, false, Option, Some, None, option_map, Result, Ok, Err, MatchResult, OnOk, OnErr, List, [], ◌∷◌, refl, sym, ap, subst, arith, if◌then◌else◌}
use Rattle.line_device.specs.Device.{Device}
use Rattle.line_device.specs.Medium.{WritesBack}
use Rattle.line_device.specs.Panel.{Runs}
use Rattle.line_device.specs.Panel.Outcome.{went}
use Rattle.line_words.specs.Told.{Answers, OnRefused, OnWorked, is_done, outcome_by, refusal_of, told_outcome}
use Rattle.nvm_base.specs.declared.files.Kind.{Kind}
use Rattle.nvm_base.specs.declared.units.Span.{Span}
use Rattle.nvm_base.specs.Units.{units_of}
use Rattle.nvm_model.specs.Blocks.{first_there}
use Rattle.nvm_model.specs.Listing.{file_name, file_of}
use Rattle.nvm_model.specs.Mappings.{is_shared, new_mapping}
use Rattle.nvm_model.specs.Storage.{File, Mapping}
use Rattle.nvm_model.proofs.KeptLemmas.{LineKept, line_kept-write_back}
use Rattle.file_journal.specs.Standing.{FilesStand}
use Rattle.file_pages.specs.Object.{PagesServe, PagesState}
use Rattle.mappings.specs.Costs.{map_calls}
use Rattle.mappings.specs.Object as mappings
use Rattle.mappings.specs.Object.{MappingsState}
use Rattle.mappings.specs.Refusals.{MapRefusal, copy_refusal, early_refusal, extent_refusal, file_refusal, found_refusal, limit_refusal, map_refusal, map_says, refused_if}
use Rattle.mappings.specs.Refusals.MapRefusal.{Range, Length}
use Rattle.mappings.specs.declared.fault.MapFault.{MapFault}
use Rattle.mappings.specs.declared.fault.MapFault.TheVariants as fault
use Rattle.reply_text.specs.declared.reply.Reply.{Reply}
use Rattle.reply_text.specs.Answer.{Answer, IsPrintable, answer_of}
use Rattle.reply_text.specs.Answer.Answer.{Handle}
use Rattle.reply_text.specs.Room.{most_of}
use Rattle.script_text.specs.Action.Action.{Map}
use Rattle.machine_model.specs.declared.mode.Mode.{Mode}
use Rattle.machine_model.specs.declared.mode.Mode.TheVariants.{On}
use Rattle.machine_model.specs.Commands.{fate, unless_refused}
use Rattle.machine_host.specs.Faults.{answer_after, map_fault_answer, map_fault_mode, mode_after, told_answer, told_mode}
use Rattle.machine_model.specs.Machine.{Machine}
use Rattle.machine_model.specs.Machine.Fate.{Gives, Works}
use Rattle.machine_model.specs.OnMappings.{map_answer, with_mapping}
use Rattle.machine_host.specs.Responding.{Answered, Responds}
use Rattle.machine_model.specs.Run.{answered}
use Rattle.machine_model.specs.Costs.{no_spending}
use Rattle.machine_host.proofs.HandledLemmas.{stands_mapped}
use Rattle.machine_host.proofs.MapFateLemmas.{fate_map}
use Rattle.machine_host.proofs.MappedLemmas.{IsAmong, on-of}
use Rattle.machine_host.proofs.FilesCallLemmas.{files_of_device}
use Rattle.file_journal.proofs.DeviceFileLemmas.{device_files-stand}
use Rattle.file_journal.specs.Object.{JournalState}
use Rattle.file_journal.specs.Tables.{AreTables, known_units}
use Rattle.block_device.proofs.FrameLemmas.{each_reads-write_back}
use Rattle.machine_host.specs.Stands.{AreMounted, Comes, EachMapping, HostServes, HostState, IsOnFile, mappings_of, Stands}
use Rattle.machine_host.proofs.CallLemmas.{comes_of_call, printable_after, serves_of_call}
use Rattle.machine_host.proofs.VolumeCallLemmas.{short_after}
use Rattle.machine_host.proofs.ElsewhereLemmas.{mounted-write_back}
use Rattle.machine_host.proofs.LayoutLemmas.{layout-write_back, metadata-then, same_bad, stays_of_kept}
use Rattle.machine_host.proofs.StepLemmas.{DeviceLeft, blocks_still, files_still, pages_still, written_back}
use Rattle.machine_host.proofs.TellingLemmas.{tells_work}
use Rattle.machine_host.proofs.MapToldLemmas.{MapCalled, Makes, map_called, map_part, map_told, ok_told, on_ok_at, told_same}
use Rattle.machine_host.proofs.RoomLemmas.{room_still}
use Rattle.machine_host.specs.Keeping.{is_refusal}
use Rattle.machine_host.proofs.KeepLemmas.{keeps_called, keeps_inside}

-- the host in a mode after the call
abbrev pub mapped_after : HostState → PagesState → MappingsState → Mode → HostState
mapped_after host p ms mode = record host { mode = mode; files = record host.files { pages = p; mappings = ms } }

-- one mapping more, of which that holds too
all-more : (P : Mapping → Type 0) (ms : List Mapping) (m : Mapping) → EachMapping P ms → P m → EachMapping P (ms ++ m ∷ [])
all-more P [] m all more = (more, tt)
all-more P (x ∷ xs) m all more = (all.0, all-more P xs m all.1 more)

-- what is answered Ok has no reason not to be
nothing_refused : (o : Option MapRefusal) (x : ℕ) → Answers {T = ℕ} map_told o (Ok x) → o ≡ None
nothing_refused None x answers = refl
nothing_refused (Some w) x answers = absurd answers

extent_within : (size : ℕ) (span : Span) (b c : Option MapRefusal) → first_there (extent_refusal size span) (first_there b c) ≡ None → span.start + span.len ≤ size
extent_within size span b c none = by_test (nat_lt size (span.start + span.len)) refl none
  where
    by_test : (past : Bool) → nat_lt size (span.start + span.len) ≡ past → first_there (first_there (refused_if past Range) (refused_if (span.len == 0) Length)) (first_there b c) ≡ None → span.start + span.len ≤ size
    by_test true is none = cc none
    by_test false is none = grind (arith, nat_tests)

-- a call that went and was not refused is done
never_gone : (f : MapFault) → refusal_of (map_told f) ≡ None → told_outcome (map_told f) ≡ went → ⊥
never_gone fault.Missing none gone = cc none
never_gone fault.Handle none gone = cc none
never_gone fault.Range none gone = cc none
never_gone fault.Length none gone = cc none
never_gone fault.Limit none gone = cc none
never_gone (fault.Poison offset) none gone = cc none
never_gone fault.Device none gone = cc gone
never_gone fault.PowerLost none gone = cc gone
never_gone fault.Memory none gone = cc gone

module _ (host : HostState) (p : PagesState) (ms : MappingsState) (name : List ℕ) (span : Span) (kind : Kind) (r : Result ℕ MapFault) (old new : Device) (on : host.mode ≡ On)
    (serves : HostServes host old) (c : MapCalled host p ms name span kind r map_told old new) where
  kept : (n : ℕ) → LineKept old.medium new.medium n
  kept n = line_kept-write_back old.medium new.medium n c.lines

  -- a state that host and device stood for, whatever the mappings became
  module _ (h : Machine) (stands : Stands host old h) where
    whole : h.interrupted ≡ None
    whole = stands.device.whole (sym stands.mode ∙ on)

    -- they stand for it still, with the pages as the call left them
    still : (runs : Runs (map_calls kind span) 0 went old.panel new.panel) → Stands (record host { files = record host.files { pages = p } }) new h
    still runs =
        let now = subst (λ m. Stands (record host { mode = m }) new h) (sym stands.mode)
        (written_back host old new h h stands serves c.lines refl runs.orders.unit (runs.cause.0 ∙ stands.device.power) (runs.cause.2 ∙ stands.device.cut_armed) (runs.cause.3 ∙ stands.device.fail_armed) (λ is. is) (λ is. is)) in
        record {
          geometry = now.geometry;
          unit = now.unit;
          mode = now.mode;
          blocks = now.blocks;
          volume = now.volume;
          files = λ is. subst (λ (j : JournalState). FilesStand j.geo new.medium j.tables h.files) (sym c.object.0) (now.files is);
          mappings = now.mappings;
          events = now.events;
          device = now.device;
        }

    -- with one mapping more
    stands_more : {x : ℕ} → r ≡ Ok x → Runs (map_calls kind span) 0 went old.panel new.panel → (file : File) → file_of file_name name h.files ≡ Some file
        → Stands (mapped_after host p ms On) new (with_mapping name span kind h)
    stands_more {x = x} is runs file found =
        let more : ms ≡ mappings.with_mapping (new_mapping h.next_handle name span kind file.pages) (mappings_of h) =
        on_ok_at (Makes host ms name span kind old) r x is c.ok h.files file (stands.files on) found
        ∙ ap (λ (s : MappingsState). mappings.with_mapping (new_mapping s.next name span kind file.pages) s) (stands.mappings on) in
        let now = stands_mapped (record host { files = record host.files { pages = p } }) new h ms whole (still runs) in
        let to : record h { mappings = ms.mappings; next_handle = ms.next } ≡ with_mapping name span kind h =
        ap (λ (s : MappingsState). let m : Machine = record h { mappings = s.mappings; next_handle = s.next } in m) more
        ∙ ap (λ (o : Option File). let m : Machine = record h {
          mappings = h.mappings ++ new_mapping h.next_handle name span kind (elim o [ None ↦ [] | Some f ↦ f.pages ]) ∷ [];
          next_handle = h.next_handle + 1;
        } in m) (sym found) in
        subst (λ (m : Mode). Stands (record host { mode = m; files = record host.files { pages = p; mappings = ms } }) new (with_mapping name span kind h)) on (subst (λ (k : Machine). Stands (record host { files = record host.files { pages = p; mappings = ms } }) new k) to now)

    -- what an interruption leaves
    left : DeviceLeft h (Map name span kind) new.medium
    left = record {
      metadata = metadata-then h.geometry old.medium new.medium h.bad_meta (layout-write_back h.geometry old.medium new.medium stands.device.metadata.layout c.lines) (λ n below. c.lines.bad n) stands.device.metadata;
      blocks = λ good. (blocks_still host old new h stands serves on (λ n of. stays_of_kept old.medium new.medium n (kept n))).0 good;
      volume = λ good. (pages_still host old new h stands serves on (λ n of. kept n)).0 good;
      files = λ good. (files_still host old new h stands serves on (λ n of. kept n)).0 good;
    }

  on_inside_refused : OnRefused map_told r ((mapped_after host p ms host.mode ≡ host) × (new ≡ old))
  on_inside_refused = by_result r c.untouched c.err
    where
      by_result : (q : Result ℕ MapFault) → OnRefused map_told q ((p ≡ host.files.pages) × (new ≡ old)) → OnErr q (ms ≡ host.files.mappings) → OnRefused map_told q ((mapped_after host p ms host.mode ≡ host) × (new ≡ old))
      by_result (Ok x) untouched same = tt
      by_result (Err e) untouched same = λ told.
          let here = untouched told in
          (ap (λ q. let k : HostState = record host { files = record host.files { pages = q; mappings = ms } } in k) here.0 ∙ ap (λ s. let k : HostState = record host { files = record host.files { mappings = s } } in k) same, here.1)

  -- the mapping that was made is on its file
  mounted_more : OnOk r (AreMounted host.geometry host.blocks host.volume (record host.files { pages = p; mappings = ms }) new.medium)
  mounted_more = by_result r c.object.1 c.refused c.ok
    where
      was : AreMounted host.geometry host.blocks host.volume host.files new.medium
      was = mounted-write_back host.geometry host.blocks host.volume host.files old.medium new.medium serves.layout.valid c.lines (serves.mounted on)

      right : AreTables host.files.pages.journal.geo.fpages host.files.pages.journal.tables
      right = subst (λ g. AreTables g.fpages host.files.pages.journal.tables) (sym was.journal_geometry) was.journal_right

      files : List File
      files = files_of_device host.files.pages.journal old.medium

      stand : FilesStand host.files.pages.journal.geo old.medium host.files.pages.journal.tables files
      stand = device_files-stand host.files.pages.journal.geo old.medium host.files.pages.journal.tables

      by_result : (q : Result ℕ MapFault) → p.settled ≡ is_done (outcome_by map_told q)
          → ((files : List File) → FilesStand host.files.pages.journal.geo old.medium host.files.pages.journal.tables files → Answers map_told (map_refusal host.files.mappings files name span kind) q)
          → OnOk q (Makes host ms name span kind old)
          → OnOk q (AreMounted host.geometry host.blocks host.volume (record host.files { pages = p; mappings = ms }) new.medium)
      by_result (Err e) settled refused ok = tt
      by_result (Ok x) settled refused ok = by_file (file_of file_name name files) refl (refused files stand)
        where
          by_file : (o : Option File) → file_of file_name name files ≡ o → Answers {T = ℕ} map_told (found_refusal host.files.mappings o span kind) (Ok x)
              → AreMounted host.geometry host.blocks host.volume (record host.files { pages = p; mappings = ms }) new.medium
          by_file None is answers = absurd answers
          by_file (Some file) is answers =
              let m = new_mapping host.files.mappings.next name span kind file.pages in
              let none = nothing_refused (file_refusal host.files.mappings file.pages span kind) x answers in
              let among : IsAmong files m = record { file = file; found = is; within = extent_within (4096 * length file.pages) span (limit_refusal host.files.mappings) (copy_refusal kind file.pages span) none } in
              let j = host.files.pages.journal in
              record {
                geometry = was.geometry;
                settled = was.settled;
                serves = was.serves;
                volume_geometry = was.volume_geometry;
                volume_settled = was.volume_settled;
                volume_serves = was.volume_serves;
                journal_geometry = ap (λ (k : JournalState). k.geo) c.object.0 ∙ was.journal_geometry;
                journal_settled = ap (λ (k : JournalState). k.settled) c.object.0 ∙ was.journal_settled;
                journal_serves = c.serves;
                journal_right = subst (λ (k : JournalState). AreTables host.geometry.fpages k.tables) (sym c.object.0) was.journal_right;
                journal_held = ap (λ (k : JournalState). known_units k.tables.pages k.free) c.object.0 ∙ was.journal_held;
                pages_settled = settled;
                mapped = subst (λ (s : MappingsState). EachMapping (IsOnFile p.journal.tables.files) s.mappings) (sym (ok files file stand is))
                    (subst (λ (k : JournalState). EachMapping (IsOnFile k.tables.files) (host.files.mappings.mappings ++ m ∷ [])) (sym c.object.0)
                    (all-more (IsOnFile j.tables.files) host.files.mappings.mappings m was.mapped (on-of j old.medium right files stand m among)));
                room = room_still host.files (record host.files { pages = p; mappings = ms }) new.medium new.medium
                    (λ files stand. subst (λ (k : JournalState). FilesStand k.geo new.medium k.tables files) (sym c.object.0) stand) (omega arith) was.room;
              }

  pub map_serves : HostServes (mapped_after host p ms (mode_after map_told r)) new
  map_serves =
      serves_of_call map_told (map_answer name) (map_part name) host (mapped_after host p ms) old new on (λ m. refl) (λ m. refl) (map_calls kind span) 0 r serves on_inside_refused
      (layout-write_back host.geometry old.medium new.medium serves.layout c.lines)
      (λ none.
      each_reads-write_back host.geometry old.medium new.medium (λ _. Unit {0}) serves.layout.valid c.lines (serves.readable (sym (same_bad host.geometry old.medium new.medium (λ n below. c.lines.bad n)) ∙ none)))
      mounted_more c.runs

  module _ (h : Machine) (stands : Stands host old h) where
    abbrev why : Option MapRefusal
    why = map_refusal (mappings_of h) h.files name span kind

    abbrev answer_is : Answer
    answer_is = answer_after map_told (map_answer name) (Handle h.next_handle) r

    refused_here : Answers map_told why r
    refused_here = subst (λ (s : MappingsState). Answers map_told (map_refusal s h.files name span kind) r) (stands.mappings on) (c.refused h.files (stands.files on))

    stands_ok : OnOk r (Stands (mapped_after host p ms On) new (with_mapping name span kind h))
    stands_ok = by_result r refl refused_here c.runs
      where
        by_result : (q : Result ℕ MapFault) → r ≡ q → Answers map_told why q → Runs (map_calls kind span) 0 (outcome_by map_told q) old.panel new.panel → OnOk q (Stands (mapped_after host p ms On) new (with_mapping name span kind h))
        by_result (Err e) is answers runs = tt
        by_result (Ok x) is answers runs = by_file (file_of file_name name h.files) refl answers
          where
            by_file : (o : Option File) → file_of file_name name h.files ≡ o → Answers {T = ℕ} map_told (found_refusal (mappings_of h) o span kind) (Ok x)
                → Stands (mapped_after host p ms On) new (with_mapping name span kind h)
            by_file None at answers = absurd answers
            by_file (Some file) at answers = stands_more h stands is runs file at

    left_worked : OnWorked map_told r (DeviceLeft h (Map name span kind) new.medium)
    left_worked = by_result r
      where
        by_result : (q : Result ℕ MapFault) → OnWorked map_told q (DeviceLeft h (Map name span kind) new.medium)
        by_result (Ok x) = left h stands
        by_result (Err e) = λ worked. left h stands

    working : Comes h (Map name span kind) (unless_refused h (option_map (map_answer name) why) (Works (Handle h.next_handle) (with_mapping name span kind h))) answer_is (mapped_after host p ms (mode_after map_told r)) old new
    working =
        comes_of_call map_told (map_answer name) (map_part name) host (mapped_after host p ms) old new on (λ m. refl) (λ m. refl) (map_calls kind span) 0 (Map name span kind) h stands
        (omega arith) (omega arith) r (Handle h.next_handle) why (with_mapping name span kind h) refl refused_here on_inside_refused stands_ok left_worked c.runs

    giving : is_shared kind ≡ true → Comes h (Map name span kind) (unless_refused h (option_map (map_answer name) why) (Gives (Handle h.next_handle) (with_mapping name span kind h))) answer_is (mapped_after host p ms (mode_after map_told r)) old new
    giving shared = by_why why r refl refused_here working stands_ok (c.shown shared) c.runs
      where
        by_why : (o : Option MapRefusal) (q : Result ℕ MapFault) → r ≡ q → Answers map_told o q
            → Comes h (Map name span kind) (unless_refused h (option_map (map_answer name) o) (Works (Handle h.next_handle) (with_mapping name span kind h))) (answer_after map_told (map_answer name) (Handle h.next_handle) q) (mapped_after host p ms (mode_after map_told q)) old new
            → OnOk q (Stands (mapped_after host p ms On) new (with_mapping name span kind h)) → outcome_by map_told q ≡ went → Runs (map_calls kind span) 0 (outcome_by map_told q) old.panel new.panel
            → Comes h (Map name span kind) (unless_refused h (option_map (map_answer name) o) (Gives (Handle h.next_handle) (with_mapping name span kind h))) (answer_after map_told (map_answer name) (Handle h.next_handle) q) (mapped_after host p ms (mode_after map_told q)) old new
        by_why (Some w) q is answers works now gone runs = works
        by_why None (Err e) is answers works now gone runs = absurd (never_gone e answers gone)
        by_why None (Ok x) is answers works now gone runs = record {
          said = answered (Handle h.next_handle);
          next = with_mapping name span kind h;
          answers = refl;
          takes = (refl, refl);
          tells = tells_work no_spending 0 0 (omega arith) (omega arith) old.panel new.panel (Handle h.next_handle) refl (subst (λ b. Runs (if b then 0 else (units_of 64 span).len) 0 went old.panel new.panel) shared runs);
          stands = now;
        }

    pub map_comes : Comes h (Map name span kind) (fate h (Map name span kind)) answer_is (mapped_after host p ms (mode_after map_told r)) old new
    map_comes =
        subst (λ f. Comes h (Map name span kind) f answer_is (mapped_after host p ms (mode_after map_told r)) old new) (sym (fate_map h name span kind (sym stands.mode ∙ on))) (by_kind (is_shared kind) refl)
      where
        by_kind : (b : Bool) → is_shared kind ≡ b
            → Comes h (Map name span kind) (unless_refused h (option_map (map_answer name) why) (if b then Gives (Handle h.next_handle) (with_mapping name span kind h) else Works (Handle h.next_handle) (with_mapping name span kind h)))
            answer_is (mapped_after host p ms (mode_after map_told r)) old new
        by_kind true is = giving is
        by_kind false is = working

-- A mapping is answered. Of a host behind a reference `host` is what is inside `now`, and `after` what the answer leaves.
pub map_answered : (now host after : HostState) (p : PagesState) (ms : MappingsState) (name : List ℕ) (span : Span) (kind : Kind) (r : Result ℕ MapFault) (old new : Device) → host ≡ now
    → after ≡ mapped_after host p ms (mode_after map_told r) → now.mode ≡ On → HostServes now old → MapCalled host p ms name span kind r map_told old new
    → (answer : Answer) → answer ≡ answer_after map_told (map_answer name) (Handle host.files.mappings.next) r → Answered (Map name span kind) answer now after old new
map_answered now host after p ms name span kind r old new inside state on serves c answer answer_is =
    let on_inside : host.mode ≡ On = ap (λ k. k.mode) inside ∙ on in
    let serves_inside = subst (λ k. HostServes k old) (sym inside) serves in
    record {
      step = λ h stands.
          let stands_inside = subst (λ k. Stands k old h) (sym inside) stands in
          let same : answer ≡ answer_after map_told (map_answer name) (Handle h.next_handle) r =
          answer_is ∙ ap (λ (s : MappingsState). answer_after map_told (map_answer name) (Handle s.next) r) (stands_inside.mappings on_inside) in
          subst (λ a. Comes h (Map name span kind) (fate h (Map name span kind)) a after old new) (sym same)
          (subst (λ k. Comes h (Map name span kind) (fate h (Map name span kind)) (answer_after map_told (map_answer name) (Handle h.next_handle) r) k old new) (sym state)
          (map_comes host p ms name span kind r old new on_inside serves_inside c h stands_inside));
      keeps = keeps_inside (is_refusal answer) (Map name span kind) now host after (mapped_after host p ms (mode_after map_told r)) old new inside state
          (keeps_called map_told (map_answer name) r answer (record { good = Handle host.files.mappings.next; accepts = refl; is = answer_is }) (Map name span kind) host (mapped_after host p ms) old new on_inside
          (on_inside_refused host p ms name span kind r old new on_inside serves_inside c) c.lines);
      printable = subst IsPrintable (sym answer_is) (printable_after map_told (map_answer name) (map_part name) (Handle host.files.mappings.next) tt r);
      room = subst (λ a. most_of a ≤ 72) (sym answer_is) (short_after map_told (map_answer name) (map_part name) (Handle host.files.mappings.next) (omega arith) r);
      serves = subst (λ k. HostServes k new) (sym state) (map_serves host p ms name span kind r old new on_inside serves_inside c);
    }

same_Err : {T E : Type 0} (x y : E) → ◌≡◌ {A = Result T E} (Err x) (Err y) → x ≡ y
same_Err x y e = cc e

-- A mapping that was made.
pub map_done : {D : Type 0} (state : D → Device) (now host : HostState) (p : PagesState) (ms : MappingsState) (name : List ℕ) (span : Span) (kind : Kind) (x : ℕ) (before after : D) → host ≡ now → now.mode ≡ On
    → HostServes now (state before)
    → ((files : List File) → FilesStand host.files.pages.journal.geo (state before).medium host.files.pages.journal.tables files → ◌≢◌ {A = Result ℕ MapFault} (Ok x) (Err fault.Memory)
    → Answers {T = ℕ} map_says (map_refusal host.files.mappings files name span kind) (Ok x))
    → ((files : List File) (file : File) → FilesStand host.files.pages.journal.geo (state before).medium host.files.pages.journal.tables files → file_of file_name name files ≡ Some file
    → ms ≡ mappings.with_mapping (new_mapping host.files.mappings.next name span kind file.pages) host.files.mappings)
    → x ≡ host.files.mappings.next → WritesBack (state before).medium (state after).medium → PagesServe p (state after).medium
    → (p.journal ≡ host.files.pages.journal) × (p.settled ≡ is_done (outcome_by {T = ℕ} map_says (Ok x))) → Runs (map_calls kind span) 0 (outcome_by {T = ℕ} map_says (Ok x)) (state before).panel (state after).panel
    → (is_shared kind ≡ true → outcome_by {T = ℕ} map_says (Ok x) ≡ went)
    → Answered (Map name span kind) (Handle x) now (record host { files = record host.files { pages = p; mappings = ms } }) (state before) (state after)
map_done state now host p ms name span kind x before after inside on serves refused ok handle lines served object runs shown =
    map_answered now host _ p ms name span kind (Ok x) (state before) (state after) inside
    (ap (λ (m : Mode). let k : HostState = record host { mode = m; files = record host.files { pages = p; mappings = ms } } in k) (ap (λ (k : HostState). k.mode) inside ∙ on)) on serves
    (record { refused = λ files stand. ok_told (map_refusal host.files.mappings files name span kind) x (refused files stand (λ e. cc e)); untouched = tt; ok = ok; err = tt; lines = lines; serves = served; object = object; runs = runs; shown = shown })
    (Handle x) (ap (λ n. Handle n) handle)

-- and one that was not, or for which memory was wanting
pub map_faulted : {D : Type 0} {E : Type 0} (state : D → Device) (now host after_host : HostState) (p : PagesState) (ms : MappingsState) (name : List ℕ) (span : Span) (kind : Kind) (f : MapFault) (before after : D)
    (r : Result Reply E) → host ≡ now → after_host ≡ record host { mode = map_fault_mode host.mode f; files = record host.files { pages = p; mappings = ms } }
    → MatchResult r (λ reply. (f ≡ fault.Memory → ⊥) × (answer_of reply ≡ map_fault_answer name f)) (λ _. f ≡ fault.Memory) → now.mode ≡ On → HostServes now (state before)
    → ((files : List File) → FilesStand host.files.pages.journal.geo (state before).medium host.files.pages.journal.tables files → ◌≢◌ {A = Result ℕ MapFault} (Err f) (Err fault.Memory)
    → Answers {T = ℕ} map_says (map_refusal host.files.mappings files name span kind) (Err f))
    → OnRefused {T = ℕ} map_says (Err f) ((p ≡ host.files.pages) × (after ≡ before))
    → (◌≡◌ {A = Result ℕ MapFault} (Err f) (Err fault.Memory) → (p ≡ host.files.pages) × (after ≡ before) × (early_refusal host.files.mappings host.files.pages.journal.tables name span ≡ None))
    → ms ≡ host.files.mappings → WritesBack (state before).medium (state after).medium → PagesServe p (state after).medium
    → (p.journal ≡ host.files.pages.journal) × (p.settled ≡ is_done (outcome_by {T = ℕ} map_says (Err f))) → Runs (map_calls kind span) 0 (outcome_by {T = ℕ} map_says (Err f)) (state before).panel (state after).panel
    → (is_shared kind ≡ true → outcome_by {T = ℕ} map_says (Err f) ≡ went)
    → Responds (Map name span kind) r now after_host (state before) (state after)
map_faulted state now host after_host p ms name span kind f before after (Err e) inside is answer on serves refused untouched memory same lines served object runs shown =
    let here = memory (ap (λ g. Err g) answer) in
    let stays : after_host ≡ now =
    is ∙ ap (λ g. let k : HostState = record host { mode = map_fault_mode host.mode g; files = record host.files { pages = p; mappings = ms } } in k) answer
    ∙ ap (λ q. let k : HostState = record host { files = record host.files { pages = q; mappings = ms } } in k) here.0
    ∙ ap (λ s. let k : HostState = record host { files = record host.files { mappings = s } } in k) same ∙ inside in
    record { leaves = (stays, ap state here.1); serves = subst (λ k. HostServes k (state after)) (sym stays) (subst (λ d. HostServes now (state d)) (sym here.1) serves) }
map_faulted state now host after_host p ms name span kind f before after (Ok reply) inside is answer on serves refused untouched memory same lines served object runs shown =
    map_answered now host after_host p ms name span kind (Err f) (state before) (state after) inside
    (is ∙ ap (λ m. let k : HostState = record host { mode = m; files = record host.files { pages = p; mappings = ms } } in k) (ap (λ m. map_fault_mode m f) (ap (λ (k : HostState). k.mode) inside ∙ on) ∙ ap (told_mode On) (sym (told_same f answer.0)))) on serves
    (map_called host p ms name span kind (Err f) (state before) (state after) (λ e. answer.0 (same_Err f fault.Memory e))
    (record {
      refused = λ files stand. refused files stand (λ e. answer.0 (same_Err f fault.Memory e));
      untouched = λ told. let here = untouched told in (here.0, ap state here.1);
      ok = tt;
      err = same;
      lines = lines;
      serves = served;
      object = object;
      runs = runs;
      shown = shown;
    }))
    (answer_of reply) (answer.1 ∙ ap (told_answer (map_answer name)) (sym (told_same f answer.0)))
