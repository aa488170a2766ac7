-- What flushes through mappings come to.
use Rattle.std.proofs.Common.{◌≡◌, ◌+◌, ◌*◌, ◌≤◌, ◌++◌, ◌∙◌, ℕ, true, Option, Some, None, Result, Ok, Err, OnOk, List, [], ◌∷◌, length, refl, sym, ap, subst, arith, false}
use Rattle.std.proofs.lemmas.List.Sums.{sum_by-cons}
use Rattle.std.proofs.lemmas.Option.{same_Some}
use Rattle.line_device.specs.Device.{Device}
use Rattle.line_device.specs.Panel.{Outcome, Runs}
use Rattle.line_words.specs.Told.{Answers, OnRefused, OnWorked, is_done, outcome_by}
use Rattle.line_words.specs.Told.Told.{Starves}
use Rattle.nvm_base.specs.Units.{units_of}
use Rattle.nvm_base.specs.declared.files.Kind.TheVariants.{Shared}
use Rattle.nvm_base.specs.declared.units.Span.{Span}
use Rattle.mappings.specs.declared.info.MapInfo.{MapInfo}
use Rattle.inode_table.specs.Slots.{inode_of}
use Rattle.nvm_model.specs.Files.{OneFileLeft, on_pages}
use Rattle.nvm_model.specs.Interrupted.{MaySyncAll}
use Rattle.nvm_model.specs.Listing.{change_file, file_name}
use Rattle.nvm_model.specs.Mappings.{is_shared, mapping_of}
use Rattle.nvm_model.specs.Storage.{File, Mapping, Event}
use Rattle.nvm_model.specs.Touched.{next_bad_touched, persist_spans}
use Rattle.file_journal.specs.Object.{JournalState}
use Rattle.file_journal.specs.Standing.{FilesStand}
use Rattle.file_pages.specs.Costs.{lines_there}
use Rattle.file_pages.specs.Object.{IsFileAt, PagesState, file_place}
use Rattle.flush_engine.specs.Refusals.{FlushRefusal, flush_refusal, flush_says, flushed, verified}
use Rattle.flush_engine.specs.Refusals.FlushRefusal.{Length, Limit, Poison, Range, Verify}
use Rattle.flush_engine.specs.Spans.{lines_in}
use Rattle.flush_engine.specs.declared.fault.FlushFault.{FlushFault}
use Rattle.flush_engine.specs.declared.fault.FlushFault.TheVariants as fault
use Rattle.reply_text.specs.Answer.{Answer, IsPrintable}
use Rattle.reply_text.specs.Answer.Answer.{VerifyFile}
use Rattle.reply_text.specs.Room.{most_of}
use Rattle.script_text.specs.Action.{Action}
use Rattle.machine_model.specs.declared.look.Look.{Look}
use Rattle.machine_model.specs.declared.look.Look.TheVariants.{Once, Again}
use Rattle.machine_model.specs.declared.mode.Mode.TheVariants.{On}
use Rattle.machine_model.specs.Commands.{LeavesBlocks, LeavesFiles, LeavesVolume, MayLeaveFiles, meaning, spending}
use Rattle.machine_model.specs.Costs.{no_spending}
use Rattle.machine_host.specs.Faults.{answer_after, flush_answer, mode_after, verify_answer}
use Rattle.machine_model.specs.Interrupted.{stop_in}
use Rattle.machine_model.specs.Machine.{Machine}
use Rattle.machine_model.specs.Meaning.{Meaning}
use Rattle.machine_model.specs.Meaning.FilesLeft.{Unchanged}
use Rattle.machine_model.specs.OnFlushes.{all_moved, flush_through, flush_with, flushed_answer, lines_touched_by, second_look, spans_refusal}
use Rattle.machine_host.specs.Responding.{Answered}
use Rattle.machine_host.specs.Stands.{HostServes, HostState, IsOnFile, Stands, HasRoom}
use Rattle.machine_host.proofs.CallLemmas.{IsPart, printable_after}
use Rattle.machine_host.proofs.FilePageCallLemmas.{LeavesOthers, PagesCalled, pages_after}
use Rattle.machine_host.proofs.FilePageLemmas.{right_now, room_now}
use Rattle.machine_host.proofs.FlushFateLemmas.{fate_flush, shows}
use Rattle.machine_host.proofs.HandleCallLemmas.{Told, file_under}
use Rattle.machine_host.proofs.HandledLemmas.{seen}
use Rattle.machine_host.proofs.MappedLemmas.{held_by}
use Rattle.machine_host.proofs.VolumeCallLemmas.{short_after}
use Rattle.nvm_base.specs.Stock.{Stock}
use Rattle.std.specs.Prelude.{OnErr}
use Rattle.machine_host.specs.declared.held.HeldFiles.{HeldFiles}
use Rattle.machine_host.specs.Flushing.{FlushSaid, LinesTold, Looked}
use Rattle.machine_model.specs.OnEvents.{lost_events}
use Rattle.machine_host.proofs.LostLineLemmas.{err_then, heard_of, none_flushed, room_left, same_refused, told_others}
use Rattle.machine_host.proofs.SyncedLemmas.{few_there, synced_answered, synced_called}
use Rattle.machine_host.specs.Keeping.{Changes, Reach, is_refusal, reach}
use Rattle.machine_host.specs.Keeping.Reach.{AnyLine}

-- answers of flushes
never_starves : (f : FlushFault) → flush_says f ≡ Starves → ⊥
never_starves fault.Range e = cc e
never_starves fault.Length e = cc e
never_starves fault.Limit e = cc e
never_starves (fault.Poison offset) e = cc e
never_starves (fault.Verify offset) e = cc e
never_starves fault.Device e = cc e
never_starves fault.PowerLost e = cc e

module _ (name : List ℕ) where
  no_stop : (w : FlushRefusal) → stop_in (flush_answer name w) ≡ None
  no_stop Range = refl
  no_stop Length = refl
  no_stop Limit = refl
  no_stop (Poison offset) = refl
  no_stop (Verify offset) = refl

  short_refusal : (w : FlushRefusal) → most_of (flush_answer name w) ≤ 72
  short_refusal Range = omega arith
  short_refusal Length = omega arith
  short_refusal Limit = omega arith
  short_refusal (Poison offset) = omega arith
  short_refusal (Verify offset) = omega arith

  printable_refusal : (w : FlushRefusal) → IsPrintable (flush_answer name w)
  printable_refusal Range = tt
  printable_refusal Length = tt
  printable_refusal Limit = tt
  printable_refusal (Poison offset) = tt
  printable_refusal (Verify offset) = tt

  flush_part : IsPart flush_says (flush_answer name)
  flush_part = record { printable = printable_refusal; quiet = no_stop; short = short_refusal; fed = never_starves }

  -- of what was looked at again
  quiet_look : (look : Look) (lost : Option ℕ) → stop_in (second_look look name lost) ≡ None
  quiet_look Once lost = refl
  quiet_look Again None = refl
  quiet_look Again (Some n) = refl

  printable_verify : (r : Result (Unit {0}) FlushFault) → IsPrintable (verify_answer name r)
  printable_verify (Ok done) = tt
  printable_verify (Err fault.Range) = tt
  printable_verify (Err fault.Length) = tt
  printable_verify (Err fault.Limit) = tt
  printable_verify (Err (fault.Poison offset)) = tt
  printable_verify (Err (fault.Verify offset)) = tt
  printable_verify (Err fault.Device) = tt
  printable_verify (Err fault.PowerLost) = tt

  accepts_verify : (r : Result (Unit {0}) FlushFault) → is_refusal (verify_answer name r) ≡ false
  accepts_verify (Ok done) = refl
  accepts_verify (Err fault.Range) = refl
  accepts_verify (Err fault.Length) = refl
  accepts_verify (Err fault.Limit) = refl
  accepts_verify (Err (fault.Poison offset)) = refl
  accepts_verify (Err (fault.Verify offset)) = refl
  accepts_verify (Err fault.Device) = refl
  accepts_verify (Err fault.PowerLost) = refl

  short_verify : (r : Result (Unit {0}) FlushFault) → most_of (verify_answer name r) ≤ 72
  short_verify (Ok done) = omega arith
  short_verify (Err fault.Range) = omega arith
  short_verify (Err fault.Length) = omega arith
  short_verify (Err fault.Limit) = omega arith
  short_verify (Err (fault.Poison offset)) = omega arith
  short_verify (Err (fault.Verify offset)) = omega arith
  short_verify (Err fault.Device) = omega arith
  short_verify (Err fault.PowerLost) = omega arith

told_look : (look : Look) (name : List ℕ) (r : Result (Unit {0}) FlushFault) (lost : Option ℕ) → Looked look r lost
    → answer_after flush_says (flush_answer name) (verify_answer name r) (flushed r) ≡ answer_after flush_says (flush_answer name) (second_look look name lost) (flushed r)
told_look Once name (Ok done) lost looked = refl
told_look Again name (Ok done) None looked = refl
told_look Again name (Ok done) (Some n) looked = cc looked
told_look look name (Err fault.Range) lost looked = refl
told_look look name (Err fault.Length) lost looked = refl
told_look look name (Err fault.Limit) lost looked = refl
told_look look name (Err (fault.Poison offset)) lost looked = refl
told_look Once name (Err (fault.Verify offset)) lost looked = cc looked
told_look Again name (Err (fault.Verify offset)) None looked = cc looked
told_look Again name (Err (fault.Verify offset)) (Some n) looked = let same : offset ≡ 64 * n = cc looked in ap (λ k. VerifyFile name k) same
told_look look name (Err fault.Device) lost looked = refl
told_look look name (Err fault.PowerLost) lost looked = refl

-- as far as the device goes the look makes no difference
pub same_outcome : (r : Result (Unit {0}) FlushFault) → outcome_by flush_says (flushed r) ≡ outcome_by flush_says r
same_outcome (Ok done) = refl
same_outcome (Err fault.Range) = refl
same_outcome (Err fault.Length) = refl
same_outcome (Err fault.Limit) = refl
same_outcome (Err (fault.Poison offset)) = refl
same_outcome (Err (fault.Verify offset)) = refl
same_outcome (Err fault.Device) = refl
same_outcome (Err fault.PowerLost) = refl

-- no more lines are there than are touched
few_lines : (s : JournalState) (inode : ℕ) (spans : List Span) → lines_in s inode spans ≤ lines_touched_by spans
few_lines s inode [] = omega arith
few_lines s inode (span ∷ spans) =
    let here : lines_there s inode span.start span.len ≤ (units_of 64 span).len = few_there (file_place s inode) (units_of 64 span).start (units_of 64 span).len in
    let rest = few_lines s inode spans in
    let one = sum_by-cons (λ (x : Span). lines_there s inode x.start x.len) span spans in
    let other = sum_by-cons (λ (x : Span). (units_of 64 x).len) span spans in omega (arith, here, rest, one, other)

-- Of a shared mapping that has these spans.
module _ (now host : HostState) (p : PagesState) (r : Result (Unit {0}) FlushFault) (action : Action) (handle inode : ℕ) (look : Look) (spans : List Span) (m : Mapping) (old : Device)
    (inside : host ≡ now) (on : now.mode ≡ On) (serves : HostServes now old) (row : meaning action ≡ flush_with look handle spans) (is : mapping_of handle now.files.mappings.mappings ≡ Some m)
    (shared : is_shared m.kind ≡ true) (right : spans_refusal m.len spans ≡ None) (here : inode_of m.name host.files.pages.journal.tables.files ≡ Some inode) where
  abbrev to : List Span
  to = all_moved m.start spans

  -- what the row leaves where it is interrupted
  left_by_row : (files left : List File) → OneFileLeft m.name (MaySyncAll to) files left → MayLeaveFiles host.files.mappings.mappings (Some action) files left
  left_by_row files left may =
      let of = flush_through look spans in
      let ms = host.files.mappings.mappings in
      let there : mapping_of handle ms ≡ Some m = ap (λ (k : HostState). mapping_of handle k.files.mappings.mappings) inside ∙ is in
      subst (λ (x : Meaning). LeavesFiles (x.files_left ms) files (x.files ms files) left) (sym row)
      (subst (λ (o : Option Mapping). LeavesFiles (elim o [ None ↦ Unchanged | Some n ↦ (of n).files_left ms ]) files (elim o [ None ↦ files | Some n ↦ (of n).files ms files ]) left) (sym there)
      (subst (λ (x : Meaning). LeavesFiles (x.files_left ms) files (x.files ms files) left) (sym (shows now old on serves action handle look spans row m is shared right)) may))

  flush_leaves : LeavesOthers action
  flush_leaves = record {
    blocks = λ bs new same. subst (λ (x : Meaning). LeavesBlocks x.blocks_left bs (x.blocks bs) new) (sym row) same;
    volume = λ geo pages new same. subst (λ (x : Meaning). LeavesVolume (x.volume_left geo) pages (x.volume geo pages) new) (sym row) same;
  }

  abbrev lines : ℕ
  lines = lines_in host.files.pages.journal inode to

  spent : (h : Machine) → Stands now old h → (lines ≤ (spending h action).calls) × (lines ≤ (spending h action).persists)
  spent h stands =
      let of = flush_through look spans in
      let few = few_lines host.files.pages.journal inode to in
      let same : lines_touched_by to ≡ (spending h action).calls = sym (calls_are h stands) in
      (omega (arith, few, same), let also : lines_touched_by to ≡ (spending h action).persists = sym (persists_are h stands) in omega (arith, few, also))
    where
      spends_are : (h : Machine) → Stands now old h → (meaning action).spends h ≡ record { calls = lines_touched_by to; persists = lines_touched_by to }
      spends_are h stands =
          let of = flush_through look spans in
          ap (λ (x : Meaning). x.spends h) row ∙ ap (λ (o : Option Mapping). elim o [ None ↦ no_spending | Some n ↦ (of n).spends h ]) (seen now old on serves action handle 72 of row (Some m) is h stands)
          ∙ ap (λ (x : Meaning). x.spends h) (shows now old on serves action handle look spans row m is shared right)

      calls_are : (h : Machine) → Stands now old h → (spending h action).calls ≡ lines_touched_by to
      calls_are h stands = ap (λ s. s.calls) (spends_are h stands)

      persists_are : (h : Machine) → Stands now old h → (spending h action).persists ≡ lines_touched_by to
      persists_are h stands = ap (λ s. s.persists) (spends_are h stands)

  -- A flush's clauses are those of a call that makes spans durable.
  module _ {D : Type 0} (state : D → Device) (before after : D) (first : state before ≡ old) (said : FlushSaid state host.files.pages p r look inode to before after)
      (e : Stock Event) (same : OnRefused flush_says (flushed r) (e ≡ host.files.events)) (room : OnOk (flushed r) (HasRoom (record host.files { pages = p; events = e }) (state after).medium)) where
    pub flush_called : PagesCalled flush_says host p e (flushed r) (MayLeaveFiles host.files.mappings.mappings (Some action)) lines lines (state before) (state after)
    flush_called =
        synced_called flush_says now host p (flushed r) action m.name inode to lines old inside on serves here state before after first left_by_row said.untouched said.images said.outside said.marks said.serves
        (said.object.0, said.object.1 ∙ ap is_done (sym (same_outcome r))) (subst (λ (o : Outcome). Runs lines lines o (state before).panel (state after).panel) (sym (same_outcome r)) said.runs) e same room

  module _ (after : HostState) (e : Stock Event) (new : Device) (state : after ≡ pages_after host p e (mode_after flush_says (flushed r)))
      (call : PagesCalled flush_says host p e (flushed r) (MayLeaveFiles host.files.mappings.mappings (Some action)) lines lines old new) (object : p.journal ≡ host.files.pages.journal) where
    pub flush_answered : (answer : Answer)
        → ((files : List File) (file : File) → IsFileAt host.files.pages.journal old.medium inode files file → Answers flush_says (flush_refusal file.pages to) (flushed r))
        → OnOk (flushed r) ((files : List File) (file : File) → IsFileAt host.files.pages.journal old.medium inode files file
        → FilesStand host.files.pages.journal.geo new.medium host.files.pages.journal.tables (change_file file_name file.name (on_pages (persist_spans to)) files))
        → ((files : List File) (file : File) → IsFileAt host.files.pages.journal old.medium inode files file → Looked look r (next_bad_touched to (persist_spans to file.pages) 0))
        → OnOk (flushed r) ((files : List File) (file : File) → IsFileAt host.files.pages.journal old.medium inode files file → e.items ≡ host.files.events.items ++ lost_events host.files.mappings.mappings m.name to file.pages)
        → answer ≡ answer_after flush_says (flush_answer m.name) (verify_answer m.name r) (flushed r) → reach action ≡ AnyLine → Answered action answer now after old new
    flush_answered answer refused ok looked told answer_is wide =
        synced_answered flush_says now host p (flushed r) action m.name inode to lines old inside on serves here (flush_answer m.name) (flush_part m.name) after e new state spent flush_leaves call object
        answer (λ pages. flush_refusal pages to) (λ pages. flushed_answer look m.name to pages) (λ pages. quiet_look m.name look (next_bad_touched to (persist_spans to pages) 0))
        (λ h stands found named.
        let among = file_under now old on serves handle m is h stands in
        let same : among.file ≡ found.file = same_Some _ _ (sym among.found ∙ found.found) in
        let whole : m.start + m.len ≤ 4096 * length found.file.pages = subst (λ (f : File). m.start + m.len ≤ 4096 * length f.pages) same among.within in
        fate_flush now old on serves action handle look spans row m is shared right h stands found.file.pages named whole)
        refused ok told (λ files file at. answer_is ∙ told_look look m.name r (next_bad_touched to (persist_spans to file.pages) 0) (looked files file at))
        (record { good = verify_answer m.name r; accepts = accepts_verify m.name r; is = answer_is }) (subst (λ (k : Reach). Changes k old new) (sym wide) tt)
        (subst IsPrintable (sym answer_is) (printable_after flush_says (flush_answer m.name) (flush_part m.name) (verify_answer m.name r) (printable_verify m.name r) (flushed r)))
        (let short = subst (λ a. most_of a ≤ 72) (sym answer_is) (short_after flush_says (flush_answer m.name) (flush_part m.name) (verify_answer m.name r) (short_verify m.name r) (flushed r)) in
        subst (λ (x : Meaning). most_of answer ≤ x.room) (sym row) short)

-- So it is answered. Of a host behind a reference: `host` is what is inside `now`, `f` are its files once the lost lines were told, and `after_host` is what the answer leaves.
pub flush_told : {D : Type 0} (state : D → Device) (now host after_host : HostState) (p : PagesState) (f : HeldFiles) (r : Result (Unit {0}) FlushFault) (handle inode : ℕ) (look : Look) (spans moved : List Span) (before after : D) (answer : Answer)
    (info : MapInfo) → host ≡ now → now.mode ≡ On → HostServes now (state before) → (told : Told now.files.mappings.mappings handle info) → info.kind ≡ Shared → None ≡ spans_refusal info.span.len spans
    → inode_of info.name host.files.pages.journal.tables.files ≡ Some inode → moved ≡ all_moved info.span.start spans → after_host ≡ record host { mode = mode_after flush_says (flushed r); files = f }
    → FlushSaid state host.files.pages p r look inode moved before after
    → OnOk (flushed r) (LinesTold info.name inode moved (state after).medium (record host.files { pages = p }) f) → OnErr (flushed r) (f ≡ record host.files { pages = p })
    → answer ≡ answer_after flush_says (flush_answer info.name) (verify_answer info.name r) (flushed r)
    → (action : Action) → meaning action ≡ flush_with look handle spans → reach action ≡ AnyLine → Answered action answer now after_host (state before) (state after)
flush_told state now host after_host p f r handle inode look spans moved before after answer info inside on serves told shared right here moved_is is said lines undone answer_is action row wide =
    let m = told.mapping in
    let shown : is_shared m.kind ≡ true = ap (λ (i : MapInfo). is_shared i.kind) told.same ∙ ap is_shared shared in
    let fits : spans_refusal m.len spans ≡ None = ap (λ (i : MapInfo). spans_refusal i.span.len spans) told.same ∙ sym right in
    let named : info.name ≡ m.name = ap (λ (i : MapInfo). i.name) (sym told.same) in
    let found : inode_of m.name host.files.pages.journal.tables.files ≡ Some inode = ap (λ n. inode_of n host.files.pages.journal.tables.files) (sym named) ∙ here in
    let to_is : moved ≡ all_moved m.start spans = moved_is ∙ ap (λ (i : MapInfo). all_moved i.span.start spans) (sym told.same) in
    let s = subst (λ xs. FlushSaid state host.files.pages p r look inode xs before after) to_is said in
    let news : OnOk (flushed r) (LinesTold m.name inode (all_moved m.start spans) (state after).medium (record host.files { pages = p }) f) =
    subst (λ xs. OnOk (flushed r) (LinesTold m.name inode xs (state after).medium (record host.files { pages = p }) f)) to_is
    (subst (λ n. OnOk (flushed r) (LinesTold n inode moved (state after).medium (record host.files { pages = p }) f)) named lines) in
    let tables = right_now now host (state before) inside on serves in
    let room = room_now now host (state before) inside on serves in
    let to = all_moved m.start spans in
    let files_are = told_others m.name inode to (state after).medium (record host.files { pages = p }) f (flushed r) news undone in
    flush_answered now host p r action handle inode look spans m (state before) inside on serves row told.is shown fits found after_host f.events (state after)
    (is ∙ ap (λ (x : HeldFiles). record host { mode = mode_after flush_says (flushed r); files = x }) files_are)
    (flush_called now host p r action handle inode look spans m (state before) inside on serves row told.is shown fits found state before after refl s
    f.events (same_refused flush_says f.events host.files.events (flushed r) (err_then (flushed r) (λ same. ap (λ (x : HeldFiles). x.events) same) undone))
    (room_left host p m.name inode to (state before).medium (state after).medium tables found room s.object.0 f (flushed r) (λ files file at. none_flushed file.pages to (flushed r) (s.refused files file at)) s.ok news))
    s.object.0 answer s.refused s.ok s.looked (heard_of host p m.name inode to (state before).medium (state after).medium tables found room s.object.0 f (flushed r) s.ok news)
    (answer_is ∙ ap (λ n. answer_after flush_says (flush_answer n) (verify_answer n r) (flushed r)) named) wide

-- a file of a shared mapping is there
pub mapped_found : (now : HostState) (d : Device) (handle : ℕ) (info : MapInfo) → now.mode ≡ On → HostServes now d → (told : Told now.files.mappings.mappings handle info) → None ≡ inode_of info.name now.files.pages.journal.tables.files → ⊥
mapped_found now d handle info on serves told none =
    let m = told.mapping in
    let held = held_by (IsOnFile now.files.pages.journal.tables.files) handle now.files.mappings.mappings m told.is (serves.mounted on).mapped in
    let gone : inode_of m.name now.files.pages.journal.tables.files ≡ None = ap (λ (i : MapInfo). inode_of i.name now.files.pages.journal.tables.files) told.same ∙ sym none in
    let found = held.found in cc (gone, found)

-- what a second look tells of each file that the inode may be
pub looked_again : (r : Result (Unit {0}) FlushFault) (At : List File → File → Type 0) (found : List File → File → Option ℕ) (files : List File) (file : File) → At files file
    → OnOk (flushed r) ((files : List File) (file : File) → At files file → r ≡ verified (found files file)) → OnOk (flushed r) (r ≡ verified (found files file))
looked_again r At found files file at all = by_end (flushed r) all
  where
    by_end : (q : Result (Unit {0}) FlushFault) → OnOk q ((files : List File) (file : File) → At files file → r ≡ verified (found files file)) → OnOk q (r ≡ verified (found files file))
    by_end (Ok x) all = all files file at
    by_end (Err f) all = tt

-- where no look is taken, what is said of a flush is said of it
pub refused_once : (P : Type 0) (r : Result (Unit {0}) FlushFault) → flushed r ≡ r → OnRefused flush_says r P → OnRefused flush_says (flushed r) P
refused_once P r same said = subst (λ q. OnRefused flush_says q P) (sym same) said

pub ok_once : (P : Type 0) (r : Result (Unit {0}) FlushFault) → flushed r ≡ r → OnOk r P → OnOk (flushed r) P
ok_once P r same said = subst (λ q. OnOk q P) (sym same) said

pub worked_once : (P : Type 0) (r : Result (Unit {0}) FlushFault) → flushed r ≡ r → OnWorked flush_says r P → OnWorked flush_says (flushed r) P
worked_once P r same said = subst (λ q. OnWorked flush_says q P) (sym same) said

pub answers_once : (why : Option FlushRefusal) (r : Result (Unit {0}) FlushFault) → flushed r ≡ r → Answers flush_says why r → Answers flush_says why (flushed r)
answers_once why r same said = subst (Answers flush_says why) (sym same) said
