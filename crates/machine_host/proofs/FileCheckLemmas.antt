-- What a look at the bad lines of a file comes to.
use Rattle.std.proofs.Common.{◌≡◌, ◌+◌, ◌*◌, ◌/◌, ◌<◌, ◌≤◌, ◌∙◌, ℕ, zero, suc, Bool, true, false, cond, Option, Some, None, option_map, Ok, Err, List, [], ◌∷◌, length, min, nat_lt, refl, sym, ap, subst, arith, if◌then◌else◌, ◌==◌}
use Rattle.std.specs.List.{filter, range_with_len}
use Rattle.std.proofs.lemmas.List.{length-map}
use Rattle.line_device.specs.Device.{Device}
use Rattle.line_words.specs.Told.{Told, Answers, refusal_of}
use Rattle.line_words.specs.Told.Told.{Refuses, Starves, Stops}
use Rattle.nvm_base.specs.Units.{units_of}
use Rattle.nvm_base.specs.declared.units.Span.{Span}
use Rattle.inode_table.specs.Slots.{inode_of}
use Rattle.inode_table.proofs.SlotLemmas.{found_is_named}
use Rattle.nvm_model.specs.Blocks.{first_there}
use Rattle.nvm_model.specs.Events.{offsets_of}
use Rattle.nvm_model.specs.Page.{Page, cell_of, is_bad_cell}
use Rattle.nvm_model.specs.Storage.{File}
use Rattle.nvm_model.specs.Touched.{bad_touched}
use Rattle.file_journal.specs.Device.{device_files}
use Rattle.file_journal.proofs.DeviceFileLemmas.{device_files-stand}
use Rattle.file_journal.proofs.ReplaceLemmas.{pages_at_most}
use Rattle.file_pages.specs.Object.{IsFileAt}
use Rattle.file_pages.proofs.FoundLemmas.{FoundFile, file-found}
use Rattle.marked_lines.specs.Spans.{SpanRefusal, lines_says, span_refusal}
use Rattle.marked_lines.specs.Spans.SpanRefusal.{Range, Length}
use Rattle.marked_lines.specs.declared.fault.LinesFault.{LinesFault}
use Rattle.marked_lines.proofs.FoundLemmas.{bad_touched-among}
use Rattle.reply_text.specs.declared.reply.Why.{Why}
use Rattle.reply_text.specs.declared.reply.Why.TheVariants as because
use Rattle.reply_text.specs.Answer.Answer.{BadLines, Refused}
use Rattle.reply_text.specs.Room.{most_of}
use Rattle.script_text.specs.Action.{Action}
use Rattle.script_text.specs.Action.Action.{CheckFile}
use Rattle.machine_model.specs.declared.mode.Mode.TheVariants.{On}
use Rattle.machine_model.specs.Commands.{fate, longest, unless_refused}
use Rattle.machine_model.specs.Machine.{Machine}
use Rattle.machine_model.specs.Machine.Fate.{Gives}
use Rattle.machine_model.specs.Meaning.{span_refusal as span_refusal_of}
use Rattle.machine_model.specs.OnPages.{pages_named}
use Rattle.machine_host.specs.Responding.{Answered}
use Rattle.machine_host.specs.Stands.{Comes, HostServes, HostState, Stands}
use Rattle.machine_host.proofs.ExistsLemmas.{same_state}
use Rattle.machine_host.proofs.FileErrorLemmas.{fate_of_file, file_is, pages_seen}
use Rattle.machine_host.proofs.FilePageLemmas.{right_now}
use Rattle.machine_model.proofs.RefusalLemmas.{span_allowed}
use Rattle.line_device.proofs.WriteBackLemmas.{write_back-refl}
use Rattle.machine_host.proofs.KeepLemmas.{left_all}

-- how a refusal of a span is answered
abbrev pub span_answer : SpanRefusal → Why
span_answer Range = because.Range
span_answer Length = because.Length

same_refusal : (pages offset len : ℕ) → span_refusal_of (4096 * pages) offset len ≡ option_map span_answer (span_refusal pages (record { start = offset; len = len }))
same_refusal pages offset len = by_tests (nat_lt (4096 * pages) (offset + len)) (len == 0)
  where
    by_tests : (past empty : Bool) → (if past then Some because.Range else (if empty then Some because.Length else None))
        ≡ option_map span_answer (first_there (if past then Some Range else None) (if empty then Some Length else None))
    by_tests true empty = refl
    by_tests false true = refl
    by_tests false false = refl

-- no more bad lines than lines
few_pass : (test : ℕ → Bool) (start len : ℕ) → length (filter test (range_with_len start len)) ≤ len
few_pass test start zero = omega arith
few_pass test start (suc len) = by_test (test start) (few_pass test (start + 1) len)
  where
    by_test : (b : Bool) → length (filter test (range_with_len (start + 1) len)) ≤ len → length (cond b (start ∷ filter test (range_with_len (start + 1) len)) (filter test (range_with_len (start + 1) len))) ≤ suc len
    by_test true few = omega (arith, few)
    by_test false few = omega (arith, few)

few_bad : (span : Span) (pages : List Page) → 1 ≤ span.len → span.start + span.len ≤ 4096 * length pages → length pages ≤ 256
    → length (offsets_of (bad_touched (span ∷ []) pages)) ≤ min (span.len / 64 + 2) 16384
few_bad span pages some within few =
    let lines = (units_of 64 span).len in
    let bad : ℕ → Bool = λ n. is_bad_cell (cell_of pages n) in
    let count : length (offsets_of (bad_touched (span ∷ []) pages)) ≤ lines =
    subst (λ n. n ≤ lines) (sym (length-map (bad_touched (span ∷ []) pages) (λ (n : ℕ). 64 * n) ∙ ap length (bad_touched-among span pages some within))) (few_pass bad (units_of 64 span).start lines) in
    let most : lines ≤ 16384 = omega (arith, some, within, few) in
    let near : lines ≤ span.len / 64 + 2 = omega (arith, some) in
    omega (arith, count, most, near)

-- where a span is refused or allowed
answers_refused : (T : Type 0) (why : Option SpanRefusal) (f : LinesFault) (w : SpanRefusal) → lines_says f ≡ Refuses w → Answers {T = T} lines_says why (Err f) → why ≡ Some w
answers_refused T None f w is refused = absurd (no_stop (lines_says f) is refused)
  where
    no_stop : (t : Told SpanRefusal) → t ≡ Refuses w → refusal_of t ≡ None → ⊥
    no_stop (Refuses v) is none = cc none
    no_stop (Stops by) is none = cc is
    no_stop Starves is none = cc is
answers_refused T (Some v) f w is refused = sym refused ∙ ap refusal_of is

-- a span that is not refused
allowed : (pages offset len : ℕ) → span_refusal pages (record { start = offset; len = len }) ≡ None → (1 ≤ len) × (offset + len ≤ 4096 * pages)
allowed pages offset len none = span_allowed (4096 * pages) offset len (same_refusal pages offset len ∙ ap (option_map span_answer) none)

-- Of a host behind a reference: `host` is what is inside `now`.
module _ (now host : HostState) (d : Device) (inside : host ≡ now) (on : now.mode ≡ On) (serves : HostServes now d) (name : List ℕ) (inode : ℕ) (within : inode < 64) (here : inode_of name host.files.pages.journal.tables.files ≡ Some inode) (span : Span) where
  abbrev action : Action
  action = CheckFile name span.start span.len

  -- what comes of it, as the file's pages have it
  fate_check : (h : Machine) (stands : Stands now d h) (pages : List Page) → pages_named name h.files ≡ pages → (why : Option SpanRefusal) → span_refusal (length pages) span ≡ why
      → fate h action ≡ unless_refused h (option_map Refused (option_map span_answer why)) (Gives (BadLines (offsets_of (bad_touched (span ∷ []) pages))) h)
  fate_check h stands pages named why is =
      fate_of_file now host d inside on serves name inode here h stands action (option_map Refused (span_refusal_of (4096 * length (pages_named name h.files)) span.start span.len)) refl refl
      ∙ ap (λ (p : List Page). unless_refused h (option_map Refused (span_refusal_of (4096 * length p) span.start span.len)) (Gives (BadLines (offsets_of (bad_touched (span ∷ []) p))) h)) named
      ∙ ap (λ (o : Option Why). unless_refused h (option_map Refused o) (Gives (BadLines (offsets_of (bad_touched (span ∷ []) pages))) h)) (same_refusal (length pages) span.start span.len ∙ ap (option_map span_answer) is)

  pub check_done : {T : Type 0} (x : T) (lines : List ℕ)
      → ((files : List File) (file : File) → IsFileAt host.files.pages.journal d.medium inode files file → Answers lines_says (span_refusal (length file.pages) span) (Ok x))
      → ((files : List File) (file : File) → IsFileAt host.files.pages.journal d.medium inode files file → lines ≡ offsets_of (bad_touched (span ∷ []) file.pages)) → Answered action (BadLines lines) now now d d
  check_done x lines refused is = record {
    step = λ h stands.
        let found = file_is now host d inside on serves name inode here h stands in
        subst (λ (l : List ℕ). Comes h action (fate h action) (BadLines l) now d d) (sym (is h.files found.file found.at))
        (subst (λ f. Comes h action f (BadLines (offsets_of (bad_touched (span ∷ []) found.file.pages))) now d d)
        (sym (fate_check h stands found.file.pages (pages_seen now host d inside on serves name inode here h stands) None (not_refused x (span_refusal (length found.file.pages) span) (refused h.files found.file found.at))))
        (same_state now d h action (BadLines (offsets_of (bad_touched (span ∷ []) found.file.pages))) refl stands));
    keeps = write_back-refl d.medium;
    printable = tt;
    room = few lines refused is;
    serves = serves;
  }
    where
      not_refused : {T : Type 0} (x : T) (why : Option SpanRefusal) → Answers lines_says why (Ok x) → why ≡ None
      not_refused x None refused = refl
      not_refused x (Some w) refused = absurd refused

      -- the files of the device
      files_here : List File
      files_here = device_files host.files.pages.journal.geo d.medium host.files.pages.journal.tables

      found_here : FoundFile host.files.pages.journal d.medium inode name files_here
      found_here =
          file-found host.files.pages.journal d.medium (right_now now host d inside on serves) name files_here (device_files-stand host.files.pages.journal.geo d.medium host.files.pages.journal.tables) inode
          (found_is_named name host.files.pages.journal.tables.files inode here)

      few : (lines : List ℕ)
          → ((files : List File) (file : File) → IsFileAt host.files.pages.journal d.medium inode files file → Answers lines_says (span_refusal (length file.pages) span) (Ok x))
          → ((files : List File) (file : File) → IsFileAt host.files.pages.journal d.medium inode files file → lines ≡ offsets_of (bad_touched (span ∷ []) file.pages)) → most_of (BadLines lines) ≤ longest action
      few lines refused is =
          let file = found_here.file in
          let right = allowed (length file.pages) span.start span.len (not_refused x (span_refusal (length file.pages) span) (refused files_here file found_here.at)) in
          let most : length file.pages ≤ 256 = subst (λ n. n ≤ 256) (sym found_here.size) (pages_at_most host.files.pages.journal.tables.files inode (right_now now host d inside on serves).names within) in
          let count = few_bad span file.pages right.0 right.1 most in
          let size : length lines ≤ min (span.len / 64 + 2) 16384 = subst (λ (l : List ℕ). length l ≤ min (span.len / 64 + 2) 16384) (sym (is files_here file found_here.at)) count in
          omega (arith, size)

  pub check_refused : (T : Type 0) (f : LinesFault) (w : SpanRefusal) → lines_says f ≡ Refuses w
      → ((files : List File) (file : File) → IsFileAt host.files.pages.journal d.medium inode files file → Answers {T = T} lines_says (span_refusal (length file.pages) span) (Err f))
      → Answered action (Refused (span_answer w)) now now d d
  check_refused T f w says refused = record {
    step = λ h stands.
        let found = file_is now host d inside on serves name inode here h stands in
        subst (λ x. Comes h action x (Refused (span_answer w)) now d d)
        (sym (fate_check h stands found.file.pages (pages_seen now host d inside on serves name inode here h stands) (Some w) (answers_refused T (span_refusal (length found.file.pages) span) f w says (refused h.files found.file found.at))))
        (same_state now d h action (Refused (span_answer w)) refl stands);
    keeps = left_all now d;
    printable = tt;
    room = omega arith;
    serves = serves;
  }
