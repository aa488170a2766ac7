-- What the mappings tell of a mapping that they were asked for.
use Rattle.std.proofs.Common.{◌≡◌, ◌≢◌, ◌≤◌, ◌∙◌, ℕ, true, Option, Some, None, Result, Ok, Err, OnOk, OnErr, List, refl, sym, ap, subst, arith}
use Rattle.line_device.specs.Device.{Device}
use Rattle.line_device.specs.Medium.{WritesBack}
use Rattle.line_device.specs.Panel.{Runs}
use Rattle.line_device.specs.Panel.Outcome.{went}
use Rattle.line_words.specs.declared.interruption.Interruption.TheVariants.{Failed}
use Rattle.line_words.specs.Told.{Told, Answers, OnRefused, is_done, outcome_by, refusal_of, told_outcome}
use Rattle.line_words.specs.Told.Told.{Stops, Starves}
use Rattle.nvm_base.specs.declared.files.Kind.{Kind}
use Rattle.nvm_base.specs.declared.units.Span.{Span}
use Rattle.nvm_model.specs.Listing.{file_name, file_of}
use Rattle.nvm_model.specs.Mappings.{is_shared, new_mapping}
use Rattle.nvm_model.specs.Storage.{File}
use Rattle.file_journal.specs.Standing.{FilesStand}
use Rattle.file_pages.specs.Object.{PagesServe, PagesState}
use Rattle.mappings.specs.Costs.{map_calls}
use Rattle.mappings.specs.Object as mappings
use Rattle.mappings.specs.Object.{MappingsState}
use Rattle.mappings.specs.Refusals.{MapRefusal, map_refusal, map_says}
use Rattle.mappings.specs.Refusals.MapRefusal.{Missing, Handle as NoHandle, Range, Length, Limit, Poison}
use Rattle.mappings.specs.declared.fault.MapFault.{MapFault}
use Rattle.mappings.specs.declared.fault.MapFault.TheVariants as fault
use Rattle.reply_text.specs.Answer.{IsPrintable}
use Rattle.reply_text.specs.Room.{most_of}
use Rattle.machine_model.specs.Interrupted.{stop_in}
use Rattle.machine_model.specs.OnMappings.{map_answer}
use Rattle.machine_host.specs.Stands.{HostState}
use Rattle.machine_host.proofs.CallLemmas.{IsPart}

-- what a fault tells that was no want of memory
abbrev pub map_told : MapFault → Told MapRefusal
map_told fault.Missing = map_says fault.Missing
map_told fault.Handle = map_says fault.Handle
map_told fault.Range = map_says fault.Range
map_told fault.Length = map_says fault.Length
map_told fault.Limit = map_says fault.Limit
map_told (fault.Poison offset) = map_says (fault.Poison offset)
map_told fault.Device = map_says fault.Device
map_told fault.PowerLost = map_says fault.PowerLost
map_told fault.Memory = Stops Failed

-- one mapping more, of the file of that name
abbrev pub Makes : HostState → MappingsState → List ℕ → Span → Kind → Device → Type 0
Makes host ms name span kind old =
    (files : List File) (file : File) → FilesStand host.files.pages.journal.geo old.medium host.files.pages.journal.tables files → file_of file_name name files ≡ Some file
    → ms ≡ mappings.with_mapping (new_mapping host.files.mappings.next name span kind file.pages) host.files.mappings

-- What the mappings say of a mapping that they were asked for, and had memory for.
pub record MapCalled (host : HostState) (p : PagesState) (ms : MappingsState) (name : List ℕ) (span : Span) (kind : Kind) (r : Result ℕ MapFault) (says : MapFault → Told MapRefusal) (old new : Device) : Type 0 where
  pub refused : (files : List File) → FilesStand host.files.pages.journal.geo old.medium host.files.pages.journal.tables files → Answers says (map_refusal host.files.mappings files name span kind) r
  pub untouched : OnRefused says r ((p ≡ host.files.pages) × (new ≡ old))
  pub ok : OnOk r (Makes host ms name span kind old)
  pub err : OnErr r (ms ≡ host.files.mappings)
  pub lines : WritesBack old.medium new.medium
  pub serves : PagesServe p new.medium
  pub object : (p.journal ≡ host.files.pages.journal) × (p.settled ≡ is_done (outcome_by says r))
  pub runs : Runs (map_calls kind span) 0 (outcome_by says r) old.panel new.panel
  pub shown : is_shared kind ≡ true → outcome_by says r ≡ went

pub ok_told : (o : Option MapRefusal) (x : ℕ) → Answers {T = ℕ} map_says o (Ok x) → Answers {T = ℕ} map_told o (Ok x)
ok_told None x answers = tt
ok_told (Some w) x answers = absurd answers

pub told_same : (f : MapFault) → (f ≡ fault.Memory → ⊥) → map_told f ≡ map_says f
told_same fault.Missing fed = refl
told_same fault.Handle fed = refl
told_same fault.Range fed = refl
told_same fault.Length fed = refl
told_same fault.Limit fed = refl
told_same (fault.Poison offset) fed = refl
told_same fault.Device fed = refl
told_same fault.PowerLost fed = refl
told_same fault.Memory fed = absurd (fed refl)

pub err_told : (o : Option MapRefusal) (f : MapFault) → map_told f ≡ map_says f → Answers {T = ℕ} map_says o (Err f) → Answers {T = ℕ} map_told o (Err f)
err_told None f same answers = ap refusal_of same ∙ answers
err_told (Some w) f same answers = ap refusal_of same ∙ answers

pub on_ok_at : (P : Type 0) (r : Result ℕ MapFault) (x : ℕ) → r ≡ Ok x → OnOk r P → P
on_ok_at P r x is p = subst (λ (q : Result ℕ MapFault). OnOk q P) is p

-- the same as it is told where there was memory
pub map_called : (host : HostState) (p : PagesState) (ms : MappingsState) (name : List ℕ) (span : Span) (kind : Kind) (r : Result ℕ MapFault) (old new : Device) → r ≢ Err fault.Memory
    → MapCalled host p ms name span kind r map_says old new → MapCalled host p ms name span kind r map_told old new
map_called host p ms name span kind (Ok x) old new fed c = record { refused = λ files stand. ok_told (map_refusal host.files.mappings files name span kind) x (c.refused files stand); untouched = c.untouched; ok = c.ok; err = c.err; lines = c.lines; serves = c.serves; object = c.object; runs = c.runs; shown = c.shown }
map_called host p ms name span kind (Err f) old new fed c =
    let same = told_same f (λ is. fed (ap (λ g. Err g) is)) in
    record {
      refused = λ files stand. err_told (map_refusal host.files.mappings files name span kind) f same (c.refused files stand);
      untouched = subst (λ t. refusal_of t ≢ None → (p ≡ host.files.pages) × (new ≡ old)) (sym same) c.untouched;
      ok = tt;
      err = c.err;
      lines = c.lines;
      serves = c.serves;
      object = subst (λ t. (p.journal ≡ host.files.pages.journal) × (p.settled ≡ is_done (told_outcome t))) (sym same) c.object;
      runs = subst (λ t. Runs (map_calls kind span) 0 (told_outcome t) old.panel new.panel) (sym same) c.runs;
      shown = subst (λ t. is_shared kind ≡ true → told_outcome t ≡ went) (sym same) c.shown;
    }

-- its answers
pub told_fed : (f : MapFault) → map_told f ≡ Starves → ⊥
told_fed fault.Missing e = cc e
told_fed fault.Handle e = cc e
told_fed fault.Range e = cc e
told_fed fault.Length e = cc e
told_fed fault.Limit e = cc e
told_fed (fault.Poison offset) e = cc e
told_fed fault.Device e = cc e
told_fed fault.PowerLost e = cc e
told_fed fault.Memory e = cc e

pub map_part : (name : List ℕ) → IsPart map_told (map_answer name)
map_part name = record { printable = printable; quiet = quiet; short = most; fed = told_fed }
  where
    printable : (w : MapRefusal) → IsPrintable (map_answer name w)
    printable Missing = tt
    printable NoHandle = tt
    printable Range = tt
    printable Length = tt
    printable Limit = tt
    printable (Poison offset) = tt

    quiet : (w : MapRefusal) → stop_in (map_answer name w) ≡ None
    quiet Missing = refl
    quiet NoHandle = refl
    quiet Range = refl
    quiet Length = refl
    quiet Limit = refl
    quiet (Poison offset) = refl

    most : (w : MapRefusal) → most_of (map_answer name w) ≤ 72
    most Missing = omega arith
    most NoHandle = omega arith
    most Range = omega arith
    most Length = omega arith
    most Limit = omega arith
    most (Poison offset) = omega arith
