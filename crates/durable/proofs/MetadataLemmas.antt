-- Which lines of metadata are bad after a run.
use Rattle.std.proofs.Common.{◌≡◌, ◌⊎◌, inl, inr, ℕ, zero, suc, ◌==◌, Bool, true, false, cond, nat_lt, Option, Some, None, List, [], ◌∷◌, ◌++◌, refl, sym, ap, subst, ◌∙◌, arith}
use Rattle.std.specs.List.{Contains}
use Rattle.std.proofs.lemmas.Bool.{both_ways}
use Rattle.line_device.specs.Panel.{Image}
use Rattle.word_tables.specs.declared.geometry.Geometry.{Geometry}
use Rattle.reply_text.specs.Answer.{Answer}
use Rattle.reply_text.specs.Answer.Answer.{Done, Stopped as StoppedMeta}
use Rattle.std.specs.Prelude.{◌≢◌}
use Rattle.line_words.specs.declared.interruption.Interruption.{Interruption}
use Rattle.line_words.specs.declared.interruption.Interruption.TheVariants.{Failed, PowerLost as Lost}
use Rattle.machine_model.specs.Interrupted.{interrupted_answer}
use Rattle.machine_model.specs.OnVolume.{yes_or_no}
use Rattle.machine_model.specs.declared.look.Look.{Look}
use Rattle.machine_model.specs.declared.look.Look.TheVariants.{Once, Again}
use Rattle.machine_model.specs.OnFlushes.{flushed_answer}
use Rattle.machine_model.specs.OnEvents.{told_event}
use Rattle.machine_model.specs.OnPages.{pages_named}
use Rattle.nvm_base.specs.declared.units.Span.{Span}
use Rattle.nvm_model.specs.Page.{Page}
use Rattle.nvm_model.specs.Storage.{Event, Mapping}
use Rattle.nvm_model.specs.Touched.{next_bad_touched, persist_spans}
use Rattle.machine_model.specs.declared.mode.Mode.TheVariants.{Stopped}
use Rattle.script_text.specs.Action.{Action}
use Rattle.script_text.specs.Action.Action.{BExists, VRanges, VExists, ListFiles, Load, Map, Sync, Flush, FlushVerify, DeepFlush, NextEvent, CheckFile, PoisonBlock, PoisonVolume, PoisonFile, PoisonMeta, WeakenFile, WeakenVolume, Cut, CutIn, FailIn, Restart, Recover, Attr, Evict, Store, Unmap}
use Rattle.script_text.specs.Script.{Input}
use Rattle.script_text.specs.Script.Input.{Skipped, Malformed, Overlong, Asked}
use Rattle.machine_model.specs.Machine.{Machine, Fate}
use Rattle.machine_model.specs.Machine.Fate.{Gives, Works, Orders, Cuts, Restarts, Recovers}
use Rattle.machine_model.specs.Commands.{fate, meaning, refusal, unless_refused}
use Rattle.machine_model.specs.Lines.{bad_metadata, lowest}
use Rattle.machine_model.specs.OnMedia.{with_line}
use Rattle.machine_model.specs.OnAttributes.{told_value}
use Rattle.attributes.specs.Attributes.{attribute}
use Rattle.machine_model.specs.Restarting.{mounted_answer, read_with, reading, restarted}
use Rattle.machine_model.specs.Recovering.{RecoversTo}
use Rattle.machine_model.specs.Run.{Hears, Run, Takes, Transcript}
use Rattle.durable.specs.Place.{Place}
use Rattle.durable.specs.Place.Place.{of_volume, of_blocks, of_file}
use Rattle.durable.specs.Touching.{is_begun, unmounts}
use Rattle.durable.specs.Durable.{HasNothing, IsDone, Spares}
use Rattle.durable.specs.Mapped.{Begun, but_for_copies, commands_begun, mappings_then}
use Rattle.durable.proofs.MappedLemmas.{begun_on, none-asked}
use Rattle.durable.proofs.HandleLemmas.{flush_done, of_flush, of_load, of_map, of_store}
use Rattle.durable.proofs.RefusalLemmas.{refused_told}
use Rattle.durable.proofs.RefusedAnswerLemmas.{is_refused}

-- a command that made a line of metadata bad
record Poisoned (h : Machine) (action : Action) (answer : Answer) (next : Machine) : Type 0 where
  line : ℕ
  is : action ≡ PoisonMeta line
  done : answer ≡ Done
  metadata : next.bad_meta ≡ with_line line h.bad_meta

-- the same lines are bad, or it made one bad
abbrev Marks : Machine → Action → Answer → Machine → Type 0
Marks h action answer next = (next.bad_meta ≡ h.bad_meta) ⊎ Poisoned h action answer next

-- what comes of a command that is not refused
abbrev MarksAt : Machine → Action → Fate → Type 0
MarksAt h action (Gives good to) = Marks h action good to
MarksAt h action (Works good to) = to.bad_meta ≡ h.bad_meta
MarksAt h action (Orders order to) = to.bad_meta ≡ h.bad_meta
MarksAt h action (Cuts to) = to.bad_meta ≡ h.bad_meta
MarksAt h action (Restarts choice) = Unit {0}
MarksAt h action Recovers = Unit {0}

marks : (h : Machine) (action : Action) → MarksAt h action ((meaning action).comes h)
marks h (BExists block) = inl refl
marks h VRanges = inl refl
marks h (VExists page) = inl refl
marks h ListFiles = inl refl
marks h (Map name span kind) = of_map (MarksAt h (Map name span kind)) h name span kind (inl refl) refl
marks h (Unmap handle) = inl refl
marks h (Load handle offset len) = of_load (MarksAt h (Load handle offset len)) h handle offset len (inl refl) (λ name place. refl) (λ m. inl refl)
marks h (Store handle offset bytes) = of_store (MarksAt h (Store handle offset bytes)) h handle offset bytes (inl refl) (λ name place. refl) (inl refl)
marks h (Sync handle offset len) =
    of_flush (MarksAt h (Sync handle offset len)) h Once handle (record { start = offset; len = len } ∷ []) (inl refl) (λ name moved. refl)
marks h (Flush handle spans) = of_flush (MarksAt h (Flush handle spans)) h Once handle spans (inl refl) (λ name moved. refl)
marks h (FlushVerify handle spans) = of_flush (MarksAt h (FlushVerify handle spans)) h Again handle spans (inl refl) (λ name moved. refl)
marks h (DeepFlush handle spans) = of_flush (MarksAt h (DeepFlush handle spans)) h Once handle spans (inl refl) (λ name moved. refl)
marks h NextEvent = inl refl
marks h (CheckFile name offset len) = inl refl
marks h (PoisonBlock block line) = inl refl
marks h (PoisonVolume offset) = inl refl
marks h (PoisonFile name offset) = inl refl
marks h (PoisonMeta line) = inr (record { line = line; is = refl; done = refl; metadata = refl })
marks h (WeakenFile name offset) = inl refl
marks h (WeakenVolume offset) = inl refl
marks h (Attr name) = inl refl
marks h (Restart choice) = tt
marks h Recover = tt
marks h action = refl

-- a mount finds those that are bad
read-metadata : (geo : Geometry) (image : Image) → (reading geo image).bad_meta ≡ bad_metadata geo image.is_bad
unfolding reading
read-metadata geo image = by_list (bad_metadata geo image.is_bad)
  where
    by_list : (bad : List ℕ) → (read_with bad geo image).bad_meta ≡ bad
    by_list [] = refl
    by_list (line ∷ lines) = refl

recovered-metadata : (h next : Machine) (bad : List ℕ) → RecoversTo bad h next → next.bad_meta ≡ bad
recovered-metadata h next [] to = ap (λ m. m.bad_meta) to.state
recovered-metadata h next (line ∷ lines) to = ap (λ m. m.bad_meta) to

-- what a command does to them, and its answer
record Marked (h : Machine) (action : Action) (said : Transcript) (next : Machine) : Type 0 where
  answer : Answer
  answers : said.answers ≡ answer ∷ []
  marks : Marks h action answer next

by_fate : (h : Machine) (action : Action) (f : Fate) (said : Transcript) (next : Machine) → MarksAt h action f → Takes h action f said next → Marked h action said next
by_fate h action (Gives good to) said next at takes = record {
  answer = good;
  answers = ap (λ s. s.answers) takes.0;
  marks = elim at as (λ _. Marks h action good next) [
    | inl same ↦ inl (ap (λ m. m.bad_meta) takes.1 ∙ same)
    | inr line ↦ inr (record { line = line.line; is = line.is; done = line.done; metadata = ap (λ m. m.bad_meta) takes.1 ∙ line.metadata })
  ];
}
by_fate h action (Works good to) said next same takes = record {
  answer = takes.0;
  answers = ap (λ s. s.answers) takes.1;
  marks = inl (elim takes.2 as (λ _. next.bad_meta ≡ h.bad_meta) [ inl end ↦ ap (λ m. m.bad_meta) end.1 ∙ same | inr end ↦ ap (λ m. m.bad_meta) end.2.state ]);
}
by_fate h action (Orders order to) said next same takes =
    record { answer = Done; answers = ap (λ s. s.answers) takes.0; marks = inl (ap (λ m. m.bad_meta) takes.1 ∙ same) }
by_fate h action (Cuts to) said next same takes =
    record { answer = Done; answers = ap (λ s. s.answers) takes.0; marks = inl (ap (λ m. m.bad_meta) takes.1 ∙ same) }
by_fate h action (Restarts choice) said next same takes =
    let found = read-metadata h.geometry takes.0.image ∙ takes.4.metadata in
    record {
      answer = takes.1;
      answers = ap (λ s. s.answers) takes.2;
      marks = inl (elim takes.5 as (λ _. next.bad_meta ≡ h.bad_meta) [ inl end ↦ ap (λ m. m.bad_meta) end.1 ∙ found | inr end ↦ ap (λ m. m.bad_meta) end.2.state ∙ found ]);
    }
by_fate h action Recovers said next same takes = record {
  answer = takes.0;
  answers = ap (λ s. s.answers) takes.1;
  marks = inl (elim takes.2 as (λ _. next.bad_meta ≡ h.bad_meta) [ inl end ↦ recovered-metadata h next h.bad_meta end.1 | inr end ↦ ap (λ m. m.bad_meta) end.2.state ]);
}

marked : (h : Machine) (action : Action) (said : Transcript) (next : Machine) → Takes h action (fate h action) said next → Marked h action said next
marked h action said next = by_refusal (refusal h action)
  where
    by_refusal : (o : Option Answer) → Takes h action (unless_refused h o ((meaning action).comes h)) said next → Marked h action said next
    by_refusal None takes = by_fate h action ((meaning action).comes h) said next (marks h action) takes
    by_refusal (Some answer) takes = record { answer = answer; answers = ap (λ s. s.answers) takes.0; marks = inl (ap (λ m. m.bad_meta) takes.1) }

-- a command that made one bad unmounts all, and was begun
poisoned_all : (line : ℕ) (x : Place) → unmounts (PoisonMeta line) x ≡ true
poisoned_all line (of_volume i) = refl
poisoned_all line (of_blocks i) = refl
poisoned_all line (of_file name i) = refl

same_heard : (h next : Machine) (input : Input) (inputs : List Input) (mappings : List Mapping) (said : Transcript) (answers : List Answer) (x : Place) → Hears h input said next
    → Spares (λ ms. unmounts) x (begun_on mappings (input ∷ inputs) (said.answers ++ answers))
    → (next.bad_meta ≡ h.bad_meta) × ((told : List Mapping) × Spares (λ ms. unmounts) x (begun_on told inputs answers))
same_heard h next Skipped inputs mappings said answers x heard spares =
    (ap (λ m. m.bad_meta) heard.1, (mappings, subst (λ (s : Transcript). Spares (λ ms. unmounts) x (begun_on mappings inputs (s.answers ++ answers))) heard.0 spares))
same_heard h next Malformed inputs mappings said answers x heard spares =
    (ap (λ m. m.bad_meta) heard.1, (mappings, subst (λ (s : Transcript). Spares (λ ms. unmounts) x (begun_on mappings (Malformed ∷ inputs) (s.answers ++ answers))) heard.0 spares))
same_heard h next Overlong inputs mappings said answers x heard spares =
    (ap (λ m. m.bad_meta) heard.1, (mappings, subst (λ (s : Transcript). Spares (λ ms. unmounts) x (begun_on mappings (Overlong ∷ inputs) (s.answers ++ answers))) heard.0 spares))
same_heard h next (Asked action) inputs mappings said answers x heard spares =
    let mark = marked h action said next heard in
    let each = none-asked (λ (c : Begun). unmounts c.action x) mappings action inputs said mark.answer answers mark.answers spares in (
      elim mark.marks as (λ _. next.bad_meta ≡ h.bad_meta) [
        | inl same ↦ same
        | inr line ↦ absurd (both_ways (unmounts action x) (each.0 (ap is_begun line.done)) (ap (λ a. unmounts a x) line.is ∙ poisoned_all line.line x))
      ],
      (mappings_then mappings action mark.answer, each.1),
    )

same_run : (h later : Machine) (x : Place) (inputs : List Input) (mappings : List Mapping) (said : Transcript) → Run h inputs said later
    → Spares (λ ms. unmounts) x (begun_on mappings inputs said.answers) → later.bad_meta ≡ h.bad_meta
same_run h later x [] mappings said run spares = ap (λ m. m.bad_meta) run.1
same_run h later x (input ∷ inputs) mappings said run spares =
    let split = subst (λ (s : Transcript). Spares (λ ms. unmounts) x (begun_on mappings (input ∷ inputs) s.answers)) run.3 spares in
    let first = same_heard h run.2 input inputs mappings run.0 run.1.answers x run.4 split in same_run run.2 later x inputs first.1.0 run.1 run.5 first.1.1 ∙ first.0

pub same_metadata : (h later : Machine) (x : Place) (inputs : List Input) (said : Transcript) → Run h inputs said later
    → Spares (λ ms. unmounts) x (commands_begun h.mappings inputs said.answers) → later.bad_meta ≡ h.bad_meta
same_metadata h later x inputs said run spares = same_run h later x inputs (but_for_copies h.mappings) said run spares

-- those that are bad stay so
contains-first : (x : ℕ) (xs : List ℕ) → Contains (x ∷ xs) x
contains-first x xs = (0, omega arith, refl)

contains-next : (y x : ℕ) (xs : List ℕ) → Contains xs x → Contains (y ∷ xs) x
contains-next y x xs has = (suc has.0, omega (arith, has.1), has.2)

pub contains-parts : (y x : ℕ) (xs : List ℕ) → Contains (y ∷ xs) x → (y ≡ x) ⊎ Contains xs x
contains-parts y x xs (zero, small, is) = inl is
contains-parts y x xs (suc k, small, is) = inr (k, omega (arith, small), is)

contains-with_line : (line x : ℕ) (lines : List ℕ) → Contains lines x → Contains (with_line line lines) x
contains-with_line line x [] has = absurd (omega (arith, has.1))
contains-with_line line x (next ∷ lines) has = by_order (contains-with_line line x lines) (nat_lt line next) (line == next)
  where
    by_order : (Contains lines x → Contains (with_line line lines) x) → (less same : Bool) → Contains (cond less (line ∷ next ∷ lines) (cond same (next ∷ lines) (next ∷ with_line line lines))) x
    by_order rest true same = contains-next line x (next ∷ lines) has
    by_order rest false true = has
    by_order rest false false = elim (contains-parts next x lines has) as (λ _. Contains (next ∷ with_line line lines) x) [
      | inl is ↦ subst (λ n. Contains (n ∷ with_line line lines) x) (sym is) (contains-first x (with_line line lines))
      | inr more ↦ contains-next next x (with_line line lines) (rest more)
    ]

contains_heard : (line : ℕ) (h next : Machine) (input : Input) (said : Transcript) → Contains h.bad_meta line → Hears h input said next → Contains next.bad_meta line
contains_heard line h next Skipped said has heard = subst (λ (m : Machine). Contains m.bad_meta line) (sym heard.1) has
contains_heard line h next Malformed said has heard = subst (λ (m : Machine). Contains m.bad_meta line) (sym heard.1) has
contains_heard line h next Overlong said has heard = subst (λ (m : Machine). Contains m.bad_meta line) (sym heard.1) has
contains_heard line h next (Asked action) said has heard =
    elim (marked h action said next heard).marks as (λ _. Contains next.bad_meta line) [
      | inl same ↦ subst (λ bad. Contains bad line) (sym same) has
      | inr more ↦ subst (λ bad. Contains bad line) (sym more.metadata) (contains-with_line more.line line h.bad_meta has)
    ]

pub still_bad : (h later : Machine) (line : ℕ) (inputs : List Input) (said : Transcript) → Run h inputs said later → Contains h.bad_meta line → Contains later.bad_meta line
still_bad h later line [] said run has = subst (λ (m : Machine). Contains m.bad_meta line) (sym run.1) has
still_bad h later line (input ∷ inputs) said run has = still_bad run.2 later line inputs run.1 run.5 (contains_heard line h run.2 input run.0 has run.4)

-- what a mount that was stopped leaves
abbrev StopsAt : ℕ → Machine → Type 0
StopsAt line m = HasNothing m × (m.mode ≡ Stopped) × (line ≡ lowest m.bad_meta)

-- no other command is answered so
abbrev NoStop : Fate → Type 0
NoStop (Gives good to) = (line : ℕ) → good ≢ StoppedMeta line
NoStop (Works good to) = (line : ℕ) → good ≢ StoppedMeta line
NoStop (Orders order to) = Unit {0}
NoStop (Cuts to) = Unit {0}
NoStop (Restarts choice) = Unit {0}
NoStop Recovers = Unit {0}

yes_or_no-stop : (there : Bool) (line : ℕ) → yes_or_no there ≢ StoppedMeta line
yes_or_no-stop true line is = cc is
yes_or_no-stop false line is = cc is

-- nor one that was done
done-stop : (answer : Answer) → IsDone answer → (line : ℕ) → answer ≢ StoppedMeta line
done-stop answer (inl done) line is = cc (done, is)
done-stop answer (inr done) line is = cc (done.2, is)

flush-stop : (look : Look) (name : List ℕ) (spans : List Span) (pages : List Page) (line : ℕ) → flushed_answer look name spans pages ≢ StoppedMeta line
flush-stop look name spans pages = done-stop (flushed_answer look name spans pages) (flush_done look name (next_bad_touched spans (persist_spans spans pages) 0))

told-stop : (events : List Event) (line : ℕ) → told_event events ≢ StoppedMeta line
told-stop [] line is = cc is
told-stop (event ∷ events) line is = cc is

value-stop : (o : Option ℕ) (line : ℕ) → told_value o ≢ StoppedMeta line
value-stop None line is = cc is
value-stop (Some value) line is = cc is

no_stop : (h : Machine) (action : Action) → NoStop ((meaning action).comes h)
no_stop h (BExists block) = yes_or_no-stop _
no_stop h (VExists page) = yes_or_no-stop _
no_stop h Cut = tt
no_stop h (CutIn calls) = tt
no_stop h (FailIn calls) = tt
no_stop h (Restart choice) = tt
no_stop h Recover = tt
no_stop h (Attr name) = value-stop (attribute name h.geometry h.unit)
no_stop h (Evict lines) = tt
no_stop h (Map name span kind) = of_map NoStop h name span kind (λ line is. cc is) (λ line is. cc is)
no_stop h (Load handle offset len) = of_load NoStop h handle offset len (λ line is. cc is) (λ name place line is. cc is) (λ m line is. cc is)
no_stop h (Store handle offset bytes) = of_store NoStop h handle offset bytes (λ line is. cc is) (λ name place line is. cc is) (λ line is. cc is)
no_stop h (Sync handle offset len) =
    of_flush NoStop h Once handle (record { start = offset; len = len } ∷ []) (λ line is. cc is) (λ name moved. flush-stop Once name moved (pages_named name h.files))
no_stop h (Flush handle spans) = of_flush NoStop h Once handle spans (λ line is. cc is) (λ name moved. flush-stop Once name moved (pages_named name h.files))
no_stop h (FlushVerify handle spans) = of_flush NoStop h Again handle spans (λ line is. cc is) (λ name moved. flush-stop Again name moved (pages_named name h.files))
no_stop h (DeepFlush handle spans) = of_flush NoStop h Once handle spans (λ line is. cc is) (λ name moved. flush-stop Once name moved (pages_named name h.files))
no_stop h NextEvent = told-stop h.events
no_stop h action = λ line is. cc is

stop-interrupted : (by : Interruption) (line : ℕ) → interrupted_answer by ≢ StoppedMeta line
stop-interrupted Failed line is = cc is
stop-interrupted Lost line is = cc is

stop-restarted : (h : Machine) (image : Image) (line : ℕ) → mounted_answer (restarted h image) ≡ StoppedMeta line → StopsAt line (restarted h image)
unfolding reading
stop-restarted h image line = by_list (bad_metadata h.geometry image.is_bad)
  where
    by_list : (bad : List ℕ) → mounted_answer (record (read_with bad h.geometry image) { unit = image.unit; cut_armed = h.cut_armed; fail_armed = h.fail_armed }) ≡ StoppedMeta line
        → StopsAt line (record (read_with bad h.geometry image) { unit = image.unit; cut_armed = h.cut_armed; fail_armed = h.fail_armed })
    by_list [] is = cc is
    by_list (first ∷ lines) is = (record { metadata = λ none. cc none; mode = λ on. cc on; blocks = refl; volume = refl; files = refl }, refl, cc is)

stop-recovered : (h next : Machine) (line : ℕ) (bad : List ℕ) → RecoversTo bad h next → mounted_answer next ≡ StoppedMeta line → StopsAt line next
stop-recovered h next line [] to is = cc (is, ap mounted_answer to.state)
stop-recovered h next line (first ∷ lines) to is = (
  record {
    metadata = λ none. cc (none, ap (λ m. m.bad_meta) to);
    mode = λ on. cc (on, ap (λ m. m.mode) to);
    blocks = ap (λ m. m.blocks) to;
    volume = ap (λ m. m.volume) to;
    files = ap (λ m. m.files) to;
  },
  ap (λ m. m.mode) to,
  cc (is, ap mounted_answer to, ap (λ (m : Machine). lowest m.bad_meta) to),
)

stop_by : (h : Machine) (action : Action) (f : Fate) (line : ℕ) (said : Transcript) (next : Machine) → NoStop f → Takes h action f said next
    → said.answers ≡ StoppedMeta line ∷ [] → StopsAt line next
stop_by h action (Gives good to) line said next none takes told = absurd (none line (cc (ap (λ s. s.answers) takes.0, told)))
stop_by h action (Works good to) line said next none takes told =
    let same : takes.0 ≡ StoppedMeta line = cc (ap (λ s. s.answers) takes.1, told) in
    elim takes.2 as (λ _. StopsAt line next) [
      | inl end ↦ absurd (none line (sym end.0 ∙ same))
      | inr end ↦ absurd (stop-interrupted end.0 line (sym end.1 ∙ same))
    ]
stop_by h action (Orders order to) line said next none takes told = cc (ap (λ s. s.answers) takes.0, told)
stop_by h action (Cuts to) line said next none takes told = cc (ap (λ s. s.answers) takes.0, told)
stop_by h action (Restarts choice) line said next none takes told =
    let same : takes.1 ≡ StoppedMeta line = cc (ap (λ s. s.answers) takes.2, told) in
    elim takes.5 as (λ _. StopsAt line next) [
      | inl end ↦ subst (StopsAt line) (sym end.1) (stop-restarted h takes.0.image line (sym end.0 ∙ same))
      | inr end ↦ absurd (stop-interrupted end.0 line (sym end.1 ∙ same))
    ]
stop_by h action Recovers line said next none takes told =
    let same : takes.0 ≡ StoppedMeta line = cc (ap (λ s. s.answers) takes.1, told) in
    elim takes.2 as (λ _. StopsAt line next) [
      | inl end ↦ stop-recovered h next line h.bad_meta end.1 (sym end.0 ∙ same)
      | inr end ↦ absurd (stop-interrupted end.0 line (sym end.1 ∙ same))
    ]

pub stopped_at : (h next : Machine) (action : Action) (line : ℕ) (said : Transcript) → Hears h (Asked action) said next → said.answers ≡ StoppedMeta line ∷ []
    → HasNothing next × (next.mode ≡ Stopped) × (line ≡ lowest next.bad_meta)
stopped_at h next action line said heard told = by_refusal (refusal h action) refl heard
  where
    by_refusal : (o : Option Answer) → refusal h action ≡ o → Takes h action (unless_refused h o ((meaning action).comes h)) said next → StopsAt line next
    by_refusal None is takes = stop_by h action ((meaning action).comes h) line said next (no_stop h action) takes told
    by_refusal (Some answer) is takes =
        let same : answer ≡ StoppedMeta line = cc (ap (λ s. s.answers) takes.0, told) in
        absurd (both_ways (is_refused answer) (ap is_refused same) (refused_told h action answer is))
