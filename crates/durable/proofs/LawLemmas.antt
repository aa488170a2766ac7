-- What was made durable stays: by induction over a run.
use Rattle.std.proofs.Common.{◌≡◌, ◌⊎◌, inl, inr, ℕ, ◌&&◌, ◌||◌, Bool, true, false, Option, Some, None, List, [], ◌∷◌, ◌++◌, refl, sym, ap, subst, ◌∙◌, if◌then◌else◌}
use Rattle.std.proofs.lemmas.Bool.{both_ways, or_parts, or_right}
use Rattle.line_words.specs.declared.interruption.Interruption.{Interruption}
use Rattle.line_words.specs.declared.interruption.Interruption.TheVariants.{Failed, PowerLost as Lost}
use Rattle.reply_text.specs.Answer.{Answer}
use Rattle.reply_text.specs.Answer.Answer.{Done}
use Rattle.nvm_model.specs.Storage.{Mapping}
use Rattle.script_text.specs.Action.{Action}
use Rattle.script_text.specs.Action.Action.{PoisonBlock, PoisonFile, PoisonMeta, PoisonVolume, WeakenFile, WeakenVolume, Cut, CutIn, FailIn, Restart, Recover, Attr}
use Rattle.script_text.specs.Script.{Input}
use Rattle.script_text.specs.Script.Input.{Skipped, Malformed, Overlong, Asked}
use Rattle.machine_model.specs.Machine.{Machine}
use Rattle.word_tables.specs.declared.geometry.Geometry.{Geometry}
use Rattle.machine_model.specs.Commands.{meaning, refusal, unless_refused}
use Rattle.machine_model.specs.Interrupted.{interrupted_answer}
use Rattle.machine_model.specs.declared.needs.Needs.TheVariants.{Usable}
use Rattle.machine_model.specs.Run.{Hears, Run, Takes, Transcript, followed_by}
use Rattle.machine_model.specs.declared.mode.Mode.TheVariants.{On, Off}
use Rattle.std.specs.Prelude.{◌≢◌}
use Rattle.machine_model.specs.OnPages.{pages_named}
use Rattle.durable.proofs.FileThereLemmas.{lines-named}
use Rattle.durable.proofs.PowerLemmas.{powered_first, powered_heard, powered_rest}
use Rattle.durable.specs.Place.{Place, byte_at_place}
use Rattle.durable.specs.Place.{is_weak_at}
use Rattle.durable.specs.Place.Place.{of_volume, of_blocks, of_file}
use Rattle.durable.specs.Region.{holds}
use Rattle.durable.specs.Touching.{changes, is_begun, is_made_durable, poisons, weakens, wears_out, wears_with}
use Rattle.durable.specs.Mapped.{Begun, but_for_copies, commands_begun, mappings_then}
use Rattle.durable.specs.Durable.{is_worn, BringBytes, BringsBytes, Does, Finishes, HasNothing, IsComplete, IsDone, IsDurable, Lasts, LastsPowered, Remains, Spares, StaysPowered}
use Rattle.durable.proofs.StepKinds.{Alters, CoversNothing, Step}
use Rattle.durable.proofs.SuitLemmas.{nowhere}
use Rattle.durable.proofs.StepLemmas.{geometry_run, geometry_step, nothing_run, step_of}
use Rattle.durable.proofs.StepKinds.Step.{idles, alters, stops, returns, remounts, empties}
use Rattle.durable.proofs.MappedLemmas.{AreAlike, alike_then, begun_on, changed_alike, durable_alike, mappings-heard, none-asked, not_begun, once}
use Rattle.durable.proofs.LineLemmas.{HasOrLost, MayBe}
use Rattle.durable.proofs.VolumeLemmas.{there-kept}
use Rattle.durable.proofs.SparedLemmas.{KeptBy, SparedBy}
use Rattle.durable.proofs.KeepLemmas.{Keeps, PlaceKeeps, keeps-step, keeps_byte}
use Rattle.durable.proofs.WeakerLemmas.{since_then, weaker}
use Rattle.durable.proofs.CoverLemmas.{covered_place}
use Rattle.durable.proofs.ReadLemmas.{has}
use Rattle.durable.proofs.RefusalLemmas.{is_on, refused_told}
use Rattle.durable.proofs.RefusedAnswerLemmas.{is_refused}
use Rattle.durable.proofs.WholeLemmas.{whole-heard, whole-run}

-- a command that covers something needs a machine that is on
covers_usable : (h : Machine) (action : Action) (x : Place) → is_made_durable h action x ≡ true → (meaning action).needs ≡ Usable
covers_usable h Cut (of_volume i) covered = cc covered
covers_usable h Cut (of_blocks i) covered = cc covered
covers_usable h Cut (of_file name i) covered = cc covered
covers_usable h (CutIn calls) (of_volume i) covered = cc covered
covers_usable h (CutIn calls) (of_blocks i) covered = cc covered
covers_usable h (CutIn calls) (of_file name i) covered = cc covered
covers_usable h (FailIn calls) (of_volume i) covered = cc covered
covers_usable h (FailIn calls) (of_blocks i) covered = cc covered
covers_usable h (FailIn calls) (of_file name i) covered = cc covered
covers_usable h (Restart choice) (of_volume i) covered = cc covered
covers_usable h (Restart choice) (of_blocks i) covered = cc covered
covers_usable h (Restart choice) (of_file name i) covered = cc covered
covers_usable h Recover (of_volume i) covered = cc covered
covers_usable h Recover (of_blocks i) covered = cc covered
covers_usable h Recover (of_file name i) covered = cc covered
covers_usable h (Attr name) (of_volume i) covered = cc covered
covers_usable h (Attr name) (of_blocks i) covered = cc covered
covers_usable h (Attr name) (of_file file i) covered = cc covered
covers_usable h (PoisonMeta line) (of_volume i) covered = cc covered
covers_usable h (PoisonMeta line) (of_blocks i) covered = cc covered
covers_usable h (PoisonMeta line) (of_file name i) covered = cc covered
covers_usable h action x covered = refl

-- nor does it make a line bad
pub covers_unharmed : (h : Machine) (action : Action) (x : Place) → is_made_durable h action x ≡ true → poisons action x ≡ false
covers_unharmed h (PoisonBlock block line) x covered = absurd (both_ways _ (nowhere x) covered)
covers_unharmed h (PoisonVolume offset) x covered = absurd (both_ways _ (nowhere x) covered)
covers_unharmed h (PoisonFile name offset) x covered = absurd (both_ways _ (nowhere x) covered)
covers_unharmed h action x covered = nowhere x

pub stop_done : (by : Interruption) → Done ≡ interrupted_answer by → ⊥
stop_done Failed is = cc is
stop_done Lost is = cc is

-- an answer that tells that a command was done is no refusal, and of none that was stopped
done_allowed : (answer : Answer) → IsDone answer → is_refused answer ≡ false
done_allowed answer (inl is) = ap is_refused is
done_allowed answer (inr is) = ap is_refused is.2

not_stopped : (by : Interruption) → IsDone (interrupted_answer by) → ⊥
not_stopped by (inl is) = stop_done by (sym is)
not_stopped Failed (inr is) = let at = is.2 in cc at
not_stopped Lost (inr is) = let at = is.2 in cc at

-- a command that leaves something else and was done was not refused, and was done by changing
pub record Came (h : Machine) (action : Action) (next : Machine) : Type 0 where
  pub none : refusal h action ≡ None
  pub to : Alters h action next

came_by : (h : Machine) (action : Action) (answer : Answer) (next : Machine) → (CoversNothing h action → ⊥) → IsDone answer → Step h action answer next → Came h action next
came_by h action answer next some done (idles (inl why) to) = absurd (both_ways (is_refused answer) (done_allowed answer done) (refused_told h action answer why))
came_by h action answer next some done (idles (inr none) to) = absurd (some none)
came_by h action answer next some done (stops by is none to) = absurd (not_stopped by (subst IsDone is done))
came_by h action answer next some done (returns none back) = absurd (some none.0)
came_by h action answer next some done (remounts none back) = absurd (some none.0)
came_by h action answer next some done (empties none to) = absurd (some none.0)
came_by h action answer next some done (alters begun none to) = record { none = none; to = to }

pub came_of : (h next : Machine) (action : Action) → Finishes h action next → (CoversNothing h action → ⊥) → Came h action next
came_of h next action does some =
    let taken = step_of h action does.said next does.came in
    let told : does.done.0 ≡ taken.answer = cc (taken.answers, does.done.1) in
    came_by h action taken.answer next some (subst IsDone told does.done.2) taken.step

-- a command that was answered `ok`
pub finishes : (h next : Machine) (action : Action) → Does h action next → Finishes h action next
finishes h next action does = record { whole = does.whole; said = does.said; came = does.came; done = (Done, does.done, inl refl) }

-- so where it covers a place
pub done_by : (h next : Machine) (action : Action) (x : Place) → Finishes h action next → is_made_durable h action x ≡ true → Came h action next
done_by h next action x does covered = came_of h next action does (λ none. both_ways _ (none.bytes x) covered)

-- no command does so to the place, or it may
abbrev pub SparesOr : (List Mapping → Action → Place → Bool) → Type 0 → Place → List Begun → Type 0
SparesOr does may x commands = Spares does x commands ⊎ may

may-asked : (does : List Mapping → Action → Place → Bool) (may : Type 0) (mappings : List Mapping) (action : Action) (inputs : List Input) (first : Transcript) (answer : Answer) (answers : List Answer)
    (x : Place) → first.answers ≡ answer ∷ [] → SparesOr does may x (begun_on mappings (Asked action ∷ inputs) (first.answers ++ answers))
    → (is_begun answer ≡ true → does mappings action x ≡ true → may) × SparesOr does may x (begun_on (mappings_then mappings action answer) inputs answers)
may-asked does may mappings action inputs first answer answers x is (inl spares) =
    let each = none-asked (λ (c : Begun). does c.mappings c.action x) mappings action inputs first answer answers is spares in
    (λ begun did. absurd (both_ways _ (each.0 begun) did), inl each.1)
may-asked does may mappings action inputs first answer answers x is (inr so) = (λ begun did. so, inr so)

-- a line that a command makes weak is not made durable by it, and it needs a machine that is on
weakens_alone : (geo : Geometry) (mappings : List Mapping) (action : Action) (x : Place) → weakens action x ≡ true → wears_with geo mappings action x ≡ false
weakens_alone geo mappings (WeakenFile name offset) x weakened = refl
weakens_alone geo mappings (WeakenVolume offset) x weakened = refl
weakens_alone geo mappings action x weakened = absurd (both_ways _ (nowhere x) weakened)

weakens_usable : (action : Action) (x : Place) → weakens action x ≡ true → (meaning action).needs ≡ Usable
weakens_usable (WeakenFile name offset) x weakened = refl
weakens_usable (WeakenVolume offset) x weakened = refl
weakens_usable action x weakened = absurd (both_ways _ (nowhere x) weakened)

-- a command that was begun was not refused
begun_allowed : (h next : Machine) (action : Action) (said : Transcript) (answer : Answer) → said.answers ≡ answer ∷ [] → Hears h (Asked action) said next → is_begun answer ≡ true
    → refusal h action ≡ None
begun_allowed h next action said answer is heard begun = by_refusal (refusal h action) refl heard
  where
    by_refusal : (o : Option Answer) → refusal h action ≡ o → Takes h action (unless_refused h o ((meaning action).comes h)) said next → refusal h action ≡ None
    by_refusal None none takes = none
    by_refusal (Some refused) some takes =
        let same : refused ≡ answer = cc (ap (λ s. s.answers) takes.0, is) in
        absurd (both_ways (is_begun answer) (ap is_begun (sym same) ∙ not_begun refused (refused_told h action refused some)) begun)

-- whether a line is weak once a command came that may have been begun
abbrev weak_then : Bool → Bool → Action → Place → Bool
weak_then weak begun action x = if begun then weak || weakens action x else weak

-- a first command, if it was begun, and the rest
worn-begun : (geo : Geometry) (x : Place) (weak begun : Bool) (one : Begun) (rest : List Begun) → is_worn geo x weak ((if begun then one ∷ [] else []) ++ rest) ≡ false
    → (begun ≡ true → (weak && wears_with geo one.mappings one.action x) ≡ false) × (is_worn geo x (weak_then weak begun one.action x) rest ≡ false)
worn-begun geo x weak true one rest none =
    let parts = or_parts (weak && wears_with geo one.mappings one.action x) (is_worn geo x (weak || weakens one.action x) rest) none in (λ is. parts.0, parts.1)
worn-begun geo x weak false one rest none = (λ is. cc is, none)

module _ (lost cut : Bool) where
  -- what may have become of a line that is weak, or is not
  abbrev since : Bool → MayBe
  since weak = since_then lost cut weak

  -- no command changes the place, and its line is lost only where it may be
  abbrev Allowed : Geometry → Place → Bool → List Begun → Type 0
  Allowed geo x weak commands = Spares changes x commands × SparesOr (λ mappings. poisons) (lost ≡ true) x commands × ((is_worn geo x weak commands ≡ false) ⊎ (lost ≡ true))

  -- of a first command
  record AllowsAsked (geo : Geometry) (mappings : List Mapping) (action : Action) (answer : Answer) (x : Place) (weak : Bool) : Type 0 where
    change : is_begun answer ≡ true → changes mappings action x ≡ false
    poison : is_begun answer ≡ true → poisons action x ≡ true → lost ≡ true
    worn : is_begun answer ≡ true → ((weak && wears_with geo mappings action x) ≡ false) ⊎ (lost ≡ true)

  -- and of the rest
  allowed-asked : (geo : Geometry) (mappings : List Mapping) (action : Action) (inputs : List Input) (first : Transcript) (answer : Answer) (answers : List Answer) (x : Place) (weak : Bool)
      → first.answers ≡ answer ∷ [] → Allowed geo x weak (begun_on mappings (Asked action ∷ inputs) (first.answers ++ answers))
      → AllowsAsked geo mappings action answer x weak × Allowed geo x (weak_then weak (is_begun answer) action x) (begun_on (mappings_then mappings action answer) inputs answers)
  allowed-asked geo mappings action inputs first answer answers x weak is all =
      let change = none-asked (λ (c : Begun). changes c.mappings c.action x) mappings action inputs first answer answers is all.0 in
      let poison = may-asked (λ ms. poisons) (lost ≡ true) mappings action inputs first answer answers x is all.1 in
      let worn = by_worn all.2 in (record { change = change.0; poison = poison.0; worn = worn.0 }, (change.1, poison.1, worn.1))
    where
      rest : List Begun
      rest = begun_on (mappings_then mappings action answer) inputs answers

      by_worn : (is_worn geo x weak (begun_on mappings (Asked action ∷ inputs) (first.answers ++ answers)) ≡ false) ⊎ (lost ≡ true)
          → (is_begun answer ≡ true → ((weak && wears_with geo mappings action x) ≡ false) ⊎ (lost ≡ true)) × ((is_worn geo x (weak_then weak (is_begun answer) action x) rest ≡ false) ⊎ (lost ≡ true))
      by_worn (inr may) = (λ begun. inr may, inr may)
      by_worn (inl none) =
          let parts = worn-begun geo x weak (is_begun answer) (record { action = action; mappings = mappings }) rest
          (subst (λ s. is_worn geo x weak (begun_on mappings (Asked action ∷ inputs) (s ++ answers)) ≡ false) is none) in
          (λ begun. inl (parts.0 begun), inl parts.1)

  -- what is the same of mappings that are alike
  allows-alike : (geo : Geometry) (one other : List Mapping) (action : Action) (answer : Answer) (x : Place) (weak : Bool) → AreAlike one other → AllowsAsked geo other action answer x weak
      → AllowsAsked geo one action answer x weak
  allows-alike geo one other action answer x weak alike allows = record {
    change = λ begun. ap (λ region. holds region x) (changed_alike action one other alike) ∙ allows.change begun;
    poison = allows.poison;
    worn = λ begun. elim (allows.worn begun) as (λ _. ((weak && wears_with geo one action x) ≡ false) ⊎ (lost ≡ true)) [
      | inl none ↦ inl (ap (λ covered. weak && wears_out covered x) (durable_alike geo action one other alike) ∙ none)
      | inr may ↦ inr may
    ];
  }

  -- the power may be cut, or it is on and stays so
  abbrev Power : Machine → Transcript → Type 0
  Power h said = (cut ≡ true) ⊎ ((h.mode ≢ Off) × StaysPowered said)

  power_off : (h : Machine) (said : Transcript) → Power h said → h.mode ≡ Off → cut ≡ true
  power_off h said (inl cuts) off = cuts
  power_off h said (inr on) off = absurd (on.0 off)

  power_next : (h next : Machine) (input : Input) (first rest : Transcript) → Hears h input first next → Power h (followed_by first rest) → Power next rest
  power_next h next input first rest heard (inl cuts) = inl cuts
  power_next h next input first rest heard (inr on) =
      inr (powered_heard h next input first on.0 (powered_first first rest on.1) heard, powered_rest first rest on.1)

  -- the place keeps its byte, or nothing is there
  abbrev KeepsOr : Bool → Machine → Place → Option ℕ → Type 0
  KeepsOr weak h x v = Keeps (since weak) h x v ⊎ HasNothing h

  -- after a command that is allowed
  keeps-asked : (h next : Machine) (action : Action) (answer : Answer) (x : Place) (v : Option ℕ) (weak : Bool) → BringsBytes action → (h.mode ≡ Off → cut ≡ true)
      → (is_begun answer ≡ true → refusal h action ≡ None) → AllowsAsked h.geometry h.mappings action answer x weak → Keeps (since weak) h x v → Step h action answer next
      → KeepsOr (weak_then weak (is_begun answer) action x) next x v
  keeps-asked h next action answer x v weak small off allowed allows keeps step = by_begun (is_begun answer) refl
    where
      -- it makes no line durable that is weak then, where none may be lost
      covers : (w weakened : Bool) → weakens action x ≡ weakened → ((w && wears_with h.geometry h.mappings action x) ≡ false) ⊎ (lost ≡ true)
          → wears_with h.geometry h.mappings action x ≡ true → (w || weakened) ≡ true → lost ≡ true
      covers w weakened is (inr may) worn weak = may
      covers true weakened is (inl none) worn weak = absurd (both_ways _ none worn)
      covers false true is (inl none) worn weak = absurd (both_ways _ (weakens_alone h.geometry h.mappings action x is) worn)
      covers false false is (inl none) worn weak = cc weak

      by_begun : (begun : Bool) → is_begun answer ≡ begun → KeepsOr (weak_then weak begun action x) next x v
      by_begun false is = keeps-step (since weak) h action answer next x v small (λ begun. absurd (both_ways (is_begun answer) is begun)) off keeps step
      by_begun true is =
          keeps-step (since (weak || weakens action x)) h action answer next x v small
          (λ begun. record {
            change = allows.change begun;
            brings = small;
            poison = allows.poison begun;
            weaken = λ weakened. or_right weak (weakens action x) weakened;
            cover = covers weak (weakens action x) refl (allows.worn begun);
          }) off
          (weaker lost cut h x v weak (weakens action x) (λ weakened. keeps.settled (is_on h action (weakens_usable action x weakened) (allowed is))) keeps) step

  -- the mappings are those that were told, and the commands that are left are allowed
  record Follows (h : Machine) (mappings : List Mapping) (weak : Bool) (x : Place) (inputs : List Input) (answers : List Answer) : Type 0 where
    alike : AreAlike h.mappings mappings
    allowed : Allowed h.geometry x weak (begun_on mappings inputs answers)
    bytes : BringBytes inputs

  -- what was kept, and what is left
  record Goes (next : Machine) (inputs : List Input) (answers : List Answer) (x : Place) (v : Option ℕ) : Type 0 where
    mappings : List Mapping
    weak : Bool
    keeps : KeepsOr weak next x v
    follows : Follows next mappings weak x inputs answers

  keeps-heard : (input : Input) (inputs : List Input) (h next : Machine) (mappings : List Mapping) (weak : Bool) (first : Transcript) (answers : List Answer) (x : Place) (v : Option ℕ)
      → (h.mode ≡ Off → cut ≡ true) → Hears h input first next → Follows h mappings weak x (input ∷ inputs) (first.answers ++ answers) → Keeps (since weak) h x v
      → Goes next inputs answers x v
  keeps-heard Skipped inputs h next mappings weak first answers x v off heard all keeps = record {
    mappings = mappings;
    weak = weak;
    keeps = inl (subst (λ m. Keeps (since weak) m x v) (sym heard.1) keeps);
    follows = record {
      alike = ap (λ (m : Machine). but_for_copies m.mappings) heard.1 ∙ all.alike;
      allowed = subst (λ (m : Machine). Allowed m.geometry x weak (begun_on mappings inputs answers)) (sym heard.1)
          (subst (λ (s : Transcript). Allowed h.geometry x weak (begun_on mappings inputs (s.answers ++ answers))) heard.0 all.allowed);
      bytes = all.bytes;
    };
  }
  keeps-heard Malformed inputs h next mappings weak first answers x v off heard all keeps = record {
    mappings = mappings;
    weak = weak;
    keeps = inl (subst (λ m. Keeps (since weak) m x v) (sym heard.1) keeps);
    follows = record {
      alike = ap (λ (m : Machine). but_for_copies m.mappings) heard.1 ∙ all.alike;
      allowed = subst (λ (m : Machine). Allowed m.geometry x weak (begun_on mappings inputs answers)) (sym heard.1)
          (subst (λ (s : Transcript). Allowed h.geometry x weak (begun_on mappings (Malformed ∷ inputs) (s.answers ++ answers))) heard.0 all.allowed);
      bytes = all.bytes;
    };
  }
  keeps-heard Overlong inputs h next mappings weak first answers x v off heard all keeps = record {
    mappings = mappings;
    weak = weak;
    keeps = inl (subst (λ m. Keeps (since weak) m x v) (sym heard.1) keeps);
    follows = record {
      alike = ap (λ (m : Machine). but_for_copies m.mappings) heard.1 ∙ all.alike;
      allowed = subst (λ (m : Machine). Allowed m.geometry x weak (begun_on mappings inputs answers)) (sym heard.1)
          (subst (λ (s : Transcript). Allowed h.geometry x weak (begun_on mappings (Overlong ∷ inputs) (s.answers ++ answers))) heard.0 all.allowed);
      bytes = all.bytes;
    };
  }
  keeps-heard (Asked action) inputs h next mappings weak first answers x v off heard all keeps =
      let taken = step_of h action first next heard in
      let each = allowed-asked h.geometry mappings action inputs first taken.answer answers x weak taken.answers all.allowed in
      record {
        mappings = mappings_then mappings action taken.answer;
        weak = weak_then weak (is_begun taken.answer) action x;
        keeps = keeps-asked h next action taken.answer x v weak all.bytes.0 off (begun_allowed h next action first taken.answer taken.answers heard)
            (allows-alike h.geometry h.mappings mappings action taken.answer x weak all.alike each.0) keeps taken.step;
        follows = record {
          alike = mappings-heard h next action first taken.answer taken.answers heard ∙ alike_then action taken.answer h.mappings mappings all.alike;
          allowed = subst (λ g. Allowed g x (weak_then weak (is_begun taken.answer) action x) (begun_on (mappings_then mappings action taken.answer) inputs answers))
              (sym (geometry_step h action taken.answer next taken.step)) each.1;
          bytes = all.bytes.1;
        };
      }

  keeps-run : (inputs : List Input) (h later : Machine) (mappings : List Mapping) (weak : Bool) (said : Transcript) (x : Place) (v : Option ℕ) → Run h inputs said later → Power h said
      → Follows h mappings weak x inputs said.answers → KeepsOr weak h x v → HasOrLost lost (byte_at_place later x) v ⊎ HasNothing later
  keeps-run inputs h later mappings weak said x v run power all (inr nothing) = inr (nothing_run h later inputs said nothing run)
  keeps-run [] h later mappings weak said x v run power all (inl keeps) = inl (keeps_byte (since weak) later x v (subst (λ m. Keeps (since weak) m x v) (sym run.1) keeps))
  keeps-run (input ∷ inputs) h later mappings weak said x v run power all (inl keeps) =
      let split = subst (λ (s : Transcript). Follows h mappings weak x (input ∷ inputs) s.answers) run.3 all in
      let on = subst (Power h) run.3 power in
      let heard = keeps-heard input inputs h run.2 mappings weak run.0 run.1.answers x v (power_off h (followed_by run.0 run.1) on) run.4 split keeps in
      keeps-run inputs run.2 later heard.mappings heard.weak run.1 x v run.5 (power_next h run.2 input run.0 run.1 run.4 on) heard.follows heard.keeps

module _ (since : MayBe) where
  made : (h next : Machine) (action : Action) (x : Place) → Finishes h action next → is_made_durable h action x ≡ true → Keeps since next x (byte_at_place next x)
  made h next action x does covered =
      let came = done_by h next action x does covered in
      let free = came.to.interrupted ∙ does.whole.settled (is_on h action (covers_usable h action x covered) came.none) in
      record {
        place = covered_place since h action next x does.whole covered came.none came.to;
        spared = subst (λ o. SparedBy since next.geometry next.mappings o x) (sym free) tt;
        fine = subst (λ o. KeptBy o next.files) (sym free) tt;
        settled = λ on. free;
      }

not_lost : (h : Machine) (x : Place) (v : Option ℕ) → HasOrLost false (byte_at_place h x) v ⊎ HasNothing h → (byte_at_place h x ≡ v) ⊎ HasNothing h
not_lost h x v (inl (inl is)) = inl is
not_lost h x v (inl (inr lost)) = cc lost.1
not_lost h x v (inr nothing) = inr nothing

-- a place that keeps its byte, whatever a run does, where the power may be cut or is not
remains : (cut : Bool) (h : Machine) (x : Place) (v : Option ℕ) → IsComplete h → ((weak lost : Bool) → Keeps (record { weak = weak; lost = lost; cut = cut }) h x v)
    → (inputs : List Input) (said : Transcript) (later : Machine) → BringBytes inputs → Run h inputs said later → (cut ≡ true) ⊎ ((h.mode ≢ Off) × StaysPowered said)
    → Remains (commands_begun h.mappings inputs said.answers) later x v
remains cut h x v whole keeps inputs said later bytes run power = record {
  has = λ spares. has true later x v (whole-run inputs h later said whole run) (kept true (spares, inr refl, inr refl));
  unharmed = λ spares poison worn.
      not_lost later x v (kept false (spares, inl poison, inl (subst (λ g. is_worn g x false commands ≡ false) (geometry_run inputs h later said run) worn)));
}
  where
    commands : List Begun
    commands = commands_begun h.mappings inputs said.answers

    kept : (lost : Bool) → Allowed lost cut h.geometry x false commands → HasOrLost lost (byte_at_place later x) v ⊎ HasNothing later
    kept lost all =
        keeps-run lost cut inputs h later (but_for_copies h.mappings) false said x v run power (record { alike = once h.mappings; allowed = all; bytes = bytes }) (inl (keeps false lost))

pub lasts : (h : Machine) (x : Place) (v : Option ℕ) → IsComplete h → ((since : MayBe) → Keeps since h x v) → Lasts h x v
lasts h x v whole keeps inputs said later bytes run =
    remains true h x v whole (λ weak lost. keeps (record { weak = weak; lost = lost; cut = true })) inputs said later bytes run (inl refl)

-- any place in mode On, while the power stays on
there : (h : Machine) (x : Place) (weak lost : Bool) → IsComplete h → is_weak_at h x ≡ false → PlaceKeeps (record { weak = weak; lost = lost; cut = false }) h x (byte_at_place h x)
there h (of_volume i) weak lost whole strong =
    there-kept (record { weak = weak; lost = lost; cut = false }) h.volume i refl (λ is. absurd (both_ways _ strong is)) whole.lines
there h (of_blocks i) weak lost whole strong = inl refl
there h (of_file name i) weak lost whole strong =
    there-kept (record { weak = weak; lost = lost; cut = false }) (pages_named name h.files) i refl (λ is. absurd (both_ways _ strong is)) (lines-named name h.files whole.file_lines)

pub lasts_powered : (h : Machine) (x : Place) → IsComplete h → h.mode ≡ On → is_weak_at h x ≡ false → LastsPowered h x (byte_at_place h x)
lasts_powered h x whole on strong inputs said later bytes run powered =
    remains false h x (byte_at_place h x) whole
    (λ weak lost. record {
      place = there h x weak lost whole strong;
      spared = subst (λ o. SparedBy (record { weak = weak; lost = lost; cut = false }) h.geometry h.mappings o x) (sym (whole.settled on)) tt;
      fine = subst (λ o. KeptBy o h.files) (sym (whole.settled on)) tt;
      settled = whole.settled;
    })
    inputs said later bytes run (inr (λ off. cc (on, off), powered))

pub finished_durable : (h next : Machine) (action : Action) (x : Place) → Finishes h action next → is_made_durable h action x ≡ true → IsDurable next x
finished_durable h next action x does covered =
    lasts next x (byte_at_place next x) (whole-heard h (Asked action) does.said next does.whole does.came) (λ since. made since h next action x does covered)

pub durable : (h next : Machine) (action : Action) (x : Place) → Does h action next → is_made_durable h action x ≡ true → IsDurable next x
durable h next action x does covered = finished_durable h next action x (finishes h next action does) covered
