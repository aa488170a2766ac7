-- What a flush that looks again tells.
use Rattle.std.proofs.Common.{◌≡◌, inl, inr, ℕ, ◌*◌, ◌/◌, ◌%◌, Bool, true, false, Option, Some, None, option_map, List, [], ◌∷◌, refl, sym, ap, subst, ◌∙◌, arith, if◌then◌else◌}
use Rattle.std.specs.Prelude.{◌≢◌}
use Rattle.std.proofs.lemmas.Bool.{and_cases, and_parts, both_ways}
use Rattle.std.proofs.lemmas.Slice.Eq.{bytes_eq-Decides}
use Rattle.nvm_base.specs.declared.units.Span.{Span}
use Rattle.line_words.specs.declared.interruption.Interruption.{Interruption}
use Rattle.line_words.specs.declared.interruption.Interruption.TheVariants.{Failed, PowerLost as Lost}
use Rattle.nvm_model.specs.Cell.{Cell}
use Rattle.nvm_model.specs.Cell.Cell.{Bad, Kept}
use Rattle.nvm_model.specs.Mappings.{is_shared, mapping_of}
use Rattle.nvm_model.specs.Page.{cell_of, is_bad_cell}
use Rattle.nvm_model.specs.Storage.{File, Mapping}
use Rattle.nvm_model.specs.Touched.{is_bad_touched, next_bad_touched, persist_spans, persist_touched, touches_any}
use Rattle.nvm_model.proofs.NextLemmas.{IsLowestFrom, next-lowest}
use Rattle.nvm_model.proofs.SeveralLemmas.{cell_of-spans}
use Rattle.reply_text.specs.Answer.{Answer}
use Rattle.reply_text.specs.Answer.Answer.{Done, VerifyFile}
use Rattle.script_text.specs.Action.{Action}
use Rattle.script_text.specs.Action.Action.{FlushVerify}
use Rattle.script_text.specs.Script.Input.{Asked}
use Rattle.machine_model.specs.declared.look.Look.TheVariants.{Again}
use Rattle.machine_model.specs.Machine.{Fate, Machine}
use Rattle.machine_model.specs.Machine.Fate.{Gives}
use Rattle.machine_model.specs.Commands.{meaning, refusal, unless_refused}
use Rattle.machine_model.specs.Interrupted.{interrupted_answer}
use Rattle.machine_model.specs.OnFlushes.{all_moved, flush_file, flush_through, nothing_done, second_look, synced_in}
use Rattle.machine_model.specs.OnPages.{pages_named}
use Rattle.machine_model.specs.Run.{Hears, Takes, Transcript}
use Rattle.durable.specs.Place.{byte_at_place, line_has}
use Rattle.durable.specs.Place.Place.{of_file}
use Rattle.durable.specs.Region.{flushed_by, flushed_lines, nothing}
use Rattle.durable.specs.Touching.{is_made_durable}
use Rattle.durable.specs.Durable.{Does}
use Rattle.durable.proofs.HandleLemmas.{of_flush}
use Rattle.durable.proofs.LawLemmas.{stop_done}
use Rattle.durable.proofs.NamedPageLemmas.{named-own}
use Rattle.durable.proofs.RefusalLemmas.{refused_told}
use Rattle.durable.proofs.RefusedAnswerLemmas.{is_refused}

-- a line of a file after a flush of it
pub synced-cell : (text : List ℕ) (moved : List Span) (files : List File) (n : ℕ)
    → cell_of (pages_named text (synced_in text moved files)) n ≡ cell_of (persist_spans moved (pages_named text files)) n
synced-cell text moved files n =
    elim (named-own text (persist_spans moved) files) as
    (λ _. cell_of (pages_named text (synced_in text moved files)) n ≡ cell_of (persist_spans moved (pages_named text files)) n) [
      | inl is ↦ ap (λ p. cell_of p n) is
      | inr none ↦
          ap (λ p. cell_of p n) (none.0 ∙ none.1)
          ∙ sym (cell_of-spans moved (pages_named text files) n ∙ ap (λ p. option_map (persist_touched moved n) (cell_of p n)) none.1)
    ]

-- a bad line has no byte, and any other has
bad_lost : (o : Option Cell) (k : ℕ) → is_bad_cell o ≡ true → line_has o k ≡ None
bad_lost None k bad = cc bad
bad_lost (Some Bad) k bad = refl
bad_lost (Some (Kept weak words)) k bad = cc bad

good_shown : (o : Option Cell) (k : ℕ) → is_bad_cell o ≡ false → line_has o k ≢ None
good_shown None k good none = cc none
good_shown (Some Bad) k good none = cc good
good_shown (Some (Kept weak words)) k good none = cc none

not_verify : (by : Interruption) (name : List ℕ) (offset : ℕ) → interrupted_answer by ≢ VerifyFile name offset
not_verify Failed name offset is = cc is
not_verify Lost name offset is = cc is

-- the line that it names is lost
named_lost : (text name : List ℕ) (moved : List Span) (files : List File) (offset i : ℕ) (lost : Option ℕ)
    → IsLowestFrom 0 (is_bad_touched moved (persist_spans moved (pages_named text files))) lost → second_look Again text lost ≡ VerifyFile name offset → i / 64 ≡ offset / 64
    → line_has (cell_of (pages_named name (synced_in text moved files)) (i / 64)) (i % 64) ≡ None
named_lost text name moved files offset i None lowest is at = cc is
named_lost text name moved files offset i (Some n) lowest is at =
    let named : text ≡ name = cc is in
    let place : 64 * n ≡ offset = cc is in
    let line : i / 64 ≡ n = omega (arith, at, place) in
    subst (λ t. line_has (cell_of (pages_named t (synced_in text moved files)) (i / 64)) (i % 64) ≡ None) named
    (ap (λ k. line_has (cell_of (pages_named text (synced_in text moved files)) k) (i % 64)) line ∙ ap (λ o. line_has o (i % 64)) (synced-cell text moved files n)
    ∙ bad_lost (cell_of (persist_spans moved (pages_named text files)) n) (i % 64) (and_parts _ _ lowest.1).1)

pub verified : (h next : Machine) (handle offset i : ℕ) (spans : List Span) (name : List ℕ) (said : Transcript) → Hears h (Asked (FlushVerify handle spans)) said next
    → said.answers ≡ VerifyFile name offset ∷ [] → i / 64 ≡ offset / 64 → byte_at_place next (of_file name i) ≡ None
verified h next handle offset i spans name said heard told at = by_refusal (refusal h action) refl heard
  where
    action : Action
    action = FlushVerify handle spans

    IsLost : Fate → Type 0
    IsLost fate = Takes h action fate said next → byte_at_place next (of_file name i) ≡ None

    shared : (text : List ℕ) (moved : List Span) → IsLost ((flush_file Again text moved).comes h)
    shared text moved takes =
        let same : takes.0 ≡ VerifyFile name offset = cc (ap (λ s. s.answers) takes.1, told) in
        elim takes.2 as (λ _. byte_at_place next (of_file name i) ≡ None) [
          | inl end ↦
              ap (λ m. byte_at_place m (of_file name i)) end.1
              ∙ named_lost text name moved h.files offset i (next_bad_touched moved (persist_spans moved (pages_named text h.files)) 0)
              (next-lowest moved (persist_spans moved (pages_named text h.files)) 0) (sym end.0 ∙ same) at
          | inr end ↦ absurd (not_verify end.0 name offset (sym end.1 ∙ same))
        ]

    none : IsLost (Gives Done h)
    none takes = cc (ap (λ s. s.answers) takes.0, told)

    by_refusal : (o : Option Answer) → refusal h action ≡ o → Takes h action (unless_refused h o ((meaning action).comes h)) said next → byte_at_place next (of_file name i) ≡ None
    by_refusal None is takes = of_flush IsLost h Again handle spans none shared takes
    by_refusal (Some answer) is takes =
        let same : answer ≡ VerifyFile name offset = cc (ap (λ s. s.answers) takes.0, told) in
        absurd (both_ways (is_refused answer) (ap is_refused same) (refused_told h action answer is))

-- where it names none, it lost none
good_line : (text : List ℕ) (moved : List Span) (files : List File) (i : ℕ) (lost : Option ℕ)
    → IsLowestFrom 0 (is_bad_touched moved (persist_spans moved (pages_named text files))) lost → second_look Again text lost ≡ Done → touches_any moved (i / 64) ≡ true
    → line_has (cell_of (pages_named text (synced_in text moved files)) (i / 64)) (i % 64) ≢ None
good_line text moved files i (Some n) lowest is touched none = cc is
good_line text moved files i None lowest is touched none =
    good_shown (cell_of (pages_named text (synced_in text moved files)) (i / 64)) (i % 64) (ap is_bad_cell (synced-cell text moved files (i / 64)) ∙ good) none
  where
    good : is_bad_cell (cell_of (persist_spans moved (pages_named text files)) (i / 64)) ≡ false
    good = elim (and_cases (touches_any moved (i / 64)) (is_bad_cell (cell_of (persist_spans moved (pages_named text files)) (i / 64))) (lowest (i / 64) (omega arith))) as (λ _. is_bad_cell (cell_of (persist_spans moved (pages_named text files)) (i / 64)) ≡ false) [
      | inl out ↦ absurd (both_ways (touches_any moved (i / 64)) out touched)
      | inr fine ↦ fine
    ]

pub none_lost : (h next : Machine) (handle i : ℕ) (spans : List Span) (name : List ℕ) → Does h (FlushVerify handle spans) next
    → is_made_durable h (FlushVerify handle spans) (of_file name i) ≡ true → byte_at_place next (of_file name i) ≢ None
none_lost h next handle i spans name does covered = by_refusal (refusal h action) refl does.came
  where
    action : Action
    action = FlushVerify handle spans

    shared : (text : List ℕ) (moved : List Span) → text ≡ name → touches_any moved (i / 64) ≡ true → Takes h action ((flush_file Again text moved).comes h) does.said next
        → byte_at_place next (of_file name i) ≢ None
    shared text moved named touched takes none =
        let same : takes.0 ≡ Done = cc (ap (λ s. s.answers) takes.1, does.done) in
        elim takes.2 as (λ _. ⊥) [
          | inl end ↦
              good_line text moved h.files i (next_bad_touched moved (persist_spans moved (pages_named text h.files)) 0)
              (next-lowest moved (persist_spans moved (pages_named text h.files)) 0) (sym end.0 ∙ same) touched
              (ap (λ t. line_has (cell_of (pages_named t (synced_in text moved h.files)) (i / 64)) (i % 64)) named
              ∙ sym (ap (λ m. byte_at_place m (of_file name i)) end.1) ∙ none)
          | inr end ↦ stop_done end.0 (sym same ∙ end.1)
        ]

    by_kind : (m : Mapping) (shares : Bool) → (if shares then flushed_lines m.name (all_moved m.start spans) else nothing).files name i ≡ true
        → Takes h action ((if shares then flush_file Again m.name (all_moved m.start spans) else nothing_done).comes h) does.said next → byte_at_place next (of_file name i) ≢ None
    by_kind m true held takes = let both = and_parts _ _ held in shared m.name (all_moved m.start spans) ((bytes_eq-Decides m.name name).0 both.0) both.1 takes
    by_kind m false held takes = λ none. cc held

    by_mapping : (o : Option Mapping) → (flushed_by spans o).files name i ≡ true
        → Takes h action (elim o [ None ↦ Gives Done h | Some m ↦ (flush_through Again spans m).comes h ]) does.said next → byte_at_place next (of_file name i) ≢ None
    by_mapping None held takes = λ none. cc held
    by_mapping (Some m) held takes = by_kind m (is_shared m.kind) held takes

    by_refusal : (o : Option Answer) → refusal h action ≡ o → Takes h action (unless_refused h o ((meaning action).comes h)) does.said next → byte_at_place next (of_file name i) ≢ None
    by_refusal None is takes = by_mapping (mapping_of handle h.mappings) covered takes
    by_refusal (Some answer) is takes = λ none.
        let same : answer ≡ Done = cc (ap (λ s. s.answers) takes.0, does.done) in
        both_ways (is_refused answer) (ap is_refused same) (refused_told h action answer is)
