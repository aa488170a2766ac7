-- The events of lines that go bad, and what a command tells.
use Rattle.std.proofs.Common.{◌≡◌, inl, inr, ℕ, ◌*◌, ◌/◌, ◌&&◌, Bool, true, false, cond, Option, Some, None, option_map, List, [], ◌∷◌, ◌++◌, length, refl, sym, ap, subst, ◌∙◌, arith}
use Rattle.std.specs.Prelude.{◌≢◌}
use Rattle.std.proofs.lemmas.Bool.{and_cases, and_from, and_parts, both_ways, cases_eq}
use Rattle.std.proofs.lemmas.List.{append-nil}
use Rattle.std.proofs.lemmas.Slice.Eq.{bytes_eq-Decides}
use Rattle.std.specs.Bool.{Decides}
use Rattle.std.specs.Str.{bytes_eq}
use Rattle.nvm_base.specs.declared.units.Span.{Span}
use Rattle.line_words.specs.declared.interruption.Interruption.{Interruption}
use Rattle.line_words.specs.declared.interruption.Interruption.TheVariants.{Failed, PowerLost as Lost}
use Rattle.nvm_model.specs.Cell.{Cell, flush_cell, lose_cell}
use Rattle.nvm_model.specs.Page.{Page, at_line, cell_of, change_line, is_bad_cell}
use Rattle.nvm_model.specs.Storage.{Event}
use Rattle.nvm_model.specs.Touched.{bad_touched, is_bad_touched, next_bad_touched, persist_spans, touches_any}
use Rattle.nvm_model.proofs.MediaLemmas.{at_line-beside, at_line-here}
use Rattle.nvm_model.proofs.NextLemmas.{IsLowestFrom, next-lowest}
use Rattle.nvm_model.proofs.SeveralLemmas.{cell_of-spans}
use Rattle.marked_lines.specs.Refusals.{cell_refusal}
use Rattle.reply_text.specs.Answer.{Answer}
use Rattle.reply_text.specs.Answer.Answer.{Done, Happened}
use Rattle.machine_model.specs.declared.look.Look.{Look}
use Rattle.machine_model.specs.declared.look.Look.TheVariants.{Once, Again}
use Rattle.machine_model.specs.Interrupted.{interrupted_answer}
use Rattle.machine_model.specs.Machine.{Machine}
use Rattle.machine_model.specs.OnEvents.{line_event}
use Rattle.machine_model.specs.OnFileErrors.{with_poisoned}
use Rattle.machine_model.specs.OnFlushes.{flushed_answer, second_look, synced_in, with_synced}
use Rattle.machine_model.specs.OnPages.{pages_named}
use Rattle.durable.specs.Events.{AreAll, GoesBad, TellsLines, all_told, told_by}
use Rattle.durable.proofs.BadLineLemmas.{NoWorse, bad_named, bad_within, other_named, same_no_worse}
use Rattle.durable.proofs.FileLineLemmas.{named-marked_at}
use Rattle.durable.proofs.NumberLemmas.{all_alike, all_none, all_one, all_passing}
use Rattle.durable.proofs.RefusedAnswerLemmas.{is_refused}
use Rattle.durable.proofs.VerifyLemmas.{synced-cell}

-- names that differ
names_apart : (text name : List ℕ) → name ≢ text → bytes_eq text name ≡ false
names_apart text name apart = by_test (bytes_eq text name) (bytes_eq-Decides text name)
  where
    by_test : (b : Bool) → Decides b (text ≡ name) → b ≡ false
    by_test true tells = absurd (apart (sym (tells.0 refl)))
    by_test false tells = refl

-- refusals and interruptions tell no event
pub refused_silent : (answer : Answer) → is_refused answer ≡ true → told_by answer ≡ []
refused_silent (Happened event) is = cc is
refused_silent answer is = refl

pub interrupted_silent : (by : Interruption) → told_by (interrupted_answer by) ≡ []
interrupted_silent Failed = refl
interrupted_silent Lost = refl

-- no line went bad
pub none_went : (h to : Machine) (answer : Answer) → h.events ++ [] ≡ all_told (answer ∷ []) ++ to.events → NoWorse h.files to.files → TellsLines h (answer ∷ []) to
none_went h to answer order no_worse = record {
  name = [];
  lines = [];
  order = order;
  went = all_none (GoesBad h to []) (λ n went. not_bad [] n went);
  others = λ other n apart went. not_bad other n went;
}
  where
    not_bad : (name : List ℕ) (n : ℕ) → GoesBad h to name n → ⊥
    not_bad name n went = both_ways (bad_named name h.files n) went.0 (no_worse name n went.1)

-- and no event is told
pub quiet : (h to : Machine) (answer : Answer) → told_by answer ≡ [] → to.events ≡ h.events → NoWorse h.files to.files → TellsLines h (answer ∷ []) to
quiet h to answer silent same no_worse =
    none_went h to answer (append-nil h.events ∙ sym same ∙ sym (ap (λ (es : List Event). (es ++ []) ++ to.events) silent)) no_worse

pub unchanged : (h to : Machine) (answer : Answer) → told_by answer ≡ [] → to.events ≡ h.events → to.files ≡ h.files → TellsLines h (answer ∷ []) to
unchanged h to answer silent events files = quiet h to answer silent events (same_no_worse h.files to.files files)

-- a flush of a file of which no bad line is touched: those that are bad then went bad
second_silent : (look : Look) (name : List ℕ) (lost : Option ℕ) → told_by (second_look look name lost) ≡ []
second_silent Once name lost = refl
second_silent Again name None = refl
second_silent Again name (Some n) = refl

untouched-bad : (o : Option Cell) → is_bad_cell (option_map (λ (cell : Cell). cond false (flush_cell cell) cell) o) ≡ is_bad_cell o
untouched-bad None = refl
untouched-bad (Some cell) = refl

module _ (h : Machine) (name : List ℕ) (spans : List Span) (none : next_bad_touched spans (pages_named name h.files) 0 ≡ None) where
  abbrev to : Machine
  to = with_synced name spans h

  abbrev made : List Page
  made = persist_spans spans (pages_named name h.files)

  flushed_bad : (n : ℕ) → bad_named name (synced_in name spans h.files) n ≡ is_bad_cell (cell_of made n)
  flushed_bad n = ap is_bad_cell (synced-cell name spans h.files n)

  -- it was touched, and was good
  lost_touched : (n : ℕ) → is_bad_touched spans made n ≡ true → GoesBad h to name n
  lost_touched n lost =
      let parts = and_parts (touches_any spans n) (is_bad_cell (cell_of made n)) lost in
      let before : (touches_any spans n && bad_named name h.files n) ≡ false =
      subst (IsLowestFrom 0 (is_bad_touched spans (pages_named name h.files))) none (next-lowest spans (pages_named name h.files) 0) n (omega arith) in (
        elim (and_cases (touches_any spans n) (bad_named name h.files n) before) as (λ _. bad_named name h.files n ≡ false) [
          | inl out ↦ absurd (both_ways (touches_any spans n) out parts.0)
          | inr good ↦ good
        ],
        flushed_bad n ∙ parts.1,
      )

  touched_lost : (n : ℕ) → GoesBad h to name n → is_bad_touched spans made n ≡ true
  touched_lost n went = by_touch (touches_any spans n) refl
    where
      bad : is_bad_cell (cell_of made n) ≡ true
      bad = sym (flushed_bad n) ∙ went.1

      left : Bool → Option Cell
      left t = option_map (λ (cell : Cell). cond t (flush_cell cell) cell) (cell_of (pages_named name h.files) n)

      by_touch : (t : Bool) → touches_any spans n ≡ t → is_bad_touched spans made n ≡ true
      by_touch true touched = and_from _ _ touched bad
      by_touch false out =
          absurd (both_ways (bad_named name h.files n) went.0
          (sym (untouched-bad (cell_of (pages_named name h.files) n)) ∙ sym (ap is_bad_cell (cell_of-spans spans (pages_named name h.files) n ∙ ap left out)) ∙ bad))

  all_lost : AreAll (GoesBad h to name) (bad_touched spans made)
  unfolding bad_touched
  all_lost =
      all_alike (λ n. is_bad_touched spans made n ≡ true) (GoesBad h to name) (bad_touched spans made) lost_touched touched_lost
      (all_passing (is_bad_touched spans made) (64 * length made) (λ n lost. bad_within made n (and_parts (touches_any spans n) (is_bad_cell (cell_of made n)) lost).1))

  pub flush_tells : (look : Look) → TellsLines h (flushed_answer look name spans (pages_named name h.files) ∷ []) to
  flush_tells look = record {
    name = name;
    lines = bad_touched spans made;
    order = sym (ap (λ (es : List Event). (es ++ []) ++ to.events) (second_silent look name (next_bad_touched spans made 0)));
    went = all_lost;
    others = λ other n apart went.
        both_ways (bad_named other h.files n) went.0 (sym (other_named name other (persist_spans spans) h.files n (names_apart name other apart)) ∙ went.1);
  }

-- a media error in a file, at a line that is there
module _ (h : Machine) (name : List ℕ) (offset : ℕ) (there : cell_refusal (cell_of (pages_named name h.files) (offset / 64)) ≡ None) where
  abbrev taken : Machine
  taken = with_poisoned name offset h

  abbrev line : ℕ
  line = offset / 64

  made_cell : (n : ℕ) → cell_of (pages_named name taken.files) n ≡ option_map (at_line lose_cell line n) (cell_of (pages_named name h.files) n)
  made_cell n = named-marked_at lose_cell name offset n h.files

  there_lost : (o : Option Cell) → cell_refusal o ≡ None → is_bad_cell (option_map (at_line lose_cell line line) o) ≡ true
  there_lost None none = cc none
  there_lost (Some cell) none = ap (λ c. is_bad_cell (Some c)) (at_line-here lose_cell line cell)

  beside-bad : (n : ℕ) (o : Option Cell) → n ≢ line → is_bad_cell (option_map (at_line lose_cell line n) o) ≡ is_bad_cell o
  beside-bad n None out = refl
  beside-bad n (Some cell) out = ap (λ c. is_bad_cell (Some c)) (at_line-beside lose_cell line n cell out)

  -- it is bad then, and the others are as before
  taken_bad : bad_named name taken.files line ≡ true
  taken_bad = ap is_bad_cell (made_cell line) ∙ there_lost (cell_of (pages_named name h.files) line) there

  beside_same : (n : ℕ) → n ≢ line → bad_named name taken.files n ≡ bad_named name h.files n
  beside_same n out = ap is_bad_cell (made_cell n) ∙ beside-bad n (cell_of (pages_named name h.files) n) out

  only_line : (n : ℕ) → GoesBad h taken name n → n ≡ line
  only_line n went = elim (cases_eq n line) as (λ _. n ≡ line) [
    | inl same ↦ same
    | inr out ↦ absurd (both_ways (bad_named name h.files n) went.0 (sym (beside_same n out) ∙ went.1))
  ]

  pub poison_tells : TellsLines h (Done ∷ []) taken
  poison_tells = by_mark (bad_named name h.files line) refl
    where
      other : (text : List ℕ) (n : ℕ) → text ≢ name → GoesBad h taken text n → ⊥
      other text n apart went =
          both_ways (bad_named text h.files n) went.0 (sym (other_named name text (change_line lose_cell line) h.files n (names_apart name text apart)) ∙ went.1)

      news : Bool → List Event
      news was = cond was [] (line_event h.mappings name line ∷ [])

      by_mark : (was : Bool) → bad_named name h.files line ≡ was → TellsLines h (Done ∷ []) taken
      by_mark true was = record {
        name = name;
        lines = [];
        order = sym (ap (λ b. h.events ++ news b) was);
        went = all_none (GoesBad h taken name) (λ n went. both_ways (bad_named name h.files n) went.0 (ap (bad_named name h.files) (only_line n went) ∙ was));
        others = other;
      }
      by_mark false was = record {
        name = name;
        lines = line ∷ [];
        order = sym (ap (λ b. h.events ++ news b) was);
        went = all_one (GoesBad h taken name) line (was, taken_bad) only_line;
        others = other;
      }
