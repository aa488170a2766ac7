-- A report grows line by line.
use Rattle.std.proofs.Common.{◌≡◌, ◌+◌, ◌<◌, ◌≤◌, ◌++◌, ℕ, suc, Bool, false, Option, Some, None, option_map, List, ◌∷◌, length, drop, drop-cons, get_or, refl, sym, ap, ◌∙◌, append-nil, append_assoc, arith}
use Rattle.std.specs.Option.{IfSome}
use Rattle.std.proofs.lemmas.List.{drop_all}
use Rattle.reply_text.specs.declared.reply.Reply.{Reply}
use Rattle.reply_text.specs.Answer.{Answer, IsPrintable, answer_of}
use Rattle.reply_text.specs.Answer.Answer.{Done, DoneBad, Bytes, Ranges, Files, Yes, No, Handle, Happened, NoEvent, BadLines, Attribute, Scarred, PoisonBlock, PoisonVolume, PoisonFile, VerifyFile, DeviceFailed, PowerLost, Stopped, Refused, RefusedMeta}
use Rattle.script_text.specs.declared.command.Command.{Command}
use Rattle.script_text.specs.Action.{action_of}
use Rattle.cut_places.specs.MachineModel.Machine.{Machine}
use Rattle.cut_places.specs.MachineModel.Commands.{fate, refusal}
use Rattle.cut_places.specs.AskedReads.Program.{inputs_of_lines}
use Rattle.cut_places.specs.Outcomes.Stops.{led_to}
use Rattle.cut_places.proofs.GoingLemmas.{at_line}
use Rattle.explorer.specs.declared.came.Came.TheVariants as came
use Rattle.explorer.specs.Coming.{came_of}
use Rattle.explorer.specs.Reporting.{refusal_line, refusals_from}

-- what refuses a command can be printed
pub refusal_printable : (answer : Answer) → came.Refused ≡ came_of answer → IsPrintable answer
refusal_printable (Ranges ranges) is = cc is
refusal_printable Done is = tt
refusal_printable (DoneBad n) is = tt
refusal_printable (Bytes bytes) is = tt
refusal_printable (Files files) is = tt
refusal_printable Yes is = tt
refusal_printable No is = tt
refusal_printable (Handle n) is = tt
refusal_printable (Happened event) is = tt
refusal_printable NoEvent is = tt
refusal_printable (BadLines offsets) is = tt
refusal_printable (Attribute n) is = tt
refusal_printable (Scarred block) is = tt
refusal_printable (PoisonBlock block line) is = tt
refusal_printable (PoisonVolume offset) is = tt
refusal_printable (PoisonFile name offset) is = tt
refusal_printable (VerifyFile name offset) is = tt
refusal_printable DeviceFailed is = tt
refusal_printable PowerLost is = tt
refusal_printable (Stopped line) is = tt
refusal_printable (Refused why) is = tt
refusal_printable (RefusedMeta line) is = tt

pub reply_printable : (refused : Option Reply) (answer : Answer) → option_map answer_of refused ≡ Some answer → came.Refused ≡ came_of answer
    → IfSome refused (λ reply. IsPrintable (answer_of reply))
reply_printable None answer is told = tt
reply_printable (Some reply) answer is told =
    let same : answer_of reply ≡ answer = cc is in
    refusal_printable (answer_of reply) (told ∙ ap came_of (sym same))

-- three texts after a text, one after another
pub three_behind : (a b c d u v w : List ℕ) → u ≡ a ++ b → v ≡ u ++ c → w ≡ v ++ d → w ≡ a ++ (b ++ (c ++ d))
three_behind a b c d u v w first second third =
    third ∙ ap (λ t. t ++ d) (second ∙ ap (λ t. t ++ c) first) ∙ append_assoc (a ++ b) c d ∙ append_assoc a b (c ++ d)

-- So much is reported of the lines before this one, where these are reported from that state on.
pub record IsReported (lines : List (Option Command)) (wanted : List Bool) (begun : List ℕ) (i : ℕ) (text : List ℕ) (h to : Machine) : Type 0 where
  pub is : begun ++ refusals_from 1 h (inputs_of_lines lines) wanted ≡ text ++ refusals_from (i + 1) to (inputs_of_lines (drop i lines)) (drop i wanted)

pub reported_first : (lines : List (Option Command)) (wanted : List Bool) (begun : List ℕ) (h : Machine) → IsReported lines wanted begun 0 begun h h
reported_first lines wanted begun h = record { is = refl }

suc_is : (n : ℕ) → suc n ≡ n + 1
suc_is n = omega arith

module _ (lines : List (Option Command)) (wanted : List Bool) (begun : List ℕ) (i : ℕ) (text : List ℕ) (line : Option Command) (mark : Bool) (lt : i < length lines)
    (many : length lines ≤ length wanted) (is : line ≡ get_or lines i line) (at : mark ≡ get_or wanted i false) (h to : Machine) (reported : IsReported lines wanted begun i text h to) where
  lines_next : drop i lines ≡ line ∷ drop (i + 1) lines
  lines_next = at_line lines i line lt is

  marks_next : drop i wanted ≡ mark ∷ drop (i + 1) wanted
  marks_next =
      drop-cons wanted i false (omega (arith, lt, many)) ∙ ap (λ b. b ∷ drop (suc i) wanted) (sym at) ∙ ap (λ n. mark ∷ drop n wanted) (suc_is i)

  both_next : (l : Option Command) → line ≡ l
      → begun ++ refusals_from 1 h (inputs_of_lines lines) wanted ≡ text ++ refusals_from (i + 1) to (inputs_of_lines (l ∷ drop (i + 1) lines)) (mark ∷ drop (i + 1) wanted)
  both_next l same =
      reported.is ∙ ap (λ ls. text ++ refusals_from (i + 1) to (inputs_of_lines ls) (drop i wanted)) (lines_next ∙ ap (λ x. x ∷ drop (i + 1) lines) same)
      ∙ ap (λ ms. text ++ refusals_from (i + 1) to (inputs_of_lines (l ∷ drop (i + 1) lines)) ms) marks_next

  -- a line without a command
  pub reported_past : line ≡ None → IsReported lines wanted begun (i + 1) text h to
  reported_past none = record {
    is = both_next None none ∙ ap (λ n. text ++ refusals_from n to (inputs_of_lines (drop (i + 1) lines)) (drop (i + 1) wanted)) (suc_is (i + 1));
  }

  -- a command
  pub reported_on : (command : Command) → line ≡ Some command → (grown : List ℕ) → grown ≡ text ++ refusal_line (i + 1) (refusal to (action_of command)) mark
      → IsReported lines wanted begun (i + 1) grown h (led_to to (fate to (action_of command)))
  reported_on command some grown more =
      let next = led_to to (fate to (action_of command)) in
      let rest = inputs_of_lines (drop (i + 1) lines) in
      let marks = drop (i + 1) wanted in
      record {
        is = both_next (Some command) some
            ∙ sym (append_assoc text (refusal_line (i + 1) (refusal to (action_of command)) mark) (refusals_from (suc (i + 1)) next rest marks))
            ∙ ap (λ t. t ++ refusals_from (suc (i + 1)) next rest marks) (sym more)
            ∙ ap (λ n. grown ++ refusals_from n next rest marks) (suc_is (i + 1));
      }

-- after the last line
pub reported_last : (lines : List (Option Command)) (wanted : List Bool) (begun : List ℕ) (i : ℕ) (text : List ℕ) (h to : Machine) → length lines ≤ i
    → IsReported lines wanted begun i text h to → text ≡ begun ++ refusals_from 1 h (inputs_of_lines lines) wanted
reported_last lines wanted begun i text h to ends reported =
    sym (reported.is ∙ ap (λ ls. text ++ refusals_from (i + 1) to (inputs_of_lines ls) (drop i wanted)) (drop_all i lines ends) ∙ append-nil text)
