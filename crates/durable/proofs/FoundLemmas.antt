-- The events that a mount finds.
use Rattle.std.proofs.Common.{◌≡◌, ◌⊎◌, inl, inr, ℕ, ◌*◌, true, Option, Some, None, List, [], ◌∷◌, length, refl, sym, ap, subst}
use Rattle.std.proofs.lemmas.Bool.{both_ways}
use Rattle.std.proofs.lemmas.Simd.{map-map}
use Rattle.line_device.specs.Panel.{Image}
use Rattle.line_device.specs.declared.line.Choice.{Choice}
use Rattle.line_words.specs.declared.interruption.Interruption.{Interruption}
use Rattle.line_words.specs.declared.interruption.Interruption.TheVariants.{Failed, PowerLost as Lost}
use Rattle.nvm_model.specs.Events.{bad_numbers, found_event, found_events, restart_events}
use Rattle.nvm_model.specs.Page.{cell_of, is_bad_cell}
use Rattle.nvm_model.specs.Storage.{File}
use Rattle.reply_text.specs.Answer.{Answer}
use Rattle.reply_text.specs.Answer.Answer.{DeviceFailed, PowerLost, DoneBad, Stopped}
use Rattle.script_text.specs.Action.{Action}
use Rattle.script_text.specs.Action.Action.{Recover, Restart}
use Rattle.script_text.specs.Script.Input.{Asked}
use Rattle.machine_model.specs.Commands.{meaning, refusal, unless_refused}
use Rattle.machine_model.specs.Interrupted.{interrupted_answer, interrupted_mode}
use Rattle.machine_model.specs.Lines.{bad_metadata}
use Rattle.machine_model.specs.Machine.{Machine}
use Rattle.machine_model.specs.Recovering.{RecoversTo}
use Rattle.machine_model.specs.Restarting.{read_with, reading, restarted}
use Rattle.machine_model.specs.Run.{Hears, Takes, Transcript}
use Rattle.durable.specs.Events.{AreAll, AreMounted, AreOfFile, AreOfFiles, FindsAnew, Mounts}
use Rattle.durable.specs.Files.{IsStopped}
use Rattle.durable.proofs.BadLineLemmas.{bad_within}
use Rattle.durable.proofs.NumberLemmas.{all_passing}
use Rattle.durable.proofs.RefusalLemmas.{refused_told}
use Rattle.durable.proofs.RefusedAnswerLemmas.{is_refused}

-- those of a file
found_all : (file : File) → AreAll (λ n. is_bad_cell (cell_of file.pages n) ≡ true) (bad_numbers file.pages)
unfolding bad_numbers
found_all file = all_passing (λ n. is_bad_cell (cell_of file.pages n)) (64 * length file.pages) (bad_within file.pages)

of_file : (file : File) → AreOfFile file (found_events file)
of_file file =
    record { lines = bad_numbers file.pages; found = found_all file; told = map-map (found_event file.name) (λ n. 64 * n) (bad_numbers file.pages) }

of_files : (files : List File) → AreOfFiles files (restart_events files)
unfolding restart_events
of_files [] = refl
of_files (file ∷ files) = (found_events file, restart_events files, of_file file, of_files files, refl)

-- a state that was just mounted
read_anew : (h : Machine) (image : Image) → FindsAnew (restarted h image)
unfolding reading
read_anew h image = by_list (bad_metadata h.geometry image.is_bad)
  where
    by_list : (bad : List ℕ) → FindsAnew (record (read_with bad h.geometry image) { unit = image.unit; cut_armed = h.cut_armed; fail_armed = h.fail_armed })
    by_list [] = record { events = of_files (read_with [] h.geometry image).files; mappings = refl; handles = refl }
    by_list (line ∷ lines) = record { events = of_files []; mappings = refl; handles = refl }

recovered_anew : (h next : Machine) (bad : List ℕ) → RecoversTo bad h next → FindsAnew next
recovered_anew h next [] to = record {
  events = subst (AreOfFiles next.files) (sym (ap (λ m. m.events) to.state)) (of_files next.files);
  mappings = ap (λ m. m.mappings) to.state;
  handles = ap (λ m. m.next_handle) to.state;
}
recovered_anew h next (line ∷ lines) to = record {
  events = subst (λ (m : Machine). AreOfFiles m.files m.events) (sym to) (of_files []);
  mappings = ap (λ m. m.mappings) to;
  handles = ap (λ m. m.next_handle) to;
}

-- a mount that was done is not answered as a refusal is, nor as an interruption; nor is one that was stopped refused
refused-done : (answer : Answer) → is_refused answer ≡ true → AreMounted (answer ∷ []) → ⊥
refused-done answer is (inl bad) = let same : answer ≡ DoneBad bad.0 = cc bad.1 in both_ways (is_refused answer) (ap is_refused same) is
refused-done answer is (inr line) = let same : answer ≡ Stopped line.0 = cc line.1 in both_ways (is_refused answer) (ap is_refused same) is

refused-stopped : (answer : Answer) → is_refused answer ≡ true → IsStopped (answer ∷ []) → ⊥
refused-stopped answer is (inl failed) = let same : answer ≡ DeviceFailed = cc failed in both_ways (is_refused answer) (ap is_refused same) is
refused-stopped answer is (inr lost) = let same : answer ≡ PowerLost = cc lost in both_ways (is_refused answer) (ap is_refused same) is

interrupted-done : (by : Interruption) → AreMounted (interrupted_answer by ∷ []) → ⊥
interrupted-done Failed (inl bad) = cc bad.1
interrupted-done Failed (inr line) = cc line.1
interrupted-done Lost (inl bad) = cc bad.1
interrupted-done Lost (inr line) = cc line.1

restart_anew : (h next : Machine) (choice : Choice) (said : Transcript) → Hears h (Asked (Restart choice)) said next → AreMounted said.answers ⊎ IsStopped said.answers → FindsAnew next
restart_anew h next choice said heard done = by_refusal (refusal h (Restart choice)) refl heard
  where
    by_refusal : (o : Option Answer) → refusal h (Restart choice) ≡ o → Takes h (Restart choice) (unless_refused h o ((meaning (Restart choice)).comes h)) said next → FindsAnew next
    by_refusal (Some answer) is takes =
        let refused = refused_told h (Restart choice) answer is in
        elim (subst (λ (s : Transcript). AreMounted s.answers ⊎ IsStopped s.answers) takes.0 done) as (λ _. FindsAnew next) [
          | inl mounted ↦ absurd (refused-done answer refused mounted)
          | inr stopped ↦ absurd (refused-stopped answer refused stopped)
        ]
    by_refusal None is takes =
        let read = read_anew h takes.0.image in
        elim takes.5 as (λ _. FindsAnew next) [
          | inl end ↦ subst FindsAnew (sym end.1) read
          | inr end ↦ subst FindsAnew {x = record (restarted h takes.0.image) { mode = interrupted_mode end.0; cut_armed = next.cut_armed; fail_armed = next.fail_armed }} (sym end.2.state)
              (record { events = read.events; mappings = read.mappings; handles = read.handles })
        ]

recover_anew : (h next : Machine) (said : Transcript) → Hears h (Asked Recover) said next → AreMounted said.answers → FindsAnew next
recover_anew h next said heard done = by_refusal (refusal h Recover) refl heard
  where
    by_refusal : (o : Option Answer) → refusal h Recover ≡ o → Takes h Recover (unless_refused h o ((meaning Recover).comes h)) said next → FindsAnew next
    by_refusal (Some answer) is takes = absurd (refused-done answer (refused_told h Recover answer is) (subst (λ (s : Transcript). AreMounted s.answers) takes.0 done))
    by_refusal None is takes =
        elim takes.2 as (λ _. FindsAnew next) [
          | inl end ↦ recovered_anew h next h.bad_meta end.1
          | inr end ↦
              absurd (interrupted-done end.0 (subst (λ (a : Answer). AreMounted (a ∷ [])) end.1 (subst (λ (s : Transcript). AreMounted s.answers) takes.1 done)))
        ]

pub found_anew : (h next : Machine) (action : Action) (said : Transcript) → Hears h (Asked action) said next → Mounts action said.answers → FindsAnew next
found_anew h next action said heard (inl restart) = restart_anew h next restart.0 said (subst (λ a. Hears h (Asked a) said next) restart.1 heard) restart.2
found_anew h next action said heard (inr recover) = recover_anew h next said (subst (λ a. Hears h (Asked a) said next) recover.0 heard) recover.1
