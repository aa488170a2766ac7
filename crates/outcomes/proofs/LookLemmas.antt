-- What a look is answered: each reply is of the storage that a restart left.
use Rattle.std.proofs.Common.{◌≡◌, inl, inr, ℕ, false, Option, Some, None, List, [], ◌∷◌, ◌++◌, refl, sym, ap, subst, ◌∙◌}
use Rattle.std.proofs.lemmas.Bool.{both_ways}
use Rattle.line_device.specs.Panel.{Image}
use Rattle.line_device.specs.declared.line.Choice.{Choice}
use Rattle.line_words.specs.declared.interruption.Interruption.{Interruption}
use Rattle.line_words.specs.declared.interruption.Interruption.TheVariants.{Failed, PowerLost as Lost}
use Rattle.word_tables.specs.declared.geometry.Geometry.{Geometry}
use Rattle.reply_text.specs.Answer.{Answer}
use Rattle.reply_text.specs.Answer.Answer.{Bytes, DoneBad}
use Rattle.script_text.specs.Action.{Action}
use Rattle.script_text.specs.Action.Action.{Restart}
use Rattle.machine_model.specs.Machine.{Machine}
use Rattle.machine_model.specs.Machine.Fate.{Works}
use Rattle.machine_model.specs.Commands.{fate, meaning, refusal, unless_refused, while_interrupted}
use Rattle.machine_model.specs.Interrupted.{Interrupts, interrupted_answer}
use Rattle.machine_model.specs.Lines.{bad_metadata}
use Rattle.machine_model.specs.Restarting.{RestartMayLeave, read_with, reading}
use Rattle.machine_model.specs.Settling.{disarmed}
use Rattle.machine_model.specs.Run.{Run, Takes, Transcript}
use Rattle.durable.proofs.RefusalLemmas.{refused_told}
use Rattle.durable.proofs.RefusedAnswerLemmas.{is_refused}
use Rattle.nvm_model.specs.Page.{look}
use Rattle.outcomes.specs.Outcome.{AllShown, Shown, bytes_seen}
use Rattle.outcomes.specs.Seen.{Seen, answer, answers, asked, command}
use Rattle.outcomes.specs.Seen.Seen.{of_volume, of_blocks, of_file}

-- the storage that was read
abbrev pub held : Machine → Image → Machine
held h image = read_with [] h.geometry image

pub comes_of : (g : Machine) (seen : Seen) → (meaning (command seen)).comes g ≡ Works (Bytes (bytes_seen g seen)) g
comes_of g (of_volume r) = refl
comes_of g (of_blocks r) = refl
comes_of g (of_file r) = refl

-- nothing is armed, so a read runs through
module _ (g : Machine) (no_cut : g.cut_armed ≡ false) (no_failure : g.fail_armed ≡ false) where
  unstopped : (by : Interruption) (action : Action) (next : Machine) → Interrupts by (while_interrupted g action) next → ⊥
  unstopped Failed action next came = both_ways g.fail_armed no_failure came.armed
  unstopped Lost action next came = both_ways g.cut_armed no_cut came.armed

  read_shown : (seen : Seen) (others : List Answer) (first rest : Transcript) (next : Machine) → Takes g (command seen) (fate g (command seen)) first next
      → first.answers ++ rest.answers ≡ answer seen ∷ others → Shown g seen × (next ≡ g) × (rest.answers ≡ others)
  read_shown seen others first rest next takes told = by_refusal (refusal g (command seen)) refl takes
    where
      by_refusal : (o : Option Answer) → refusal g (command seen) ≡ o → Takes g (command seen) (unless_refused g o ((meaning (command seen)).comes g)) first next
          → Shown g seen × (next ≡ g) × (rest.answers ≡ others)
      by_refusal (Some refused) is took =
          let e : refused ∷ rest.answers ≡ answer seen ∷ others = sym (ap (λ s. s.answers ++ rest.answers) took.0) ∙ told in
          let same : refused ≡ answer seen = cc e in
          (inl (is ∙ ap Some same), took.1, cc e)
      by_refusal None is took =
          let t = subst (λ f. Takes g (command seen) f first next) (comes_of g seen) took in
          let e : t.0 ∷ rest.answers ≡ answer seen ∷ others = sym (ap (λ s. s.answers ++ rest.answers) t.1) ∙ told in
          let same : t.0 ≡ answer seen = cc e in
          let others_told : rest.answers ≡ others = cc e in
          elim t.2 as (λ _. Shown g seen × (next ≡ g) × (rest.answers ≡ others)) [
            | inl end ↦ (inr (is, sym same ∙ end.0), end.1, others_told)
            | inr end ↦ absurd (unstopped end.0 (command seen) next end.2)
          ]

  pub look_shown : (look : List Seen) (said : Transcript) (end : Machine) → Run g (asked look) said end → said.answers ≡ answers look → AllShown g look
  look_shown [] said end run told = tt
  look_shown (seen ∷ look) said end run told =
      let one = read_shown seen (answers look) run.0 run.1 run.2 run.4 (sym (ap (λ s. s.answers) run.3) ∙ told) in
      (one.0, look_shown look run.1 end (subst (λ m. Run m (asked look) run.1 end) one.1 run.5) one.2)

not_stopped : (by : Interruption) (bad : ℕ) → interrupted_answer by ≡ DoneBad bad → ⊥
not_stopped Failed bad is = cc is
not_stopped Lost bad is = cc is

read_is : (geo : Geometry) (image : Image) → image.unit ≡ 8 → bad_metadata geo image.is_bad ≡ [] → reading geo image ≡ read_with [] geo image
unfolding reading
read_is geo image words none = ap (λ b. record (read_with b geo image) { unit = image.unit }) none ∙ ap (λ u. record (read_with [] geo image) { unit = u }) words

-- a restart that was mounted, and what follows it
pub mounted : (off : Machine) (choice : Choice) (bad : ℕ) (others : List Answer) (first rest : Transcript) (next : Machine) → off.unit ≡ 8 → off.bad_meta ≡ []
    → Takes (disarmed off) (Restart choice) (fate (disarmed off) (Restart choice)) first next → first.answers ++ rest.answers ≡ DoneBad bad ∷ others
    → (image : Image) × (RestartMayLeave choice image (disarmed off)) × (next ≡ held off image) × (rest.answers ≡ others)
mounted off choice bad others first rest next words good takes told = by_refusal (refusal (disarmed off) (Restart choice)) refl takes
  where
    by_refusal : (o : Option Answer) → refusal (disarmed off) (Restart choice) ≡ o
        → Takes (disarmed off) (Restart choice) (unless_refused (disarmed off) o ((meaning (Restart choice)).comes (disarmed off))) first next
        → (image : Image) × (RestartMayLeave choice image (disarmed off)) × (next ≡ held off image) × (rest.answers ≡ others)
    by_refusal (Some refused) is took =
        let e : refused ∷ rest.answers ≡ DoneBad bad ∷ others = sym (ap (λ s. s.answers ++ rest.answers) took.0) ∙ told in
        let same : refused ≡ DoneBad bad = cc e in
        absurd (both_ways (is_refused refused) (ap is_refused same) (refused_told (disarmed off) (Restart choice) refused is))
    by_refusal None is took =
        let image = took.0.image in
        let e : took.1 ∷ rest.answers ≡ DoneBad bad ∷ others = sym (ap (λ s. s.answers ++ rest.answers) took.2) ∙ told in
        let same : took.1 ≡ DoneBad bad = cc e in
        let others_told : rest.answers ≡ others = cc e in
        elim took.5 as (λ _. (image : Image) × (RestartMayLeave choice image (disarmed off)) × (next ≡ held off image) × (rest.answers ≡ others)) [
          | inl end ↦ (
            image,
            took.4,
            end.1 ∙ ap (λ (m : Machine). record m { cut_armed = false; fail_armed = false }) (read_is off.geometry image (took.4.unit ∙ words) (took.4.metadata ∙ good)),
            others_told,
          )
          | inr end ↦ absurd (not_stopped end.0 bad (sym end.1 ∙ same))
        ]
