-- A look is answered as it is shown.
use Rattle.std.proofs.Common.{◌≡◌, inl, inr, Option, List, [], ◌∷◌, ◌++◌, refl, sym, ap, subst, ◌∙◌}
use Rattle.reply_text.specs.Answer.{Answer}
use Rattle.reply_text.specs.Answer.Answer.{Bytes}
use Rattle.script_text.specs.Script.Input.{Asked}
use Rattle.machine_model.specs.Machine.{Fate, Machine}
use Rattle.machine_model.specs.Machine.Fate.{Works}
use Rattle.machine_model.specs.Commands.{meaning, spending, unless_refused}
use Rattle.machine_model.specs.Run.{Hears, Run, Takes, Transcript, answered, followed_by, silence, worked}
use Rattle.outcomes.specs.Outcome.{AllShown, Shown, bytes_seen}
use Rattle.outcomes.specs.Seen.{Seen, answer, answers, asked, command}
use Rattle.outcomes.proofs.LookLemmas.{comes_of}

-- one read
heard : (g : Machine) (seen : Seen) → Shown g seen → (said : Transcript) × (said.answers ≡ answer seen ∷ []) × Hears g (Asked (command seen)) said g
heard g seen (inl refused) = (
  answered (answer seen),
  refl,
  subst (λ (o : Option Answer). Takes g (command seen) (unless_refused g o ((meaning (command seen)).comes g)) (answered (answer seen)) g) (sym refused) (refl, refl),
)
heard g seen (inr shown) =
    let good : Answer = Bytes (bytes_seen g seen) in
    let said : Transcript = worked (spending g (command seen)) good in
    let took : Takes g (command seen) (Works good g) said g = (good, refl, inl (refl, refl)) in (
      said,
      ap (λ (a : Answer). a ∷ []) (sym shown.1),
      subst (λ (o : Option Answer). Takes g (command seen) (unless_refused g o ((meaning (command seen)).comes g)) said g) (sym shown.0)
          (subst (λ (f : Fate). Takes g (command seen) f said g) (sym (comes_of g seen)) took),
    )

-- all of them
pub look_heard : (g : Machine) (look : List Seen) → AllShown g look → (told : Transcript) × (told.answers ≡ answers look) × Run g (asked look) told g
look_heard g [] all = (silence, refl, (refl, refl))
look_heard g (seen ∷ look) all =
    let one = heard g seen all.0 in
    let others = look_heard g look all.1 in (
      followed_by one.0 others.0,
      ap (λ (a : List Answer). a ++ others.0.answers) one.1 ∙ ap (λ (a : List Answer). answer seen ∷ a) others.1,
      (one.0, others.0, g, refl, one.2, others.2),
    )
