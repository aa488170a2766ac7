-- A line that is made weak, for which memory may be wanting.
use Rattle.std.proofs.Common.{◌≡◌, Result, Ok, Err, refl}
use Rattle.std.specs.Prelude.{IfErr, MatchResult}
use Rattle.line_device.specs.Device.{Device}
use Rattle.scrub.specs.Refusals.{weaken_says}
use Rattle.scrub.specs.declared.fault.WeakenFault.{WeakenFault}
use Rattle.scrub.specs.declared.fault.WeakenFault.TheVariants as fault
use Rattle.reply_text.specs.declared.reply.Reply.{Reply}
use Rattle.reply_text.specs.Answer.{Answer, answer_of}
use Rattle.reply_text.specs.Answer.Answer.{Done}
use Rattle.script_text.specs.Action.{Action}
use Rattle.machine_host.specs.Faults.{answer_after, Leaves}
use Rattle.machine_model.specs.OnMedia.{line_answer}
use Rattle.machine_host.specs.Responding.{Answered, Responds}
use Rattle.machine_host.specs.Stands.{HostServes, HostState}
use Rattle.machine_host.proofs.MediaLemmas.{IsRefusal}

-- what did not want memory was refused or done
refuses : (r : Result (Unit {0}) WeakenFault) → (r ≡ Err fault.Memory → ⊥) → IfErr r (λ f. IsRefusal (weaken_says f))
refuses (Ok u) fed = tt
refuses (Err fault.Range) fed = tt
refuses (Err fault.Nothing) fed = tt
refuses (Err fault.Memory) fed = absurd (fed refl)

pub weaken_responds : {E : Type 0} (action : Action) (r : Result (Unit {0}) WeakenFault) (q : Result Reply E) (now after : HostState) (old new : Device)
    → MatchResult q (λ reply. (r ≡ Err fault.Memory → ⊥) × (answer_of reply ≡ answer_after weaken_says line_answer Done r)) (λ _. r ≡ Err fault.Memory)
    → ((answer : Answer) → IfErr r (λ f. IsRefusal (weaken_says f)) → answer ≡ answer_after weaken_says line_answer Done r → Answered action answer now after old new)
    → (r ≡ Err fault.Memory → Leaves action now after old new × HostServes after new) → Responds action q now after old new
weaken_responds action r (Ok reply) now after old new told answered starved = answered (answer_of reply) (refuses r told.0) told.1
weaken_responds action r (Err e) now after old new told answered starved = let left = starved told in record { leaves = left.0; serves = left.1 }
