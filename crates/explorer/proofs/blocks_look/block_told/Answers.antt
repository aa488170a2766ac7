use Rattle.std.proofs.Common.{◌≢◌, ℕ, sym, ap, ◌∙◌, arith, rules}
use Rattle.reply_text.specs.declared.reply.Reply.TheVariants as reply
use Rattle.machine_host.specs.declared.outcome.Outcome.TheVariants.{Read, Reply as Replied}
use Rattle.std.proofs.lemmas.List.{length-take}
use Rattle.block_sights.specs.Sights.Sight.{Whole}
use Rattle.machine_host.specs.Responding.{outcome_answer}
use Rattle.explorer.proofs.BlockLookLemmas.{head_bytes}
use Rattle.explorer.proofs.UntoldLemmas.{no_block_in}
use Rattle.explorer.proofs.blocks_look.block_told.Goals as goal

pub slice_bounds-of_bytes-end : goal.slice_bounds-of_bytes-end
slice_bounds-of_bytes-end c =
    let wide = c.requires.wide in
    let size = length-take 512 c.args.work.now in
    omega (arith, size, wide)

pub returns-in_ok-of_bytes-in-Read-clause-whole : goal.returns-in_ok-of_bytes-in-Read-clause-whole
returns-in_ok-of_bytes-in-Read-clause-whole c = λ bytes told size.
    c.in_ok-of_bytes-in-Read.ensures
    ∙ ap Whole (head_bytes c.args.work.now bytes c.in-Read.field-0 c.requires.wide size (sym (ap (outcome_answer c.args.work.now) c.in-Read.is) ∙ told))

pub returns-in-Reply-clause-none : goal.returns-in-Reply-clause-none
returns-in-Reply-clause-none c = λ is.
    let outcome = c.args.outcome.now in
    let unread : (n : ℕ) → outcome ≢ Read n = search rules in
    let scar : (b : ℕ) → outcome ≢ Replied (reply.Scarred b) = search rules in
    let line : (b n : ℕ) → outcome ≢ Replied (reply.PoisonBlock b n) = search rules in
    no_block_in c.args.work.now outcome unread scar line
