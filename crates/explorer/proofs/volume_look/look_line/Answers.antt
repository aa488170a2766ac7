use Rattle.std.proofs.Common.{◌≡◌, ◌≢◌, ◌*◌, ◌<◌, List, ℕ, length, take, sym, ap, rules, subst, ◌∙◌, arith}
use Rattle.std.proofs.lemmas.List.{length-take-le}
use Rattle.reply_text.specs.Answer.{answer_of}
use Rattle.reply_text.specs.declared.reply.Reply.TheVariants as reply
use Rattle.script_text.specs.Action.Action.{VLoad}
use Rattle.word_tables.specs.declared.geometry.Geometry.{Geometry}
use Rattle.machine_host.specs.declared.outcome.Outcome.TheVariants.{Read, Reply as Replied}
use Rattle.machine_host.specs.Responding.{IsWithin, outcome_answer}
use Rattle.explorer.specs.declared.came.Came.TheVariants.{Done, Refused}
use Rattle.explorer.specs.Coming.{came_of}
use Rattle.explorer.proofs.CauseLemmas.{fell_later, stopped_later, went_on}
use Rattle.explorer.proofs.LookLemmas.{told_poison, told_read}
use Rattle.explorer.proofs.UntoldLemmas.{no_line_told, not_bytes, not_poison}
use Rattle.explorer.proofs.volume_look.look_line.Goals as goal

head : (work old : List ℕ) → length work ≡ length old → length old ≡ 65536 → length (take 64 work) ≡ 64
head work old same wide = length-take-le 64 work (omega (arith, same, wide))

pub slice_bounds-of_bytes-end-in-Read : goal.slice_bounds-of_bytes-end-in-Read
slice_bounds-of_bytes-end-in-Read g c = sym (head c.answer.new.work c.args.work.now (c.answer.auto.work ∙ c.is_weak.auto.work) c.requires.wide)

pub of_bytes-requires : goal.of_bytes-requires
of_bytes-requires g c = head c.answer.new.work c.args.work.now (c.answer.auto.work ∙ c.is_weak.auto.work) c.requires.wide

pub returns-in-Read-clause-sees : goal.returns-in-Read-clause-sees
returns-in-Read-clause-sees g c = λ h stands begins.
    let first = c.in_ok-weak.ensures.sees h stands begins in
    let told = told_read c.answer.new.self h c.args.n (outcome_answer c.answer.new.work c.in_ok-answer.field-0) (g.D.Lines.state c.is_weak.new.device) (g.D.Lines.state c.answer.new.device) begins
    (c.in_ok-answer.ensures.step h first.1) c.in_ok-weak.weak c.answer.new.work c.in-Read.field-0 first.0
    (ap (outcome_answer c.answer.new.work) c.in-Read.is) (subst (IsWithin c.answer.new.work) c.in-Read.is c.in_ok-answer.ensures.within) in
    (c.of_bytes.ensures ∙ told.0, told.1)

pub returns-in-Reply-PoisonVolume-clause-sees : goal.returns-in-Reply-PoisonVolume-clause-sees
returns-in-Reply-PoisonVolume-clause-sees g c = λ h stands begins.
    let first = c.in_ok-weak.ensures.sees h stands begins in
    let told = told_poison c.answer.new.self h c.args.n (outcome_answer c.answer.new.work c.in_ok-answer.field-0) (g.D.Lines.state c.is_weak.new.device) (g.D.Lines.state c.answer.new.device) begins
    (c.in_ok-answer.ensures.step h first.1) c.in-Reply-PoisonVolume.field-0-0
    (ap (outcome_answer c.answer.new.work) c.in-Reply-PoisonVolume.is ∙ ap answer_of c.in-Reply-PoisonVolume.field-0-is) in
    (c.bad.ensures ∙ told.0, told.1)

pub returns-in-Read-clause-counts : goal.returns-in-Read-clause-counts
returns-in-Read-clause-counts g c =
    let known = c.in_ok-weak.ensures.known in
    let mid = g.D.Lines.state c.is_weak.new.device in
    let new = g.D.Lines.state c.answer.new.device in
    fell_later (g.D.Lines.state c.args.device.now).panel mid.panel new.panel c.in_ok-weak.ensures.counts
    (went_on c.answer.new.self known.state (VLoad (64 * c.args.n) 64) (outcome_answer c.answer.new.work c.in_ok-answer.field-0) mid new
    (c.in_ok-answer.ensures.step known.state known.stands) Done (ap came_of (sym (ap (outcome_answer c.answer.new.work) c.in-Read.is))) (λ e. cc e))

pub returns-in-Reply-PoisonVolume-clause-counts : goal.returns-in-Reply-PoisonVolume-clause-counts
returns-in-Reply-PoisonVolume-clause-counts g c =
    let known = c.in_ok-weak.ensures.known in
    let mid = g.D.Lines.state c.is_weak.new.device in
    let new = g.D.Lines.state c.answer.new.device in
    fell_later (g.D.Lines.state c.args.device.now).panel mid.panel new.panel c.in_ok-weak.ensures.counts
    (went_on c.answer.new.self known.state (VLoad (64 * c.args.n) 64) (outcome_answer c.answer.new.work c.in_ok-answer.field-0) mid new
    (c.in_ok-answer.ensures.step known.state known.stands) Refused (ap came_of (sym (ap (outcome_answer c.answer.new.work) c.in-Reply-PoisonVolume.is ∙ ap answer_of c.in-Reply-PoisonVolume.field-0-is))) (λ e. cc e))

pub returns-clause-cause : goal.returns-clause-cause
returns-clause-cause g c = λ h stands begins is.
    let first = c.in_ok-weak.ensures.sees h stands begins in
    let mid = g.D.Lines.state c.is_weak.new.device in
    let new = g.D.Lines.state c.answer.new.device in
    let outcome = c.in_ok-answer.field-0 in
    let unread : (n : ℕ) → outcome ≢ Read n = search rules in
    let other : (n : ℕ) → outcome ≢ Replied (reply.PoisonVolume n) = search rules in
    stopped_later (g.D.Lines.state c.args.device.now).panel mid.panel new.panel c.in_ok-weak.ensures.counts
    (no_line_told c.answer.new.self h (outcome_answer c.answer.new.work outcome) mid new begins.ready c.args.n
    (subst (λ (geo : Geometry). c.args.n < 64 * geo.vpages) stands.geometry c.requires.within) (c.in_ok-answer.ensures.step h first.1)
    (not_bytes c.answer.new.work outcome unread) (not_poison c.answer.new.work outcome other))
