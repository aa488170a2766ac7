use Rattle.std.proofs.Common.{◌≡◌, ◌≢◌, ◌*◌, ◌/◌, ◌<◌, ap, rules, subst, sym, ◌∙◌}
use Rattle.reply_text.specs.declared.reply.Reply.TheVariants as reply
use Rattle.script_text.specs.Action.Action.{VExists}
use Rattle.word_tables.specs.declared.geometry.Geometry.{Geometry}
use Rattle.machine_host.specs.declared.outcome.Outcome.TheVariants.{Reply as Replied}
use Rattle.reply_text.specs.Answer.{answer_of}
use Rattle.word_tables.specs.Layout.{volume_line}
use Rattle.machine_host.specs.Responding.{outcome_answer}
use Rattle.explorer.specs.declared.came.Came.TheVariants.{Done}
use Rattle.explorer.specs.Coming.{came_of}
use Rattle.explorer.specs.Stopping.{DeviceStopped}
use Rattle.explorer.proofs.CauseLemmas.{stopped_so, went_on}
use Rattle.explorer.proofs.LookLemmas.{told_no, told_yes}
use Rattle.explorer.proofs.UntoldLemmas.{no_page_told, not_no, not_yes}
use Rattle.explorer.proofs.volume_look.is_weak.Goals.{in-Reply, in-Reply-2}
use Rattle.explorer.proofs.volume_look.is_weak.Goals as goal

pub returns-in-Reply-Yes-clause-sees : goal.returns-in-Reply-Yes-clause-sees
returns-in-Reply-Yes-clause-sees g c = λ h stands begins.
    let new = g.D.Lines.state c.answer.new.device in
    let told = told_yes c.answer.new.self h c.args.n (outcome_answer c.answer.new.work c.in_ok-answer.field-0) (g.D.Lines.state c.args.device.now) new begins
    (g.met.D.Lines.sound c.answer.new.device) c.in_ok-answer.ensures.serves (c.in_ok-answer.ensures.step h stands)
    (ap (outcome_answer c.answer.new.work) c.in-Reply-Yes.is ∙ ap answer_of c.in-Reply-Yes.field-0-is) in
    let line : c.volume_line.result ≡ volume_line c.answer.new.self.geometry c.args.n = c.volume_line.ensures.line ∙ ap (λ g. volume_line g c.args.n) c.geometry.ensures in
    (c.is_weak.ensures ∙ ap new.medium.is_weak line ∙ told.0, told.1)

pub returns-in-Reply-No-clause-sees : goal.returns-in-Reply-No-clause-sees
returns-in-Reply-No-clause-sees g c = λ h stands begins.
    told_no c.answer.new.self h c.args.n (outcome_answer c.answer.new.work c.in_ok-answer.field-0) (g.D.Lines.state c.args.device.now) (g.D.Lines.state c.answer.new.device) begins
    (c.in_ok-answer.ensures.step h stands) (ap (outcome_answer c.answer.new.work) c.in-Reply-No.is ∙ ap answer_of c.in-Reply-No.field-0-is)

pub returns-in-Reply-Yes-clause-counts : goal.returns-in-Reply-Yes-clause-counts
returns-in-Reply-Yes-clause-counts g c =
    let known = c.requires.known in
    went_on c.answer.new.self known.state (VExists (c.args.n / 64)) (outcome_answer c.answer.new.work c.in_ok-answer.field-0) (g.D.Lines.state c.args.device.now)
    (g.D.Lines.state c.answer.new.device) (c.in_ok-answer.ensures.step known.state known.stands) Done
    (ap came_of (sym (ap (outcome_answer c.answer.new.work) c.in-Reply-Yes.is ∙ ap answer_of c.in-Reply-Yes.field-0-is))) (λ e. cc e)

pub returns-in-Reply-No-clause-counts : goal.returns-in-Reply-No-clause-counts
returns-in-Reply-No-clause-counts g c =
    let known = c.requires.known in
    went_on c.answer.new.self known.state (VExists (c.args.n / 64)) (outcome_answer c.answer.new.work c.in_ok-answer.field-0) (g.D.Lines.state c.args.device.now)
    (g.D.Lines.state c.answer.new.device) (c.in_ok-answer.ensures.step known.state known.stands) Done
    (ap came_of (sym (ap (outcome_answer c.answer.new.work) c.in-Reply-No.is ∙ ap answer_of c.in-Reply-No.field-0-is))) (λ e. cc e)

pub returns-clause-cause : goal.returns-clause-cause
returns-clause-cause g c = λ h stands begins.
    let work = c.answer.new.work in
    let outcome = c.in_ok-answer.field-0 in
    let old = g.D.Lines.state c.args.device.now in
    let new = g.D.Lines.state c.answer.new.device in
    let stops : outcome ≢ Replied reply.Yes → outcome ≢ Replied reply.No → DeviceStopped old.panel new.panel =
    λ no_yes no_no. no_page_told c.answer.new.self h (outcome_answer work outcome) old new begins.ready c.args.n
    (subst (λ (geo : Geometry). c.args.n < 64 * geo.vpages) stands.geometry c.requires.within) (c.in_ok-answer.ensures.step h stands)
    (not_yes work outcome no_yes) (not_no work outcome no_no) in
    stopped_so (DeviceStopped old.panel new.panel) c.match-branch-2.result (elim c.match-branch-2.branch [
      | in-Reply w ↦
          let no_yes : outcome ≢ Replied reply.Yes = search rules in
          let no_no : outcome ≢ Replied reply.No = search rules in
          stops no_yes no_no
      | in-Reply-2 w ↦
          let no_yes : outcome ≢ Replied reply.Yes = search rules in
          let no_no : outcome ≢ Replied reply.No = search rules in
          stops no_yes no_no
    ])
