use Rattle.std.proofs.Common.{◌<◌, refl, sym, subst, ◌∙◌}
use Rattle.script_text.specs.Action.Action.{BRead}
use Rattle.word_tables.specs.declared.geometry.Geometry.{Geometry}
use Rattle.machine_host.specs.Responding.{outcome_answer}
use Rattle.explorer.specs.Coming.{came_of}
use Rattle.explorer.specs.Stopping.{DeviceStopped}
use Rattle.explorer.proofs.CauseLemmas.{handed_on, went_on}
use Rattle.explorer.proofs.UntoldLemmas.{no_block_told}
use Rattle.explorer.proofs.BlockLookLemmas.{sees, stands_again, tells}
use Rattle.explorer.proofs.blocks_look.look_block.Goals as goal

pub returns-clause-sees : goal.returns-clause-sees
returns-clause-sees g c = λ h stands ready.
    let old = g.D.Lines.state c.args.device.now in
    let new = g.D.Lines.state c.answer.new.device in
    let answer = outcome_answer c.answer.new.work c.in_ok-outcome.outcome in
    let comes = c.in_ok-outcome.ensures.step h stands in
    let told = c.in_ok-block.ensures in
    let within : c.args.b < h.geometry.blocks = subst (λ (geo : Geometry). c.args.b < geo.blocks) stands.geometry c.requires.within in (
      sees h c.args.b answer comes.next c.in_ok-block.block (tells h c.args.b ready within c.answer.new.self answer old new comes) told.came told.whole told.scarred told.bad_line,
      stands_again h c.args.b c.answer.new.self answer old new comes told.came,
    )

pub returns-clause-geometry : goal.returns-clause-geometry
returns-clause-geometry g c =
    let known = c.requires.known in
    let answer = outcome_answer c.answer.new.work c.in_ok-outcome.outcome in
    let comes = c.in_ok-outcome.ensures.step known.state known.stands in
    let again = stands_again known.state c.args.b c.answer.new.self answer (g.D.Lines.state c.args.device.now) (g.D.Lines.state c.answer.new.device) comes c.in_ok-block.ensures.came in
    again.geometry ∙ sym known.stands.geometry

pub returns-clause-counts : goal.returns-clause-counts
returns-clause-counts g c =
    let known = c.requires.known in
    let answer = outcome_answer c.answer.new.work c.in_ok-outcome.outcome in
    went_on c.answer.new.self known.state (BRead c.args.b 1) answer (g.D.Lines.state c.args.device.now) (g.D.Lines.state c.answer.new.device)
    (c.in_ok-outcome.ensures.step known.state known.stands) (came_of answer) refl c.in_ok-block.ensures.came

pub returns-in_err-block-clause-cause : goal.returns-in_err-block-clause-cause
returns-in_err-block-clause-cause g c = λ h stands ready.
    let old = g.D.Lines.state c.args.device.now in
    let new = g.D.Lines.state c.answer.new.device in
    handed_on (DeviceStopped old.panel new.panel) c.in_err-block.field-0.0 c.from_residual-in_err-block.result c.from_residual-in_err-block.ensures.1
    (λ is. no_block_told c.answer.new.self h (outcome_answer c.answer.new.work c.in_ok-outcome.outcome) old new ready c.args.b
    (subst (λ (geo : Geometry). c.args.b < geo.blocks) stands.geometry c.requires.within) (c.in_ok-outcome.ensures.step h stands) (c.in_err-block.ensures.none is))
