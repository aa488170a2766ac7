use Rattle.std.proofs.Common.{Bool, refl, sym, subst, ◌∙◌, if◌then◌else◌}
use Rattle.program_base.specs.World.{world}
use Rattle.explore_program.specs.Calls.{Answers}
use Rattle.explore_program.specs.Stops.{stop_text}
use Rattle.explore_program.proofs.CallLemmas.{line_written, no_usage}
use Rattle.explore_program.proofs.UnfailingLemmas.{ends_well}
use Rattle.explore_program.proofs.top.nvmexplore.Goals as goal

pub returns-in-Ok-true-clause-done : goal.returns-in-Ok-true-clause-done
returns-in-Ok-true-clause-done g c few name is =
    subst (λ (b : Bool). Answers name (if b then 1 else 0)
    (world (g.D.Lines.state c.args.device.now) (g.F.Images.held c.args.images.now) (g.F.Images.count c.args.images.now) (g.T.Source.left c.args.script.now) (g.T.Source.count c.args.script.now) (g.K.Sink.written c.args.answers.now) (g.K.Sink.count c.args.answers.now))
    (world (g.D.Lines.state c.perform.new.device) (g.F.Images.held c.perform.new.images) (g.F.Images.count c.perform.new.images) (g.T.Source.left c.perform.new.script) (g.T.Source.count c.perform.new.script) (g.K.Sink.written c.perform.new.answers) (g.K.Sink.count c.perform.new.answers))) c.in-Ok-true.field-0-test (c.in-Ok-true.ensures.call name is)

pub returns-in-Ok-false-clause-done : goal.returns-in-Ok-false-clause-done
returns-in-Ok-false-clause-done g c few name is =
    subst (λ (b : Bool). Answers name (if b then 1 else 0)
    (world (g.D.Lines.state c.args.device.now) (g.F.Images.held c.args.images.now) (g.F.Images.count c.args.images.now) (g.T.Source.left c.args.script.now) (g.T.Source.count c.args.script.now) (g.K.Sink.written c.args.answers.now) (g.K.Sink.count c.args.answers.now))
    (world (g.D.Lines.state c.perform.new.device) (g.F.Images.held c.perform.new.images) (g.F.Images.count c.perform.new.images) (g.T.Source.left c.perform.new.script) (g.T.Source.count c.perform.new.script) (g.K.Sink.written c.perform.new.answers) (g.K.Sink.count c.perform.new.answers))) c.in-Ok-false.field-0-test (c.in-Ok-false.ensures.call name is)

pub returns-in-Err-clause-early_end : goal.returns-in-Err-clause-early_end
returns-in-Err-clause-early_end g c early name is = record {
  stop = c.in-Err.stop;
  is = c.status.ensures;
  between = world (g.D.Lines.state c.perform.new.device) (g.F.Images.held c.perform.new.images) (g.F.Images.count c.perform.new.images) (g.T.Source.left c.perform.new.script) (g.T.Source.count c.perform.new.script) (g.K.Sink.written c.perform.new.answers) (g.K.Sink.count c.perform.new.answers);
  fails = c.in-Err.ensures.call name is;
  line = line_written (stop_text c.in-Err.stop) c.tell.result _ _ _ _ c.tell.ensures.bytes c.tell.ensures.cause;
  rest = refl;
}

pub returns-in-Err-clause-completeness : goal.returns-in-Err-clause-completeness
returns-in-Err-clause-completeness g c name is right none device =
    let old = world (g.D.Lines.state c.args.device.now) (g.F.Images.held c.args.images.now) (g.F.Images.count c.args.images.now) (g.T.Source.left c.args.script.now) (g.T.Source.count c.args.script.now) (g.K.Sink.written c.args.answers.now) (g.K.Sink.count c.args.answers.now) in
    let between = world (g.D.Lines.state c.perform.new.device) (g.F.Images.held c.perform.new.images) (g.F.Images.count c.perform.new.images) (g.T.Source.left c.perform.new.script) (g.T.Source.count c.perform.new.script) (g.K.Sink.written c.perform.new.answers) (g.K.Sink.count c.perform.new.answers) in
    ends_well name c.in-Err.stop old between (g.K.Sink.count c.tell.new.answers) c.status.result (g.K.Sink.written c.tell.new.answers) (c.in-Err.ensures.call name is) c.tell.ensures.later c.status.ensures right none device

pub returns-in-Err-clause-usage : goal.returns-in-Err-clause-usage
returns-in-Err-clause-usage g c two name is = no_usage name c.in-Err.stop _ _ (c.in-Err.ensures.call name is) (sym c.status.ensures ∙ two)
