use Rattle.std.proofs.Common.{sym, ◌∙◌}
use Rattle.script_text.specs.Action.{action_of}
use Rattle.cut_places.proofs.StepLemmas.{before_explored, done_explored, on_any, on_found, passes_enough, passes_shown, passes_whole, passes_within, refused_explored}
use Rattle.cut_places.proofs.stepping.step.Goals as goal

pub returns-then-shows-clause-explores : goal.returns-then-shows-clause-explores
returns-then-shows-clause-explores c = λ h look follows enough is told.
    before_explored look c.args.question.now c.args.sight.now c.args.geometry h c.args.line (action_of c.args.command.now) is enough c.requires.replies (sym c.shows.ensures ∙ c.if-shows.true) follows

pub returns-then-not-done-clause-explores : goal.returns-then-not-done-clause-explores
returns-then-not-done-clause-explores c = λ h look follows enough is told.
    refused_explored look c.args.question.now c.args.sight.now c.args.sight.now c.args.geometry h c.args.line (action_of c.args.command.now) is enough c.requires.replies
    (sym c.shows.ensures ∙ c.if-shows.false) follows (told ∙ c.if-not-done.true)

pub returns-clause-explores : goal.returns-clause-explores
returns-clause-explores c = λ h look follows enough is told.
    on_found c.pass.result (λ found. done_explored look c.args.question.now c.args.sight.now c.pass.new.sight c.args.geometry h c.args.line (action_of c.args.command.now) is enough c.requires.replies
    (sym c.shows.ensures ∙ c.if-shows.false) follows c.requires.program c.requires.within (told ∙ c.if-not-done.false) found) c.pass.ensures

pub returns-clause-whole : goal.returns-clause-whole
returns-clause-whole c = λ other whole. on_any c.pass.result (λ found passes. passes_whole c.args.geometry (action_of c.args.command.now) c.args.line c.args.question.now other
    c.args.sight.now c.pass.new.sight found passes whole) c.pass.ensures

pub returns-clause-enough : goal.returns-clause-enough
returns-clause-enough c = λ enough. on_any c.pass.result (λ found passes. passes_enough c.args.geometry (action_of c.args.command.now) c.args.line c.args.question.now c.args.question.now
    c.args.sight.now c.pass.new.sight found passes enough) c.pass.ensures

pub returns-clause-within : goal.returns-clause-within
returns-clause-within c = on_any c.pass.result (λ found passes. passes_within c.args.geometry (action_of c.args.command.now) c.args.line c.args.question.now
    c.args.sight.now c.pass.new.sight found passes c.requires.within) c.pass.ensures

pub returns-clause-shown : goal.returns-clause-shown
returns-clause-shown c = on_found c.pass.result (λ found. passes_shown c.args.geometry (action_of c.args.command.now) c.args.line c.args.question.now c.args.sight.now c.pass.new.sight found) c.pass.ensures
