use Rattle.std.proofs.Common.{◌∙◌}
use Rattle.script_text.specs.Action.{action_of}
use Rattle.cut_places.proofs.StepLemmas.{whole_after, within_after}
use Rattle.value_tables.proofs.PlaceLemmas.{of_after}
use Rattle.explorer.proofs.FollowedLemmas.{follows_done, follows_refused}
use Rattle.explorer.proofs.ResultLemmas.{on_ok_all}
use Rattle.explorer.proofs.following.follow.Goals as goal

pub returns-then-not-done-clause-follows : goal.returns-then-not-done-clause-follows
returns-then-not-done-clause-follows c = λ h follows is. follows_refused c.args.sight.now c.args.geometry h (action_of c.args.command.now) follows (is ∙ c.if-not-done.true)

pub returns-clause-follows : goal.returns-clause-follows
returns-clause-follows c = λ h follows is.
    let now = c.args.sight.now in
    let geo = c.args.geometry in
    on_ok_all c.change.result
    (λ lines blocks files. follows_done now c.change.new.self geo h (action_of c.args.command.now) follows c.requires.within (is ∙ c.if-not-done.false) c.requires.program lines blocks files)
    c.change.ensures.lines c.change.ensures.blocks c.change.ensures.files

pub returns-clause-within : goal.returns-clause-within
returns-clause-within c =
    on_ok_all c.change.result
    (λ lines blocks files. within_after c.args.geometry c.args.geometry (action_of c.args.command.now) c.args.sight.now c.change.new.self c.requires.within lines blocks)
    c.change.ensures.lines c.change.ensures.blocks c.change.ensures.files

pub returns-clause-looks : goal.returns-clause-looks
returns-clause-looks c = λ look of.
    on_ok_all c.change.result
    (λ lines blocks files. of_after c.args.geometry c.args.geometry (action_of c.args.command.now) look c.args.sight.now c.change.new.self of lines blocks files)
    c.change.ensures.lines c.change.ensures.blocks c.change.ensures.files

pub returns-clause-whole : goal.returns-clause-whole
returns-clause-whole c = λ question whole.
    on_ok_all c.change.result
    (λ lines blocks files. whole_after c.args.geometry (action_of c.args.command.now) question c.args.sight.now c.change.new.self whole lines blocks files)
    c.change.ensures.lines c.change.ensures.blocks c.change.ensures.files
