use Rattle.std.proofs.Common.{◌+◌, sym, ◌∙◌, ap}
use Rattle.word_log.specs.Changes.{changed}
use Rattle.word_log.specs.Lists.{on_lists}
use Rattle.word_log.proofs.ListLemmas.{open_lists, closed_lists}
use Rattle.word_log.proofs.lists.replay.Goals as goal

pub write_home-requires-clause-room : goal.write_home-requires-clause-room
write_home-requires-clause-room c = (open_lists c.args.area c.args.log.now c.args.home.now c.requires.shape c.requires.log c.requires.valid c.if-log-eq-OPEN.true).room

pub write_home-requires-clause-taken : goal.write_home-requires-clause-taken
write_home-requires-clause-taken c = (open_lists c.args.area c.args.log.now c.args.home.now c.requires.shape c.requires.log c.requires.valid c.if-log-eq-OPEN.true).taken

pub returns-then-log-eq-OPEN : goal.returns-then-log-eq-OPEN
returns-then-log-eq-OPEN c = λ j in_home.
    let image = on_lists c.args.area c.args.log.now c.args.home.now in
    let open_ = open_lists c.args.area c.args.log.now c.args.home.now c.requires.shape c.requires.log c.requires.valid c.if-log-eq-OPEN.true in
    c.write_home.ensures j in_home ∙ sym (ap (λ cs. changed cs image (c.args.area.home.start + j)) open_.listed)

pub returns-else-log-eq-OPEN : goal.returns-else-log-eq-OPEN
returns-else-log-eq-OPEN c = closed_lists c.args.area c.args.log.now c.args.home.now c.requires.shape c.requires.valid c.if-log-eq-OPEN.false
