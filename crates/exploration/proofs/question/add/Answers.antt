use Rattle.std.proofs.Common.{refl, rules}
use Rattle.questions.specs.Asked.{answer_asked}
use Rattle.exploration.proofs.AskLemmas.{adds-blocks, adds-file, adds-page}
use Rattle.exploration.proofs.question.add.Goals as goal

pub returns-in_ok-map_err-in-Volume : goal.returns-in_ok-map_err-in-Volume
returns-in_ok-map_err-in-Volume c = λ look is.
    adds-page look c.args.question.now _ c.args.read.now c.in-Volume.start c.in-Volume.len c.in_ok-reply-in-Volume.reply (answer_asked c.args.reply.now) is c.in-Volume.is
    c.in_ok-reply-in-Volume.ensures (search rules) refl refl

pub returns-in_ok-map_err-in-Blocks : goal.returns-in_ok-map_err-in-Blocks
returns-in_ok-map_err-in-Blocks c = λ look is.
    adds-blocks look c.args.question.now _ c.args.read.now c.in-Blocks.first c.in-Blocks.count _ (answer_asked c.args.reply.now) _ is c.in-Blocks.is
    c.push-in-Blocks.ensures.items (search rules) refl refl c.from.ensures refl c.in_ok-reply-in-Blocks.ensures

pub returns-in_ok-map_err-in-File : goal.returns-in_ok-map_err-in-File
returns-in_ok-map_err-in-File c = λ look is.
    adds-file look c.args.question.now _ c.args.read.now c.in-File.name c.in-File.start c.in-File.len c.in_ok-read-in-File.read (answer_asked c.args.reply.now) is c.in-File.is
    c.in_ok-read-in-File.ensures (search rules) refl refl
