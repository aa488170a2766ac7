use Rattle.std.proofs.Common.{◌≡◌, [], ◌∷◌, ◌++◌, ◌*◌, ◌/◌, ap, ap₂, refl, subst, sym, ◌∙◌}
use Rattle.cut_places.specs.Outcomes.Blocks.BlockReply.{Scar}
use Rattle.cut_places.specs.Outcomes.Pages.{PageRead}
use Rattle.cut_places.specs.Outcomes.Pages.PageReply.{Poison}
use Rattle.cut_places.specs.AskedReads.Reads.{page_read}
use Rattle.cut_places.specs.AskedReads.declared.question.Question.{Question}
use Rattle.explorer.specs.Tabulating.{LooksAt}
use Rattle.explorer.proofs.LookingLemmas.{looks-blocks, looks-file, looks-lines, looks-refused, of_none, of_some}
use Rattle.explorer.proofs.looking.add.Goals as goal

pub returns-then-is_some : goal.returns-then-is_some
returns-then-is_some c = λ look looks.
    let why = of_some c.read_refusal.result (sym c.is_some.ensures ∙ c.if-is_some.true) in
    looks-refused c.args.geometry look c.args.read why.0 c.args.question.now (sym c.read_refusal.ensures ∙ why.1) looks

pub returns-in_ok-push-in-Volume : goal.returns-in_ok-push-in-Volume
returns-in_ok-push-in-Volume c = λ look looks.
    let none = sym c.read_refusal.ensures ∙ of_none c.read_refusal.result (sym c.is_some.ensures ∙ c.if-is_some.false) in
    let question : Question = record { volume = c.push.new.self; blocks = c.args.question.now.blocks; files = c.args.question.now.files } in
    subst (λ read. LooksAt c.args.geometry (look ++ read ∷ []) question) (sym c.in-Volume.is)
    (looks-lines c.args.geometry look c.in-Volume.start c.in-Volume.len c.args.question.now question _
    (rw c.in-Volume.is at none) c.all_lines.ensures c.in_ok-push-in-Volume.ensures.items refl refl looks)

pub returns-in_ok-push-in-Blocks : goal.returns-in_ok-push-in-Blocks
returns-in_ok-push-in-Blocks c = λ look looks.
    let none = sym c.read_refusal.ensures ∙ of_none c.read_refusal.result (sym c.is_some.ensures ∙ c.if-is_some.false) in
    let question : Question = record { volume = c.args.question.now.volume; blocks = c.push-in-Blocks.new.self; files = c.args.question.now.files } in
    subst (λ read. LooksAt c.args.geometry (look ++ read ∷ []) question) (sym c.in-Blocks.is)
    (looks-blocks c.args.geometry look c.in-Blocks.first c.in-Blocks.count c.args.question.now question _
    (rw c.in-Blocks.is at none) refl c.in_ok-push-in-Blocks.ensures.items
    (ap₂ (λ f g. record { first = f; count = c.in-Blocks.count; reply = Scar g }) c.from.ensures c.from-in-Blocks.ensures) refl looks)

pub returns-in_ok-push-in-File : goal.returns-in_ok-push-in-File
returns-in_ok-push-in-File c = λ look looks.
    let none = sym c.read_refusal.ensures ∙ of_none c.read_refusal.result (sym c.is_some.ensures ∙ c.if-is_some.false) in
    let question : Question = record { volume = c.args.question.now.volume; blocks = c.args.question.now.blocks; files = c.push-in-File.new.self } in
    let pages : page_read c.all_lines-in-File.result ≡ record { start = c.in-File.start; len = c.in-File.len; reply = Poison (c.in-File.start / 64 * 64) } =
    c.all_lines-in-File.ensures ∙ ap (λ start. record { start = start; len = c.in-File.len; reply = Poison (start / 64 * 64) }) c.from-in-File.ensures in
    subst (λ read. LooksAt c.args.geometry (look ++ read ∷ []) question) (sym c.in-File.is)
    (looks-file c.args.geometry look c.in-File.name c.in-File.start c.in-File.len c.args.question.now question _
    (rw c.in-File.is at none) refl refl c.in_ok-push-in-File.ensures.items (ap (λ (p : PageRead). record { name = c.in-File.name; pages = p }) pages) looks)
