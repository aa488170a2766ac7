use Rattle.std.proofs.Common.{◌≡◌, ◌++◌, OnOk, ap, codes, decimal, subst, sym, ◌∙◌}
use Rattle.witnesses.specs.Asked.{file_head}
use Rattle.witnesses.specs.Texts.{pages_text}
use Rattle.witnesses.proofs.TextLemmas.{ok_more, three, two}
use Rattle.witnesses.proofs.size_text.print_pages.Goals as goal

pub returns-in-None : goal.returns-in-None
unfolding pages_text
returns-in-None c =
    subst (λ o. OnOk c.extend.result (c.extend.new.self.items ≡ c.args.out.now.items ++ pages_text c.args.name.now o)) (sym c.in-None.is)
    (ok_more c.extend.result
    (two c.args.out.now.items c.print_file_head.new.out.items c.extend.new.self.items (file_head c.args.name.now) (codes "missing") c.in_ok-print_file_head.ensures) c.extend.ensures.ok)

pub returns-in_ok-extend-in-Some : goal.returns-in_ok-extend-in-Some
unfolding pages_text
returns-in_ok-extend-in-Some c =
    subst (λ o. OnOk c.print_number.result (c.print_number.new.out.items ≡ c.args.out.now.items ++ pages_text c.args.name.now o)) (sym c.in-Some.is)
    (ok_more c.print_number.result
    (λ told.
    three c.args.out.now.items c.print_file_head.new.out.items c.extend-in-Some.new.self.items c.print_number.new.out.items (file_head c.args.name.now) (codes "pages ") (decimal c.in-Some.pages)
    c.in_ok-print_file_head.ensures c.in_ok-extend-in-Some.ensures.ok (told ∙ ap (λ n. c.extend-in-Some.new.self.items ++ decimal n) c.from.ensures))
    c.print_number.ensures.ok)
