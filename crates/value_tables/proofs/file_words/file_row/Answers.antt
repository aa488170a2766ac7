use Rattle.std.proofs.Common.{◌*◌, ◌%◌, ◌++◌, [], ◌∷◌, codes, decimal, ap, ◌∙◌}
use Rattle.std.specs.Option.{option_copied}
use Rattle.value_tables.specs.Sides.{new_side, side_at}
use Rattle.value_tables.proofs.AddingLemmas.{found_text, row_of_parts, text_of}
use Rattle.value_tables.proofs.file_words.file_row.Goals as goal

pub returns : goal.returns
returns c =
    let p = c.args.p in
    let name = c.args.name.now in
    let old = side_at c.args.sides.now.files.now name p in
    let new = new_side (option_copied c.args.sides.now.new_files) name p in
    let none = c.none-values.ensures in
    c.in_ok-push.ensures.ok
    ∙ row_of_parts (decimal c.args.k) (codes " file ") name (decimal (8 * p)) (found_text c.add_new.new.values) (10 ∷ []) c.in_ok-row.row.items c.print.new.out.items
    c.in_ok-row.ensures c.in_ok-print.ensures
    ∙ ap (λ text. decimal c.args.k ++ (codes " file " ++ (name ++ (32 ∷ (decimal (8 * p) ++ (text ++ 10 ∷ []))))))
    (text_of (p % 8) old new c.none-values.result c.add.new.self c.add_new.new.values c.in_ok-add.ensures c.in_ok-add_new.ensures none.there none.within none.good none.none)
