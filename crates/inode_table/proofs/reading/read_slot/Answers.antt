use Rattle.std.proofs.Common.{◌≡◌, ◌-◌, length, take, drop, position, nat_lt, ap, sym, ◌∙◌, arith}
use Rattle.std.proofs.lemmas.List.{length-drop, take_all}
use Rattle.inode_table.proofs.ReadLemmas.{spare_is_wrong}
use Rattle.inode_table.proofs.reading.read_slot.Goals as goal

pub returns-in-Some-clause-err : goal.returns-in-Some-clause-err
returns-in-Some-clause-err c =
    let inode = c.args.inode.now in
    let whole : take (length inode - 5) (drop 5 inode) ≡ drop 5 inode = take_all (length inode - 5) (drop 5 inode) (omega (arith, length-drop 5 inode)) in
    spare_is_wrong c.args.before.now inode c.in_ok-slot.ensures.right c.requires c.in-Some.word
    (ap (position (λ word. nat_lt 0 word)) (sym whole) ∙ sym c.in-Some.ensures)
