use Rattle.std.proofs.Common.{◌≡◌, Some, None, ap, sym, ◌∙◌, rules}
use Rattle.std.proofs.lemmas.Bool.{false≢true}
use Rattle.inode_table.specs.Slots.{inode_of}
use Rattle.inode_table.proofs.SlotLemmas.{found_is_named, none_named}
use Rattle.inode_table.proofs.inodes.Inodes.find.Goals as goal

pub returns-in_err-inode-clause-none : goal.returns-in_err-inode-clause-none
returns-in_err-inode-clause-none c =
    let none : inode_of c.args.name.now c.args.self.now ≡ None =
    ap (inode_of c.args.name.now) (sym c.self.view_is ∙ sym c.as_slice.ensures.value) ∙ sym c.in_err-inode.ensures in
    (λ _. none_named c.args.name.now c.args.self.now none, λ _. search rules)

pub returns-clause-named : goal.returns-clause-named
returns-clause-named c =
    let found : inode_of c.args.name.now c.args.self.now ≡ Some c.in_ok-inode.inode =
    ap (inode_of c.args.name.now) (sym c.self.view_is ∙ sym c.as_slice.ensures.value) ∙ sym c.in_ok-inode.ensures in
    found_is_named c.args.name.now c.args.self.now c.in_ok-inode.inode found

pub returns-clause-none : goal.returns-clause-none
returns-clause-none c = (λ no. absurd (false≢true (sym no)), λ none. absurd (none c.in_ok-inode.inode (returns-clause-named c)))
