use Rattle.std.proofs.Common.{◌≡◌, Some, None, ap, sym, ◌∙◌, rules}
use Rattle.std.proofs.lemmas.Bool.{false≢true}
use Rattle.std.proofs.lemmas.Option.{none-some}
use Rattle.inode_table.specs.Slots.{file_count, free_inode}
use Rattle.inode_table.proofs.SlotLemmas.{free_slot_is_free, full_from_none, none_from_full}
use Rattle.inode_table.proofs.inodes.Inodes.free_slot.Goals as goal

pub returns-in_err-inode-clause-full : goal.returns-in_err-inode-clause-full
returns-in_err-inode-clause-full c =
    let none : free_inode c.self.inside.slots.items ≡ None = ap free_inode (sym c.as_slice.ensures.value) ∙ sym c.in_err-inode.ensures in
    (λ _. ap file_count (sym c.self.view_is) ∙ full_from_none c.self.inside.slots.items none ∙ c.self.invariant.all, λ _. search rules)

pub returns-clause-free : goal.returns-clause-free
returns-clause-free c =
    free_slot_is_free c.args.self.now c.in_ok-inode.inode (ap free_inode (sym c.self.view_is ∙ sym c.as_slice.ensures.value) ∙ sym c.in_ok-inode.ensures)

pub returns-clause-full : goal.returns-clause-full
returns-clause-full c =
    let found : free_inode c.self.inside.slots.items ≡ Some c.in_ok-inode.inode = ap free_inode (sym c.as_slice.ensures.value) ∙ sym c.in_ok-inode.ensures in (
      λ no. absurd (false≢true (sym no)),
      λ full. absurd (none-some c.in_ok-inode.inode (sym (none_from_full c.self.inside.slots.items (ap file_count c.self.view_is ∙ full ∙ sym c.self.invariant.all)) ∙ found)),
    )
