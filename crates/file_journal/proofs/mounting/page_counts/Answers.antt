use Rattle.std.proofs.Common.{map, sym, ◌∙◌, arith}
use Rattle.std.proofs.lemmas.Grind.{same_number_lists}
use Rattle.std.proofs.lemmas.List.{length-map}
use Rattle.inode_table.specs.Slots.{pages_of}
use Rattle.file_journal.proofs.ReplaceLemmas.{get_or-counts}
use Rattle.file_journal.proofs.mounting.page_counts.Goals as goal

pub returns : goal.returns
returns c =
    let files = c.args.inodes.now in
    same_number_lists _ (map pages_of files)
    (c.loop-inode.invariant.all ∙ sym (length-map files pages_of ∙ c.requires.all))
    (λ k low. c.loop-inode.invariant.each k (omega (arith, c.loop-inode.invariant.all, c.loop-inode-test.false)) ∙ sym (get_or-counts files k))
