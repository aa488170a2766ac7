use Rattle.std.proofs.Common.{◌≡◌, ◌<◌, ℕ, List, Some, subst, arith}
use Rattle.std.proofs.lemmas.List.FromFn.{length-range_with_len}
use Rattle.std.proofs.lemmas.List.Quantifiers.{position-Some}
use Rattle.std.specs.List.{range_with_len}
use Rattle.inode_table.specs.Cause.{IsCause}
use Rattle.inode_table.specs.Wrong.{first_wrong_word, is_wrong}
use Rattle.file_journal.proofs.mounting.read_inodes.Goals as goal

wrong_within : (words : List ℕ) (i : ℕ) → first_wrong_word words ≡ Some i → i < 512
wrong_within words i found = omega (arith, (position-Some (is_wrong words) (range_with_len 0 512) i 0 found).0, length-range_with_len 0 512)

pub inode_word-requires-clause-inode : goal.inode_word-requires-clause-inode
inode_word-requires-clause-inode c =
    let words = c.args.words.now in
    let low = wrong_within words c.in-Err-Bad.index (subst (IsCause words) c.in-Err-Bad.field-0-is c.in-Err-Bad.ensures.err) in
    omega arith
