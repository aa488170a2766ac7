use Rattle.std.proofs.Common.{subst, arith}
use Rattle.page_table.specs.Cause.{IsCause}
use Rattle.page_table.proofs.WrongLemmas.{wrong_within}
use Rattle.file_journal.proofs.mounting.read_pages.Goals as goal

pub page_word-requires-clause-inode : goal.page_word-requires-clause-inode
page_word-requires-clause-inode c =
    let words = c.args.words.now in
    let counts = c.page_counts.result in
    let low = wrong_within c.args.geo.fpages counts words c.in-Err-Bad.index (subst (IsCause c.args.geo.fpages counts words) c.in-Err-Bad.field-0-is c.in-Err-Bad.ensures.err) in
    omega (arith, low, c.requires.length)
