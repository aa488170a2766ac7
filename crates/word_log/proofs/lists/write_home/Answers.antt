use Rattle.std.proofs.Common.{arith}
use Rattle.word_log.proofs.ListLemmas.{entry_home, home-more}
use Rattle.word_log.proofs.lists.write_home.Goals as goal

pub overflow_sub-place : goal.overflow_sub-place
overflow_sub-place c =
    (entry_home c.args.area c.args.log.now c.args.home.now c.args.count c.loop-k.k c.requires.shape c.requires.log c.requires.room c.loop-k-test.true c.requires.taken).0

pub offset_bounds-home-place : goal.offset_bounds-home-place
offset_bounds-home-place c =
    let of_home = entry_home c.args.area c.args.log.now c.args.home.now c.args.count c.loop-k.k c.requires.shape c.requires.log c.requires.room c.loop-k-test.true c.requires.taken in
    omega (arith, of_home)

pub bounds-home-place : goal.bounds-home-place
bounds-home-place c =
    let of_home = entry_home c.args.area c.args.log.now c.args.home.now c.args.count c.loop-k.k c.requires.shape c.requires.log c.requires.room c.loop-k-test.true c.requires.taken in
    omega (arith, of_home)

pub loop-k-preserved : goal.loop-k-preserved
loop-k-preserved c =
    home-more c.args.area c.args.log.now c.args.home.now c.loop-k.home c.args.count c.loop-k.k c.requires.shape c.requires.log c.requires.room c.loop-k-test.true (omega arith) c.requires.taken c.loop-k.invariant
