-- The file of one more read is kept.
use Rattle.cut_places.specs.AskedReads.Reads.{file_read}
use Rattle.witnesses.specs.Sizes.{size_read}
use Rattle.witnesses.proofs.ListLemmas.{pushed_of}
use Rattle.witnesses.proofs.size_keeping.keep_sizes.Goals as goal

pub loop-read-preserved : goal.loop-read-preserved
loop-read-preserved c =
    pushed_of (size_read c.args.now.now c.args.made.now c.args.left.now) file_read c.args.reads.now c.loop-read.read-index c.read-item.result c.keep_size.result
    c.loop-read.kept.items c.push.new.self.items c.loop-read-test.true c.read-item.is c.loop-read.invariant c.in_ok-push.ensures.items c.keep_size.ensures
