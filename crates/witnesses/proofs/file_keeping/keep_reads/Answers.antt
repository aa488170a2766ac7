-- One more read is kept.
use Rattle.cut_places.specs.AskedReads.Asking.{may_be_file_reply}
use Rattle.cut_places.specs.AskedReads.Reads.{file_read, file_reads_asked}
use Rattle.witnesses.specs.Files.{read_kept}
use Rattle.witnesses.proofs.ListLemmas.{appended_of, item_passes}
use Rattle.witnesses.proofs.file_keeping.keep_reads.Goals as goal

pub keep_read-requires : goal.keep_read-requires
keep_read-requires c = item_passes may_be_file_reply file_read c.args.looked.now c.loop-read.read-index c.read-item.result c.loop-read-test.true c.read-item.is c.requires

pub loop-read-preserved : goal.loop-read-preserved
loop-read-preserved c =
    appended_of (read_kept (file_reads_asked c.args.reads.now) c.args.now.now c.args.made.now c.args.left.now) file_read c.args.looked.now c.loop-read.read-index c.read-item.result
    c.args.kept.now.items c.loop-read.kept.items c.keep_read.new.kept.items c.loop-read-test.true c.read-item.is c.loop-read.invariant c.in_ok-keep_read.ensures
