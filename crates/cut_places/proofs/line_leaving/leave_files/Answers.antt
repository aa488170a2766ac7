use Rattle.std.proofs.Common.{if◌then◌else◌, length, ap, arith}
use Rattle.nvm_model.specs.Listing.{is_named}
use Rattle.sights.specs.AskedReads.Reads.{file_reads_asked}
use Rattle.cut_places.specs.FileChanges.{lines_of}
use Rattle.cut_places.specs.FileLeaving.{lines_left}
use Rattle.cut_places.specs.FilesState.{name_seen}
use Rattle.cut_places.proofs.EachLemmas.{one_more}
use Rattle.cut_places.proofs.line_leaving.leave_files.Goals as goal

pub loop-file-preserved : goal.loop-file-preserved
loop-file-preserved c =
    one_more (λ x. if is_named name_seen c.args.name.now x then lines_left (file_reads_asked c.args.reads.now) c.args.name.now (lines_of c.args.lines.now) x else x) c.args.files.now.items
    c.loop-file.file-items c.loop-file.file-index c.file-item.result c.leave_if.new.file
    (omega (arith, c.loop-file-test.true, ap length c.deref_mut-file-items.ensures.value)) c.loop-file.invariant c.file-item.is c.in_ok-leave_if.ensures
