use Rattle.std.proofs.Common.{if◌then◌else◌, length, ap, arith}
use Rattle.nvm_model.specs.Listing.{is_named}
use Rattle.cut_places.specs.FileChanges.{lines_of}
use Rattle.cut_places.specs.FilesState.{lines_after, name_seen}
use Rattle.cut_places.proofs.EachLemmas.{one_more}
use Rattle.cut_places.proofs.listing.change_lines.Goals as goal

pub loop-file-preserved : goal.loop-file-preserved
loop-file-preserved c =
    one_more (λ x. if is_named name_seen c.args.name.now x then lines_after (lines_of c.args.lines.now) x else x) c.args.files.now.items c.loop-file.file-items c.loop-file.file-index c.file-item.result
    c.change_if.new.file (omega (arith, c.loop-file-test.true, ap length c.deref_mut-file-items.ensures.value)) c.loop-file.invariant c.file-item.is c.in_ok-change_if.ensures
