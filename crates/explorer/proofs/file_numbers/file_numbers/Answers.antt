use Rattle.cut_places.specs.AskedReads.Asking.{may_be_file_reply}
use Rattle.explorer.proofs.NumberLemmas.{asked_at, held_more}
use Rattle.explorer.proofs.file_numbers.file_numbers.Goals as goal

pub add_lines-requires : goal.add_lines-requires
add_lines-requires c = asked_at may_be_file_reply c.args.reads.now c.loop-read.read-index c.read-item.result c.requires c.loop-read-test.true c.read-item.is

pub loop-read-preserved : goal.loop-read-preserved
loop-read-preserved c =
    held_more c.loop-read.held.keys c.add_lines.new.held.keys c.in_ok-add_lines.ensures.others c.args.reads.now c.loop-read.read-index c.read-item.result c.loop-read-test.true c.read-item.is
    c.loop-read.invariant c.in_ok-add_lines.ensures.here
