use Rattle.std.proofs.Common.{◌*◌, ◌<◌, ◌≤◌, None, length, sum_by, sym, ap, ◌∙◌, arith}
use Rattle.std.proofs.lemmas.List.{take_all}
use Rattle.std.proofs.lemmas.List.Sums.{sum_by_more}
use Rattle.nvm_model.proofs.SumLemmas.{of_slot}
use Rattle.file_journal.specs.Files.{unit_slots}
use Rattle.marked_lines.proofs.FileCountLemmas.{marked_on_units, files_marked, inode_marked, length-unit_slots, used-few}
use Rattle.marked_lines.proofs.files.count_marked.Goals as goal

pub loop-inode-preserved : goal.loop-inode-preserved
loop-inode-preserved g c =
    let s = c.args.journal.now in
    let m = (g.L.Lines.state c.args.dev.now).medium in
    let inode = c.loop-inode.inode in
    let tables = c.count_in_inode-marked.ensures.tables in
    let size = length-unit_slots s.tables in
    let known : inode < length s.tables.files = omega (arith, tables.names.all) in
    let within : inode < length (unit_slots s.tables) = omega (arith, size, known) in
    record {
      count = omega (arith, sum_by_more (of_slot (marked_on_units c.args.mark s.geo m)) (unit_slots s.tables) inode None within, inode_marked c.args.mark s.geo m s.tables inode known, c.loop-inode.invariant.count, c.count_in_inode-marked.ensures.count);
      few = omega (arith, c.loop-inode.invariant.few, c.count_in_inode-marked.ensures.few);
      tables = λ _. tables;
    }

pub returns-clause-count : goal.returns-clause-count
returns-clause-count g c files stand =
    let s = c.args.journal.now in
    let m = (g.L.Lines.state c.args.dev.now).medium in
    let tables = c.loop-inode.invariant.tables (omega arith) in
    let all : length (unit_slots s.tables) ≤ c.loop-inode.inode = omega (arith, length-unit_slots s.tables, tables.names.all) in
    c.loop-inode.invariant.count ∙ ap (sum_by (of_slot (marked_on_units c.args.mark s.geo m))) (take_all c.loop-inode.inode (unit_slots s.tables) all)
    ∙ sym (files_marked c.args.mark s.geo m s.tables files stand)

pub returns-clause-few : goal.returns-clause-few
returns-clause-few g c =
    let s = c.args.journal.now in
    let tables = c.loop-inode.invariant.tables (omega arith) in
    omega (arith, c.loop-inode.invariant.few, used-few s.tables.pages (256 * c.loop-inode.inode), tables.room, tables.table.few)
