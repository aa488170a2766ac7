use Rattle.std.proofs.Common.{◌+◌, ◌*◌, arith}
use Rattle.page_table.proofs.RunLemmas.{run_around, run_found, run_none}
use Rattle.page_table.proofs.table.PageTable.run.Goals as goal

pub joined_after-after-requires-clause-few : goal.joined_after-after-requires-clause-few
joined_after-after-requires-clause-few c =
    let t = c.get.ensures.table in
    omega (arith, t.few, t.within (256 * c.args.inode + c.args.page) c.in-Some.unit c.in-Some.ensures.unit)

pub returns-in-Some-clause-pages : goal.returns-in-Some-clause-pages
returns-in-Some-clause-pages c =
    let before = c.joined_before-before in
    let after = c.joined_after-after in
    run_around c.args.self.now.pages c.args.inode c.args.page c.in-Some.unit before.result after.result before.ensures.pages before.ensures.units before.ensures.joined before.ensures.end
    after.ensures.pages after.ensures.joined after.ensures.end

pub returns-in-Some-clause-run : goal.returns-in-Some-clause-run
returns-in-Some-clause-run c =
    run_found c.args.self.now.pages c.args.inode c.get.ensures.table.all c.requires.inode c.args.page _ (returns-in-Some-clause-pages c)

pub returns-in-None-clause-run : goal.returns-in-None-clause-run
returns-in-None-clause-run c = run_none c.args.self.now.pages c.args.inode c.get.ensures.table.all c.requires.inode c.args.page c.requires.page c.in-None.ensures.unit
