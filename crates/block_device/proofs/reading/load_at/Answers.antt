use Rattle.std.proofs.Common.{◌+◌, ◌-◌, arith}
use Rattle.block_device.proofs.BufferLemmas.{line_put}
use Rattle.block_device.proofs.StoppedReadLemmas.{line_kept}
use Rattle.block_device.proofs.reading.load_at.Goals as goal

pub returns-clause-ok : goal.returns-clause-ok
returns-clause-ok g c =
    line_put c.load_line.result (g.L.Lines.state c.args.dev.now).medium c.args.line c.args.at c.args.out.now c.load_line.new.out c.requires.within
    (λ i. omega (arith, c.type_inv.out i)) c.load_line.ensures.ok

pub returns-clause-err : goal.returns-clause-err
returns-clause-err g c = line_kept c.load_line.result c.args.at (c.args.at + 64 - c.args.at) c.args.out.now c.load_line.new.out c.load_line.ensures.err
