use Rattle.std.proofs.Common.{◌≡◌, ◌+◌, ◌*◌, ◌/◌, Ok, Err, length, refl, arith}
use Rattle.nvm_model.specs.Blocks.{IsMixed, write}
use Rattle.block_device.proofs.WriteLemmas.{blocks_in, piece_step, written, written-all}
use Rattle.block_device.proofs.WorkLemmas.{works_as, works_handed, works_more, works_none}
use Rattle.block_device.proofs.Blocks.write_blocks.Goals as goal

pub loop-k-init : goal.loop-k-init
loop-k-init g c = works_none g.L.Lines.state (blocks_in c.args.block c.args.bytes.now) c.args.block c.args.self.now c.args.dev.now c.requires.ready c.requires.good

pub returns-in_err-write_apart : goal.returns-in_err-write_apart
returns-in_err-write_apart g c =
    let at = c.args.block in
    let bytes = c.args.bytes.now in
    let n = length bytes / 512 in
    let stop = c.in_err-write_apart.field-0.0 in
    record {
      works =
          works_handed g.L.Lines.state _ c.write_apart.new.self c.args.dev.now c.write_apart.new.dev c.from_residual.result stop (write at bytes) IsMixed _ _ c.from_residual.ensures.1
          (works_more g.L.Lines.state (blocks_in at bytes) at c.loop-k.k n _ (write at bytes) c.args.self.now c.loop-k.self c.write_apart.new.self c.args.dev.now c.loop-k.dev c.write_apart.new.dev (Err stop) _ _ _ _ (35 * n) (13 * n)
          (λ bs. piece_step at c.loop-k.k bytes bs (omega arith)) (λ bs. written-all at n bytes bs refl) (omega arith) tt (omega arith) (omega arith) c.loop-k.invariant c.in_err-write_apart.ensures.works);
    }

pub loop-k-preserved : goal.loop-k-preserved
loop-k-preserved g c =
    let at = c.args.block in
    let k = c.loop-k.k in
    let bytes = c.args.bytes.now in
    works_more g.L.Lines.state (blocks_in at bytes) at k (k + 1) _ (written at (k + 1) bytes) c.args.self.now c.loop-k.self c.write_apart.new.self c.args.dev.now c.loop-k.dev c.write_apart.new.dev (Ok tt) _ _ _ _ (35 * (k + 1)) (13 * (k + 1))
    (λ bs. piece_step at k bytes bs (omega arith)) (λ bs. refl) (omega arith) refl (omega arith) (omega arith) c.loop-k.invariant c.in_ok-write_apart.ensures.works

pub returns : goal.returns
returns g c =
    let all : c.loop-k.k ≡ length c.args.bytes.now / 512 = omega arith in
    record {
      works =
          works_as g.L.Lines.state c.args.self.now c.loop-k.self c.args.dev.now c.loop-k.dev (Ok tt) _ (write c.args.block c.args.bytes.now) IsMixed _ _ _ _ (λ bs. written-all c.args.block c.loop-k.k c.args.bytes.now bs all) (omega arith) (omega arith) c.loop-k.invariant;
    }
