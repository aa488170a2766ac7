use Rattle.std.proofs.Common.{◌≡◌, ◌+◌, ◌*◌, ◌/◌, ◌++◌, ℕ, None, List, length, take, drop, ◌∙◌, subst, sym, arith}
use Rattle.nvm_model.specs.Storage.{Block}
use Rattle.nvm_model.specs.Numbered.{AreMixed}
use Rattle.nvm_model.specs.Blocks.{nth, obstacle_in, look_blocks}
use Rattle.line_device.proofs.WriteBackLemmas.{write_back-refl, write_back-trans}
use Rattle.line_device.proofs.PanelLemmas.{runs-refl, runs_then, runs_within}
use Rattle.block_device.specs.Object.{blocks_of}
use Rattle.block_device.proofs.BlockLemmas.{looked_none, looked_more, looked_all}
use Rattle.block_device.proofs.ObstacleLemmas.{readable}
use Rattle.block_device.proofs.ServesLemmas.{blocks_of-write_back, serves-write_back}
use Rattle.block_device.proofs.StoppedReadLemmas.{fills_stopped, looked_stopped}
use Rattle.block_device.proofs.Blocks.load_blocks.Goals as goal

pub loop-k-init : goal.loop-k-init
loop-k-init g c = record {
  bytes = looked_none (blocks_of c.args.self.now (g.L.Lines.state c.args.dev.now).medium) c.args.block c.args.out.now;
  lines = write_back-refl _;
  runs = runs-refl _;
}

pub load_block-requires-clause-serves : goal.load_block-requires-clause-serves
load_block-requires-clause-serves g c = serves-write_back c.args.self.now (g.L.Lines.state c.args.dev.now).medium (g.L.Lines.state c.loop-k.dev).medium c.loop-k.invariant.lines c.requires.serves

pub load_block-requires-clause-on : goal.load_block-requires-clause-on
load_block-requires-clause-on g c = c.loop-k.invariant.runs.cause.0 ∙ c.requires.on

pub load_block-requires-clause-readable : goal.load_block-requires-clause-readable
load_block-requires-clause-readable g c =
    let s = c.args.self.now in
    let old = (g.L.Lines.state c.args.dev.now).medium in
    let i = c.args.block + c.loop-k.k in
    subst (λ (bs : List Block). obstacle_in i (nth bs i) ≡ None) (sym (blocks_of-write_back s old (g.L.Lines.state c.loop-k.dev).medium c.loop-k.invariant.lines))
    (readable (blocks_of s old) c.args.block _ c.loop-k.k c.requires.readable c.loop-k-test.true)

pub returns-in_err-load_block : goal.returns-in_err-load_block
returns-in_err-load_block g c =
    let s = c.args.self.now in
    let old = (g.L.Lines.state c.args.dev.now).medium in
    let now = (g.L.Lines.state c.loop-k.dev).medium in
    let k = c.loop-k.k in
    let before = c.loop-k.out in
    let after = c.in_err-load_block.ensures.fills in
    record {
      fills =
          fills_stopped _ _ _ _ c.from_residual.result c.in_err-load_block.field-0.0 _ _ c.from_residual.ensures.1
          (looked_stopped (blocks_of s old) c.args.block k (length c.args.out.now / 512) c.args.out.now before c.load_block.new.out (omega (arith, c.loop-k-test.true)) (omega (arith, c.requires.whole)) c.loop-k.invariant.bytes
          (subst (λ (bs : List Block). AreMixed ℕ before (take (512 * k) before ++ look_blocks bs (c.args.block + k) 1 ++ drop (512 * k + 512) before) c.load_block.new.out)
          (blocks_of-write_back s old now c.loop-k.invariant.lines) after.err))
          (write_back-trans _ _ _ c.loop-k.invariant.lines after.lines)
          (runs_within _ 0 _ 0 _ _ _ (runs_then _ _ 8 0 _ _ _ _ c.loop-k.invariant.runs after.runs) (omega arith) (omega arith));
    }

pub loop-k-preserved : goal.loop-k-preserved
loop-k-preserved g c =
    let s = c.args.self.now in
    let old = (g.L.Lines.state c.args.dev.now).medium in
    let now = (g.L.Lines.state c.loop-k.dev).medium in
    let k = c.loop-k.k in
    let before = c.loop-k.out in
    record {
      bytes =
          looked_more (blocks_of s old) c.args.block k c.args.out.now before c.load_block.new.out c.loop-k.invariant.bytes
          (subst (λ (bs : List Block). c.load_block.new.out ≡ take (512 * k) before ++ look_blocks bs (c.args.block + k) 1 ++ drop (512 * k + 512) before)
          (blocks_of-write_back s old now c.loop-k.invariant.lines) c.in_ok-load_block.ensures.fills.ok);
      lines = write_back-trans _ _ _ c.loop-k.invariant.lines c.in_ok-load_block.ensures.fills.lines;
      runs = runs_within _ 0 _ 0 _ _ _ (runs_then _ _ 8 0 _ _ _ _ c.loop-k.invariant.runs c.in_ok-load_block.ensures.fills.runs) (omega arith) (omega arith);
    }

pub returns : goal.returns
returns g c = record {
  fills = record {
    ok = looked_all (blocks_of c.args.self.now (g.L.Lines.state c.args.dev.now).medium) c.args.block c.loop-k.k _ c.args.out.now c.loop-k.out c.loop-k.invariant.bytes (omega arith) (omega (arith, c.requires.whole));
    err = tt;
    lines = c.loop-k.invariant.lines;
    runs = runs_within _ 0 _ 0 _ _ _ c.loop-k.invariant.runs (omega arith) (omega arith);
  };
}
