use Rattle.std.proofs.Common.{ℕ, ◌+◌, ◌*◌, sym, subst, ◌∙◌, arith}
use Rattle.line_device.specs.Medium.{last_image}
use Rattle.line_device.proofs.WriteBackLemmas.{write_back-refl, write_back-trans, is_healthy-write_back}
use Rattle.line_device.proofs.PanelLemmas.{runs-refl, runs_then, runs_within}
use Rattle.nvm_model.specs.Numbered.{AreMixed}
use Rattle.line_words.proofs.FrameLemmas.{last_image-write_back}
use Rattle.block_device.proofs.BufferLemmas.{read_none, read_more, read_at, read_all}
use Rattle.block_device.specs.Reading.{bytes_read}
use Rattle.block_device.proofs.StoppedReadLemmas.{fills_stopped, unit_part}
use Rattle.block_device.proofs.reading.load_unit.Goals as goal

pub loop-k-init : goal.loop-k-init
loop-k-init g c = record {
  bytes = read_none (last_image (g.L.Lines.state c.args.dev.now).medium) (64 * c.args.first) 0 c.args.out.now (omega arith);
  lines = write_back-refl _;
  runs = runs-refl _;
}

pub load_at-requires-clause-healthy : goal.load_at-requires-clause-healthy
load_at-requires-clause-healthy g c = is_healthy-write_back _ _ _ c.loop-k.invariant.lines (c.requires.healthy c.loop-k.k (omega arith))

pub load_at-requires-clause-on : goal.load_at-requires-clause-on
load_at-requires-clause-on g c = c.loop-k.invariant.runs.cause.0 ∙ c.requires.on

pub returns-in_err-load_at : goal.returns-in_err-load_at
returns-in_err-load_at g c =
    let word = last_image (g.L.Lines.state c.args.dev.now).medium in
    let start = 64 * c.args.first in
    record {
      fills =
          fills_stopped _ _ _ _ c.from_residual.result c.in_err-load_at.field-0.0 _ 8 c.from_residual.ensures.1
          (subst (AreMixed ℕ c.args.out.now (bytes_read word start 512)) (sym c.in_err-load_at.ensures.err)
          (unit_part word start (64 * c.loop-k.k) c.args.out.now c.loop-k.out (omega arith) c.requires.length c.loop-k.invariant.bytes))
          (write_back-trans _ _ _ c.loop-k.invariant.lines c.in_err-load_at.ensures.lines)
          (runs_within _ 0 8 0 _ _ _ (runs_then _ _ 1 0 _ _ _ _ c.loop-k.invariant.runs c.in_err-load_at.ensures.runs) (omega arith) (omega arith));
    }

pub loop-k-preserved : goal.loop-k-preserved
loop-k-preserved g c =
    let old = (g.L.Lines.state c.args.dev.now).medium in
    let k = c.loop-k.k in
    record {
      bytes =
          read_more (last_image old) (64 * c.args.first) (64 * k) 64 (64 * (k + 1)) c.args.out.now c.loop-k.out c.load_at.new.out c.loop-k.invariant.bytes
          (read_at (last_image old) (last_image (g.L.Lines.state c.loop-k.dev).medium) (64 * k) (c.args.first + k) (64 * c.args.first + 64 * k) c.loop-k.out c.load_at.new.out
          (last_image-write_back _ _ c.loop-k.invariant.lines) (omega arith) c.in_ok-load_at.ensures.ok)
          (omega arith);
      lines = write_back-trans _ _ _ c.loop-k.invariant.lines c.in_ok-load_at.ensures.lines;
      runs = runs_then _ _ 1 0 _ _ _ _ c.loop-k.invariant.runs c.in_ok-load_at.ensures.runs;
    }

pub returns : goal.returns
returns g c = record {
  fills = record {
    ok = read_all (last_image (g.L.Lines.state c.args.dev.now).medium) (64 * c.args.first) (64 * c.loop-k.k) 512 c.args.out.now c.loop-k.out c.loop-k.invariant.bytes (omega arith) c.requires.length;
    err = tt;
    lines = c.loop-k.invariant.lines;
    runs = runs_within _ _ _ _ _ _ _ c.loop-k.invariant.runs (omega arith) (omega arith);
  };
}
