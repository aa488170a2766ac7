use Rattle.std.proofs.Common.{true, false, subst, sym}
use Rattle.block_device.specs.Object.{BlocksState, BlocksServe}
use Rattle.block_device.proofs.CallLemmas.{fills_refused}
use Rattle.block_device.proofs.ServesLemmas.{serves-write_back, serves_settled}
use Rattle.block_device.proofs.Blocks.read_into.Goals as goal

pub returns-in_err-check_bytes-clause-fills : goal.returns-in_err-check_bytes-clause-fills
returns-in_err-check_bytes-clause-fills g c = fills_refused _ _ _ _ _ c.from_residual.result c.in_err-check_bytes.field-0.0 c.from_residual.ensures.1 c.in_err-check_bytes.ensures

pub returns-in_err-check_readable-clause-fills : goal.returns-in_err-check_readable-clause-fills
returns-in_err-check_readable-clause-fills g c = fills_refused _ _ _ _ _ c.from_residual-in_err-check_readable.result c.in_err-check_readable.field-0.0 c.from_residual-in_err-check_readable.ensures.1 c.in_err-check_readable.ensures

pub load_blocks-requires-clause-serves : goal.load_blocks-requires-clause-serves
load_blocks-requires-clause-serves g c =
    let m = (g.L.Lines.state c.args.dev.now).medium in
    subst (λ (s : BlocksState). BlocksServe (record s { settled = false }) m) (sym c.self.view_is) (serves_settled c.args.self.now m false c.requires.ready.serves)

pub returns-in_err-load_blocks-clause-serves : goal.returns-in_err-load_blocks-clause-serves
returns-in_err-load_blocks-clause-serves g c =
    let m = (g.L.Lines.state c.load_blocks.new.dev).medium in
    subst (λ (s : BlocksState). BlocksServe (record s { settled = false }) m) (sym c.self.view_is)
    (serves_settled c.args.self.now m false (serves-write_back c.args.self.now (g.L.Lines.state c.args.dev.now).medium m c.in_err-load_blocks.ensures.fills.lines c.requires.ready.serves))

pub returns-clause-serves : goal.returns-clause-serves
returns-clause-serves g c =
    let m = (g.L.Lines.state c.load_blocks.new.dev).medium in
    subst (λ (s : BlocksState). BlocksServe (record s { settled = true }) m) (sym c.self.view_is)
    (serves_settled c.args.self.now m true (serves-write_back c.args.self.now (g.L.Lines.state c.args.dev.now).medium m c.in_ok-load_blocks.ensures.fills.lines c.requires.ready.serves))
