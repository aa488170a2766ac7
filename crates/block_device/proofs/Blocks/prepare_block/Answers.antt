use Rattle.std.proofs.Common.{◌++◌, ◌∷◌, [], Ok, length, sym, subst, arith}
use Rattle.line_device.proofs.PanelLemmas.{runs_within}
use Rattle.nvm_model.specs.Blocks.{write}
use Rattle.block_device.specs.Calls.{PreparesBlocks}
use Rattle.block_device.specs.Object.{BlocksState}
use Rattle.block_device.specs.Prepared.{AreAsBefore, numbers_of}
use Rattle.block_device.proofs.CallLemmas.{prepares_stopped}
use Rattle.block_device.proofs.PreparedLemmas.{has_spare, put, spare_bytes, spare_before, spare_prepares, unit_at, unit_there}
use Rattle.block_device.proofs.Blocks.prepare_block.Goals as goal

pub renew_lines-requires-clause-there : goal.renew_lines-requires-clause-there
renew_lines-requires-clause-there g c =
    unit_there c.args.self.now.geo c.take_unit-unit.result c.block_line.result (length c.args.bytes.now) _ c.take_unit-unit.ensures.unit
    (unit_at _ c.args.self.now c.take_unit-unit.result c.block_line.result c.self.view_is c.block_line.ensures) c.requires.length c.requires.may.serves.count

pub returns-in_err-renew_lines : goal.returns-in_err-renew_lines
returns-in_err-renew_lines g c =
    let state = g.L.Lines.state in
    let s = c.args.self.now in
    let old = c.args.dev.now in
    let new = c.renew_lines.new.dev in
    let cs = c.args.changes.now.items in
    let unit = c.take_unit-unit in
    let x = has_spare _ s (state old) (state new).medium cs unit.result c.block_line.result (length c.args.bytes.now) c.self.view_is c.requires.may unit.ensures.unit unit.ensures.was_free c.block_line.ensures c.requires.length c.in_err-renew_lines.ensures.outside in
    record {
      prepares =
          prepares_stopped state s unit.new.self old new c.from_residual.result c.in_err-renew_lines.field-0.0 cs _ _ (write c.args.block c.args.bytes.now) 24 8 c.from_residual.ensures.1
          (subst (λ (t : BlocksState). AreAsBefore s t (state old).medium (state new).medium) (sym unit.ensures.after) (spare_before s (state old) (state new).medium cs unit.result x))
          (runs_within _ _ 24 8 _ _ _ c.in_err-renew_lines.ensures.runs (omega arith) (omega arith));
    }

pub returns : goal.returns
returns g c =
    let state = g.L.Lines.state in
    let s = c.args.self.now in
    let old = c.args.dev.now in
    let new = c.renew_lines.new.dev in
    let cs = c.args.changes.now.items in
    let unit = c.take_unit-unit in
    let block = c.args.block in
    let bytes = c.args.bytes.now in
    let numbers = numbers_of cs ++ block ∷ [] in
    let x = has_spare _ s (state old) (state new).medium cs unit.result c.block_line.result (length bytes) c.self.view_is c.requires.may unit.ensures.unit unit.ensures.was_free c.block_line.ensures c.requires.length c.in_ok-renew_lines.ensures.outside in
    let b = spare_bytes _ s (state new).medium unit.result c.block_line.result block bytes c.self.view_is c.block_line.ensures c.requires.block (g.met.L.Lines.sound new) (λ k. omega (arith, c.type_inv.bytes k)) c.requires.length c.in_ok-renew_lines.ensures.ok in
    record {
      prepares =
          subst (λ ds. PreparesBlocks state s unit.new.self old new (Ok tt) cs ds numbers (write block bytes) 24 8) (sym c.push.ensures.items)
          (subst (λ (t : BlocksState). PreparesBlocks state s t old new (Ok tt) cs (cs ++ put block unit.result ∷ []) numbers (write block bytes) 24 8) (sym unit.ensures.after)
          (spare_prepares state s old new cs unit.result block bytes x b c.requires.fresh (runs_within _ _ 24 8 _ _ _ c.in_ok-renew_lines.ensures.runs (omega arith) (omega arith))));
    }
