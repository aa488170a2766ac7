use Rattle.std.proofs.Common.{◌≡◌, ◌*◌, ℕ, Some, length-take, length-drop, slice_get, ap, ◌∙◌, subst, arith}
use Rattle.line_device.proofs.WriteBackLemmas.{write_back-refl}
use Rattle.line_device.proofs.PanelLemmas.{runs-refl, runs_within}
use Rattle.word_tables.specs.Layout.{block_line}
use Rattle.line_device.specs.Medium.{last_image}
use Rattle.block_map.specs.declared.state.BlockState.TheVariants as state
use Rattle.block_device.specs.Reading.{bytes_read}
use Rattle.block_device.specs.Object.{BlocksState, IsKept, blocks_of}
use Rattle.block_device.proofs.BlockLemmas.{unit_lines, unit_good, unit_read, block_put, zeros_put}
use Rattle.block_device.proofs.StoppedReadLemmas.{unit_part_put}
use Rattle.block_device.proofs.Blocks.load_block.Goals as goal

pub load_unit-requires-clause-healthy : goal.load_unit-requires-clause-healthy
load_unit-requires-clause-healthy g c k within =
    let log = c.self.inside.log.area in
    let s = c.args.self.now in
    let m = (g.L.Lines.state c.args.dev.now).medium in
    let at = subst (λ (s : BlocksState). slice_get s.map c.args.block ≡ Some (state.At c.in-At.unit)) c.self.view_is c.in-At.ensures.state in
    let line = c.block_line.ensures ∙ ap (λ (s : BlocksState). block_line s.geo c.in-At.unit) c.self.view_is in
    let all = unit_lines s log m c.args.block c.in-At.unit c.block_line.result (subst (λ (s : BlocksState). IsKept s log) c.self.view_is c.self.invariant) c.requires.serves at line in
    (omega arith, unit_good s m c.args.block c.in-At.unit c.block_line.result at line c.requires.readable k within)

pub returns-in-At : goal.returns-in-At
returns-in-At g c =
    let s = c.args.self.now in
    let m = (g.L.Lines.state c.args.dev.now).medium in
    let at = subst (λ (s : BlocksState). slice_get s.map c.args.block ≡ Some (state.At c.in-At.unit)) c.self.view_is c.in-At.ensures.state in
    let line = c.block_line.ensures ∙ ap (λ (s : BlocksState). block_line s.geo c.in-At.unit) c.self.view_is in
    let read = unit_read s m c.args.block c.in-At.unit c.block_line.result at line (unit_good s m c.args.block c.in-At.unit c.block_line.result at line c.requires.readable) in
    let unit = c.load_unit.ensures.fills in
    record {
      fills = record {
        ok = block_put c.load_unit.result (blocks_of s m) c.args.block c.args.at c.args.out.now c.load_unit.new.out (bytes_read (last_image m) (64 * c.block_line.result) 512) c.requires.within unit.ok read;
        err = unit_part_put c.load_unit.result (last_image m) (blocks_of s m) c.args.block (64 * c.block_line.result) c.args.at c.args.out.now c.load_unit.new.out c.requires.within unit.err read;
        lines = unit.lines;
        runs = unit.runs;
      };
    }

pub returns-in-Absent : goal.returns-in-Absent
returns-in-Absent g c =
    let s = c.args.self.now in
    let m = (g.L.Lines.state c.args.dev.now).medium in
    let state = subst (λ (s : BlocksState). slice_get s.map c.args.block ≡ Some c.get.result) c.self.view_is c.get.ensures.state in
    record {
      fills = record {
        ok = zeros_put s m c.args.block c.args.at c.get.result c.args.out.now c.zero.new.out c.requires.within state c.in-Absent.is (omega (arith, c.zero.auto.out, length-take {A = ℕ}, length-drop {A = ℕ})) c.zero.ensures;
        err = tt;
        lines = write_back-refl _;
        runs = runs_within 0 0 8 0 _ _ _ (runs-refl _) (omega arith) (omega arith);
      };
    }
