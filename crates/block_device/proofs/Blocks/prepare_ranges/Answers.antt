use Rattle.std.proofs.Common.{length, take, drop, ◌+◌, ◌-◌, get_or, refl, sym, subst, ◌∙◌, ap, arith, rules}
use Rattle.std.proofs.lemmas.List.{take_all, take_more}
use Rattle.nvm_base.specs.declared.units.Span.{Span}
use Rattle.line_device.proofs.PanelLemmas.{runs-refl, runs_then, runs_within}
use Rattle.nvm_model.specs.Blocks.{write_ranges}
use Rattle.block_device.specs.Refusals.{block_spans}
use Rattle.block_device.specs.Prepared.{blocks_with, numbers_in, numbers_of}
use Rattle.block_device.proofs.CallLemmas.{prepares_stopped}
use Rattle.block_device.proofs.MadeLemmas.{before-refl, before-trans}
use Rattle.block_device.proofs.ApartLemmas.{IsNext, next_at, next_within, next_room, next_unnamed, numbers_next, written_next, size_next, spans_next, size_of, done_within, next_done_within, piece_blocks}
use Rattle.block_device.proofs.Blocks.prepare_ranges.Goals as goal

abbrev none : Span
none = record { start = 0; len = 0 }

pub loop-range-init : goal.loop-range-init
loop-range-init g c = record {
  at = refl;
  prepares = record {
    as_before = before-refl _ _ c.requires.may.serves c.requires.may.good c.requires.may.unsettled;
    prepared = c.requires.may.prepared;
    numbered = ap numbers_of c.requires.none;
    written = refl;
    runs = runs-refl _;
  };
}

pub slice_bounds-prepare_blocks-end : goal.slice_bounds-prepare_blocks-end
slice_bounds-prepare_blocks-end g c =
    let x = next_at c.args.self.now.geo.blocks c.args.ranges.now c.loop-range.range-index none c.loop-range-test.true c.requires.apart in
    let fits = x.bytes in
    let at = c.loop-range.invariant.at in
    let all = c.requires.bytes in
    omega (arith, fits, at, all)

pub prepare_blocks-requires : goal.prepare_blocks-requires
prepare_blocks-requires g c =
    let blocks = c.args.self.now.geo.blocks in
    let i = c.loop-range.range-index in
    let r = get_or c.args.ranges.now i none in
    let done = take i c.args.ranges.now in
    let x = subst (IsNext blocks done r) (sym c.requires.bytes) (next_at blocks c.args.ranges.now i none c.loop-range-test.true c.requires.apart) in
    let before = c.loop-range.invariant in
    record {
      may = search rules;
      room = next_room blocks done r c.loop-range.at c.args.bytes.now _ x before.at refl c.loop-range.changes.items before.prepares.numbered;
      within = next_within blocks done r c.loop-range.at c.args.bytes.now _ x before.at refl c.loop-range.self.geo.blocks (ap (λ geo. geo.blocks) before.prepares.as_before.geo);
      fresh = next_unnamed blocks done r c.loop-range.at c.args.bytes.now _ x before.at refl c.loop-range.changes.items before.prepares.numbered;
    }

pub returns-in_err-prepare_blocks : goal.returns-in_err-prepare_blocks
returns-in_err-prepare_blocks g c =
    let blocks = c.args.self.now.geo.blocks in
    let i = c.loop-range.range-index in
    let at = c.loop-range.at in
    let r = get_or c.args.ranges.now i none in
    let done = take i c.args.ranges.now in
    let x = subst (IsNext blocks done r) (sym c.requires.bytes) (next_at blocks c.args.ranges.now i none c.loop-range-test.true c.requires.apart) in
    let size = piece_blocks blocks done r at c.args.bytes.now (take (at + r.len - at) (drop at c.args.bytes.now)) x c.loop-range.invariant.at refl in
    let within = next_done_within blocks (length c.args.bytes.now) c.args.ranges.now i none c.loop-range-test.true c.requires.apart c.requires.bytes in
    let before = c.loop-range.invariant.prepares in
    let after = c.in_err-prepare_blocks.ensures.prepares in
    record {
      prepares =
          prepares_stopped g.L.Lines.state _ _ _ _ c.from_residual.result c.in_err-prepare_blocks.field-0.0 _ _ _ (write_ranges c.args.ranges.now c.args.bytes.now) _ _ c.from_residual.ensures.1
          (before-trans _ _ _ _ _ _ before.as_before after.as_before)
          (runs_within _ _ _ _ _ _ _ (runs_then _ _ _ _ _ _ _ _ before.runs after.runs) (omega (arith, size, within)) (omega (arith, size, within)));
    }

pub loop-range-preserved : goal.loop-range-preserved
loop-range-preserved g c =
    let old = blocks_with c.args.changes.now.items c.args.self.now (g.L.Lines.state c.args.dev.now).medium in
    let blocks = c.args.self.now.geo.blocks in
    let ranges = c.args.ranges.now in
    let bytes = c.args.bytes.now in
    let i = c.loop-range.range-index in
    let at = c.loop-range.at in
    let r = get_or ranges i none in
    let done = take i ranges in
    let piece = take (at + r.len - at) (drop at bytes) in
    let is = c.loop-range.invariant.at in
    let before = c.loop-range.invariant.prepares in
    let after = c.in_ok-prepare_blocks.ensures.prepares in
    let x = subst (IsNext blocks done r) (sym c.requires.bytes) (next_at blocks ranges i none c.loop-range-test.true c.requires.apart) in
    let more = sym (take_more ranges i none c.loop-range-test.true) in
    let count = spans_next blocks done r at bytes piece x is refl ∙ ap (λ rs. size_of (block_spans rs)) more in
    record {
      at = size_next blocks done r at bytes piece x is refl ∙ ap size_of more;
      prepares = record {
        as_before = before-trans _ _ _ _ _ _ before.as_before after.as_before;
        prepared = after.prepared;
        numbered = numbers_next blocks done r at bytes piece x is refl c.loop-range.changes.items before.numbered _ after.numbered ∙ ap (λ rs. numbers_in (block_spans rs)) more;
        written = written_next blocks done r at bytes piece x is refl old _ _ before.written after.written ∙ ap (λ rs. write_ranges rs bytes old) more;
        runs = runs_within _ _ _ _ _ _ _ (runs_then _ _ _ _ _ _ _ _ before.runs after.runs) (omega (arith, count)) (omega (arith, count));
      };
    }

pub returns : goal.returns
returns g c =
    let made = c.loop-range.invariant.prepares in
    let ranges = c.args.ranges.now in
    let old = blocks_with c.args.changes.now.items c.args.self.now (g.L.Lines.state c.args.dev.now).medium in
    let all = take_all c.loop-range.range-index ranges c.loop-range-test.false in
    let within = done_within c.args.self.now.geo.blocks (length c.args.bytes.now) ranges c.loop-range.range-index c.requires.apart c.requires.bytes in
    record {
      prepares = record {
        as_before = made.as_before;
        prepared = made.prepared;
        numbered = made.numbered ∙ ap (λ rs. numbers_in (block_spans rs)) all;
        written = made.written ∙ ap (λ rs. write_ranges rs c.args.bytes.now old) all;
        runs = runs_within _ _ _ _ _ _ _ made.runs (omega (arith, within)) (omega (arith, within));
      };
    }
