use Rattle.std.proofs.Common.{◌≡◌, ◌+◌, ◌*◌, ◌/◌, length, sym, subst, ◌∙◌, ap, arith}
use Rattle.line_device.proofs.PanelLemmas.{runs_within}
use Rattle.nvm_model.specs.Blocks.{write_ranges}
use Rattle.block_device.specs.Object.{blocks_of}
use Rattle.block_device.specs.Images.{IsEither}
use Rattle.block_device.specs.Prepared.{ArePrepared, blocks_with}
use Rattle.block_device.proofs.MadeLemmas.{before_from, may_begin, none_with}
use Rattle.block_device.proofs.ApartLemmas.{apart_count, apart_some, whole_size}
use Rattle.block_device.proofs.WorkLemmas.{works_as, works_prepared, works_stopped, works_switched}
use Rattle.block_device.proofs.Blocks.write_apart.Goals as goal

pub prepare_ranges-requires-clause-may : goal.prepare_ranges-requires-clause-may
prepare_ranges-requires-clause-may g c =
    may_begin _ c.args.self.now _ (g.L.Lines.state c.args.dev.now) c.new-changes.result.items c.self.view_is c.self.invariant c.requires.ready c.requires.good c.new-changes.ensures

pub returns-in_err-prepare_ranges : goal.returns-in_err-prepare_ranges
returns-in_err-prepare_ranges g c =
    let made = c.in_err-prepare_ranges.ensures.prepares in
    record {
      works =
          works_stopped g.L.Lines.state c.args.self.now c.prepare_ranges.new.self c.args.dev.now c.prepare_ranges.new.dev c.from_residual.result c.in_err-prepare_ranges.field-0.0 (write_ranges c.args.ranges.now c.args.bytes.now) _ _ c.from_residual.ensures.1
          (before_from _ c.args.self.now c.prepare_ranges.new.self _ _ c.self.view_is made.as_before) (runs_within _ _ _ _ _ _ _ made.runs (omega arith) (omega arith));
    }

pub switch-requires-clause-some : goal.switch-requires-clause-some
switch-requires-clause-some g c =
    let count = apart_count c.args.self.now.geo.blocks (length c.args.bytes.now) c.args.ranges.now _ c.as_slice.result.now c.as_slice.ensures.value c.requires.apart c.requires.bytes c.in_ok-prepare_ranges.ensures.prepares.numbered in
    let some = apart_some c.args.ranges.now c.requires.some c.requires.apart.whole in
    let all = whole_size c.args.ranges.now c.requires.apart.whole in
    let is = c.requires.bytes in
    omega (arith, count, some, all, is)

pub switch-requires-clause-prepared : goal.switch-requires-clause-prepared
switch-requires-clause-prepared g c = subst (ArePrepared c.prepare_ranges.new.self (g.L.Lines.state c.prepare_ranges.new.dev).medium) (sym c.as_slice.ensures.value) c.in_ok-prepare_ranges.ensures.prepares.prepared

pub returns : goal.returns
returns g c =
    let state = g.L.Lines.state in
    let s = c.args.self.now in
    let t = c.prepare_ranges.new.self in
    let mid = c.prepare_ranges.new.dev in
    let cs = c.as_slice.result.now in
    let to = write_ranges c.args.ranges.now c.args.bytes.now in
    let made = c.in_ok-prepare_ranges.ensures.prepares in
    let old = blocks_of s (state c.args.dev.now).medium in
    let new = blocks_with cs t (state mid).medium in
    let n = length c.args.bytes.now / 512 in
    let same = c.as_slice.ensures.value in
    let count = apart_count s.geo.blocks (length c.args.bytes.now) c.args.ranges.now _ cs same c.requires.apart c.requires.bytes made.numbered in
    let may = (subst (ArePrepared t (state mid).medium) (sym same) made.prepared).may in
    let is : new ≡ to old = ap (λ es. blocks_with es t (state mid).medium) same ∙ made.written ∙ ap to (none_with _ s (state c.args.dev.now).medium c.new-changes.result.items c.self.view_is c.new-changes.ensures) in
    record {
      works =
          works_as state s c.switch.new.self c.args.dev.now c.switch.new.dev c.switch.result to to IsEither _ _ (29 * n + 6) (10 * n + 3) (λ bs i. to bs) (omega (arith, count)) (omega (arith, count))
          (works_prepared state s t c.switch.new.self c.args.dev.now mid c.switch.new.dev c.switch.result (λ _. new) to _ _ _ _
          (before_from _ s t _ _ c.self.view_is made.as_before) made.runs is
          (works_switched state t c.switch.new.self mid c.switch.new.dev c.switch.result cs (λ _. new) made.as_before.serves may (λ i. new) c.switch.ensures.switches));
    }
