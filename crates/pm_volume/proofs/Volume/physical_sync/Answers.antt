use Rattle.std.proofs.Common.{◌≡◌, Some, refl, sym, ◌∙◌, ap, rules}
use Rattle.std.proofs.lemmas.Bool.{ne_eqb}
use Rattle.range_sets.specs.Ranges.{offset_of_span}
use Rattle.pm_volume.specs.Area.{volume_ranges}
use Rattle.pm_volume.specs.Object.{VolumeState}
use Rattle.pm_volume.specs.Refusals.{physical_offset}
use Rattle.pm_volume.specs.declared.fault.VolumeFault.TheVariants as fault
use Rattle.pm_volume.proofs.CallLemmas.{syncs-refused}
use Rattle.pm_volume.proofs.PhysicalLemmas.{syncs-found}
use Rattle.pm_volume.proofs.Volume.physical_sync.Goals as goal

pub returns-then-span-eq0 : goal.returns-then-span-eq0
returns-then-span-eq0 g c = record { syncs = syncs-refused g.L.Lines.state c.args.self.now c.args.dev.now c.requires.ready _ fault.Length _ refl (search rules) _ _ }

pub returns-in-None : goal.returns-in-None
returns-in-None g c = record { syncs = syncs-refused g.L.Lines.state c.args.self.now c.args.dev.now c.requires.ready _ fault.Address _ refl (search rules) _ _ }

pub returns-in-Some : goal.returns-in-Some
returns-in-Some g c =
    let s = c.args.self.now in
    let span = c.args.span in
    let at : physical_offset s.geo span.start span.len ≡ Some c.in-Some.start =
    ap (λ rs. offset_of_span rs span) (sym (c.self.invariant.ranges ∙ ap (λ (t : VolumeState). volume_ranges t.geo) c.self.view_is)) ∙ sym c.offset_of_span.ensures.offset ∙ c.in-Some.is in
    record { syncs = syncs-found g.L.Lines.state s _ _ _ _ span.start span.len c.in-Some.start (ne_eqb span.len 0 c.if-span-eq0.false) at c.sync.ensures.syncs }
