use Rattle.std.proofs.Common.{◌≡◌, Some, None, slice_get, refl, ap, ◌∙◌, subst}
use Rattle.word_tables.specs.Layout.{block_line}
use Rattle.block_map.specs.declared.state.BlockState.TheVariants as state
use Rattle.block_device.specs.declared.fault.BlockFault.TheVariants as fault
use Rattle.block_device.specs.Object.{BlocksState, IsKept}
use Rattle.block_device.proofs.BlockLemmas.{obstructs, unit_bad, unit_obstructs, unit_lines}
use Rattle.block_device.proofs.Blocks.obstacle.Goals as goal

pub first_bad-requires : goal.first_bad-requires
first_bad-requires g c =
    let log = c.self.inside.log.area in
    unit_lines c.args.self.now log (g.L.Lines.state c.args.dev.now).medium c.args.block c.in-At.unit c.block_line.result
    (subst (λ (s : BlocksState). IsKept s log) c.self.view_is c.self.invariant)
    c.requires.serves
    (subst (λ (s : BlocksState). slice_get s.map c.args.block ≡ Some (state.At c.in-At.unit)) c.self.view_is c.in-At.ensures.state)
    (c.block_line.ensures ∙ ap (λ (s : BlocksState). block_line s.geo c.in-At.unit) c.self.view_is)

pub returns-in-Absent : goal.returns-in-Absent
returns-in-Absent g c =
    obstructs c.args.self.now (g.L.Lines.state c.args.dev.now).medium c.args.block state.Absent None
    (subst (λ (s : BlocksState). slice_get s.map c.args.block ≡ Some state.Absent) c.self.view_is c.in-Absent.ensures.state)
    tt

pub returns-in-Scarred : goal.returns-in-Scarred
returns-in-Scarred g c =
    obstructs c.args.self.now (g.L.Lines.state c.args.dev.now).medium c.args.block state.Scarred (Some (fault.Scarred c.args.block))
    (subst (λ (s : BlocksState). slice_get s.map c.args.block ≡ Some state.Scarred) c.self.view_is c.in-Scarred.ensures.state)
    refl

pub returns-in-Some : goal.returns-in-Some
returns-in-Some g c =
    unit_obstructs c.args.self.now (g.L.Lines.state c.args.dev.now).medium c.args.block c.in-At.unit c.block_line.result (Some c.in-Some.line)
    (Some (fault.Poison c.args.block c.in-Some.line))
    (subst (λ (s : BlocksState). slice_get s.map c.args.block ≡ Some (state.At c.in-At.unit)) c.self.view_is c.in-At.ensures.state)
    (c.block_line.ensures ∙ ap (λ (s : BlocksState). block_line s.geo c.in-At.unit) c.self.view_is)
    (unit_bad (g.L.Lines.state c.args.dev.now).medium c.block_line.result (Some c.in-Some.line) c.in-Some.ensures.line)
    refl

pub returns-in-None : goal.returns-in-None
returns-in-None g c =
    unit_obstructs c.args.self.now (g.L.Lines.state c.args.dev.now).medium c.args.block c.in-At.unit c.block_line.result None None
    (subst (λ (s : BlocksState). slice_get s.map c.args.block ≡ Some (state.At c.in-At.unit)) c.self.view_is c.in-At.ensures.state)
    (c.block_line.ensures ∙ ap (λ (s : BlocksState). block_line s.geo c.in-At.unit) c.self.view_is)
    (unit_bad (g.L.Lines.state c.args.dev.now).medium c.block_line.result None c.in-None.ensures.line)
    tt
