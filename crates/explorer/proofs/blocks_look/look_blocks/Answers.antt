use Rattle.std.proofs.Common.{◌≡◌, true, sym, subst, ◌∙◌, arith}
use Rattle.std.specs.List.{list_all}
use Rattle.word_tables.specs.declared.geometry.Geometry.{Geometry}
use Rattle.cut_places.specs.Outcomes.Blocks.{is_block_reply}
use Rattle.cut_places.specs.AskedReads.Reads.{blocks_asked}
use Rattle.explorer.specs.Stopping.{DeviceStopped}
use Rattle.explorer.proofs.CauseLemmas.{fell_later, handed_on, stopped_later}
use Rattle.explorer.proofs.BlockLookLemmas.{read_behind, reply_at}
use Rattle.explorer.proofs.blocks_look.look_blocks.Goals as goal

pub look_read-requires-clause-reply : goal.look_read-requires-clause-reply
look_read-requires-clause-reply g c =
    let reads = c.args.reads.now in
    reply_at c.loop-read.host.geometry.blocks reads c.loop-read.read-index c.read-item.result c.loop-read-test.true c.read-item.is
    (subst (λ (geo : Geometry). list_all (is_block_reply geo.blocks) (blocks_asked reads) ≡ true) (sym c.loop-read.invariant.2) c.requires.replies)

pub loop-read-preserved : goal.loop-read-preserved
loop-read-preserved g c =
    let now = c.loop-read.invariant in
    let made = c.in_ok-look_read.ensures in (
      made.known,
      omega arith,
      made.geometry ∙ now.2,
      fell_later (g.D.Lines.state c.args.device.now).panel (g.D.Lines.state c.loop-read.device).panel (g.D.Lines.state c.look_read.new.device).panel now.3 made.counts,
      read_behind c.args.reads.now c.loop-read.read-index c.read-item.result _ _ c.loop-read-test.true c.read-item.is made.numbers now.4,
      λ h stands ready.
          let before = now.5 h stands ready in
          let after = made.sees h before.1 ready in
          (after.0 before.0, after.1),
    )

pub returns-in_err-look_read-clause-cause : goal.returns-in_err-look_read-clause-cause
returns-in_err-look_read-clause-cause g c = λ h stands ready.
    let now = c.loop-read.invariant in
    let old = (g.D.Lines.state c.args.device.now).panel in
    let new = (g.D.Lines.state c.look_read.new.device).panel in
    handed_on (DeviceStopped old new) c.in_err-look_read.field-0.0 c.from_residual.result c.from_residual.ensures.1
    (λ is. stopped_later old (g.D.Lines.state c.loop-read.device).panel new now.3 (c.in_err-look_read.ensures.cause h (now.5 h stands ready).1 ready is))
