use Rattle.std.proofs.Common.{◌*◌, ap, ◌∙◌}
use Rattle.word_tables.specs.declared.geometry.Geometry.{Geometry}
use Rattle.cut_places.specs.Outcomes.Pages.{is_reply}
use Rattle.cut_places.specs.AskedReads.Reads.{page_read}
use Rattle.explorer.specs.Stopping.{DeviceStopped}
use Rattle.cut_places.specs.SightsSeen.Units.{line_numbers}
use Rattle.explorer.proofs.CauseLemmas.{fell_later, handed_on, stopped_later}
use Rattle.explorer.proofs.LookLemmas.{reads_more, reply_at}
use Rattle.explorer.proofs.volume_look.look_lines.Goals as goal

pub look_read-requires-clause-reply : goal.look_read-requires-clause-reply
look_read-requires-clause-reply g c =
    ap (λ (geo : Geometry). is_reply (4096 * geo.vpages) (page_read c.read-item.result)) c.loop-read.invariant.geometry
    ∙ reply_at (is_reply (4096 * c.args.host.now.geometry.vpages)) c.args.reads.now c.loop-read.read-index c.read-item.result c.requires.replies c.loop-read-test.true c.read-item.is

pub loop-read-preserved : goal.loop-read-preserved
loop-read-preserved g c =
    let i = c.loop-read.invariant in
    let after = c.in_ok-look_read.ensures in
    record {
      known = after.known;
      geometry = after.geometry ∙ i.geometry;
      counts = fell_later (g.D.Lines.state c.args.device.now).panel (g.D.Lines.state c.loop-read.device).panel (g.D.Lines.state c.look_read.new.device).panel i.counts after.counts;
      numbers = reads_more c.args.reads.now c.loop-read.read-index c.read-item.result (line_numbers c.loop-read.lines.items) (line_numbers c.look_read.new.lines.items)
          c.loop-read-test.true c.read-item.is i.numbers after.numbers;
      sees = λ h stands begins.
          let before = i.sees h stands begins in
          let told = after.sees h before.1 begins in
          (told.0 before.0, told.1);
    }

pub returns-in_err-look_read-clause-cause : goal.returns-in_err-look_read-clause-cause
returns-in_err-look_read-clause-cause g c = λ h stands begins.
    let i = c.loop-read.invariant in
    let old = (g.D.Lines.state c.args.device.now).panel in
    let new = (g.D.Lines.state c.look_read.new.device).panel in
    handed_on (DeviceStopped old new) c.in_err-look_read.field-0.0 c.from_residual.result c.from_residual.ensures.1
    (λ is. stopped_later old (g.D.Lines.state c.loop-read.device).panel new i.counts (c.in_err-look_read.ensures.cause h (i.sees h stands begins).1 begins is))
