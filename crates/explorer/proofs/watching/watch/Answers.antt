use Rattle.std.proofs.Common.{◌≡◌, ◌*◌, true, sym, ap, subst, ◌∙◌}
use Rattle.std.specs.List.{list_all}
use Rattle.std.proofs.lemmas.Bool.{and_parts}
use Rattle.cut_places.specs.Outcomes.Blocks.{all_numbers_read, is_block_reply}
use Rattle.cut_places.specs.Outcomes.Finds.{armed}
use Rattle.cut_places.specs.Outcomes.Pages.{all_lines_read, is_reply}
use Rattle.cut_places.specs.AskedReads.Asking.{blocks_of, may_be_file_reply, may_be_replies, volume_asked}
use Rattle.cut_places.specs.AskedReads.Reads.{blocks_asked, file_reads_asked, pages_asked}
use Rattle.cut_places.specs.AskedReads.Program.{inputs_of_lines}
use Rattle.cut_places.specs.Following.{Follows, IsWithin}
use Rattle.cut_places.specs.SeesFiles.{are_held}
use Rattle.explorer.specs.Leading.{led_through}
use Rattle.explorer.specs.Stopping.{DeviceStopped}
use Rattle.explorer.proofs.CauseLemmas.{fell_later, handed_on, stopped_later}
use Rattle.explorer.proofs.FileListLemmas.{sees_armed}
use Rattle.explorer.proofs.PerformLemmas.{ready_armed}
use Rattle.cut_places.proofs.WithinLemmas.{blocks_within, lines_within}
use Rattle.explorer.proofs.watching.watch.Goals as goal

pub look_lines-requires-clause-replies : goal.look_lines-requires-clause-replies
look_lines-requires-clause-replies g c =
    ap (λ reads. list_all (is_reply (4096 * c.args.host.now.geometry.vpages)) (pages_asked reads)) c.deref.ensures.value ∙ (and_parts _ _ c.requires.replies).0

pub look_blocks-requires-clause-replies : goal.look_blocks-requires-clause-replies
look_blocks-requires-clause-replies g c =
    let replies : may_be_replies c.look_lines.new.host.geometry c.args.question.now ≡ true =
    ap (λ geo. may_be_replies geo c.args.question.now) c.in_ok-lines.ensures.geometry ∙ c.requires.replies in
    ap (λ reads. list_all (is_block_reply c.look_lines.new.host.geometry.blocks) (blocks_asked reads)) c.deref-2.ensures.value ∙ (and_parts _ _ (and_parts _ _ replies).1).0

pub look_files-requires-clause-replies : goal.look_files-requires-clause-replies
look_files-requires-clause-replies g c =
    ap (λ reads. list_all may_be_file_reply (file_reads_asked reads)) c.deref-3.ensures.value ∙ (and_parts _ _ (and_parts _ _ c.requires.replies).1).1

pub lead-requires-clause-within : goal.lead-requires-clause-within
lead-requires-clause-within g c =
    let lines = c.in_ok-lines.ensures.numbers ∙ ap (λ reads. all_lines_read (pages_asked reads)) c.deref.ensures.value in
    let blocks = c.in_ok-blocks.ensures.numbers ∙ ap (λ reads. all_numbers_read (blocks_asked reads)) c.deref-2.ensures.value in
    let sizes = c.in_ok-arm.ensures.geometry ∙ c.in_ok-files.ensures.geometry ∙ c.in_ok-blocks.ensures.geometry ∙ c.in_ok-lines.ensures.geometry in
    subst (λ geo. IsWithin (record { lines = c.in_ok-lines.lines; blocks = c.in_ok-blocks.blocks; files = c.in_ok-files.files }) geo) (sym sizes) (record {
      lines = lines_within c.args.host.now.geometry c.in_ok-lines.lines.items (volume_asked c.args.question.now) lines (and_parts _ _ c.requires.replies).0;
      blocks = blocks_within c.args.host.now.geometry c.in_ok-blocks.blocks.items (blocks_of c.args.question.now) blocks (and_parts _ _ (and_parts _ _ c.requires.replies).1).0;
    })

pub returns-clause-whole : goal.returns-clause-whole
returns-clause-whole g c =
    let lines = c.in_ok-lines.ensures.numbers ∙ ap (λ reads. all_lines_read (pages_asked reads)) c.deref.ensures.value in
    let blocks = c.in_ok-blocks.ensures.numbers ∙ ap (λ reads. all_numbers_read (blocks_asked reads)) c.deref-2.ensures.value in
    let files = ap (λ reads. are_held c.in_ok-files.files.numbers (file_reads_asked reads)) (sym c.deref-3.ensures.value) ∙ c.in_ok-files.ensures.held in
    let sizes = c.in_ok-arm.ensures.geometry ∙ c.in_ok-files.ensures.geometry ∙ c.in_ok-blocks.ensures.geometry ∙ c.in_ok-lines.ensures.geometry in (
      c.in_ok-lead.ensures.whole c.args.question.now (record { lines = lines; blocks = blocks; files = files }),
      subst (IsWithin c.lead.new.sight) sizes c.in_ok-lead.ensures.within,
    )

pub returns-clause-follows : goal.returns-clause-follows
returns-clause-follows g c = λ h stands begins.
    let lines = c.in_ok-lines.ensures.sees h stands begins in
    let blocks = c.in_ok-blocks.ensures.sees h lines.1 begins.ready in
    let files = c.in_ok-files.ensures.sees h blocks.1 begins in
    let sizes = c.in_ok-arm.ensures.geometry ∙ c.in_ok-files.ensures.geometry ∙ c.in_ok-blocks.ensures.geometry ∙ c.in_ok-lines.ensures.geometry in
    let at_arm = c.in_ok-arm.ensures.arms h files.1 begins.ready in
    let to = led_through (armed h) (inputs_of_lines c.args.first.now) in
    let led = c.in_ok-lead.ensures.leads (armed h) at_arm (record {
      ready = ready_armed h begins.ready;
      sizes = sym at_arm.geometry;
      sees = record { lines = lines.0; blocks = blocks.0; files = sees_armed c.in_ok-files.files h files.0 };
    }) in
    (subst (λ geo. Follows c.lead.new.sight geo to) sizes led.1, c.in_ok-done.ensures.done to led.0 led.1.ready)

pub returns-in_err-lines-clause-cause : goal.returns-in_err-lines-clause-cause
returns-in_err-lines-clause-cause g c = λ h stands begins.
    let old = (g.D.Lines.state c.args.device.now).panel in
    handed_on (DeviceStopped old (g.D.Lines.state c.look_lines.new.device).panel) c.in_err-lines.field-0.0 c.from_residual-in_err-lines.result
    c.from_residual-in_err-lines.ensures.1 (c.in_err-lines.ensures.cause h stands begins)

pub returns-in_err-blocks-clause-cause : goal.returns-in_err-blocks-clause-cause
returns-in_err-blocks-clause-cause g c = λ h stands begins.
    let lines = c.in_ok-lines.ensures.sees h stands begins in
    let old = (g.D.Lines.state c.args.device.now).panel in
    let new = (g.D.Lines.state c.look_blocks.new.device).panel in
    handed_on (DeviceStopped old new) c.in_err-blocks.field-0.0 c.from_residual-in_err-blocks.result c.from_residual-in_err-blocks.ensures.1
    (λ is. stopped_later old (g.D.Lines.state c.look_lines.new.device).panel new c.in_ok-lines.ensures.counts (c.in_err-blocks.ensures.cause h lines.1 begins.ready is))

pub returns-in_err-files-clause-cause : goal.returns-in_err-files-clause-cause
returns-in_err-files-clause-cause g c = λ h stands begins.
    let lines = c.in_ok-lines.ensures.sees h stands begins in
    let blocks = c.in_ok-blocks.ensures.sees h lines.1 begins.ready in
    let old = (g.D.Lines.state c.args.device.now).panel in
    let seen = (g.D.Lines.state c.look_blocks.new.device).panel in
    let new = (g.D.Lines.state c.look_files.new.device).panel in
    let fell = fell_later old (g.D.Lines.state c.look_lines.new.device).panel seen c.in_ok-lines.ensures.counts c.in_ok-blocks.ensures.counts in
    handed_on (DeviceStopped old new) c.in_err-files.field-0.0 c.from_residual-in_err-files.result c.from_residual-in_err-files.ensures.1
    (λ is. stopped_later old seen new fell (c.in_err-files.ensures.cause h blocks.1 begins is))

pub returns-in_err-arm-clause-cause : goal.returns-in_err-arm-clause-cause
returns-in_err-arm-clause-cause g c = λ h stands begins.
    let old = (g.D.Lines.state c.args.device.now).panel in
    let blocks = (g.D.Lines.state c.look_blocks.new.device).panel in
    let seen = (g.D.Lines.state c.look_files.new.device).panel in
    let new = (g.D.Lines.state c.arm.new.device).panel in
    let first = fell_later old (g.D.Lines.state c.look_lines.new.device).panel blocks c.in_ok-lines.ensures.counts c.in_ok-blocks.ensures.counts in
    let fell = fell_later old blocks seen first c.in_ok-files.ensures.counts in
    handed_on (DeviceStopped old new) c.in_err-arm.field-0.0 c.from_residual-in_err-arm.result c.from_residual-in_err-arm.ensures.1
    (λ is. stopped_later old seen new fell (c.in_err-arm.ensures.cause is))

pub returns-in_err-lead-clause-cause : goal.returns-in_err-lead-clause-cause
returns-in_err-lead-clause-cause g c = λ h stands begins.
    let old = (g.D.Lines.state c.args.device.now).panel in
    let blocks = (g.D.Lines.state c.look_blocks.new.device).panel in
    let seen = (g.D.Lines.state c.look_files.new.device).panel in
    let mid = (g.D.Lines.state c.arm.new.device).panel in
    let new = (g.D.Lines.state c.lead.new.device).panel in
    let first = fell_later old (g.D.Lines.state c.look_lines.new.device).panel blocks c.in_ok-lines.ensures.counts c.in_ok-blocks.ensures.counts in
    let fell = fell_later old seen mid (fell_later old blocks seen first c.in_ok-files.ensures.counts) c.in_ok-arm.ensures.counts in
    handed_on (DeviceStopped old new) c.in_err-lead.field-0.0 c.from_residual-in_err-lead.result c.from_residual-in_err-lead.ensures.1
    (λ is. stopped_later old mid new fell (c.in_err-lead.ensures.cause is))

pub returns-in_err-done-clause-cause : goal.returns-in_err-done-clause-cause
returns-in_err-done-clause-cause g c = λ h stands begins.
    let old = (g.D.Lines.state c.args.device.now).panel in
    let blocks = (g.D.Lines.state c.look_blocks.new.device).panel in
    let seen = (g.D.Lines.state c.look_files.new.device).panel in
    let mid = (g.D.Lines.state c.arm.new.device).panel in
    let led = (g.D.Lines.state c.lead.new.device).panel in
    let new = (g.D.Lines.state c.perform.new.device).panel in
    let first = fell_later old (g.D.Lines.state c.look_lines.new.device).panel blocks c.in_ok-lines.ensures.counts c.in_ok-blocks.ensures.counts in
    let fell = fell_later old seen mid (fell_later old blocks seen first c.in_ok-files.ensures.counts) c.in_ok-arm.ensures.counts in
    handed_on (DeviceStopped old new) c.in_err-done.field-0.0 c.from_residual-in_err-done.result c.from_residual-in_err-done.ensures.1
    (λ is. stopped_later old led new (fell_later old mid led fell c.in_ok-lead.ensures.counts) (c.in_err-done.ensures.cause is))

pub returns-clause-counts : goal.returns-clause-counts
returns-clause-counts g c =
    let old = (g.D.Lines.state c.args.device.now).panel in
    let blocks = (g.D.Lines.state c.look_blocks.new.device).panel in
    let seen = (g.D.Lines.state c.look_files.new.device).panel in
    let mid = (g.D.Lines.state c.arm.new.device).panel in
    let led = (g.D.Lines.state c.lead.new.device).panel in
    let first = fell_later old (g.D.Lines.state c.look_lines.new.device).panel blocks c.in_ok-lines.ensures.counts c.in_ok-blocks.ensures.counts in
    let fell = fell_later old seen mid (fell_later old blocks seen first c.in_ok-files.ensures.counts) c.in_ok-arm.ensures.counts in
    fell_later old led (g.D.Lines.state c.perform.new.device).panel (fell_later old mid led fell c.in_ok-lead.ensures.counts) c.in_ok-done.ensures.counts
