use Rattle.std.proofs.Common.{◌≡◌, ◌<◌, List, length, slice_index_or, ap, subst, ◌∙◌, arith}
use Rattle.nvm_base.specs.declared.files.FileEntry.{FileEntry}
use Rattle.file_journal.specs.Listing.{listed}
use Rattle.file_journal.specs.Object.{JournalState}
use Rattle.marked_lines.proofs.EventLemmas.{events-all, events-next, files_told}
use Rattle.marked_lines.proofs.events.events_of.Goals as goal

pub loop-file-preserved : goal.loop-file-preserved
loop-file-preserved g c =
    let s = c.args.files.now.journal in
    let items : c.as_slice-file-items.result.now ≡ listed s.tables = c.as_slice-file-items.ensures ∙ c.in_ok-list.ensures.ok ∙ ap (λ (j : JournalState). listed j.tables) c.journal.ensures in
    let within = subst (λ (l : List FileEntry). c.loop-file.file-index < length l) items c.loop-file-test.true in
    events-next s (g.L.Lines.state c.args.dev.now).medium c.loop-file.file-index c.file-item.result c.loop-file.events.items c.tell_file.new.events.items within
    (c.file-item.is ∙ ap (λ (l : List FileEntry). slice_index_or l c.loop-file.file-index c.file-item.result) items) c.loop-file.invariant c.in_ok-tell_file.ensures

pub returns : goal.returns
returns g c all stand =
    let s = c.args.files.now.journal in
    let m = (g.L.Lines.state c.args.dev.now).medium in
    let items : c.as_slice-file-items.result.now ≡ listed s.tables = c.as_slice-file-items.ensures ∙ c.in_ok-list.ensures.ok ∙ ap (λ (j : JournalState). listed j.tables) c.journal.ensures in
    events-all s m c.loop-file.file-index c.loop-file.events.items (omega (arith, ap (λ (l : List FileEntry). length l) items)) c.loop-file.invariant
    ∙ files_told s.geo m s.tables all stand
