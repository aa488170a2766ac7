use Rattle.std.proofs.Common.{◌∙◌, All, List, OnOk, ap, subst, sym}
use Rattle.line_words.specs.Told.{OnWorked}
use Rattle.inode_table.specs.Slots.{pages_at}
use Rattle.nvm_model.specs.Files.{OneFileLeft, on_pages}
use Rattle.nvm_model.specs.Interrupted.{MaySyncAll}
use Rattle.nvm_model.specs.Storage.{File}
use Rattle.nvm_model.specs.Touched.{persist_spans}
use Rattle.file_journal.specs.Object.{JournalState}
use Rattle.file_journal.specs.Standing.{EachReadsFiles}
use Rattle.file_pages.specs.Object.{IsFileAt}
use Rattle.flush_engine.specs.Refusals.{flush_says, verified}
use Rattle.flush_engine.specs.Spans.{IsWithin}
use Rattle.flush_engine.proofs.RefusedLemmas.{flushed-as}
use Rattle.flush_engine.proofs.SpanLemmas.{at-durable, durable}
use Rattle.flush_engine.proofs.verifying.flush_verify.Goals as goal

pub returns-in_err-flush-clause-images : goal.returns-in_err-flush-clause-images
returns-in_err-flush-clause-images g c =
    let j = c.args.files.now.journal in
    let old = (g.L.Lines.state c.args.dev.now).medium in
    let new = (g.L.Lines.state c.flush.new.dev).medium in
    flushed-as
    (λ r. OnWorked flush_says r ((listed : List File) (file : File) → IsFileAt j old c.args.inode listed file → EachReadsFiles j.geo new (OneFileLeft file.name (MaySyncAll c.args.spans.now) listed)))
    c.in_err-flush.field-0.0 c.from_residual.result c.from_residual.ensures.1 c.in_err-flush.ensures.verify c.in_err-flush.ensures.images

pub returns-in_err-flush-clause-within : goal.returns-in_err-flush-clause-within
returns-in_err-flush-clause-within g c =
    flushed-as (λ r. OnOk r (All (IsWithin (pages_at c.args.files.now.journal.tables.files c.args.inode)) c.args.spans.now))
    c.in_err-flush.field-0.0 c.from_residual.result c.from_residual.ensures.1 c.in_err-flush.ensures.verify tt

pub returns-in-Some-clause-verify : goal.returns-in-Some-clause-verify
returns-in-Some-clause-verify g c = λ listed file at.
    let j = c.args.files.now.journal in
    let old = (g.L.Lines.state c.args.dev.now).medium in
    let new = (g.L.Lines.state c.flush.new.dev).medium in
    let spans = c.args.spans.now in
    let here = at-durable j c.args.inode old new spans c.in_ok-flush.ensures.ok listed file at in
    ap verified (sym c.in-Some.is ∙ c.next_bad.ensures.next _ _ (subst (λ (k : JournalState). IsFileAt k new c.args.inode (durable file.name spans listed) (on_pages (persist_spans spans) file)) (sym c.in_ok-flush.ensures.object.0) here))

pub returns-in-None-clause-verify : goal.returns-in-None-clause-verify
returns-in-None-clause-verify g c = λ listed file at.
    let j = c.args.files.now.journal in
    let old = (g.L.Lines.state c.args.dev.now).medium in
    let new = (g.L.Lines.state c.flush.new.dev).medium in
    let spans = c.args.spans.now in
    let here = at-durable j c.args.inode old new spans c.in_ok-flush.ensures.ok listed file at in
    ap verified (sym c.in-None.is ∙ c.next_bad.ensures.next _ _ (subst (λ (k : JournalState). IsFileAt k new c.args.inode (durable file.name spans listed) (on_pages (persist_spans spans) file)) (sym c.in_ok-flush.ensures.object.0) here))
