use Rattle.std.proofs.Common.{◌+◌, Bool, List, ap, ap₂, get_or, refl, subst, sym, take, ◌∙◌, arith}
use Rattle.std.proofs.lemmas.Bool.{and_parts}
use Rattle.std.proofs.lemmas.List.{take_all, take_more}
use Rattle.std.proofs.lemmas.List.Sums.{sum_by_more, sum_by_more_le}
use Rattle.nvm_base.specs.declared.units.Span.{Span}
use Rattle.line_device.specs.Panel.{Outcome, Runs}
use Rattle.line_device.specs.Panel.Outcome.{went}
use Rattle.line_device.proofs.PanelLemmas.{runs-refl, runs_then, runs_within}
use Rattle.line_words.specs.Ending.{stop_outcome}
use Rattle.nvm_model.specs.Files.{OneFileLeft, on_pages}
use Rattle.nvm_model.specs.Interrupted.{MaySync}
use Rattle.nvm_model.specs.Listing.{change_file, file_name}
use Rattle.nvm_model.specs.Page.{persist}
use Rattle.nvm_model.specs.Storage.{File}
use Rattle.nvm_model.specs.Touched.{touches_any}
use Rattle.nvm_model.proofs.SeveralLemmas.{touches-taken}
use Rattle.page_lines.specs.Placed.{IsPlaced}
use Rattle.page_lines.specs.Turns.{WritesBackOthers}
use Rattle.page_lines.proofs.OthersLemmas.{others-refl, others-trans, others-wider}
use Rattle.file_journal.specs.Area.{IsOfFiles}
use Rattle.file_journal.specs.Object.{JournalServes, JournalState}
use Rattle.file_journal.specs.Standing.{EachReadsFiles, FilesStand}
use Rattle.file_pages.specs.Costs.{lines_there}
use Rattle.file_pages.specs.Object.{IsFileAt, KeepsMarks, PagesState, file_place}
use Rattle.file_pages.proofs.WorkLemmas.{ended_as}
use Rattle.flush_engine.specs.Spans.{IsSpanned, lines_in}
use Rattle.flush_engine.proofs.SpanLemmas.{StandDurable, beside-more, durable-left, durable-more, durable-none, durable-reads, spanned-taken}
use Rattle.flush_engine.proofs.flushing.persist_all.Goals as goal

pub loop-span-init : goal.loop-span-init
loop-span-init g c =
    let j = c.args.files.now.journal in
    let m = (g.L.Lines.state c.args.dev.now).medium in
    record {
      files = refl;
      stand = λ listed file at. subst (FilesStand j.geo m j.tables) (sym (durable-none file.name listed)) at.stand;
      beside = others-refl _ _;
      outside = others-refl _ _;
      metadata = λ n below. refl;
      serves = c.requires.serves;
      runs = runs-refl _;
    }

pub loop-span-preserved : goal.loop-span-preserved
loop-span-preserved g c =
    let j = c.args.files.now.journal in
    let old = (g.L.Lines.state c.args.dev.now).medium in
    let mid = (g.L.Lines.state c.loop-span.dev).medium in
    let new = (g.L.Lines.state c.persist_rest.new.dev).medium in
    let spans = c.args.spans.now in
    let i = c.loop-span.span-index in
    let none : Span = record { start = 0; len = 0 } in
    let span = get_or spans i none in
    let same = c.loop-span.invariant.files in
    let kept = c.in_ok-persist_rest.ensures.object.0 ∙ ap (λ (p : PagesState). p.journal) same in
    let settled = (and_parts c.args.files.now.settled j.settled c.requires.settled).0 in
    let costs = sum_by_more (λ (s : Span). lines_there j c.args.inode s.start s.len) spans i none c.loop-span-test.true in
    record {
      files = ap₂ (λ (k : JournalState) (b : Bool). let p : PagesState = record { journal = k; settled = b } in p) kept (c.in_ok-persist_rest.ensures.object.1 ∙ sym settled);
      stand =
          subst (StandDurable j c.args.inode old new) (sym (take_more spans i none c.loop-span-test.true))
          (durable-more j c.args.inode old mid new (take i spans) span c.loop-span.invariant.stand
          (subst (λ (p : PagesState). (files : List File) (file : File) → IsFileAt p.journal mid c.args.inode files file
          → FilesStand p.journal.geo new p.journal.tables (change_file file_name file.name (on_pages (λ pages. persist span.start span.len pages)) files)) same c.in_ok-persist_rest.ensures.ok));
      beside =
          subst (λ (xs : List Span). WritesBackOthers (IsSpanned j c.args.inode xs) old new) (sym (take_more spans i none c.loop-span-test.true))
          (beside-more j c.args.inode old mid new (take i spans) span c.loop-span.invariant.beside
          (subst (λ (p : PagesState). WritesBackOthers (IsPlaced (file_place p.journal c.args.inode) span.start span.len) mid new) same c.in_ok-persist_rest.ensures.beside));
      outside =
          others-trans (IsOfFiles j.geo) old mid new c.loop-span.invariant.outside
          (subst (λ (p : PagesState). WritesBackOthers (IsOfFiles p.journal.geo) mid new) same c.in_ok-persist_rest.ensures.outside);
      metadata = λ n below. subst (λ (p : PagesState). KeepsMarks p.journal.geo mid new) same c.in_ok-persist_rest.ensures.metadata n below ∙ c.loop-span.invariant.metadata n below;
      serves = subst (λ (k : JournalState). JournalServes k new) kept c.in_ok-persist_rest.ensures.serves;
      runs =
          runs_within _ _ _ _ _ _ _
          (runs_then _ _ _ _ _ _ _ _ c.loop-span.invariant.runs
          (subst (λ (p : PagesState). let lines = lines_there p.journal c.args.inode span.start span.len in Runs lines lines went (g.L.Lines.state c.loop-span.dev).panel (g.L.Lines.state c.persist_rest.new.dev).panel) same c.in_ok-persist_rest.ensures.runs))
          (omega (arith, costs)) (omega (arith, costs));
    }

pub returns-in_err-persist_rest-clause-images : goal.returns-in_err-persist_rest-clause-images
returns-in_err-persist_rest-clause-images g c =
    let j = c.args.files.now.journal in
    let old = (g.L.Lines.state c.args.dev.now).medium in
    let mid = (g.L.Lines.state c.loop-span.dev).medium in
    let new = (g.L.Lines.state c.persist_rest.new.dev).medium in
    let spans = c.args.spans.now in
    let i = c.loop-span.span-index in
    let none : Span = record { start = 0; len = 0 } in
    let span = get_or spans i none in
    durable-left j c.args.inode old mid new (take i spans) span c.loop-span.invariant.stand spans
    (λ n touched. touches-taken spans (i + 1) n (ap (λ xs. touches_any xs n) (take_more spans i none c.loop-span-test.true) ∙ touched))
    (subst (λ (p : PagesState). (files : List File) (file : File) → IsFileAt p.journal mid c.args.inode files file
    → EachReadsFiles p.journal.geo new (OneFileLeft file.name (MaySync span.start span.len) files)) c.loop-span.invariant.files c.in_err-persist_rest.ensures.images)

pub returns-in_err-persist_rest-clause-beside : goal.returns-in_err-persist_rest-clause-beside
returns-in_err-persist_rest-clause-beside g c =
    let j = c.args.files.now.journal in
    let old = (g.L.Lines.state c.args.dev.now).medium in
    let mid = (g.L.Lines.state c.loop-span.dev).medium in
    let new = (g.L.Lines.state c.persist_rest.new.dev).medium in
    let spans = c.args.spans.now in
    let i = c.loop-span.span-index in
    let none : Span = record { start = 0; len = 0 } in
    let span = get_or spans i none in
    others-wider (IsSpanned j c.args.inode (take (i + 1) spans)) (IsSpanned j c.args.inode spans) old new (λ line. spanned-taken j c.args.inode line spans (i + 1))
    (subst (λ (xs : List Span). WritesBackOthers (IsSpanned j c.args.inode xs) old new) (sym (take_more spans i none c.loop-span-test.true))
    (beside-more j c.args.inode old mid new (take i spans) span c.loop-span.invariant.beside
    (subst (λ (p : PagesState). WritesBackOthers (IsPlaced (file_place p.journal c.args.inode) span.start span.len) mid new) c.loop-span.invariant.files c.in_err-persist_rest.ensures.beside)))

pub returns-in_err-persist_rest-clause-outside : goal.returns-in_err-persist_rest-clause-outside
returns-in_err-persist_rest-clause-outside g c =
    let j = c.args.files.now.journal in
    let mid = (g.L.Lines.state c.loop-span.dev).medium in
    let new = (g.L.Lines.state c.persist_rest.new.dev).medium in
    others-trans (IsOfFiles j.geo) (g.L.Lines.state c.args.dev.now).medium mid new c.loop-span.invariant.outside
    (subst (λ (p : PagesState). WritesBackOthers (IsOfFiles p.journal.geo) mid new) c.loop-span.invariant.files c.in_err-persist_rest.ensures.outside)

pub returns-in_err-persist_rest-clause-runs : goal.returns-in_err-persist_rest-clause-runs
returns-in_err-persist_rest-clause-runs g c =
    let j = c.args.files.now.journal in
    let spans = c.args.spans.now in
    let i = c.loop-span.span-index in
    let none : Span = record { start = 0; len = 0 } in
    let span = get_or spans i none in
    let stop = c.in_err-persist_rest.field-0.0 in
    let most = sum_by_more_le (λ (s : Span). lines_there j c.args.inode s.start s.len) spans i none c.loop-span-test.true in
    subst (λ (end : Outcome). Runs (lines_in j c.args.inode spans) (lines_in j c.args.inode spans) end (g.L.Lines.state c.args.dev.now).panel (g.L.Lines.state c.persist_rest.new.dev).panel)
    (sym (ended_as c.from_residual.result stop c.from_residual.ensures.1))
    (runs_within _ _ _ _ _ _ _
    (runs_then _ _ _ _ _ _ _ _ c.loop-span.invariant.runs
    (subst (λ (p : PagesState). let lines = lines_there p.journal c.args.inode span.start span.len in Runs lines lines (stop_outcome stop) (g.L.Lines.state c.loop-span.dev).panel (g.L.Lines.state c.persist_rest.new.dev).panel) c.loop-span.invariant.files c.in_err-persist_rest.ensures.runs))
    most most)

pub returns-clause-beside : goal.returns-clause-beside
returns-clause-beside g c =
    let old = (g.L.Lines.state c.args.dev.now).medium in
    let new = (g.L.Lines.state c.loop-span.dev).medium in
    subst (λ (xs : List Span). WritesBackOthers (IsSpanned c.args.files.now.journal c.args.inode xs) old new) (take_all c.loop-span.span-index c.args.spans.now c.loop-span-test.false) c.loop-span.invariant.beside

pub returns-clause-images : goal.returns-clause-images
returns-clause-images g c =
    let j = c.args.files.now.journal in
    let old = (g.L.Lines.state c.args.dev.now).medium in
    let new = (g.L.Lines.state c.loop-span.dev).medium in
    let all = take_all c.loop-span.span-index c.args.spans.now c.loop-span-test.false in
    durable-reads j c.args.inode old new c.args.spans.now c.requires.tables c.loop-span.invariant.serves
    (subst (StandDurable j c.args.inode old new) all c.loop-span.invariant.stand)
