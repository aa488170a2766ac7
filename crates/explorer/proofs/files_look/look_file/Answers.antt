use Rattle.std.proofs.Common.{ap, refl, subst, sym, ◌∙◌}
use Rattle.std.specs.Prelude.{slice_index}
use Rattle.cut_places.specs.SightsSeen.Seeing.{seen}
use Rattle.cut_places.specs.declared.line.FileLine.{FileLine}
use Rattle.cut_places.specs.SeesFiles.{AreLines, line_numbers}
use Rattle.cut_places.specs.FilesState.{FileState}
use Rattle.explorer.specs.Stopping.{DeviceStopped}
use Rattle.explorer.proofs.CauseLemmas.{fell_later, handed_on, stopped_later}
use Rattle.explorer.proofs.FileListLemmas.{lines_more, numbers_all, numbers_more}
use Rattle.explorer.proofs.files_look.look_file.Goals as goal

pub loop-n-preserved : goal.loop-n-preserved
loop-n-preserved g c =
    let i = c.loop-n.invariant in
    let told = c.in_ok-line.ensures in
    let line : FileLine = record { number = slice_index c.args.numbers.now c.loop-n.n-index; line = c.in_ok-line.line } in
    let added = c.in_ok-add_line.ensures in
    record {
      known = told.known;
      geometry = told.geometry ∙ i.geometry;
      counts = fell_later (g.D.Lines.state c.args.device.now).panel (g.D.Lines.state c.loop-n.device).panel (g.D.Lines.state c.look_line.new.device).panel i.counts told.counts;
      name = ap (λ (f : FileState). f.name) added ∙ i.name;
      pages = ap (λ (f : FileState). f.pages) added ∙ i.pages;
      numbers = ap (λ (f : FileState). line_numbers f.lines) added
          ∙ numbers_more c.args.numbers.now c.loop-n.n-index c.loop-n.file.lines line c.loop-n-test.true refl i.numbers;
      sees = λ h file stands begins listed.
          let before = i.sees h file stands begins listed in
          let is = told.sees h file before.1 begins listed in (
            subst (λ (f : FileState). AreLines (seen file.pages) f.lines) (sym added) (lines_more (seen file.pages) c.loop-n.file.lines line before.0 is.0),
            is.1,
          );
    }

pub returns-clause-sees : goal.returns-clause-sees
returns-clause-sees g c = λ h file stands begins listed.
    let i = c.loop-n.invariant in
    let sees = i.sees h file stands begins listed in (
      record {
        pages = i.pages ∙ listed.size;
        held = numbers_all c.args.numbers.now c.loop-n.n-index (line_numbers c.loop-n.file.lines) c.loop-n-test.false i.numbers;
        lines = sees.0;
      },
      sees.1,
    )

pub returns-in_err-line-clause-cause : goal.returns-in_err-line-clause-cause
returns-in_err-line-clause-cause g c = λ h file stands begins listed.
    let i = c.loop-n.invariant in
    let old = (g.D.Lines.state c.args.device.now).panel in
    let new = (g.D.Lines.state c.look_line.new.device).panel in
    handed_on (DeviceStopped old new) c.in_err-line.field-0.0 c.from_residual.result c.from_residual.ensures.1
    (λ is. stopped_later old (g.D.Lines.state c.loop-n.device).panel new i.counts (c.in_err-line.ensures.cause h file (i.sees h file stands begins listed).1 begins listed is))
