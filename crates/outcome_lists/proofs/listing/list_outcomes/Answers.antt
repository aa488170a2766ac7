use Rattle.std.proofs.Common.{ap, subst, sym, ◌∙◌}
use Rattle.std.specs.List.{list_all}
use Rattle.explorer.specs.AskedReads.Asking.{files_asked}
use Rattle.explorer.specs.CutPlaces.Following.{AreDone, Follows}
use Rattle.explorer.specs.CutPlaces.SeesFiles.{is_held}
use Rattle.explorer.specs.ValueTables.Looking.{blocks_looked_at, file_lines_looked_at, lines_looked_at}
use Rattle.explorer.specs.Leading.{led_through}
use Rattle.explorer.proofs.LedLemmas.{sound_led}
use Rattle.explorer.proofs.LookingLemmas.{held_read}
use Rattle.explorer.proofs.PerformLemmas.{ready_armed}
use Rattle.word_tables.specs.declared.geometry.Geometry.{Geometry}
use Rattle.explorer.specs.AskedReads.Program.{inputs_of_lines}
use Rattle.explorer.specs.Outcomes.Finds.{armed}
use Rattle.outcome_lists.specs.Lists.{list_text}
use Rattle.outcome_lists.specs.Outcomes.{outcomes_of}
use Rattle.outcome_lists.specs.Parts.{parts_of}
use Rattle.outcome_lists.proofs.BeginLemmas.{sound_begun}
use Rattle.outcome_lists.proofs.listing.list_outcomes.Goals as goal

pub list_text-requires-clause-looks : goal.list_text-requires-clause-looks
list_text-requires-clause-looks g c =
    let whole = c.in_ok-sight.ensures.whole.0 in
    let looks = c.in_ok-question.ensures in
    let geo = c.geometry-geometry.result in
    let same = c.deref.ensures.value ∙ sym c.deref-3.ensures.value in
    let numbers = c.in_ok-sight.field-0.sight.files.numbers in
    record {
      lines = whole.lines ∙ looks.lines ∙ ap (lines_looked_at geo) same;
      blocks = whole.blocks ∙ looks.blocks ∙ ap (blocks_looked_at geo) same;
      files = ap (λ parts. list_all (is_held numbers) (file_lines_looked_at geo parts)) (sym same) ∙ ap (list_all (is_held numbers)) (sym looks.files) ∙ held_read numbers (files_asked c.in_ok-question.question) ∙ whole.files;
    }

pub returns-clause-text : goal.returns-clause-text
returns-clause-text g c = λ h stands begins.
    let first = inputs_of_lines c.args.first.now in
    let inputs = inputs_of_lines c.args.program.now in
    let to = led_through (armed h) first in
    let geo = c.geometry-geometry.result in
    let looked = c.in_ok-sight.ensures.follows h stands begins in
    let follows = subst (λ (sizes : Geometry). Follows c.in_ok-sight.field-0.sight sizes to) (sym c.geometry-geometry.ensures) looked.0 in
    let done = subst (λ told. AreDone to c.args.program.now told) (sym c.deref-2.ensures.value) looked.1 in
    let sound = sound_led (armed h) first c.requires.first (ready_armed h begins.ready) (sound_begun h begins) in
    c.in_ok-list_text.ensures to (record { follows = follows; done = done }) sound
    ∙ ap (λ parts. list_text (outcomes_of to inputs parts)) (c.deref-3.ensures.value ∙ c.in_ok-parts.ensures.parts)
    ∙ ap (λ (sizes : Geometry). list_text (outcomes_of to inputs (parts_of sizes c.args.reads.now))) (sym follows.sizes)
