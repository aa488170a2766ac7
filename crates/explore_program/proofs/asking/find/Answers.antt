use Rattle.std.proofs.Common.{◌≡◌, true, subst, sym}
use Rattle.std.proofs.lemmas.Result.{err_from_is_err_and}
use Rattle.word_tables.specs.declared.geometry.Geometry.{Geometry}
use Rattle.outcome_lists.specs.AskedReads.Asking.{may_be_replies}
use Rattle.outcome_lists.specs.AskedReads.Program.{inputs_of_lines}
use Rattle.outcome_lists.specs.CutPlaces.Places.{found_stop}
use Rattle.outcome_lists.specs.Explorer.Finding.{IsFound}
use Rattle.outcome_lists.specs.Explorer.Leading.{led_through}
use Rattle.outcome_lists.specs.OutcomeTest.Finds.{armed}
use Rattle.image_file.specs.Text.{snapshot_of}
use Rattle.program_base.specs.Opening.{opened}
use Rattle.explore_program.specs.Stops.{of_explore}
use Rattle.explore_program.proofs.CauseLemmas.{explore_unanswered, fell_on, unanswered_later}
use Rattle.explore_program.proofs.asking.find.Goals as goal

pub returns-in_err-explore-clause-cause : goal.returns-in_err-explore-clause-cause
returns-in_err-explore-clause-cause g c counted counts =
    let p = err_from_is_err_and c.from_residual-in_err-explore.result c.from_residual-in_err-explore.ensures.1 in
    let old = (g.D.Lines.state c.args.device.now).panel in
    let begun = (g.D.Lines.state c.begin.new.device).panel in
    let new = (g.D.Lines.state c.explore.new.device).panel in
    rw (p.1, p.2) (unanswered_later (of_explore c.in_err-explore.field-0.0) counted counts old begun new c.in_ok-host.ensures.counts
    (explore_unanswered c.in_err-explore.field-0.0 counted counts begun new (c.in_err-explore.ensures.cause (opened (snapshot_of c.args.image.now)) c.in_ok-host.ensures.stands c.in_ok-host.ensures.begins)))

pub explore-requires-clause-replies : goal.explore-requires-clause-replies
explore-requires-clause-replies g c = subst (λ (geo : Geometry). may_be_replies geo c.args.looked.now ≡ true) (sym c.in_ok-host.ensures.stands.geometry) c.requires.replies

pub returns-clause-counts : goal.returns-clause-counts
returns-clause-counts g c =
    fell_on (g.D.Lines.state c.args.device.now).panel (g.D.Lines.state c.begin.new.device).panel (g.D.Lines.state c.explore.new.device).panel c.in_ok-host.ensures.counts c.in_ok-explore.ensures.counts

pub returns-clause-found : goal.returns-clause-found
returns-clause-found g c look all is are under =
    let image = (snapshot_of c.args.image.now) in
    subst (λ p. IsFound all look (found_stop (led_through (armed (opened image)) (inputs_of_lines c.args.exploration.now.first.items)) (inputs_of_lines p) look) c.in_ok-explore.field-0) c.deref-2.ensures.value
    (subst (λ f. IsFound all look (found_stop (led_through (armed (opened image)) (inputs_of_lines f)) (inputs_of_lines c.deref-2.result.now) look) c.in_ok-explore.field-0) c.deref.ensures.value
    (c.in_ok-explore.ensures.found (opened image) look all c.in_ok-host.ensures.stands c.in_ok-host.ensures.begins is are under))
