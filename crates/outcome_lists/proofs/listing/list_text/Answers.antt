use Rattle.std.proofs.Common.{◌++◌, None, ap, subst, sym, ◌∙◌}
use Rattle.word_tables.specs.declared.geometry.Geometry.{Geometry}
use Rattle.outcome_walk.specs.Holding.{parts_held}
use Rattle.explorer.specs.AskedReads.Program.{inputs_of_lines}
use Rattle.outcome_lists.specs.Choices.{states}
use Rattle.outcome_lists.specs.Levels.{levels, places}
use Rattle.outcome_lists.specs.Parts.{AreParts}
use Rattle.outcome_lists.specs.Walks.{walk_text}
use Rattle.outcome_lists.proofs.InsideLemmas.{groups_inside}
use Rattle.outcome_lists.proofs.ListingLemmas.{walk_told}
use Rattle.outcome_lists.proofs.RestLemmas.{each_at_rest}
use Rattle.outcome_lists.proofs.listing.list_text.Goals as goal

pub returns : goal.returns
returns c = λ h from sound.
    let inputs = inputs_of_lines c.args.course.now.program.now in
    let parts = c.args.parts.now in
    let hs = states h inputs in
    let held = parts_held c.deref-3.result.now in
    let told = ap parts_held c.deref-3.ensures.value ∙ c.in_ok-levels.ensures h from ∙ ap (λ ps. levels ps hs None parts) (c.deref.ensures.value ∙ c.in_ok-places.ensures h from) in
    c.in_ok-print_outcomes.ensures ∙ ap (λ t. t ++ walk_text c.deref-2.result.now held) c.new-text.ensures
    ∙ ap (λ ps. walk_text ps held) (c.deref-2.ensures.value ∙ c.in_ok-places.ensures h from) ∙ ap (walk_text (places h inputs)) told
    ∙ walk_told each_at_rest groups_inside h inputs parts from.follows.ready sound c.requires.course.program
    (subst (λ (geo : Geometry). AreParts geo parts) (sym from.follows.sizes) c.requires.parts) c.requires.order
