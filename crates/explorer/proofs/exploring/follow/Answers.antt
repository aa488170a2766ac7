-- The place that is found, and what is kept there.
use Rattle.std.proofs.Common.{Bool, List, Option, option_map, subst, sym}
use Rattle.std.specs.Option.{option_copied}
use Rattle.std.specs.Prelude.{IfSome}
use Rattle.script_text.specs.Action.{action_of}
use Rattle.cut_places.specs.AskedReads.Program.{inputs_of_lines}
use Rattle.cut_places.specs.declared.place.CutPlace.{CutPlace}
use Rattle.cut_places.specs.Following.{AreDone, IsFirst, ShowsAt}
use Rattle.cut_places.specs.Places.{cut_places}
use Rattle.explorer.proofs.FoundLemmas.{none_first, nothing_found, on_shown}
use Rattle.explorer.proofs.KeptLemmas.{enough_for, found_kept}
use Rattle.explorer.proofs.exploring.follow.Goals as goal

pub command_at-inside-requires-clause-on : goal.command_at-inside-requires-clause-on
command_at-inside-requires-clause-on c =
    let program = c.args.program.now in
    let at = ShowsAt program c.args.question.now c.find.new.sight c.args.geometry in
    on_shown program c.args.question.now c.find.new.sight c.args.geometry c.in-Some.place (subst (λ (o : Option CutPlace). IfSome o at) c.in-Some.is c.in_ok-place.ensures.shown)

pub returns-in_default : goal.returns-in_default
returns-in_default c = λ h look all follows done sound is are under.
    let program = c.args.program.now in
    let geo = c.args.geometry in
    let stops = cut_places 1 h (inputs_of_lines program) in
    let enough = enough_for h c.args.question.now c.args.looked.now c.args.watched.sight geo look all follows sound is are c.requires.whole c.requires.within under in
    let first = c.in_ok-place.ensures.first h look follows enough (subst (λ (ds : List Bool). AreDone h program ds) (sym c.deref.ensures.value) done) is in
    nothing_found all look stops (none_first program look c.find.new.sight geo stops c.in_ok-place.field-0 c.in_default.not-Some first)

pub returns : goal.returns
returns c = λ h look all follows done sound is are under.
    let program = c.args.program.now in
    let now = c.find.new.sight in
    let geo = c.args.geometry in
    let first = subst (λ (o : Option CutPlace). IsFirst program look now geo (cut_places 1 h (inputs_of_lines program)) o) c.in-Some.is
    (c.in_ok-place.ensures.first h look follows (enough_for h c.args.question.now c.args.looked.now c.args.watched.sight geo look all follows sound is are c.requires.whole c.requires.within under) (subst (λ (ds : List Bool). AreDone h program ds) (sym c.deref.ensures.value) done) is) in
    found_kept program c.args.question.now c.args.looked.now now geo look all c.in-Some.place c.in_ok-kept.kept (option_map action_of (option_copied c.command_at-inside.result)) h c.requires.program follows.ready sound first is are
    (c.in_ok-place.ensures.whole c.args.looked.now c.requires.whole) c.in_ok-place.ensures.within under c.command_at-inside.ensures.action
    c.in_ok-kept.ensures.lines c.in_ok-kept.ensures.blocks c.in_ok-kept.ensures.sizes c.in_ok-kept.ensures.files
    (λ m at reached looks shows. c.in_ok-kept.ensures.kept m look at is reached looks shows)
