use Rattle.std.proofs.Common.{sym, ap, subst, ◌∙◌}
use Rattle.cut_places.specs.Outcomes.Finds.{armed}
use Rattle.cut_places.specs.AskedReads.Asking.{may_be_replies}
use Rattle.cut_places.specs.AskedReads.Program.{inputs_of_lines}
use Rattle.cut_places.specs.Following.{Follows}
use Rattle.cut_places.specs.Places.{cut_places}
use Rattle.cut_places.proofs.WithinLemmas.{found_nowhere}
use Rattle.explorer.specs.Leading.{led_through}
use Rattle.explorer.proofs.FoundLemmas.{found_armed, nothing_found}
use Rattle.explorer.proofs.LedLemmas.{armed_led, geometry_led, sound_led}
use Rattle.explorer.proofs.PerformLemmas.{ready_armed}
use Rattle.explorer.proofs.SoundLemmas.{begins_sound}
use Rattle.explorer.proofs.exploring.explore.Goals as goal

pub returns-then-not-may_be_replies-clause-found : goal.returns-then-not-may_be_replies-clause-found
returns-then-not-may_be_replies-clause-found g c = λ h look all stands begins is are under.
    let none = sym (ap (λ geo. may_be_replies geo c.args.question.now) (c.geometry-geometry.ensures ∙ stands.geometry)) ∙ sym (c.if-not-may_be_replies.ensures) in
    let to = led_through (armed h) (inputs_of_lines c.args.first.now) in
    nothing_found all look (cut_places 1 (armed to) (inputs_of_lines c.args.program.now))
    (sym (found_nowhere look c.args.question.now is h none 1 (armed to) (inputs_of_lines c.args.program.now) (geometry_led (armed h) (inputs_of_lines c.args.first.now) c.requires.first)))

pub returns-clause-found : goal.returns-clause-found
returns-clause-found g c = λ h look all stands begins is are under.
    let first = inputs_of_lines c.args.first.now in
    let to = led_through (armed h) first in
    let follows = c.in_ok-watched.ensures.follows h stands begins in
    let sound = sound_led (armed h) first c.requires.first (ready_armed h begins.ready) (begins_sound h begins) in
    found_armed all look (inputs_of_lines c.args.program.now) to c.in_ok-found.found (armed_led h first c.requires.first)
    (c.in_ok-found.ensures to look all (subst (λ geo. Follows c.in_ok-watched.watched.sight geo to) (sym c.geometry-geometry.ensures) follows.0) follows.1 sound is are under)
