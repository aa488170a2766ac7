-- One more line is kept.
use Rattle.std.proofs.Common.{◌≡◌, ◌/◌, Bool, Option, ap, cond, option_map, ◌∙◌}
use Rattle.std.specs.Option.{option_and_then, option_copied}
use Rattle.script_text.specs.Action.{Action, action_of}
use Rattle.cut_places.specs.AskedReads.Asking.{volume_asked}
use Rattle.cut_places.specs.SightsSeen.declared.line_seen.LineSeen.{LineSeen}
use Rattle.cut_places.specs.SightsSeen.declared.way.Way.{Way}
use Rattle.cut_places.specs.SightsSeen.Units.{line_may_fit, line_once_done}
use Rattle.cut_places.specs.SightsSeen.Ways.{lines_way}
use Rattle.witnesses.specs.Leaving.{mixing, stays}
use Rattle.witnesses.specs.Lines.{kept_line, line_kept, line_made, line_mixed}
use Rattle.witnesses.proofs.LeavingLemmas.{left_mixed}
use Rattle.witnesses.proofs.ListLemmas.{pushed}
use Rattle.witnesses.proofs.line_keeping.keep_lines.Goals as goal

pub loop-seen-preserved : goal.loop-seen-preserved
loop-seen-preserved c =
    let inside = option_map action_of (option_copied c.args.inside) in
    let seen = c.seen-item.result in
    let q = c.args.question.now in
    let lines = c.args.lines.now in
    let geo = c.args.geometry in
    let way : c.way_of_lines-way.result ≡ option_and_then lines_way inside = c.way_of_lines-way.ensures in
    let mixed = c.mixing-mixed.ensures.command ∙ ap (λ (w : Option Way). mixing w inside) way in
    pushed (line_kept geo inside (volume_asked q) lines) lines c.loop-seen.seen-index seen c.in_ok-keep_line.field-0 c.loop-seen.kept.items c.push.new.self.items
    c.loop-seen-test.true c.seen-item.is c.loop-seen.invariant c.in_ok-push.ensures.items
    (c.in_ok-keep_line.ensures
    ∙ ap (λ (b : Bool). kept_line (volume_asked q) seen (line_made geo (option_map action_of (option_copied c.mixing-mixed.result)) seen) (cond b seen (line_made geo (option_map action_of (option_copied c.mixing-mixed.result)) seen)))
    (c.stays-stays.ensures ∙ ap (λ (w : Option Way). stays w (line_may_fit q) (λ (s : LineSeen). s.number / 64) lines seen) way)
    ∙ ap (λ (made : Option Action). kept_line (volume_asked q) seen (line_made geo made seen)
    (cond (stays (option_and_then lines_way inside) (line_may_fit q) (λ (s : LineSeen). s.number / 64) lines seen) seen (line_made geo made seen))) mixed
    ∙ ap (kept_line (volume_asked q) seen (line_mixed geo inside seen))
    (left_mixed (option_and_then lines_way inside) inside (line_may_fit q) (line_once_done geo) (λ (s : LineSeen). s.number / 64) lines seen))
