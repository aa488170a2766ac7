-- One more block is kept.
use Rattle.std.proofs.Common.{◌≡◌, Bool, Option, ap, cond, option_map, ◌∙◌}
use Rattle.std.specs.Option.{option_and_then, option_copied}
use Rattle.script_text.specs.Action.{Action, action_of}
use Rattle.cut_places.specs.AskedReads.Asking.{blocks_of}
use Rattle.cut_places.specs.SightsSeen.declared.block_seen.BlockSeen.{BlockSeen}
use Rattle.cut_places.specs.SightsSeen.declared.way.Way.{Way}
use Rattle.cut_places.specs.SightsSeen.Units.{block_may_fit, block_once_done}
use Rattle.cut_places.specs.SightsSeen.Ways.{blocks_way}
use Rattle.witnesses.specs.Leaving.{mixing, stays}
use Rattle.witnesses.specs.Blocks.{block_kept, block_made, block_mixed, kept_block}
use Rattle.witnesses.proofs.LeavingLemmas.{left_mixed}
use Rattle.witnesses.proofs.ListLemmas.{pushed}
use Rattle.witnesses.proofs.block_keeping.keep_blocks.Goals as goal

pub loop-seen-preserved : goal.loop-seen-preserved
loop-seen-preserved c =
    let inside = option_map action_of (option_copied c.args.inside) in
    let seen = c.seen-item.result in
    let q = c.args.question.now in
    let units = c.args.units.now in
    let geo = c.args.geometry in
    let way : c.way_of_blocks-way.result ≡ option_and_then blocks_way inside = c.way_of_blocks-way.ensures in
    let mixed = c.mixing-mixed.ensures.command ∙ ap (λ (w : Option Way). mixing w inside) way in
    pushed (block_kept geo inside (blocks_of q) units) units c.loop-seen.seen-index seen c.in_ok-keep_block.field-0 c.loop-seen.kept.items c.push.new.self.items
    c.loop-seen-test.true c.seen-item.is c.loop-seen.invariant c.in_ok-push.ensures.items
    (c.in_ok-keep_block.ensures
    ∙ ap (λ (b : Bool). kept_block seen (block_made geo (option_map action_of (option_copied c.mixing-mixed.result)) seen) (cond b seen (block_made geo (option_map action_of (option_copied c.mixing-mixed.result)) seen)))
    (c.stays-stays.ensures ∙ ap (λ (w : Option Way). stays w (block_may_fit q) (λ (s : BlockSeen). s.number) units seen) way)
    ∙ ap (λ (made : Option Action). kept_block seen (block_made geo made seen)
    (cond (stays (option_and_then blocks_way inside) (block_may_fit q) (λ (s : BlockSeen). s.number) units seen) seen (block_made geo made seen))) mixed
    ∙ ap (kept_block seen (block_mixed geo inside seen))
    (left_mixed (option_and_then blocks_way inside) inside (block_may_fit q) (block_once_done geo) (λ (s : BlockSeen). s.number) units seen))
