use Rattle.script_text.specs.Action.{action_of}
use Rattle.outcome_lists.proofs.PlaceLemmas.{ways_are}
use Rattle.outcome_lists.proofs.ways.Ways.inside.Goals as goal

pub returns : goal.returns
returns c = λ h sees.
    ways_are h c.args.files.now (action_of c.args.command.now) c.of_lines.result c.of_blocks.result c.way_inside.result
    c.of_lines.ensures c.of_blocks.ensures c.way_inside.ensures sees
