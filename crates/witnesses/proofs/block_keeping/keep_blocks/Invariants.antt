use Rattle.std.proofs.Common.{◌≡◌, map, option_map, take}
use Rattle.std.specs.Option.{option_copied}
use Rattle.script_text.specs.Action.{action_of}
use Rattle.cut_places.specs.AskedReads.Asking.{blocks_of}
use Rattle.witnesses.specs.Blocks.{block_kept}
use Rattle.witnesses.proofs.block_keeping.keep_blocks.Given as goal

abbrev pub invariant-loop-seen : goal.invariant-loop-seen
invariant-loop-seen l = l.kept.items ≡ map (block_kept l.geometry (option_map action_of (option_copied l.inside)) (blocks_of l.question) l.units) (take l.seen-index l.units)
