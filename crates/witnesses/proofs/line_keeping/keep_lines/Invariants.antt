use Rattle.std.proofs.Common.{◌≡◌, map, option_map, take}
use Rattle.std.specs.Option.{option_copied}
use Rattle.script_text.specs.Action.{action_of}
use Rattle.cut_places.specs.AskedReads.Asking.{volume_asked}
use Rattle.witnesses.specs.Lines.{line_kept}
use Rattle.witnesses.proofs.line_keeping.keep_lines.Given as goal

abbrev pub invariant-loop-seen : goal.invariant-loop-seen
invariant-loop-seen l = l.kept.items ≡ map (line_kept l.geometry (option_map action_of (option_copied l.inside)) (volume_asked l.question) l.lines) (take l.seen-index l.lines)
