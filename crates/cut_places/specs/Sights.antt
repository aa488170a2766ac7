-- What a question looks at, and whether it may be as asked.
use Rattle.std.specs.Prelude.{◌/◌, ◌&&◌, Bool}
use Rattle.std.specs.List.{list_all}
use Rattle.word_tables.specs.declared.geometry.Geometry.{Geometry}
use Rattle.script_text.specs.Action.{Action}
use Rattle.sights.specs.AskedReads.declared.question.Question.{Question}
use Rattle.sights.specs.AskedReads.Asking.{files_asked}
use Rattle.cut_places.specs.FileCommands.{files_change}
use Rattle.cut_places.specs.FileFitting.{fit_inside, fit_now}
use Rattle.cut_places.specs.FilesState.{FilesState, after}
use Rattle.cut_places.specs.declared.sight.Sight.{Sight}
use Rattle.sights.specs.declared.line_seen.LineSeen.{LineSeen}
use Rattle.sights.specs.declared.block_seen.BlockSeen.{BlockSeen}
use Rattle.sights.specs.Units.{block_may_fit, block_once_done, line_may_fit, line_once_done}
use Rattle.sights.specs.Ways.{blocks_way, lines_way, passes_inside}

-- files once a command is done
abbrev pub files_once_done : Action → FilesState → FilesState
files_once_done action files = after (files_change files.mappings.mappings action) files

-- all that it looks at may be so
abbrev pub shows : Question → Sight → Bool
shows q sight = list_all (line_may_fit q) sight.lines.items && (list_all (block_may_fit q) sight.blocks.items && fit_now (files_asked q) sight.files)

-- so it may where the command is cut
abbrev pub shows_inside : Geometry → Action → Question → Sight → Bool
shows_inside geo action q sight =
    passes_inside (lines_way action) (line_may_fit q) (λ seen. line_may_fit q (line_once_done geo action seen)) (λ (seen : LineSeen). seen.number / 64) sight.lines.items
    && (passes_inside (blocks_way action) (block_may_fit q) (λ seen. block_may_fit q (block_once_done geo action seen)) (λ (seen : BlockSeen). seen.number) sight.blocks.items
    && fit_inside (files_change sight.files.mappings.mappings action) (files_asked q) sight.files)
