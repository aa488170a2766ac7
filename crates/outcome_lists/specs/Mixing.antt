-- How the parts of a look go together where a cut falls inside a command.
use Rattle.std.specs.Prelude.{◌/◌, ◌==◌, ◌&&◌, ℕ, Bool, true, false, List, [], Option, Some, None, if◌then◌else◌}
use Rattle.std.specs.Str.{bytes_eq}
use Rattle.nvm_model.specs.Storage.{Mapping}
use Rattle.script_text.specs.Action.{Action}
use Rattle.explorer.specs.MachineModel.Commands.{meaning}
use Rattle.explorer.specs.AskedReads.declared.read.Read.{Read}
use Rattle.explorer.specs.AskedReads.declared.read.Read.TheVariants.{Volume, Blocks, File}
use Rattle.explorer.specs.SightsSeen.Ways.{blocks_way, lines_way}
use Rattle.explorer.specs.SightsSeen.declared.way.Way.{Way}
use Rattle.explorer.specs.SightsSeen.declared.way.Way.TheVariants.{Each, Together, ByPage}
use Rattle.explorer.specs.CutPlaces.FileMixing.{way_left}
use Rattle.outcome_walk.specs.declared.level.Link.{Link}
use Rattle.outcome_walk.specs.declared.level.Link.TheVariants.{Alone, Opens, Joins}
use Rattle.outcome_lists.specs.declared.ways.Ways.{Ways}

-- nothing of any kind is mixed
abbrev pub still : Ways
still = record { lines = None; blocks = None; files = None }

-- what a command mixes
abbrev pub ways_inside : List Mapping → Action → Ways
ways_inside mappings action = record { lines = lines_way action; blocks = blocks_way action; files = way_left ((meaning action).files_left mappings) }

-- of what kind of storage a part is, that way
abbrev pub way_of : Ways → Read → Option Way
way_of ways (Volume start len) = ways.lines
way_of ways (Blocks first count) = ways.blocks
way_of ways (File name start len) = ways.files

-- two parts are of one kind of storage
abbrev pub same_kind : Read → Read → Bool
same_kind (Volume start len) (Volume other others) = true
same_kind (Volume start len) (Blocks first count) = false
same_kind (Volume start len) (File name other others) = false
same_kind (Blocks first count) (Volume start len) = false
same_kind (Blocks first count) (Blocks other others) = true
same_kind (Blocks first count) (File name start len) = false
same_kind (File name start len) (Volume other others) = false
same_kind (File name start len) (Blocks first count) = false
same_kind (File name start len) (File text other others) = true

-- the file that a part is of, if it is of one
abbrev pub file_of_part : Read → List ℕ
file_of_part (Volume start len) = []
file_of_part (Blocks first count) = []
file_of_part (File name start len) = name

-- its line or its block, and its page; a block has none of its own
abbrev pub unit_of : Read → ℕ
unit_of (Volume start len) = start / 64
unit_of (Blocks first count) = first
unit_of (File name start len) = start / 64

abbrev pub page_of : Read → ℕ
page_of (Volume start len) = start / 64 / 64
page_of (Blocks first count) = first
page_of (File name start len) = start / 64 / 64

-- two parts are of one volume, of one device's blocks, or of one file
abbrev pub same_storage : Read → Read → Bool
same_storage p q = same_kind p q && bytes_eq (file_of_part p) (file_of_part q)

-- they are old or new together: those of one line or block, of one page, or of one kind of storage
abbrev pub go_together : Way → Read → Read → Bool
go_together Each p q = same_storage p q && (unit_of p == unit_of q)
go_together ByPage p q = same_storage p q && (page_of p == page_of q)
go_together Together p q = same_kind p q

-- how a part stands to the one before it
abbrev pub link_to : Way → Option Read → Read → Link
link_to way None p = Opens
link_to way (Some before) p = if go_together way before p then Joins else Opens

abbrev pub link_by : Option Way → Option Read → Read → Link
link_by None before p = Alone
link_by (Some way) before p = link_to way before p

abbrev pub link : Ways → Option Read → Read → Link
link ways before p = link_by (way_of ways p) before p
