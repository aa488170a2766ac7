-- The reads of a look, before anything is asked of them.
use Rattle.script_text.specs.Action.{Action}
use Rattle.script_text.specs.Action.Action.{BRead, FRead, VLoad}
use Rattle.asked_reads.specs.declared.read.Read.{Read}
use Rattle.asked_reads.specs.declared.read.Read.TheVariants.{Volume, Blocks, File}

-- the command that a read is
abbrev pub read_action : Read → Action
read_action (Volume start len) = VLoad start len
read_action (Blocks first count) = BRead first count
read_action (File name start len) = FRead name start len
