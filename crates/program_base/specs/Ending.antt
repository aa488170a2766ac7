-- How a call ends before its end, and what it says then.
use Rattle.std.specs.Prelude.{ℕ, List, [], ◌∷◌, ◌++◌, codes, decimal, Result, Ok, Err}
use Rattle.command_line.specs.declared.fault.WordsFault.{WordsFault}
use Rattle.command_line.specs.declared.fault.WordsFault.TheVariants as words
use Rattle.host_io.specs.declared.images.FetchFault.{FetchFault}
use Rattle.host_io.specs.declared.images.FetchFault.TheVariants as fetch
use Rattle.host_io.specs.declared.sink.WriteFault.{WriteFault}
use Rattle.host_io.specs.declared.sink.WriteFault.TheVariants as write
use Rattle.image_file.specs.declared.fault.ImageFault.{ImageFault}
use Rattle.image_file.specs.declared.fault.ImageFault.TheVariants as image
use Rattle.image_file.specs.declared.fault.ExtractFault.{ExtractFault}
use Rattle.image_file.specs.declared.fault.ExtractFault.TheVariants as extract
use Rattle.line_device.specs.declared.fault.ResetFault.{ResetFault}
use Rattle.line_device.specs.declared.fault.ResetFault.TheVariants as reset
use Rattle.recovery.specs.declared.fault.MountFault.{MountFault}
use Rattle.recovery.specs.declared.fault.MountFault.TheVariants as mount
use Rattle.script_text.specs.declared.next_line.InputFault.{InputFault}
use Rattle.script_text.specs.declared.next_line.InputFault.TheVariants as input
use Rattle.program_base.specs.declared.ending.Ending.{Ending}
use Rattle.program_base.specs.declared.ending.Ending.TheVariants.{Usage, Image, Layout, Meta, Read, Write, Memory, Script, Device}

-- the exit status
abbrev pub status : Ending → ℕ
status Usage = 2
status (Image offset) = 3
status (Layout place) = 3
status (Meta line) = 3
status Read = 4
status Write = 5
status Memory = 6
status Script = 7
status Device = 8

-- a text and its newline, and one that ends in a number
abbrev pub line : List ℕ → List ℕ
line text = text ++ 10 ∷ []

abbrev pub numbered_line : List ℕ → ℕ → List ℕ
numbered_line text n = text ++ line (decimal n)

-- the line that is written, if any
abbrev pub ending_text : Ending → List ℕ
ending_text Usage = line (codes "usage: new IMAGE BLOCKS VPAGES FPAGES, run IN OUT, check IN, bench SEED N, newbyte IMAGE BLOCKS VPAGES FPAGES")
ending_text (Image offset) = numbered_line (codes "error image ") offset
ending_text (Layout place) = numbered_line (codes "error layout ") place
ending_text (Meta at) = numbered_line (codes "error meta ") at
ending_text Read = line (codes "error read")
ending_text Write = []
ending_text Memory = []
ending_text Script = line (codes "error script")
ending_text Device = line (codes "error device")

-- the status of a call
abbrev pub status_of : Result (Unit {0}) Ending → ℕ
status_of (Ok x) = 0
status_of (Err ending) = status ending

-- an image has no more bytes than this
abbrev pub most_bytes : ℕ
most_bytes = 7671064

-- how a fault ends the call
abbrev pub of_words : WordsFault → Ending
of_words words.Usage = Usage
of_words words.Memory = Memory

abbrev pub of_fetch : FetchFault → Ending
of_fetch fetch.Missing = Read
of_fetch fetch.Failed = Read
of_fetch fetch.TooLong = Image most_bytes
of_fetch fetch.Memory = Memory

abbrev pub of_image : ImageFault → Ending
of_image (image.Bad offset) = Image offset
of_image image.Memory = Memory

abbrev pub of_input : InputFault → Ending
of_input input.Failed = Read
of_input input.TooLarge = Script

abbrev pub of_write : WriteFault → Ending
of_write write.Failed = Write
of_write write.Memory = Memory

abbrev pub of_reset : ResetFault → Ending
of_reset reset.Failed = Device
of_reset reset.Memory = Memory

abbrev pub of_extract : ExtractFault → Ending
of_extract extract.Failed = Device
of_extract extract.PowerLost = Device
of_extract extract.Memory = Memory

abbrev pub of_mount : MountFault → Ending
of_mount (mount.Meta line) = Meta line.0
of_mount (mount.Layout place) = Layout place
of_mount mount.Device = Device
of_mount mount.PowerLost = Device
of_mount mount.Memory = Memory
