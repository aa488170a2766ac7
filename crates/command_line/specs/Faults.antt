-- What a refusal is told as.
use Rattle.clap.specs.declared.error.kind.ErrorKind.{ErrorKind}
use Rattle.clap.specs.declared.error.kind.ErrorKind.TheVariants.{OutOfMemory}
use Rattle.command_line.specs.declared.fault.WordsFault.{WordsFault}
use Rattle.command_line.specs.declared.fault.WordsFault.TheVariants.{Usage, Memory}

-- want of memory, or no form of the command line
abbrev pub words_fault : ErrorKind → WordsFault
words_fault OutOfMemory = Memory
words_fault _ = Usage
