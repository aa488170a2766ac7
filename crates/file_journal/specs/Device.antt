-- The files of tables as a device's lines are.
use Rattle.std.specs.Prelude.{List, map}
use Rattle.line_device.specs.Medium.{Medium}
use Rattle.word_tables.specs.declared.geometry.Geometry.{Geometry}
use Rattle.nvm_model.specs.Device.{device_pages}
use Rattle.nvm_model.specs.Storage.{File}
use Rattle.file_journal.specs.Files.{UnitFile, files_of}
use Rattle.file_journal.specs.Standing.{line_of_file, pages_there}
use Rattle.file_journal.specs.Tables.{Tables}

-- a file by its name and the lines of its units
abbrev pub device_file : Geometry → Medium → UnitFile → File
device_file geo m on = record { name = on.name; pages = device_pages (line_of_file geo on) m (pages_there on) }

-- all of them in order of name
unfoldable pub device_files : Geometry → Medium → Tables → List File
device_files geo m t = map (device_file geo m) (files_of t)
