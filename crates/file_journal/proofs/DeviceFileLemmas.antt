-- The files that a device's lines are.
use Rattle.std.proofs.Common.{refl}
use Rattle.line_device.specs.Medium.{Medium}
use Rattle.word_tables.specs.declared.geometry.Geometry.{Geometry}
use Rattle.nvm_model.specs.Listing.{file_name}
use Rattle.nvm_model.proofs.AlikeLemmas.{alike-map}
use Rattle.nvm_model.proofs.DeviceLemmas.{device_pages-stand, presence_of-device}
use Rattle.file_journal.specs.Device.{device_file, device_files}
use Rattle.file_journal.specs.Files.{files_of, unit_file_name}
use Rattle.file_journal.specs.Standing.{FileStands, FilesStand, line_of_file, pages_there}
use Rattle.file_journal.specs.Tables.{Tables}

-- A device stands for some files, whatever the tables are.
pub device_files-stand : (geo : Geometry) (m : Medium) (t : Tables) → FilesStand geo m t (device_files geo m t)
unfolding device_files
device_files-stand geo m t =
    alike-map unit_file_name file_name (FileStands geo m) (device_file geo m) (files_of t) (λ on. refl)
    (λ on. record {
      there = presence_of-device (line_of_file geo on) m (pages_there on);
      stand = device_pages-stand (line_of_file geo on) m (pages_there on);
    })
