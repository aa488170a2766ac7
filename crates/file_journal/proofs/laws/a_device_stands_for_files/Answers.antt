use Rattle.file_journal.proofs.DeviceFileLemmas.{device_files-stand}
use Rattle.file_journal.proofs.laws.a_device_stands_for_files.Goals as goal

pub returns : goal.returns
returns c = device_files-stand
