use Rattle.word_tables.specs.Layout.{volume_line}
use Rattle.nvm_model.proofs.DeviceLemmas.{presence_of-device, device_pages-stand}
use Rattle.pm_volume.proofs.laws.a_volume_holds_pages.Goals as goal

pub returns : goal.returns
returns c = λ s m. record { there = presence_of-device (volume_line s.geo) m s.present; stand = device_pages-stand (volume_line s.geo) m s.present }
