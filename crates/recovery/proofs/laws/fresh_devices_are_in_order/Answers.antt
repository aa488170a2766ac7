use Rattle.std.proofs.Common.{◌≡◌, false, ◌∙◌}
use Rattle.block_device.specs.Reading.{blocks_read}
use Rattle.block_device.proofs.ImageLemmas.{each_reads-then}
use Rattle.block_device.proofs.ZerosLemmas.{zeros_absent}
use Rattle.nvm_model.specs.Numbered.{list_from}
use Rattle.nvm_model.specs.Storage.Block.{Absent}
use Rattle.recovery.proofs.FreshLemmas.{fresh_told, fresh_mountable, fresh_early, fresh_first, fresh_reads}
use Rattle.recovery.proofs.FreshFileLemmas.{fresh_files}
use Rattle.recovery.proofs.FreshPageLemmas.{fresh_pages}
use Rattle.recovery.proofs.laws.fresh_devices_are_in_order.Goals as goal

pub returns-clause-told : goal.returns-clause-told
returns-clause-told c geo m sound fresh = fresh_told geo m fresh sound

pub returns-clause-mountable : goal.returns-clause-mountable
returns-clause-mountable c geo m sound fresh = fresh_mountable geo m fresh sound

pub returns-clause-early : goal.returns-clause-early
returns-clause-early c geo m sound fresh = fresh_early geo m fresh sound

pub returns-clause-right : goal.returns-clause-right
returns-clause-right c geo m sound fresh = fresh_first geo m fresh sound

pub returns-clause-blocks : goal.returns-clause-blocks
returns-clause-blocks c geo m fresh =
    each_reads-then geo m (λ bs. bs ≡ blocks_read geo (λ _. false) (λ _. 0)) (λ bs. bs ≡ list_from (λ _. Absent) 0 geo.blocks)
    (λ bs same. same ∙ zeros_absent geo fresh.valid) (fresh_reads geo m fresh)

pub returns-clause-pages : goal.returns-clause-pages
returns-clause-pages c geo m fresh = fresh_pages geo m fresh

pub returns-clause-files : goal.returns-clause-files
returns-clause-files c geo m fresh = fresh_files geo m fresh
