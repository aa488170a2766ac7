use Rattle.std.proofs.Common.{◌+◌, ap, subst, sym, ◌∙◌}
use Rattle.nvm_model.specs.Blocks.{bad_block_lines}
use Rattle.nvm_model.specs.Files.{bad_file_lines}
use Rattle.nvm_model.specs.Page.{bad_lines}
use Rattle.block_device.specs.Object.{blocks_of}
use Rattle.file_journal.specs.Standing.{FilesStand}
use Rattle.pm_volume.specs.Object.{VolumeHolds}
use Rattle.machine_host.proofs.host.Performer.bad_lines.Goals as goal

pub returns : goal.returns
returns g c = λ h stands.
    let m = (g.D.Lines.state c.args.device.now).medium in
    c.bad_count.ensures.count h.volume (subst (λ k. VolumeHolds k.volume m h.volume) (sym c.self.view_is) (stands.volume c.requires.on))
    h.files (subst (λ j. FilesStand j.geo m j.tables h.files) (sym (ap (λ k. k.files.pages.journal) c.self.view_is)) (stands.files c.requires.on))
    ∙ ap (λ bs. bad_block_lines bs + bad_lines h.volume + bad_file_lines h.files) (ap (λ k. blocks_of k.blocks m) c.self.view_is ∙ stands.blocks c.requires.on)
