use Rattle.std.proofs.Common.{◌≡◌, ◌++◌, ap, ◌∙◌}
use Rattle.pm_volume.specs.Area.{volume_ranges}
use Rattle.machine_host.proofs.ExistsLemmas.{comes_of_vranges, printable_ranges, room_of_ranges}
use Rattle.machine_host.proofs.host.Performer.vranges.Goals as goal
use Rattle.line_device.proofs.WriteBackLemmas.{write_back-refl}

pub returns : goal.returns
returns g c =
    let now = c.args.self.now in
    let is : c.extend.new.self.items ≡ volume_ranges now.geometry =
    c.in_ok-extend.ensures.ok ∙ ap (λ xs. xs ++ c.ranges-2.result.now) c.new-ranges.ensures ∙ c.ranges-2.ensures.ranges ∙ c.range_set.ensures
    ∙ ap (λ k. volume_ranges k.volume.geo) c.self.view_is ∙ ap volume_ranges (c.requires.serves.mounted c.requires.on).volume_geometry in
    record {
      step = λ h stands. comes_of_vranges now _ h c.extend.new.self.items c.requires.on stands is;
      keeps = write_back-refl _;
      printable = printable_ranges now.geometry c.extend.new.self.items c.requires.serves.layout.valid is;
      room = room_of_ranges now.geometry c.extend.new.self.items is;
      serves = c.requires.serves;
    }
