-- A line of the volume that is changed, and what volume and device hold then.
use Rattle.std.proofs.Common.{◌≡◌, ℕ, true, Some, List, sym, subst, ◌∙◌}
use Rattle.line_device.specs.Medium.{Medium, WritesBack}
use Rattle.word_tables.specs.Layout.{volume_line, IsVolumeLine}
use Rattle.nvm_model.specs.Cell.{Cell}
use Rattle.nvm_model.specs.Page.{Page, change_line}
use Rattle.nvm_model.proofs.MediaLemmas.{presence_of-change}
use Rattle.nvm_model.proofs.StandLemmas.{pages_stand-write_back}
use Rattle.pm_volume.specs.Images.{EachReadsPages}
use Rattle.pm_volume.specs.Object.{VolumeHolds, VolumeServes, VolumeState, volume_place}
use Rattle.pm_volume.proofs.PlaceLemmas.{lines_apart, placed_line}
use Rattle.pm_volume.proofs.ServesLemmas.{reads_rest}
use Rattle.pm_volume.proofs.TurnLemmas.{length-pages}
use Rattle.scrub.specs.Others.{WritesBackBut}
use Rattle.scrub.proofs.LineLemmas.{ChangesLine, at_here, stand-changed}
use Rattle.scrub.proofs.OthersLemmas.{but-wider, volume_serves-but}
use Rattle.scrub.proofs.PlacedLemmas.{volume_located}

module _ (s : VolumeState) (old new : Medium) (n line : ℕ) (serves : VolumeServes s old) (at : volume_place s.geo s.present true n ≡ Some line) where
  pub on : volume_line s.geo n ≡ line
  on = at_here (volume_place s.geo s.present true) (volume_line s.geo) s.present (volume_located s.geo s.present) n line at

  -- its pages change alike
  pub holds-changed : (f : Cell → Cell) → ChangesLine f line old new → (pages : List Page) → VolumeHolds s old pages → VolumeHolds s new (change_line f n pages)
  holds-changed f x pages holds = record {
    there = presence_of-change f n pages ∙ holds.there;
    stand = stand-changed (volume_place s.geo s.present true) (volume_line s.geo) s.present (volume_located s.geo s.present) n line at old pages holds.there holds.stand new f
        (λ k also. (lines_apart s.geo serves.valid s.present true old.count serves.all serves.count).once k n line also at) x;
  }

  -- the volume can be used on, and the other lines stay
  pub volume-serves : WritesBackBut (λ l. l ≡ line) old new → VolumeServes s new
  volume-serves x =
      volume_serves-but s old new (λ l. l ≡ line) (λ l same. subst (IsVolumeLine s.geo) (sym same) (placed_line s.geo serves.valid s.present true n line serves.all at)) x serves

  pub volume-outside : WritesBackBut (λ l. l ≡ line) old new → WritesBackBut (λ l. l ≡ volume_line s.geo n) old new
  volume-outside x = but-wider (λ l. l ≡ line) (λ l. l ≡ volume_line s.geo n) old new (λ l same. same ∙ sym on) x

pub holds-written : (s : VolumeState) (old new : Medium) → WritesBack old new → (pages : List Page) → VolumeHolds s old pages → VolumeHolds s new pages
holds-written s old new x pages holds = record { there = holds.there; stand = pages_stand-write_back (volume_line s.geo) old new pages holds.stand x }

-- each image is one of pages that volume and device hold
pub reads-held : (s : VolumeState) (m : Medium) (P : List Page → Type 0) (left : List Page) → VolumeServes s m → VolumeHolds s m left → P left → EachReadsPages s.geo m P
reads-held s m P left serves holds is =
    reads_rest s.geo m s.present left P serves.valid serves.count serves.all (length-pages s m left holds ∙ serves.all) serves.rest holds.there holds.stand is
