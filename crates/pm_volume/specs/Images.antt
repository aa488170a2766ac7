-- What the images that a cut may leave stand for.
use Rattle.std.specs.Prelude.{◌≡◌, ℕ, List, length}
use Rattle.line_device.specs.Medium.{Medium}
use Rattle.word_tables.specs.declared.geometry.Geometry.{Geometry}
use Rattle.word_tables.specs.Layout.{volume_line}
use Rattle.word_log.specs.Replay.{Replays}
use Rattle.word_log.specs.Rest.{EachImage}
use Rattle.nvm_model.specs.Page.{Page, presence_of, PagesStand}
use Rattle.pm_volume.specs.Area.{volume_area}
use Rattle.pm_volume.specs.Presence.{presence_words}

-- such an image names pages like that, and the lines of the device stand for them
pub record ReadsPages (geo : Geometry) (m : Medium) (P : List Page → Type 0) (image : ℕ → ℕ) : Type 0 where
  pub pages : List Page
  pub is : P pages
  pub all : length pages ≡ geo.vpages
  pub replays : Replays (volume_area geo) image (presence_words geo (presence_of pages))
  pub stand : PagesStand (volume_line geo) m pages

-- each image of log and presence words does
abbrev pub EachReadsPages : Geometry → Medium → (List Page → Type 0) → Type 0
EachReadsPages geo m P = EachImage (volume_area geo) m (ReadsPages geo m P)
