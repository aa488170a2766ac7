-- Lines that are read out, and an image that is stored.
use Rattle.std.proofs.Common.{◌≡◌, ℕ, ◌+◌, ◌*◌, List, sym, ap, ◌∙◌}
use Rattle.image_file.specs.declared.Image.{Image}
use Rattle.image_file.specs.Devices.{IsLastImage}
use Rattle.image_file.specs.Text.{FitImage, image_text, snapshot_of}
use Rattle.image_file.proofs.ShownLemmas.{snapshot_last}
use Rattle.line_device.specs.Panel.{IsUnit}
use Rattle.line_device.specs.Medium.{Medium, Shows, WritesBack}
use Rattle.line_device.specs.declared.line.LineState.{LineState}
use Rattle.line_device.specs.declared.line.LineState.TheVariants.{Healthy, Weak, Bad}
use Rattle.line_device.proofs.WriteBackLemmas.{newest-write_back}
use Rattle.host_program.specs.Storing.{AreLast}

-- the text of the lines that were read out
pub are_last : (unit : ℕ) (m : Medium) (image : Image) (text : List ℕ) → IsUnit unit → FitImage m.count → image.unit ≡ unit → IsLastImage m image.lines.items → text ≡ image_text (snapshot_of image) → AreLast unit m text
are_last unit m image text known fit same last is = record {
  lines = image.lines.items;
  last = last;
  right = snapshot_last m unit image.lines.items known fit last;
  is = is ∙ ap (λ u. image_text (record { unit = u; lines = image.lines.items })) same;
}

-- what a line shows it shows after it was written back
shows-write_back : (a b : Medium) (n : ℕ) (line : LineState) → WritesBack a b → Shows a n line → Shows b n line
shows-write_back a b n (Healthy bytes) w s = (w.bad n ∙ s.0, w.weak n ∙ s.1, record { length = s.2.length; words = λ k below. newest-write_back a b w (8 * n + k) ∙ s.2.words k below })
shows-write_back a b n (Weak bytes) w s = (w.bad n ∙ s.0, w.weak n ∙ s.1, record { length = s.2.length; words = λ k below. newest-write_back a b w (8 * n + k) ∙ s.2.words k below })
shows-write_back a b n Bad w s = w.bad n ∙ s

pub last-write_back : (a b : Medium) (lines : List LineState) → WritesBack a b → IsLastImage a lines → IsLastImage b lines
last-write_back a b lines w last = record {
  count = last.count ∙ sym w.count;
  shows = λ n line is. shows-write_back a b n line w (last.shows n line is);
}
