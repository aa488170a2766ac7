use Rattle.std.proofs.Common.{◌≡◌, ◌+◌, ◌*◌, ◌<◌, ℕ, length, get_or}
use Rattle.line_device.specs.Medium.{WritesBack, last_image}
use Rattle.line_device.specs.Panel.{Runs}
use Rattle.line_device.specs.Panel.Outcome.{went}
use Rattle.word_log.proofs.home_words.load_home.Given as goal

abbrev pub invariant-loop-k : goal.invariant-loop-k
invariant-loop-k g l =
    let old = g.L.Lines.state l.initial.dev in
    let new = g.L.Lines.state l.dev in
    record {
      all : length l.words.items ≡ 8 * l.k;
      each : (j : ℕ) → j < 8 * l.k → get_or l.words.items j 0 ≡ last_image old.medium (l.fn.area.home.start + j);
      lines : WritesBack old.medium new.medium;
      runs : Runs l.k 0 went old.panel new.panel;
    }
