use Rattle.std.proofs.Common.{◌≡◌, ◌*◌, ◌<◌, ◌≤◌, length, take}
use Rattle.line_device.specs.Medium.{last_image}
use Rattle.line_device.specs.Panel.{Runs}
use Rattle.line_device.specs.Panel.Outcome.{went}
use Rattle.word_log.specs.Area.{entry_place}
use Rattle.word_log.specs.Replay.{entries}
use Rattle.line_words.specs.Words.{WritesBackOutside}
use Rattle.word_log.proofs.entries.store_entries.Given as goal

abbrev pub invariant-loop-k : goal.invariant-loop-k
invariant-loop-k g l =
    let old = g.L.Lines.state l.initial.dev in
    let new = g.L.Lines.state l.dev in
    record {
      outside : WritesBackOutside (λ p. (entry_place l.area 0 ≤ p) × (p < entry_place l.area (length l.changes))) old.medium new.medium;
      words : entries (last_image new.medium) (entry_place l.area 0) l.k ≡ take l.k l.changes;
      runs : Runs (2 * l.k) 0 went old.panel new.panel;
    }
