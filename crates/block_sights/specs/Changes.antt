-- What a change of blocks makes of what reads see.
use Rattle.std.specs.Prelude.{ℕ}
use Rattle.block_sights.specs.declared.change.BlockChange.{BlockChange}
use Rattle.block_sights.specs.declared.change.BlockChange.TheVariants as change
use Rattle.block_sights.specs.Sights.{Sight, zeros, sight_written, sight_written_ranges, sight_made, sight_lost}
use Rattle.block_sights.specs.Sights.Sight.{Scar}

-- block b after a change
abbrev pub sight_changed : BlockChange → ℕ → Sight → Sight
sight_changed (change.Write at bytes) b old = sight_written at bytes.now b old
sight_changed (change.WriteRanges ranges bytes) b old = sight_written_ranges ranges.now bytes.now b old
sight_changed (change.Discard spans) b old = sight_made spans.now zeros b old
sight_changed (change.Scar spans) b old = sight_made spans.now Scar b old
sight_changed (change.Lose block line) b old = sight_lost block line b old
