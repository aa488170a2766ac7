-- A log and its home as two lists of words.
use Rattle.std.specs.Prelude.{ℕ, ◌-◌, ◌*◌, List, slice_index, if◌then◌else◌}
use Rattle.word_log.specs.declared.area.LogArea.{LogArea}
use Rattle.word_log.specs.Area.{is_home}

-- the words at their places
abbrev pub on_lists : LogArea → List ℕ → List ℕ → ℕ → ℕ
on_lists a log home p =
    if is_home a p then slice_index home (p - a.home.start) else slice_index log (p - 8 * a.log.start)
