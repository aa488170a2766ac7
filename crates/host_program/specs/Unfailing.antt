-- When what was asked for can be done, and how a call ends then where nothing failed.
use Rattle.std.specs.Prelude.{◌≡◌, ◌⊎◌, ℕ, Option}
use Rattle.command_line.specs.Words.{Form}
use Rattle.command_line.specs.Words.Form.{of_new, of_run, of_check, of_bench}
use Rattle.host_io.specs.Images.{Held}
use Rattle.image_file.specs.declared.Units.TheVariants.{All}
use Rattle.program_base.specs.Unfailing.{HoldsRight}

-- the form finds what it begins with
abbrev pub CanBegin : Form → Option Held → Type 0
CanBegin (of_new unit name geo) held = Unit {0}
CanBegin (of_run from to) held = HoldsRight All from held
CanBegin (of_check name) held = HoldsRight All name held
CanBegin (of_bench seed count) held = Unit {0}

-- how a call ends then: well, for want of memory, or, where the form has a script, because that is too long
abbrev pub EndsWell : Form → ℕ → Type 0
EndsWell (of_new unit name geo) ended = (ended ≡ 0) ⊎ (ended ≡ 6)
EndsWell (of_run from to) ended = (ended ≡ 0) ⊎ (ended ≡ 6) ⊎ (ended ≡ 7)
EndsWell (of_check name) ended = (ended ≡ 0) ⊎ (ended ≡ 6)
EndsWell (of_bench seed count) ended = (ended ≡ 0) ⊎ (ended ≡ 6)
