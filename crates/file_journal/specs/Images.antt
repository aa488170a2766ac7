-- What the images that a cut may leave hold.
use Rattle.std.specs.Prelude.{ℕ}
use Rattle.line_device.specs.Medium.{Medium}
use Rattle.word_tables.specs.declared.geometry.Geometry.{Geometry}
use Rattle.word_log.specs.Held as held
use Rattle.file_journal.specs.Area.{file_area}
use Rattle.file_journal.specs.Holds.{Holds}
use Rattle.file_journal.specs.Tables.{Tables}

-- after its replay such an image holds tables like that
abbrev pub ReadsTables : Geometry → (Tables → Type 0) → (ℕ → ℕ) → Type 0
ReadsTables geo P image = held.ReadsTables (file_area geo) (Holds geo) P image

-- each image of log and tables does
abbrev pub EachReadsTables : Geometry → Medium → (Tables → Type 0) → Type 0
EachReadsTables geo m P = held.EachReadsTables (file_area geo) (Holds geo) m P

-- the tables before, or those after
abbrev pub IsEither : Tables → Tables → Tables → Type 0
IsEither old new t = held.IsEither old new t
