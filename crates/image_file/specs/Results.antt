-- What came of reading.
use Rattle.std.specs.Prelude.{◌≡◌, ◌+◌, ◌≤◌, ℕ, suc, List, ◌++◌, length, drop, Some, Result, Ok, Err}
use Rattle.std.specs.List.{flat_map, AllByRecursion}
use Rattle.std.specs.Borrow.{Bor}
use Rattle.nvm_base.specs.Stock.{Stock}
use Rattle.line_device.specs.declared.line.LineState.{LineState}
use Rattle.image_file.specs.declared.Image.{Image}
use Rattle.image_file.specs.declared.Units.{Units}
use Rattle.image_file.specs.declared.fault.ImageFault.{ImageFault}
use Rattle.image_file.specs.declared.fault.ImageFault.TheVariants.{Bad, Memory}
use Rattle.image_file.specs.Text.{IsSnapshot, IsImageLine, FitImage, Snapshot, TakesUnit, image_head, image_text, line_text, snapshot_of}
use Rattle.image_file.specs.WrongField.{first_wrong_offset, wrong_in_lines}

-- of a whole file: the image that it spells, or where it is none
abbrev pub ReadsImage : Units → List ℕ → Result Image ImageFault → Type 0
ReadsImage units bytes (Ok image) = IsSnapshot (snapshot_of image) × TakesUnit units image.unit × (bytes ≡ image_text (snapshot_of image))
ReadsImage units bytes (Err (Bad offset)) = first_wrong_offset units bytes ≡ Some offset
ReadsImage units bytes (Err Memory) = Unit {0}

-- the image, unless memory ran out
abbrev pub GivesImage : Snapshot → Result Image ImageFault → Type 0
GivesImage m (Ok image) = snapshot_of image ≡ m
GivesImage m (Err (Bad offset)) = ⊥
GivesImage m (Err Memory) = Unit {0}

-- of the first 24 bytes: the unit and how many lines they announce, or where they are wrong
abbrev pub ReadsHead : Units → List ℕ → Result (ℕ × ℕ) ℕ → Type 0
ReadsHead units bytes (Ok p) = TakesUnit units p.0 × FitImage p.1 × (24 ≤ length bytes) × (bytes ≡ image_head p.0 p.1 ++ drop 24 bytes)
    × (first_wrong_offset units bytes ≡ wrong_in_lines p.1 24 (drop 24 bytes))
ReadsHead units bytes (Err offset) = first_wrong_offset units bytes ≡ Some offset

-- of the bytes behind them: so many lines, or where the file is wrong
abbrev pub ReadsLines : ℕ → List ℕ → Result (Stock LineState) ImageFault → Type 0
ReadsLines count bytes (Ok lines) = (drop 24 bytes ≡ flat_map line_text lines.items) × (length lines.items ≡ count) × AllByRecursion IsImageLine lines.items
ReadsLines count bytes (Err (Bad offset)) = wrong_in_lines count 24 (drop 24 bytes) ≡ Some offset
ReadsLines count bytes (Err Memory) = Unit {0}

-- of bytes: the line at their front and what follows it, or how far into them they are wrong
abbrev pub ReadsLine : List ℕ → Result (LineState × Bor (List ℕ)) ℕ → Type 0
ReadsLine bytes (Ok p) = (bytes ≡ line_text p.0 ++ p.1.now) × IsImageLine p.0
ReadsLine bytes (Err skip) = (skip ≤ 1) × ((lines offset : ℕ) → wrong_in_lines (suc lines) offset bytes ≡ Some (offset + skip))
