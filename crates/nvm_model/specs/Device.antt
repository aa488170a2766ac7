-- Pages as a device's lines are.
use Rattle.std.specs.Prelude.{◌*◌, ℕ, Bool, true, false, List, if◌then◌else◌}
use Rattle.line_device.specs.Medium.{Medium}
use Rattle.nvm_model.specs.Cell.{Cell}
use Rattle.nvm_model.specs.Cell.Cell.{Bad, Kept}
use Rattle.nvm_model.specs.Numbered.{list_from, map_from}
use Rattle.nvm_model.specs.Page.{Page}
use Rattle.nvm_model.specs.Page.Page.{Absent, Present}

-- a line by its marks and its words' histories
abbrev pub device_cell : Medium → ℕ → Cell
device_cell m line = if m.is_bad line then Bad else Kept (m.is_weak line) (list_from m.history (8 * line) 8)

-- page i by its lines, where it is there
abbrev pub device_page : (ℕ → ℕ) → Medium → ℕ → Bool → Page
device_page place m i false = Absent
device_page place m i true = Present (list_from (λ n. device_cell m (place n)) (64 * i) 64)

unfoldable pub device_pages : (ℕ → ℕ) → Medium → List Bool → List Page
device_pages place m there = map_from (device_page place m) 0 there
