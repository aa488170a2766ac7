-- Lines of storage that lie at neighbouring lines of a device.
use Rattle.std.specs.Prelude.{◌≡◌, ◌+◌, ◌-◌, ◌&&◌, ℕ, Bool, true, Option, None, nat_le, nat_lt, option_map, if◌then◌else◌}
use Rattle.page_lines.specs.declared.stretch.Stretch.{Stretch}

-- whether a line is one of the stretch
abbrev pub has_line : Stretch → ℕ → Bool
has_line s n = nat_le s.start n && nat_lt (n - s.start) s.len

-- at which line of the device it lies; a line of no stretch lies nowhere
abbrev pub stretch_place : Stretch → ℕ → Option ℕ
stretch_place s n = if has_line s n then option_map (λ line. line + (n - s.start)) s.line else None

-- its lines lie where these say
abbrev pub IsStretchOf : (ℕ → Option ℕ) → Stretch → Type 0
IsStretchOf place s = (n : ℕ) → has_line s n ≡ true → stretch_place s n ≡ place n
