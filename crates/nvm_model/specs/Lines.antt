-- The lines of a medium: their marks, and their bytes as last stored.
use Rattle.std.specs.Prelude.{◌≡◌, ◌/◌, ◌%◌, ◌<◌, ℕ, false, List}
use Rattle.std.specs.Int.{byte_at}
use Rattle.line_device.specs.History.{newest}
use Rattle.line_device.specs.Medium.{Medium}
use Rattle.nvm_model.specs.Numbered.{list_from}

-- none of the first so many lines is bad, or none is weak
abbrev pub AreGood : Medium → ℕ → Type 0
AreGood m lines = (n : ℕ) → n < lines → m.is_bad n ≡ false

abbrev pub AreStrong : Medium → ℕ → Type 0
AreStrong m lines = (n : ℕ) → n < lines → m.is_weak n ≡ false

-- no line at all is bad or weak
abbrev pub IsIntact : Medium → Type 0
IsIntact m = (n : ℕ) → n < m.count → (m.is_bad n ≡ false) × (m.is_weak n ≡ false)

-- byte i as last stored, and the bytes of a span
abbrev pub shown_byte : Medium → ℕ → ℕ
shown_byte m i = byte_at (i % 8) (newest (m.history (i / 8)))

abbrev pub span_shown : Medium → ℕ → ℕ → List ℕ
span_shown m start len = list_from (shown_byte m) start len
