-- Where a log and the words that it changes stand. A word's place is 8 * line + word.
use Rattle.std.specs.Prelude.{◌≡◌, ◌⊎◌, ℕ, ◌+◌, ◌*◌, ◌/◌, ◌%◌, ◌<◌, ◌≤◌, Bool, false, ◌&&◌, nat_le, nat_lt, List, length, slice_index, IsTrue}
use Rattle.line_device.specs.Device.{Device}
use Rattle.line_device.specs.Medium.{Medium}
use Rattle.word_log.specs.declared.area.LogArea.{LogArea}

-- the gate: 1 where the entries count, else 0
abbrev pub gate_place : LogArea → ℕ
gate_place a = 8 * a.log.start

-- how many entries count
abbrev pub count_place : LogArea → ℕ
count_place a = 8 * a.log.start + 1

-- entry k: here stands the place of a home word, and its value in the next word
abbrev pub entry_place : LogArea → ℕ → ℕ
entry_place a k = 8 * a.log.start + 8 + 2 * k

-- a word of the log
abbrev pub IsLog : LogArea → ℕ → Type 0
IsLog a p = (8 * a.log.start ≤ p) × (p < 8 * (a.log.start + a.log.len))

-- a word that the log may change
abbrev pub IsHome : LogArea → ℕ → Type 0
IsHome a p = (a.home.start ≤ p) × (p < a.home.start + a.home.len)

abbrev pub is_home : LogArea → ℕ → Bool
is_home a p = nat_le a.home.start p && nat_lt p (a.home.start + a.home.len)

-- these are the values of the home words, in their order
pub record AreHomeWords (a : LogArea) (word : ℕ → ℕ) (words : List ℕ) : Type 0 where
  pub all : length words ≡ a.home.len
  pub each : (k : ℕ) → k < a.home.len → slice_index words k ≡ word (a.home.start + k)

-- a word of log or home
abbrev pub IsOf : LogArea → ℕ → Type 0
IsOf a p = IsLog a p ⊎ IsHome a p

-- a line of log or home
abbrev pub IsLineOf : LogArea → ℕ → Type 0
IsLineOf a line = (p : ℕ) × IsOf a p × (p / 8 ≡ line)

-- the log has a line for gate and count and one for each four entries, and no word of it is a home word
pub record IsShaped (a : LogArea) : Type 0 where
  pub len : a.log.len ≡ 1 + a.cap / 4
  pub whole : a.cap % 4 ≡ 0
  pub apart : (p : ℕ) → IsLog a p → IsHome a p → ⊥

-- such a log and its home stand on the device
pub record Fits (a : LogArea) (m : Medium) : Type 0 where
  pub shape : IsShaped a
  pub log : a.log.start + a.log.len ≤ m.count
  pub home : a.home.start + a.home.len ≤ 8 * m.count

-- no line of log or home is weak
abbrev pub IsStrong : LogArea → Medium → Type 0
IsStrong a m = (p : ℕ) → IsOf a p → m.is_weak (p / 8) ≡ false

-- no line of log or home is bad
abbrev pub IsWhole : LogArea → Medium → Type 0
IsWhole a m = (p : ℕ) → IsOf a p → m.is_bad (p / 8) ≡ false

-- the log stands on a device that is on, and can be read there
pub record IsReadable (a : LogArea) (d : Device) : Type 0 where
  pub on : IsTrue d.panel.power
  pub fits : Fits a d.medium
  pub whole : IsWhole a d.medium

-- and its words can be made durable there
pub record IsUsable (a : LogArea) (d : Device) : Type 0 where
  pub on : IsTrue d.panel.power
  pub fits : Fits a d.medium
  pub strong : IsStrong a d.medium
  pub whole : IsWhole a d.medium
