-- What log and home hold in each image that a cut may leave.
use Rattle.std.specs.Prelude.{◌≡◌, ◌⊎◌, ℕ, None}
use Rattle.line_device.specs.History.{IsTorn}
use Rattle.line_device.specs.Medium.{Medium}
use Rattle.line_words.specs.Words.{IsOnly}
use Rattle.word_log.specs.declared.area.LogArea.{LogArea}
use Rattle.word_log.specs.Area.{IsOf, IsHome, gate_place}
use Rattle.word_log.specs.Replay.{Replays, replayed, first_wrong}

-- one value for each word of log and home, such as a cut may leave them, whether it keeps words whole or byte by byte
abbrev pub IsImageOn : LogArea → Medium → (ℕ → ℕ) → Type 0
IsImageOn a m image = (p : ℕ) → IsOf a p → IsTorn (image p) (m.history p)

-- each image of log and home is such
abbrev pub EachImage : LogArea → Medium → ((ℕ → ℕ) → Type 0) → Type 0
EachImage a m P = (image : ℕ → ℕ) → IsImageOn a m image → P image

-- in each image the gate is 0, and the home words are these
pub record IsAtRest (a : LogArea) (m : Medium) (words : ℕ → ℕ) : Type 0 where
  pub gate : IsOnly 0 (m.history (gate_place a))
  pub home : (p : ℕ) → IsHome a p → IsOnly (words p) (m.history p)

-- Some image before has the same words as this one, or is valid and replays to the same.
pub record IsReached (a : LogArea) (old : Medium) (image : ℕ → ℕ) : Type 0 where
  pub before : ℕ → ℕ
  pub was : IsImageOn a old before
  pub same : ((p : ℕ) → IsOf a p → image p ≡ before p) ⊎ (first_wrong a before ≡ None) × Replays a image (replayed a before)
