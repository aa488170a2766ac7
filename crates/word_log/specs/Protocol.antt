-- What the steps of a commit leave.
use Rattle.std.specs.Prelude.{◌≡◌, ℕ, ◌+◌, ◌*◌, ◌<◌, ◌≤◌, false, List, None, length}
use Rattle.line_device.specs.Medium.{Medium, last_image}
use Rattle.word_log.specs.declared.area.LogArea.{LogArea}
use Rattle.word_log.specs.Area.{gate_place, count_place, entry_place, Fits, IsHome, IsOf}
use Rattle.word_log.specs.Changes.{lists, MayCommit}
use Rattle.word_log.specs.Replay.{entries, first_wrong, listed}
use Rattle.line_words.specs.Words.{IsOnly}

-- a word of the log past its gate
abbrev pub IsBehindGate : LogArea → ℕ → Type 0
IsBehindGate a p = (gate_place a < p) × (p < 8 * (a.log.start + a.log.len))

-- count and entries are those of these changes, durably
pub record IsRecorded (a : LogArea) (changes : List (ℕ × ℕ)) (m : Medium) : Type 0 where
  pub count : IsOnly (length changes) (m.history (count_place a))
  pub entries : entries (last_image m) (entry_place a 0) (length changes) ≡ changes
  pub durable : (p : ℕ) → entry_place a 0 ≤ p → p < entry_place a (length changes) → IsOnly (last_image m p) (m.history p)

-- changes that the log takes are written on a log that fits
pub record IsWritten (a : LogArea) (changes : List (ℕ × ℕ)) (m : Medium) : Type 0 where
  pub fits : Fits a m
  pub taken : MayCommit a changes
  pub recorded : IsRecorded a changes m

-- the gate is 1 durably, behind it these changes count, and the other home words have these values
pub record IsOpen (a : LogArea) (changes : List (ℕ × ℕ)) (words : ℕ → ℕ) (m : Medium) : Type 0 where
  pub written : IsWritten a changes m
  pub gate : IsOnly 1 (m.history (gate_place a))
  pub home : (p : ℕ) → IsHome a p → lists changes p ≡ false → IsOnly (words p) (m.history p)

-- log and home are durable, the log is valid, and it lists these changes
pub record AwaitsReplay (a : LogArea) (changes : List (ℕ × ℕ)) (m : Medium) : Type 0 where
  pub durable : (p : ℕ) → IsOf a p → IsOnly (last_image m p) (m.history p)
  pub valid : first_wrong a (last_image m) ≡ None
  pub listed : changes ≡ listed a (last_image m)
