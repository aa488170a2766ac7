-- Tables that the home words of a log hold. `held word t` says that these words hold the tables t, whatever kind of tables they are.
use Rattle.std.specs.Prelude.{◌≡◌, ◌⊎◌, ℕ, List}
use Rattle.line_device.specs.Medium.{Medium}
use Rattle.word_log.specs.declared.area.LogArea.{LogArea}
use Rattle.word_log.specs.Changes.{changed, MayCommit}
use Rattle.word_log.specs.Replay.{Replays}
use Rattle.word_log.specs.Rest.{EachImage, IsAtRest}

-- the log is at rest with words that hold these tables
pub record RestsWith {T : Type 0} (a : LogArea) (held : (ℕ → ℕ) → T → Type 0) (m : Medium) (t : T) : Type 0 where
  pub word : ℕ → ℕ
  pub rest : IsAtRest a m word
  pub holds : held word t

-- changes that the log takes, and that make words which hold the old tables hold the new ones
pub record Turns {T : Type 0} (a : LogArea) (held : (ℕ → ℕ) → T → Type 0) (changes : List (ℕ × ℕ)) (old new : T) : Type 0 where
  pub may : MayCommit a changes
  pub holds : (word : ℕ → ℕ) → held word old → held (changed changes word) new

-- after its replay an image has words that hold tables like that
pub record ReadsTables {T : Type 0} (a : LogArea) (held : (ℕ → ℕ) → T → Type 0) (P : T → Type 0) (image : ℕ → ℕ) : Type 0 where
  pub tables : T
  pub is : P tables
  pub word : ℕ → ℕ
  pub replays : Replays a image word
  pub holds : held word tables

-- each image of log and home does
abbrev pub EachReadsTables : {T : Type 0} → LogArea → ((ℕ → ℕ) → T → Type 0) → Medium → (T → Type 0) → Type 0
EachReadsTables a held m P = EachImage a m (ReadsTables a held P)

-- the one, or the other
abbrev pub IsEither : {T : Type 0} → T → T → T → Type 0
IsEither old new t = (t ≡ old) ⊎ (t ≡ new)

-- each image replays to these words, or to those
abbrev pub EachReplays : LogArea → Medium → (ℕ → ℕ) → (ℕ → ℕ) → Type 0
EachReplays a m old new = EachImage a m (λ image. Replays a image old ⊎ Replays a image new)
