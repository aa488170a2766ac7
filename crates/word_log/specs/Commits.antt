-- What a commit does, however it ends.
use Rattle.std.specs.Prelude.{◌⊎◌, ℕ, List, length, Result, OnOk}
use Rattle.line_device.specs.Device.{Device}
use Rattle.line_device.specs.Panel.{Runs}
use Rattle.line_words.specs.Ending.{ended}
use Rattle.line_words.specs.Words.{WritesBackOutside}
use Rattle.line_words.specs.declared.interruption.Interruption.{Interruption}
use Rattle.word_log.specs.declared.area.LogArea.{LogArea}
use Rattle.word_log.specs.Area.{IsOf}
use Rattle.word_log.specs.Changes.{changed, commit_calls, commit_persists}
use Rattle.word_log.specs.Replay.{Replays}
use Rattle.word_log.specs.Rest.{EachImage, IsAtRest}

pub record Commits (a : LogArea) (old new : Device) (result : Result (Unit {0}) Interruption) (changes : List (ℕ × ℕ)) : Type 0 where
  -- the words at rest are the changed ones
  pub ok : OnOk result ((words : ℕ → ℕ) → IsAtRest a old.medium words → IsAtRest a new.medium (changed changes words))
  -- each image replays to the old words, or to the changed ones
  pub images : (words : ℕ → ℕ) → IsAtRest a old.medium words
      → EachImage a new.medium (λ image. Replays a image words ⊎ Replays a image (changed changes words))
  -- other words are only written back
  pub outside : WritesBackOutside (IsOf a) old.medium new.medium
  pub runs : Runs (commit_calls (length changes)) (commit_persists (length changes)) (ended result) old.panel new.panel
