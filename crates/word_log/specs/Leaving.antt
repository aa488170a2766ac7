-- What a mount of a log leaves, however it ends.
use Rattle.std.specs.Prelude.{◌≡◌}
use Rattle.line_device.specs.Medium.{Medium, WritesBack, last_image}
use Rattle.line_words.specs.Words.{WritesBackOutside}
use Rattle.word_log.specs.declared.area.LogArea.{LogArea}
use Rattle.word_log.specs.Area.{IsOf, gate_place}
use Rattle.word_log.specs.Mount.{LeavesWrong}
use Rattle.word_log.specs.Rest.{EachImage, IsReached}

pub record LeavesLog (a : LogArea) (old new : Medium) : Type 0 where
  -- each image of log and home was one before, or replays to the same
  pub images : EachImage a new (IsReached a old)
  -- where something is wrong with the log, lines are only written back
  pub wrong : LeavesWrong a old new
  -- where its gate is closed, too
  pub closed : last_image old (gate_place a) ≡ 0 → WritesBack old new
  -- other words are only written back
  pub outside : WritesBackOutside (IsOf a) old new
