-- What a log object is to its callers.
use Rattle.std.specs.Prelude.{Bool}
use Rattle.word_log.specs.declared.area.LogArea.{LogArea}

-- where the log stands, and that nothing stopped its last commit
pub record LogState : Type 0 where
  pub area : LogArea
  pub settled : Bool
