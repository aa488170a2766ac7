-- Blocks, files, mappings and events as the machine sees them.
use Rattle.std.specs.Prelude.{ℕ, Bool, List, Option}
use Rattle.nvm_base.specs.declared.files.Kind.{Kind}
use Rattle.nvm_model.specs.Page.{Page}

-- a block: not allocated, made unreadable, or its eight lines, None where a line is bad
pub data Block : Type 0 where
  Absent : Block
  Scarred : Block
  Data : List (Option (List ℕ)) → Block

pub record File : Type 0 where
  pub name : List ℕ
  pub pages : List Page

-- a mapping, whose copy is of a private one
pub record Mapping : Type 0 where
  pub handle : ℕ
  pub name : List ℕ
  pub start : ℕ
  pub len : ℕ
  pub kind : Kind
  pub copy : List ℕ

-- a media error in a file: where, whether a shared mapping showed the place, and whether it came since the last restart
pub record Event : Type 0 where
  pub file : List ℕ
  pub offset : ℕ
  pub len : ℕ
  pub mapped : Bool
  pub live : Bool
