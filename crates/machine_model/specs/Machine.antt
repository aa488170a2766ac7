-- The machine that a script speaks to: its state, and what may come of a command.
use Rattle.std.specs.Prelude.{◌+◌, ℕ, Bool, List, Option}
use Rattle.line_device.specs.declared.line.Choice.{Choice}
use Rattle.line_device.specs.declared.order.Order.{Order}
use Rattle.word_tables.specs.declared.geometry.Geometry.{Geometry}
use Rattle.nvm_model.specs.Blocks.{bad_block_lines}
use Rattle.nvm_model.specs.Files.{bad_file_lines}
use Rattle.nvm_model.specs.Page.{Page, bad_lines}
use Rattle.nvm_model.specs.Storage.{Block, File, Mapping, Event}
use Rattle.script_text.specs.Action.{Action}
use Rattle.reply_text.specs.Answer.{Answer}
use Rattle.machine_model.specs.declared.mode.Mode.{Mode}

-- `unit` is the device's survival unit. The files are in order of name. `bad_meta` are the bad metadata lines, rising. `interrupted` is the action that a cut or a failure interrupted.
pub record Machine : Type 0 where
  pub geometry : Geometry
  pub unit : ℕ
  pub blocks : List Block
  pub volume : List Page
  pub files : List File
  pub mappings : List Mapping
  pub next_handle : ℕ
  pub events : List Event
  pub bad_meta : List ℕ
  pub mode : Mode
  pub interrupted : Option Action
  pub cut_armed : Bool
  pub fail_armed : Bool

-- how many lines of its blocks, pages and files are bad
abbrev pub bad_of : Machine → ℕ
bad_of h = bad_block_lines h.blocks + bad_lines h.volume + bad_file_lines h.files

-- What comes of a command: an answer and a state, where it is refused or needs no counted call of the device; the same of work
-- on the device, which may be interrupted; an order to the device; a cut of the power; or a restart or a recovery, whose state
-- the medium decides.
pub data Fate : Type 0 where
  Gives : Answer → Machine → Fate
  Works : Answer → Machine → Fate
  Orders : Order → Machine → Fate
  Cuts : Machine → Fate
  Restarts : Choice → Fate
  Recovers : Fate
