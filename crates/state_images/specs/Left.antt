-- Storage that a restart may leave of a state.
use Rattle.std.specs.Prelude.{List}
use Rattle.nvm_model.specs.Page.{Page}
use Rattle.nvm_model.specs.Storage.{Block, File}
use Rattle.machine_model.specs.Commands.{MayLeaveBlocks, MayLeaveFiles, MayLeaveVolume}
use Rattle.machine_model.specs.Machine.{Machine}
use Rattle.machine_model.specs.Restarting.{holding}
use Rattle.state_images.specs.Keeping.{FilesSurvive, PagesSurvive}

-- Blocks, pages and files as the interrupted action may have left them, with one value kept of each word.
pub record MayBeLeft (off : Machine) (kept_blocks : List Block) (kept_volume : List Page) (kept_files : List File) : Type 0 where
  pub blocks : MayLeaveBlocks off.interrupted off.blocks kept_blocks
  pub left : List Page
  pub may : MayLeaveVolume off.geometry off.interrupted off.volume left
  pub volume : PagesSurvive left kept_volume
  pub files_left : List File
  pub may_files : MayLeaveFiles off.mappings off.interrupted off.files files_left
  pub files : FilesSurvive files_left kept_files

-- the state once the power is back and they are mounted; what is armed stays
abbrev pub back_with : Machine → List Block → List Page → List File → Machine
back_with off blocks volume files = record (holding off.geometry blocks volume files) { cut_armed = off.cut_armed; fail_armed = off.fail_armed }
