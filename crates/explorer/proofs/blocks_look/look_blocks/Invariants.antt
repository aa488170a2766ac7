use Rattle.std.proofs.Common.{◌≡◌, length, take}
use Rattle.nvm_model.specs.Blocks.{nth}
use Rattle.block_sights.specs.Sights.{sight}
use Rattle.cut_places.specs.MachineModel.Machine.{Machine}
use Rattle.machine_host.specs.Settling.{GoesOn}
use Rattle.machine_host.specs.Stands.{Stands}
use Rattle.cut_places.specs.Outcomes.Blocks.{all_numbers_read}
use Rattle.cut_places.specs.Outcomes.Finds.{IsReady}
use Rattle.cut_places.specs.AskedReads.Reads.{blocks_asked}
use Rattle.explorer.specs.Stopping.{NoneFell}
use Rattle.cut_places.specs.SightsSeen.Units.{AreBlocks, block_numbers}
use Rattle.explorer.proofs.blocks_look.look_blocks.Given as goal

abbrev pub invariant-loop-read : goal.invariant-loop-read
invariant-loop-read g l =
    GoesOn l.host (g.D.Lines.state l.device)
    × (length l.work ≡ 65536)
    × (l.host.geometry ≡ l.fn.host.geometry)
    × NoneFell (g.D.Lines.state l.fn.device).panel (g.D.Lines.state l.device).panel
    × (block_numbers l.blocks.items ≡ all_numbers_read (blocks_asked (take l.read-index l.reads)))
    × ((h : Machine) → Stands l.fn.host (g.D.Lines.state l.fn.device) h → IsReady h
    → AreBlocks (λ b. sight (nth h.blocks b)) l.blocks.items × Stands l.host (g.D.Lines.state l.device) h)
