use Rattle.std.proofs.Common.{◌∙◌, sym}
use Rattle.machine_host.proofs.HandleCallLemmas.{unmap_done, unmap_stopped}
use Rattle.machine_host.proofs.host.Performer.unmap.Goals as goal

pub returns-then-is_err : goal.returns-then-is_err
returns-then-is_err g c =
    unmap_stopped c.args.self.now _ _ _ c.requires.on c.requires.serves c.args.handle c.unmap.result c.self.view_is c.unmap.ensures.refused c.unmap.ensures.err (sym c.is_err.ensures.value ∙ c.if-is_err.true)

pub returns : goal.returns
returns g c =
    unmap_done c.args.self.now _ _ _ c.requires.on c.requires.serves c.args.handle c.unmap.result c.self.view_is c.unmap.ensures.refused c.unmap.ensures.ok (sym c.is_err.ensures.value ∙ c.if-is_err.false)
