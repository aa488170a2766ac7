use Rattle.line_module.proofs.cells.Cells.poison.Goals as goal

pub returns : goal.returns
returns c = λ i. record { medium = c.renew.ensures.medium i; order = c.renew.ensures.order i }
