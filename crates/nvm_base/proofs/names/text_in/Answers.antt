use Rattle.std.proofs.Common.{◌∙◌, sym}
use Rattle.nvm_base.proofs.NameLemmas.{text-before, text-whole}
use Rattle.nvm_base.proofs.names.text_in.Goals as goal

pub returns-in-Some : goal.returns-in-Some
returns-in-Some c = text-before c.args.bytes.now c.in-Some.len (sym c.first_zero.ensures ∙ c.in-Some.is)

pub returns-in-None : goal.returns-in-None
returns-in-None c = text-whole c.args.bytes.now (sym c.first_zero.ensures ∙ c.in-None.is)
