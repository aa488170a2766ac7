use Rattle.std.proofs.Common.{◌≡◌, ◌++◌, ℕ, List, drop, replicate, length, sym, ◌∙◌, subst}
use Rattle.nvm_base.specs.Names.{KeepsName}
use Rattle.nvm_base.proofs.NameLemmas.{keeps_name}
use Rattle.nvm_base.proofs.names.Name.read.Goals as goal

pub invariant_of-result : goal.invariant_of-result
invariant_of-result c =
    let kept : List ℕ → Type 0 = λ text. KeepsName (text ++ drop (length c.args.text.now) (replicate 32 0)) (length c.args.text.now) in
    subst kept (sym c.copy_from_slice.ensures.after) (keeps_name c.args.text.now (sym c.is_name.ensures ∙ c.if-not-is_name.false))
