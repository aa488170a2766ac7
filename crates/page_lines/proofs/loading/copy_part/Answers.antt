use Rattle.std.proofs.Common.{◌≡◌, ◌+◌, ◌-◌, length, ap, take, drop, ◌∙◌, arith}
use Rattle.page_lines.proofs.LoadLemmas.{list_from-line}
use Rattle.page_lines.proofs.loading.copy_part.Goals as goal

pub returns-clause-bytes : goal.returns-clause-bytes
returns-clause-bytes c =
    let len : c.args.start + length c.args.out.now - c.args.start ≡ length c.args.out.now = omega arith in
    c.copy_from_slice.ensures.after ∙ ap (λ n. take n (drop c.args.start c.args.line.now)) len
    ∙ list_from-line c.args.line.now c.args.start (length c.args.out.now) c.requires.within (λ k. omega (arith, c.type_inv.line k))
