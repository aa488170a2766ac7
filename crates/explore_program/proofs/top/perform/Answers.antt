use Rattle.std.specs.String.{string_bytes}
use Rattle.explore_program.proofs.CallLemmas.{one_word}
use Rattle.explore_program.proofs.top.perform.Goals as goal

pub returns-clause-no_call : goal.returns-clause-no_call
returns-clause-no_call g c none = absurd (one_word (λ word. string_bytes word) c.args.words.now c.in-len1.len_at_least c.in-len1.len_below none)
