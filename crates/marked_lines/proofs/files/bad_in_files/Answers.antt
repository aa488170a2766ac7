use Rattle.std.proofs.Common.{sym, ◌∙◌}
use Rattle.marked_lines.proofs.CountLemmas.{bad_files-count}
use Rattle.marked_lines.proofs.files.bad_in_files.Goals as goal

pub returns-clause-count : goal.returns-clause-count
returns-clause-count g c files stand = c.count_marked.ensures.count files stand ∙ sym (bad_files-count files)
