use Rattle.page_table.proofs.RightLemmas.{table_right}
use Rattle.page_table.proofs.table.tables_are_right.Goals as goal

pub returns : goal.returns
returns c = table_right
