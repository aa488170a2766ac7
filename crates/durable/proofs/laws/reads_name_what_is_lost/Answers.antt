use Rattle.durable.proofs.NamingLemmas.{names_line, names_line_mapped, names_line_of_file, names_obstacle}
use Rattle.durable.proofs.laws.reads_name_what_is_lost.Goals as goal

pub returns-clause-volume : goal.returns-clause-volume
returns-clause-volume c = names_line

pub returns-clause-blocks : goal.returns-clause-blocks
returns-clause-blocks c = names_obstacle

pub returns-clause-in_file : goal.returns-clause-in_file
returns-clause-in_file c = names_line_of_file

pub returns-clause-through_a_mapping : goal.returns-clause-through_a_mapping
returns-clause-through_a_mapping c = names_line_mapped
