use Rattle.durable.proofs.FileWrittenLemmas.{cleared_in_file, flushed, flushed_mapped}
use Rattle.durable.proofs.TogetherLemmas.{in_one_range, in_ranges}
use Rattle.durable.proofs.WrittenLemmas.{cleared, synced, synced_by_address, written, written_together}
use Rattle.durable.proofs.laws.what_was_written_lasts.Goals as goal

pub returns-clause-write : goal.returns-clause-write
returns-clause-write c = written

pub returns-clause-together : goal.returns-clause-together
returns-clause-together c = written_together

pub returns-clause-synced : goal.returns-clause-synced
returns-clause-synced c = synced

pub returns-clause-by_address : goal.returns-clause-by_address
returns-clause-by_address c = synced_by_address

pub returns-clause-cleared : goal.returns-clause-cleared
returns-clause-cleared c = cleared

pub returns-clause-flushed : goal.returns-clause-flushed
returns-clause-flushed c = flushed

pub returns-clause-cleared_in_file : goal.returns-clause-cleared_in_file
returns-clause-cleared_in_file c = cleared_in_file

pub returns-clause-in_one_range : goal.returns-clause-in_one_range
returns-clause-in_one_range c = in_one_range

pub returns-clause-in_ranges : goal.returns-clause-in_ranges
returns-clause-in_ranges c = in_ranges

pub returns-clause-through_a_mapping : goal.returns-clause-through_a_mapping
returns-clause-through_a_mapping c = λ h stored next handle offset i bytes m action small brings shows lies stores does covered among keeps.
    flushed_mapped h stored next handle offset i bytes m action small brings shows lies stores does covered among keeps
