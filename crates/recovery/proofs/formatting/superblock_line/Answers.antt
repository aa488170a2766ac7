use Rattle.recovery.proofs.LineLemmas.{superblock_written}
use Rattle.recovery.proofs.formatting.superblock_line.Goals as goal

pub returns : goal.returns
returns c = superblock_written c.args.geo c.requires c.superblock.result c.write_u64_into.new.dst c.superblock.ensures c.write_u64_into.ensures
