-- When words are refused.
use Rattle.std.specs.Prelude.{◌≡◌, ℕ, List, Some}
use Rattle.inode_table.specs.declared.fault.TableFault.{TableFault}
use Rattle.inode_table.specs.declared.fault.TableFault.TheVariants.{Bad, Memory}
use Rattle.inode_table.specs.Wrong.{first_wrong_word}

-- the index is that of the first wrong word; memory may always be short
abbrev pub IsCause : List ℕ → TableFault → Type 0
IsCause words (Bad index) = first_wrong_word words ≡ Some index
IsCause words Memory = Unit {0}
