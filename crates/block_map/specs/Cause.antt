-- When words are refused.
use Rattle.std.specs.Prelude.{◌≡◌, ℕ, List, Some}
use Rattle.block_map.specs.declared.table.TableFault.{TableFault}
use Rattle.block_map.specs.declared.table.TableFault.TheVariants.{Bad, Memory}
use Rattle.block_map.specs.Wrong.{first_wrong_entry}

-- the index is that of the first wrong word; memory may always be short
abbrev pub IsCause : List ℕ → TableFault → Type 0
IsCause words (Bad index) = first_wrong_entry words ≡ Some index
IsCause words Memory = Unit {0}
