-- When words are refused.
use Rattle.std.specs.Prelude.{◌≡◌, ℕ, List, Some}
use Rattle.page_table.specs.declared.judging.TableFault.{TableFault}
use Rattle.page_table.specs.declared.judging.TableFault.TheVariants.{Bad, Memory}
use Rattle.page_table.specs.Wrong.{first_wrong_entry}

-- the index is that of the first wrong word; memory may always be short
abbrev pub IsCause : ℕ → List ℕ → List ℕ → TableFault → Type 0
IsCause units counts words (Bad index) = first_wrong_entry units counts words ≡ Some index
IsCause units counts words Memory = Unit {0}
