-- What reads see of a block, compared and printed.
use Rattle.std.specs.Prelude.{◌==◌, ◌++◌, ℕ, Bool, true, false, List, ◌∷◌, codes, decimal}
use Rattle.std.specs.Str.{bytes_eq}
use Rattle.nvm_base.specs.Data.{data_text}
use Rattle.block_sights.specs.Sights.{Sight}
use Rattle.block_sights.specs.Sights.Sight.{Whole, Scar, BadLine}

-- reads see the same of two blocks
abbrev pub same_sight : Sight → Sight → Bool
same_sight (Whole bytes) (Whole others) = bytes_eq bytes others
same_sight (Whole bytes) Scar = false
same_sight (Whole bytes) (BadLine line) = false
same_sight Scar (Whole others) = false
same_sight Scar Scar = true
same_sight Scar (BadLine line) = false
same_sight (BadLine line) (Whole others) = false
same_sight (BadLine line) Scar = false
same_sight (BadLine line) (BadLine other) = line == other

-- its bytes behind a blank, or why it can't be read
abbrev pub sight_text : Sight → List ℕ
sight_text (Whole bytes) = 32 ∷ data_text bytes
sight_text Scar = codes " scarred"
sight_text (BadLine line) = codes " poison " ++ decimal line
