-- What kept blocks stand for.
use Rattle.std.specs.Prelude.{ℕ, List, Option, Some, None}
use Rattle.block_sights.specs.declared.block.Unreadable.{Unreadable}
use Rattle.block_sights.specs.declared.block.Unreadable.TheVariants as why
use Rattle.block_sights.specs.Sights.{Sight}
use Rattle.block_sights.specs.Sights.Sight.{Whole, Scar, BadLine}

-- a block that can't be read for this reason
abbrev pub sight_of_why : Unreadable → Sight
sight_of_why why.Scarred = Scar
sight_of_why (why.BadLine k) = BadLine k

-- a block of these bytes, if it can be read
abbrev pub sight_of : List ℕ → Option Unreadable → Sight
sight_of bytes None = Whole bytes
sight_of bytes (Some why) = sight_of_why why
