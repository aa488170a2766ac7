-- Worked programs: what runs find after a cut, from the script's bytes on.
use Rattle.std.specs.Prelude.{ℕ, List, [], ◌∷◌, codes, replicate}
use Rattle.script_text.specs.Script.{inputs}
use Rattle.machine_model.specs.Restarting.{fresh}
use Rattle.machine_model.specs.WorkedScripts.{small, text}
use Rattle.outcomes.specs.Finds.{Finds}
use Rattle.outcomes.specs.Pages.PageReply.{Shows}
use Rattle.outcomes.specs.Rows.{counted_too_early, fread, one_of_two}
use Rattle.outcomes.specs.Seen.{Seen}

-- some run of the program on a new device of two volume pages finds this, or none does
abbrev pub IsFound : List (List ℕ) → List Seen → Type 0
IsFound lines look = Finds (fresh small) (inputs (text lines)) look

abbrev pub IsNeverFound : List (List ℕ) → List Seen → Type 0
IsNeverFound lines look = IsFound lines look → ⊥

-- a record and its count, synced one by one and together; two blocks, written together and one by one; and a file that is made
-- beside another and takes its name, once it is durable or before
abbrev pub one_by_one : List (List ℕ)
one_by_one = codes "vstore 64 07*8" ∷ codes "vsync 64 8" ∷ codes "vstore 0 01" ∷ codes "vsync 0 1" ∷ []

abbrev pub by_one_sync : List (List ℕ)
by_one_sync = codes "vstore 64 07*8" ∷ codes "vstore 0 01" ∷ codes "vsync 0 72" ∷ []

abbrev pub two_together : List (List ℕ)
two_together = codes "batomic 0 01*1024" ∷ []

abbrev pub two_written : List (List ℕ)
two_written = codes "bwrite 0 01*1024" ∷ []

abbrev pub renamed_early : List (List ℕ)
renamed_early = codes "create t 1" ∷ codes "fwrite t 0 07*8" ∷ codes "rename t f" ∷ []

abbrev pub renamed_durable : List (List ℕ)
renamed_durable = codes "create t 1" ∷ codes "fwrite t 0 07*8" ∷ codes "fsync t" ∷ codes "rename t f" ∷ []

-- the file is there, of zeros
abbrev pub of_zeros : List Seen
of_zeros = fread (codes "f") 0 8 (Shows (replicate 8 0)) ∷ []

pub record RunRows : Type 0 where
  pub record_before_count : IsNeverFound one_by_one counted_too_early
  pub both_by_one_sync : IsFound by_one_sync counted_too_early
  pub blocks_together : IsNeverFound two_together one_of_two
  pub blocks_one_by_one : IsFound two_written one_of_two
  pub renamed_too_early : IsFound renamed_early of_zeros
  pub renamed_once_durable : IsNeverFound renamed_durable of_zeros
