-- Worked lists, from the program's script on.
use Rattle.std.specs.Prelude.{◌≡◌, ℕ, List, [], ◌∷◌, codes}
use Rattle.script_text.specs.Script.{inputs}
use Rattle.explorer.specs.MachineModel.Restarting.{fresh}
use Rattle.explorer.specs.MachineModel.WorkedScripts.{small, text}
use Rattle.explorer.specs.Outcomes.Finds.{armed}
use Rattle.explorer.specs.AskedReads.declared.read.Read.{Read}
use Rattle.explorer.specs.AskedReads.declared.read.Read.TheVariants.{Blocks, File, Volume}
use Rattle.outcome_lists.specs.Lists.{outcome_list}

-- a program on a new device of two volume pages, eight blocks and no file, what it looks at, and the list of its outcomes
abbrev pub Lists : List (List ℕ) → List Read → List (List ℕ) → Type 0
Lists program look list = outcome_list (armed (fresh small)) (inputs (text program)) look ≡ text list

pub record WorkedLists : Type 0 where
  pub record_and_flag : Lists
      (codes "vstore 64 07*8" ∷ codes "vsync 64 8" ∷ codes "vstore 0 01" ∷ codes "vsync 0 1" ∷ [])
      (Volume 0 1 ∷ Volume 64 8 ∷ [])
      (codes "before 1 | volume 0 00*8 | volume 64 00*8"
      ∷ codes "inside 1 | volume 0 00*8 | volume 64 07*8"
      ∷ codes "inside 3 | volume 0 01,00*7 | volume 64 07*8"
      ∷ codes "outcomes 3" ∷ [])
  pub two_blocks_written : Lists (codes "bwrite 0 01*1024" ∷ []) (Blocks 0 2 ∷ [])
      (codes "before 1 | block 0 00*512 | block 1 00*512"
      ∷ codes "inside 1 | block 0 00*512 | block 1 01*512"
      ∷ codes "inside 1 | block 0 01*512 | block 1 00*512"
      ∷ codes "inside 1 | block 0 01*512 | block 1 01*512"
      ∷ codes "outcomes 4" ∷ [])
  pub two_blocks_written_together : Lists (codes "batomic 0 01*1024" ∷ []) (Blocks 0 2 ∷ [])
      (codes "before 1 | block 0 00*512 | block 1 00*512"
      ∷ codes "inside 1 | block 0 01*512 | block 1 01*512"
      ∷ codes "outcomes 2" ∷ [])
  pub block_scarred_and_worn : Lists (codes "bwrite 3 01*512" ∷ codes "poison block 3 4" ∷ codes "bscar 3 1" ∷ []) (Blocks 3 1 ∷ [])
      (codes "before 1 | block 3 00*512"
      ∷ codes "inside 1 | block 3 01*512"
      ∷ codes "before 3 | block 3 poison 4"
      ∷ codes "inside 3 | block 3 scarred"
      ∷ codes "outcomes 4" ∷ [])
  pub block_behind_a_flag : Lists (codes "vstore 0 01" ∷ codes "vsync 0 1" ∷ codes "bwrite 0 02*512" ∷ []) (Blocks 0 1 ∷ Volume 0 1 ∷ [])
      (codes "before 1 | volume 0 00*8 | block 0 00*512"
      ∷ codes "inside 1 | volume 0 01,00*7 | block 0 00*512"
      ∷ codes "inside 3 | volume 0 01,00*7 | block 0 02*512"
      ∷ codes "outcomes 3" ∷ [])
  pub weak_line_synced : Lists (codes "vstore 0 07*8" ∷ codes "weaken volume 0" ∷ codes "vsync 0 8" ∷ []) (Volume 0 9 ∷ [])
      (codes "inside 3 | volume 0 poison | volume 8 poison"
      ∷ codes "before 1 | volume 0 00*8 | volume 8 00*8"
      ∷ codes "inside 1 | volume 0 07*8 | volume 8 00*8"
      ∷ codes "outcomes 3" ∷ [])
  pub three_stores_in_a_word : Lists
      (codes "vstore 0 01" ∷ codes "vstore 0 02" ∷ codes "# a comment" ∷ codes "vstore 0 01" ∷ codes "vstore 0 03" ∷ []) (Volume 0 1 ∷ [])
      (codes "before 1 | volume 0 00*8"
      ∷ codes "inside 1 | volume 0 01,00*7"
      ∷ codes "inside 2 | volume 0 02,00*7"
      ∷ codes "inside 5 | volume 0 03,00*7"
      ∷ codes "outcomes 4" ∷ [])
  pub word_that_two_reads_touch : Lists (codes "vstore 0 01" ∷ []) (Volume 0 1 ∷ Volume 4 8 ∷ [])
      (codes "before 1 | volume 0 00*8 | volume 8 00*8"
      ∷ codes "inside 1 | volume 0 01,00*7 | volume 8 00*8"
      ∷ codes "outcomes 2" ∷ [])
  pub reads_that_are_refused : Lists (codes "vstore 0 01" ∷ []) (Volume 8192 1 ∷ Volume 0 1 ∷ Blocks 0 0 ∷ File (codes "f") 9 65537 ∷ [])
      (codes "before 1 | volume 0 00*8"
      ∷ codes "inside 1 | volume 0 01,00*7"
      ∷ codes "outcomes 2" ∷ [])
  pub nothing_looked_at : Lists (codes "vstore 0 01" ∷ []) [] (codes "before 1" ∷ codes "outcomes 1" ∷ [])
  pub file_that_grows : Lists (codes "create f 1" ∷ codes "resize f 2" ∷ []) (File (codes "f") 4088 16 ∷ [])
      (codes "before 1 | file f 4088 missing | file f 4096 missing"
      ∷ codes "inside 1 | file f 4088 00*8 | file f 4096 range"
      ∷ codes "inside 2 | file f 4088 00*8 | file f 4096 00*8"
      ∷ codes "outcomes 3" ∷ [])
  pub file_written_and_renamed : Lists (codes "create t 1" ∷ codes "fwrite t 0 07*8" ∷ codes "fsync t" ∷ codes "rename t f" ∷ [])
      (File (codes "t") 0 8 ∷ File (codes "f") 0 8 ∷ [])
      (codes "before 1 | file f 0 missing | file t 0 missing"
      ∷ codes "inside 1 | file f 0 missing | file t 0 00*8"
      ∷ codes "inside 2 | file f 0 missing | file t 0 07*8"
      ∷ codes "inside 4 | file f 0 07*8 | file t 0 missing"
      ∷ codes "outcomes 4" ∷ [])
  pub file_renamed_before_it_is_synced : Lists (codes "create t 1" ∷ codes "fwrite t 0 07*8" ∷ codes "rename t f" ∷ []) (File (codes "f") 0 8 ∷ [])
      (codes "before 1 | file f 0 missing"
      ∷ codes "inside 3 | file f 0 00*8"
      ∷ codes "inside 3 | file f 0 07*8"
      ∷ codes "outcomes 3" ∷ [])
