-- Worked tables, from the program's script on.
use Rattle.std.specs.Prelude.{◌≡◌, ℕ, List, [], ◌∷◌, codes}
use Rattle.script_text.specs.Script.{inputs}
use Rattle.cut_places.specs.MachineModel.Restarting.{fresh}
use Rattle.cut_places.specs.MachineModel.WorkedScripts.{small, text}
use Rattle.cut_places.specs.Outcomes.Finds.{armed}
use Rattle.cut_places.specs.Places.{cut_places}
use Rattle.cut_places.specs.AskedReads.declared.read.Read.{Read}
use Rattle.cut_places.specs.AskedReads.declared.read.Read.TheVariants.{Blocks, File, Volume}
use Rattle.value_tables.specs.Tables.{table_text}

-- a program on a new device of two volume pages, eight blocks and no file, what it looks at, and its table
abbrev pub Lists : List (List ℕ) → List Read → List (List ℕ) → Type 0
Lists program look table = table_text look (cut_places 1 (armed (fresh small)) (inputs (text program))) ≡ text table

abbrev pub first_byte : List Read
first_byte = Volume 0 1 ∷ []

-- the first word of a file
abbrev pub first_of : List ℕ → Read
first_of name = File name 0 8

pub record WorkedTables : Type 0 where
  pub record_and_flag : Lists
      (codes "vstore 64 07*8" ∷ codes "vsync 64 8" ∷ codes "vstore 0 01" ∷ codes "vsync 0 1" ∷ [])
      (Volume 0 1 ∷ Volume 64 8 ∷ [])
      (codes "before 1" ∷ codes "1 volume 0 00*8" ∷ codes "2 volume 64 00*8"
      ∷ codes "inside 1" ∷ codes "2 volume 64 00*8 07*8"
      ∷ codes "before 3" ∷ codes "2 volume 64 07*8"
      ∷ codes "inside 3" ∷ codes "1 volume 0 00*8 01,00*7"
      ∷ codes "before 5" ∷ codes "1 volume 0 01,00*7" ∷ [])
  pub three_stores_in_a_word : Lists
      (codes "vstore 0 01" ∷ codes "vstore 0 02" ∷ codes "# a comment" ∷ codes "vstore 0 01" ∷ codes "vstore 0 03" ∷ codes "vsync 0 1" ∷ []) first_byte
      (codes "before 1" ∷ codes "1 volume 0 00*8"
      ∷ codes "inside 1" ∷ codes "1 volume 0 00*8 01,00*7"
      ∷ codes "inside 2" ∷ codes "1 volume 0 00*8 01,00*7 02,00*7"
      ∷ codes "inside 5" ∷ codes "1 volume 0 00*8 01,00*7 02,00*7 03,00*7"
      ∷ codes "before 7" ∷ codes "1 volume 0 03,00*7" ∷ [])
  pub words_that_a_read_touches : Lists [] (Volume 7 10 ∷ [])
      (codes "before 1" ∷ codes "1 volume 0 00*8" ∷ codes "1 volume 8 00*8" ∷ codes "1 volume 16 00*8" ∷ [])
  pub two_blocks_written : Lists (codes "bwrite 0 01*1024" ∷ []) (Blocks 0 2 ∷ [])
      (codes "before 1" ∷ codes "1 block 0 00*512" ∷ codes "1 block 1 00*512"
      ∷ codes "inside 1" ∷ codes "1 block 0 00*512 01*512" ∷ codes "1 block 1 00*512 01*512"
      ∷ codes "before 2" ∷ codes "1 block 0 01*512" ∷ codes "1 block 1 01*512" ∷ [])
  pub block_scarred_and_worn : Lists (codes "bwrite 3 01*512" ∷ codes "poison block 3 4" ∷ codes "bscar 3 1" ∷ []) (Blocks 3 1 ∷ [])
      (codes "before 1" ∷ codes "1 block 3 00*512"
      ∷ codes "inside 1" ∷ codes "1 block 3 00*512 01*512"
      ∷ codes "before 2" ∷ codes "1 block 3 01*512"
      ∷ codes "before 3" ∷ codes "1 block 3 poison 4"
      ∷ codes "inside 3" ∷ codes "1 block 3 poison 4 scarred"
      ∷ codes "before 4" ∷ codes "1 block 3 scarred" ∷ [])
  pub bad_line_healed_by_a_store : Lists
      (codes "vstore 0 07*64" ∷ codes "vsync 0 64" ∷ codes "poison volume 0" ∷ codes "vstore 0 01*64" ∷ codes "vsync 0 64" ∷ []) first_byte
      (codes "before 1" ∷ codes "1 volume 0 00*8"
      ∷ codes "inside 1" ∷ codes "1 volume 0 00*8 07*8"
      ∷ codes "before 3" ∷ codes "1 volume 0 07*8"
      ∷ codes "before 4" ∷ codes "1 volume 0 poison"
      ∷ codes "inside 4" ∷ codes "1 volume 0 poison 00*8 01*8"
      ∷ codes "before 5" ∷ codes "1 volume 0 00*8 01*8"
      ∷ codes "before 6" ∷ codes "1 volume 0 01*8" ∷ [])
  pub weak_line_synced : Lists (codes "vstore 0 07*8" ∷ codes "weaken volume 0" ∷ codes "vsync 0 8" ∷ []) first_byte
      (codes "before 1" ∷ codes "1 volume 0 00*8"
      ∷ codes "inside 1" ∷ codes "1 volume 0 00*8 07*8"
      ∷ codes "inside 3" ∷ codes "1 volume 0 poison 00*8 07*8"
      ∷ codes "before 4" ∷ codes "1 volume 0 poison" ∷ [])
  pub reads_that_are_refused : Lists (codes "vstore 0 01" ∷ []) (Volume 8192 1 ∷ Volume 0 1 ∷ Blocks 0 0 ∷ File (codes "f") 0 0 ∷ File (codes "f") 9 65537 ∷ [])
      (codes "before 1" ∷ codes "1 refused range" ∷ codes "2 volume 0 00*8" ∷ codes "3 refused length" ∷ codes "4 refused length" ∷ codes "5 refused limit"
      ∷ codes "inside 1" ∷ codes "2 volume 0 00*8 01,00*7" ∷ [])
  pub file_written_and_renamed : Lists (codes "create t 1" ∷ codes "fwrite t 0 07*8" ∷ codes "fsync t" ∷ codes "rename t f" ∷ [])
      (first_of (codes "t") ∷ first_of (codes "f") ∷ [])
      (codes "before 1" ∷ codes "1 file t 0 missing" ∷ codes "2 file f 0 missing"
      ∷ codes "inside 1" ∷ codes "1 file t 0 missing 00*8"
      ∷ codes "before 2" ∷ codes "1 file t 0 00*8"
      ∷ codes "inside 2" ∷ codes "1 file t 0 00*8 07*8"
      ∷ codes "before 4" ∷ codes "1 file t 0 07*8"
      ∷ codes "inside 4" ∷ codes "1 file t 0 missing 07*8" ∷ codes "2 file f 0 missing 07*8"
      ∷ codes "before 5" ∷ codes "1 file t 0 missing" ∷ codes "2 file f 0 07*8" ∷ [])
  pub file_renamed_before_it_is_synced : Lists (codes "create t 1" ∷ codes "fwrite t 0 07*8" ∷ codes "rename t f" ∷ []) (first_of (codes "f") ∷ [])
      (codes "before 1" ∷ codes "1 file f 0 missing"
      ∷ codes "inside 3" ∷ codes "1 file f 0 missing 00*8 07*8"
      ∷ codes "before 4" ∷ codes "1 file f 0 00*8 07*8" ∷ [])
  pub file_resized : Lists (codes "create f 1" ∷ codes "resize f 2" ∷ []) (File (codes "f") 4088 16 ∷ [])
      (codes "before 1" ∷ codes "1 file f 4088 missing" ∷ codes "1 file f 4096 missing"
      ∷ codes "inside 1" ∷ codes "1 file f 4088 missing 00*8" ∷ codes "1 file f 4096 missing range"
      ∷ codes "before 2" ∷ codes "1 file f 4088 00*8" ∷ codes "1 file f 4096 range"
      ∷ codes "inside 2" ∷ codes "1 file f 4096 range 00*8"
      ∷ codes "before 3" ∷ codes "1 file f 4096 00*8" ∷ [])
  pub file_with_a_bad_line : Lists (codes "create f 1" ∷ codes "fatomic f 0 07*8" ∷ codes "poison file f 0" ∷ codes "clear file f 0" ∷ []) (first_of (codes "f") ∷ [])
      (codes "before 1" ∷ codes "1 file f 0 missing"
      ∷ codes "inside 1" ∷ codes "1 file f 0 missing 00*8"
      ∷ codes "before 2" ∷ codes "1 file f 0 00*8"
      ∷ codes "inside 2" ∷ codes "1 file f 0 00*8 07*8"
      ∷ codes "before 3" ∷ codes "1 file f 0 07*8"
      ∷ codes "before 4" ∷ codes "1 file f 0 poison"
      ∷ codes "inside 4" ∷ codes "1 file f 0 poison 00*8"
      ∷ codes "before 5" ∷ codes "1 file f 0 00*8" ∷ [])
  pub nothing_looked_at : Lists (codes "vstore 0 01" ∷ []) [] []
