-- Worked scripts on mappings of files: what the machine writes.
use Rattle.std.specs.Prelude.{ℕ, List, [], ◌∷◌, ◌++◌, codes, map}
use Rattle.std.specs.Fmt.{decimal}
use Rattle.std.specs.List.{range_with_len}
use Rattle.line_device.specs.declared.line.Choice.TheVariants.{Lasts}
use Rattle.machine_rows.specs.FileRows.{with_inode, with_page_on}
use Rattle.machine_rows.specs.MediaRows.{leaving_lines}
use Rattle.machine_model.specs.WorkedScripts.{text}
use Rattle.machine_rows.specs.Rows.{leaving, Writes}

-- so many mappings of a file's first byte, and their handles
abbrev pub maps : ℕ → List (List ℕ)
maps count = map (λ _. codes "map a 0 1 shared") (range_with_len 0 count)

abbrev pub handles : ℕ → List (List ℕ)
handles count = map (λ i. codes "handle " ++ decimal i) (range_with_len 0 count)

pub record MappingRows : Type 0 where
  pub shared_one_shows_its_file : Writes
      (text (codes "create a 1" ∷ codes "map a 0 4096 shared" ∷ codes "store 0 8 07*8" ∷ codes "fread a 0 16" ∷ codes "fwrite a 8 09*4"
      ∷ codes "load 0 8 8" ∷ codes "unmap 0" ∷ codes "load 0 0 8" ∷ codes "unmap 0" ∷ codes "fread a 8 8" ∷ []))
      []
      (codes "ok" ∷ codes "handle 0" ∷ codes "ok" ∷ codes "data 00*8,07*8" ∷ codes "ok" ∷ codes "data 09*4,07*4" ∷ codes "ok"
      ∷ codes "refused handle" ∷ codes "refused handle" ∷ codes "data 09*4,07*4" ∷ [])
  pub private_one_is_a_copy : Writes
      (text (codes "create a 1" ∷ codes "fwrite a 0 01*8" ∷ codes "map a 0 4096 private" ∷ codes "fwrite a 0 02*8" ∷ codes "load 0 0 8"
      ∷ codes "store 0 4 09*2" ∷ codes "load 0 0 8" ∷ codes "fread a 0 8" ∷ []))
      []
      (codes "ok" ∷ codes "ok" ∷ codes "handle 0" ∷ codes "ok" ∷ codes "data 01*8" ∷ codes "ok" ∷ codes "data 01*4,09*2,01*2" ∷ codes "data 02*8"
      ∷ [])
  pub two_over_one_page : Writes
      (text (codes "create a 1" ∷ codes "map a 0 4096 shared" ∷ codes "map a 64 64 shared" ∷ codes "store 1 0 0a" ∷ codes "load 0 64 1"
      ∷ codes "load 1 63 2" ∷ codes "unmap 0" ∷ codes "load 1 0 2" ∷ []))
      []
      (codes "ok" ∷ codes "handle 0" ∷ codes "handle 1" ∷ codes "ok" ∷ codes "data 0a" ∷ codes "refused range" ∷ codes "ok" ∷ codes "data 0a,00"
      ∷ [])
  pub one_that_ends_in_a_line : Writes
      (text (codes "create a 1" ∷ codes "map a 0 70 shared" ∷ codes "store 0 64 01*6" ∷ codes "store 0 66 01*6" ∷ codes "load 0 0 0"
      ∷ codes "load 0 71 0" ∷ codes "load 0 0 71" ∷ codes "load 0 62 8" ∷ []))
      []
      (codes "ok" ∷ codes "handle 0" ∷ codes "ok" ∷ codes "refused range" ∷ codes "refused length" ∷ codes "refused range" ∷ codes "refused range"
      ∷ codes "data 00*2,01*6" ∷ [])
  pub what_is_no_mapping : Writes
      (text (codes "map a 0 1 shared" ∷ codes "create a 1" ∷ codes "map a 0 4097 shared" ∷ codes "map a 4096 0 shared" ∷ codes "map a 4096 1 private"
      ∷ codes "map a 0 1" ∷ codes "map a 0 1 both" ∷ codes "load 0 0 1" ∷ codes "store 7 9 00" ∷ codes "unmap 0" ∷ []))
      []
      (codes "refused missing" ∷ codes "ok" ∷ codes "refused range" ∷ codes "refused length" ∷ codes "refused range" ∷ codes "refused syntax"
      ∷ codes "refused syntax" ∷ codes "refused handle" ∷ codes "refused handle" ∷ codes "refused handle" ∷ [])
  pub mapped_file_stays : Writes
      (text (codes "create a 1" ∷ codes "create c 1" ∷ codes "map a 0 1 private" ∷ codes "delete a" ∷ codes "rename a b" ∷ codes "rename a c"
      ∷ codes "resize a 2" ∷ codes "resize a 257" ∷ codes "delete b" ∷ codes "rename c b" ∷ codes "unmap 0" ∷ codes "delete a" ∷ codes "list" ∷ []))
      []
      (codes "ok" ∷ codes "ok" ∷ codes "handle 0" ∷ codes "refused mapped" ∷ codes "refused mapped" ∷ codes "refused exists" ∷ codes "refused mapped"
      ∷ codes "refused mapped" ∷ codes "refused missing" ∷ codes "ok" ∷ codes "ok" ∷ codes "ok" ∷ codes "files b:1" ∷ [])
  pub no_handle_is_used_again : Writes
      (text (codes "create a 1" ∷ codes "map a 0 1 shared" ∷ codes "unmap 0" ∷ codes "map a 0 1 private" ∷ codes "load 1 0 1" ∷ codes "load 0 0 1" ∷ []))
      []
      (codes "ok" ∷ codes "handle 0" ∷ codes "ok" ∷ codes "handle 1" ∷ codes "data 00" ∷ codes "refused handle" ∷ [])
  pub restart_ends_all : Writes
      (text (codes "create a 1" ∷ codes "map a 0 1 shared" ∷ codes "cut" ∷ codes "load 0 0 1" ∷ codes "restart all" ∷ codes "load 0 0 1"
      ∷ codes "map a 0 2 private" ∷ codes "load 0 1 1" ∷ []))
      (leaving Lasts (with_inode 0 97 1) ∷ [])
      (codes "ok" ∷ codes "handle 0" ∷ codes "ok" ∷ codes "refused off" ∷ codes "ok bad 0" ∷ codes "refused handle" ∷ codes "handle 0"
      ∷ codes "data 00" ∷ [])
  pub bad_line_under_a_mapping : Writes
      (text (codes "cut" ∷ codes "restart all" ∷ codes "map a 0 4096 shared" ∷ codes "map a 32 64 private" ∷ codes "load 0 0 64" ∷ codes "load 0 10 70"
      ∷ codes "store 0 64 05*32" ∷ codes "store 0 64 05*64" ∷ codes "map a 32 64 private" ∷ codes "load 1 31 2" ∷ []))
      (leaving_lines Lasts (with_inode 0 97 1 ++ with_page_on 0 0 0) (3009 ∷ []) [] ∷ [])
      (codes "ok" ∷ codes "ok bad 1" ∷ codes "handle 0" ∷ codes "poison file a 64 64" ∷ codes "data 00*64" ∷ codes "poison file a 64 64"
      ∷ codes "poison file a 64 64" ∷ codes "ok" ∷ codes "handle 1" ∷ codes "data 00,05" ∷ [])
  pub mappings_at_most : Writes
      (text (codes "create a 1" ∷ maps 256 ++ codes "map a 0 1 shared" ∷ codes "map a 1 4096 shared" ∷ codes "unmap 3" ∷ codes "map a 0 1 shared" ∷ []))
      [] (codes "ok" ∷ handles 256 ++ codes "refused limit" ∷ codes "refused range" ∷ codes "ok" ∷ codes "handle 256" ∷ [])
