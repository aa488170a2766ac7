-- Worked scripts on the bytes of files: what the machine writes, and what it may write after a cut in a store.
use Rattle.std.specs.Prelude.{◌+◌, ◌*◌, ◌++◌, ℕ, List, [], ◌∷◌, codes, map, replicate}
use Rattle.std.specs.Fmt.{decimal}
use Rattle.std.specs.List.{range_with_len}
use Rattle.line_device.specs.Panel.{Image}
use Rattle.line_device.specs.declared.line.Choice.{Choice}
use Rattle.line_device.specs.declared.line.Choice.TheVariants.{Firsts, Lasts}
use Rattle.nvm_model.specs.Files.{new_file}
use Rattle.nvm_model.specs.Page.{presence_of}
use Rattle.file_journal.specs.Standing.{files_read}
use Rattle.script_text.specs.Action.{Action}
use Rattle.script_text.specs.Action.Action.{FWrite}
use Rattle.machine_rows.specs.CutRows.{MayWrite}
use Rattle.machine_rows.specs.FileRows.{with_inode, with_page_on}
use Rattle.machine_model.specs.Machine.{Machine}
use Rattle.machine_rows.specs.MediaRows.{leaving_lines}
use Rattle.machine_model.specs.OnPages.{pages_named}
use Rattle.machine_model.specs.Restarting.{RestartMayLeave, fresh}
use Rattle.machine_model.specs.WorkedScripts.{small, text}
use Rattle.machine_rows.specs.Rows.{leaving, Writes}
use Rattle.machine_rows.specs.VolumeRows.{AreTogether, cut_in}

-- a file of one byte's name, of so many pages, whose first one is on the first unit, and these words of it: its lines begin at 3008
abbrev pub with_first_page : ℕ → ℕ → List (ℕ × ℕ) → List (ℕ × ℕ)
with_first_page byte pages words = with_inode 0 byte pages ++ (with_page_on 0 0 0 ++ words)

-- stores of two bytes over the ends of pages 0 and 1, 2 and 3, and so on
abbrev pub pairs_stored : ℕ → List (List ℕ)
pairs_stored count = map (λ i. codes "fwrite a " ++ decimal (8192 * i + 4095) ++ codes " 0102") (range_with_len 0 count)

abbrev pub so_many_ok : ℕ → List (List ℕ)
so_many_ok count = replicate count (codes "ok")

pub record PageRows : Type 0 where
  pub written_and_read : Writes
      (text (codes "create a 3" ∷ codes "fread a 0 4" ∷ codes "fwrite a 4090 07*10" ∷ codes "fread a 4088 12" ∷ codes "fwrite a 12287 01"
      ∷ codes "fread a 12280 8" ∷ codes "fwrite a 4096 0809" ∷ codes "fread a 4094 5" ∷ []))
      []
      (codes "ok" ∷ codes "data 00*4" ∷ codes "ok" ∷ codes "data 00*2,07*10" ∷ codes "ok" ∷ codes "data 00*7,01" ∷ codes "ok"
      ∷ codes "data 07*2,08,09,07" ∷ [])
  pub reasons_in_order : Writes
      (text (codes "fread a 0 1" ∷ codes "fwrite a 9000 01" ∷ codes "create a 2" ∷ codes "fread a 8191 2" ∷ codes "fread a 8193 0"
      ∷ codes "fread a 8192 0" ∷ codes "fread a 0 65537" ∷ codes "fwrite a 8191 0101" ∷ codes "fwrite a 8191 01" ∷ codes "fread b 9000 0" ∷ []))
      []
      (codes "refused missing" ∷ codes "refused missing" ∷ codes "ok" ∷ codes "refused range" ∷ codes "refused range" ∷ codes "refused length"
      ∷ codes "refused range" ∷ codes "refused range" ∷ codes "ok" ∷ codes "refused missing" ∷ [])
  pub most_that_a_read_gives : Writes
      (text (codes "create a 17" ∷ codes "fread a 0 65537" ∷ codes "fread a 4096 65537" ∷ codes "fread a 69631 1" ∷ []))
      []
      (codes "ok" ∷ codes "refused limit" ∷ codes "refused range" ∷ codes "data 00" ∷ [])
  pub full_but_for_sixteen_pages : Writes
      (text (codes "create a 17" ∷ pairs_stored 8 ++ (codes "fwrite a 65536 01" ∷ codes "fwrite a 65535 0304" ∷ codes "fwrite a 65535 03"
      ∷ codes "fread a 65534 3" ∷ codes "delete a" ∷ codes "create b 1" ∷ codes "fwrite b 0 05" ∷ [])))
      []
      (so_many_ok 9 ++ (codes "refused full" ∷ codes "refused full" ∷ codes "ok" ∷ codes "data 00,03,00" ∷ codes "ok" ∷ codes "ok" ∷ codes "ok"
      ∷ []))
  pub files_apart_and_renamed : Writes
      (text (codes "create a 1" ∷ codes "create b 1" ∷ codes "fwrite b 0 0b*4" ∷ codes "fwrite a 0 0a*4" ∷ codes "fread b 0 4" ∷ codes "rename a c"
      ∷ codes "fread c 0 5" ∷ codes "fread a 0 4" ∷ []))
      []
      (codes "ok" ∷ codes "ok" ∷ codes "ok" ∷ codes "ok" ∷ codes "data 0b*4" ∷ codes "ok" ∷ codes "data 0a*4,00" ∷ codes "refused missing" ∷ [])
  pub cut_page_is_zeros : Writes
      (text (codes "create a 2" ∷ codes "fwrite a 4096 05*4" ∷ codes "resize a 1" ∷ codes "fread a 4096 1" ∷ codes "resize a 2"
      ∷ codes "fwrite a 4097 01" ∷ codes "fread a 4096 4" ∷ []))
      []
      (codes "ok" ∷ codes "ok" ∷ codes "ok" ∷ codes "refused range" ∷ codes "ok" ∷ codes "ok" ∷ codes "data 00,01,00*2" ∷ [])
  pub bad_metadata_stops_fills : Writes
      (text (codes "create a 2" ∷ codes "fwrite a 0 01" ∷ codes "poison meta 154" ∷ codes "fwrite a 1 02" ∷ codes "fwrite a 4095 0303"
      ∷ codes "fread a 0 3" ∷ codes "fwrite a 8192 01" ∷ []))
      []
      (codes "ok" ∷ codes "ok" ∷ codes "ok" ∷ codes "ok" ∷ codes "refused meta 154" ∷ codes "data 01,02,00" ∷ codes "refused range" ∷ [])
  pub stored_bytes_lost : Writes (text (codes "create a 1" ∷ codes "fwrite a 0 ff*8" ∷ codes "cut" ∷ codes "restart none" ∷ codes "fread a 0 8" ∷ []))
      (leaving Firsts (with_first_page 97 1 []) ∷ [])
      (codes "ok" ∷ codes "ok" ∷ codes "ok" ∷ codes "ok bad 0" ∷ codes "data 00*8" ∷ [])
  pub last_bytes_kept : Writes (text (codes "create a 1" ∷ codes "fwrite a 0 ff*8" ∷ codes "cut" ∷ codes "restart all" ∷ codes "fread a 0 8" ∷ []))
      (leaving Lasts (with_first_page 97 1 ((24064, 18446744073709551615) ∷ [])) ∷ [])
      (codes "ok" ∷ codes "ok" ∷ codes "ok" ∷ codes "ok bad 0" ∷ codes "data ff*8" ∷ [])
  pub bad_line_of_a_file : Writes
      (text (codes "cut" ∷ codes "restart all" ∷ codes "fread a 0 64" ∷ codes "fread a 0 65" ∷ codes "fwrite a 100 01" ∷ codes "fwrite a 64 02*64"
      ∷ codes "fread a 63 2" ∷ []))
      (leaving_lines Lasts (with_first_page 97 1 []) (3009 ∷ []) [] ∷ [])
      (codes "ok" ∷ codes "ok bad 1" ∷ codes "data 00*64" ∷ codes "poison file a 64 64" ∷ codes "poison file a 64 64" ∷ codes "ok"
      ∷ codes "data 00,02" ∷ [])

-- a store over the end of a page and into a hole, cut in some call of it; and what is written, up to what is read there at last
abbrev pub with_cut_file_store : List ℕ
with_cut_file_store =
    text (codes "create a 2" ∷ codes "fwrite a 0 05" ∷ codes "cut in 7" ∷ codes "fwrite a 4092 11*8" ∷ codes "restart none" ∷ codes "fread a 4092 8"
    ∷ [])

abbrev pub cut_file_store_lines : List ℕ → List (List ℕ)
cut_file_store_lines read = codes "ok" ∷ codes "ok" ∷ codes "ok" ∷ codes "power lost" ∷ codes "ok bad 0" ∷ read ∷ []

-- the machine with a file of two holes, and a store over both
abbrev pub two_holes : Machine
two_holes = record (fresh small) { files = new_file (codes "a") 2 ∷ [] }

abbrev pub the_file_store : Action
the_file_store = FWrite (codes "a") 4092 (replicate 8 17)

-- what may come of a cut: the store is lost or kept in part, and holes are filled together
pub record PageRuns : Type 0 where
  pub store_lost : MayWrite with_cut_file_store (leaving Firsts (with_first_page 97 2 ((24064, 5) ∷ [])) ∷ []) (cut_file_store_lines (codes "data 00*8"))
  pub hole_alone_filled : MayWrite with_cut_file_store (leaving Firsts (with_page_on 0 1 1 ++ with_first_page 97 2 ((24064, 5) ∷ [])) ∷ [])
      (cut_file_store_lines (codes "data 00*8"))
  pub store_in_part : MayWrite with_cut_file_store
      (leaving Firsts (with_page_on 0 1 1 ++ with_first_page 97 2 ((24064, 5) ∷ (24575, 1229782937960972288) ∷ [])) ∷ [])
      (cut_file_store_lines (codes "data 11*4,00*4"))
  pub holes_filled_together : (choice : Choice) (image : Image) → RestartMayLeave choice image (cut_in two_holes the_file_store)
      → AreTogether (presence_of (pages_named (codes "a") (files_read small image)))
