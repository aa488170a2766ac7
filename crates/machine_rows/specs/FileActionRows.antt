-- Worked scripts with actions that leave a file old or new as a whole: what the machine writes, and what it may write after a cut.
use Rattle.std.specs.Prelude.{◌++◌, ℕ, List, [], ◌∷◌, codes, replicate}
use Rattle.line_device.specs.Panel.{Image}
use Rattle.line_device.specs.declared.line.Choice.{Choice}
use Rattle.line_device.specs.declared.line.Choice.TheVariants.{Firsts, Lasts}
use Rattle.nvm_model.specs.Page.{presence_of}
use Rattle.file_journal.specs.Standing.{files_read}
use Rattle.script_text.specs.Action.{Action}
use Rattle.script_text.specs.Action.Action.{FMulti}
use Rattle.machine_rows.specs.CutRows.{MayWrite}
use Rattle.machine_rows.specs.FileRows.{with_inode, with_page_on}
use Rattle.machine_model.specs.OnPages.{pages_named}
use Rattle.machine_rows.specs.PageRows.{pairs_stored, so_many_ok, two_holes, with_first_page}
use Rattle.machine_model.specs.Restarting.{RestartMayLeave}
use Rattle.machine_model.specs.WorkedScripts.{small, text}
use Rattle.machine_rows.specs.Rows.{leaving, Writes}
use Rattle.machine_rows.specs.VolumeRows.{AreTogether, cut_in}

pub record FileActionRows : Type 0 where
  pub bad_line_that_no_range_covers : Writes
      (text (codes "create a 1" ∷ codes "fwrite a 0 00*4096" ∷ codes "poison file a 70" ∷ codes "fread a 0 64" ∷ codes "fread a 0 65"
      ∷ codes "fwrite a 100 01" ∷ codes "fatomic a 0 02*64" ∷ codes "fatomic a 0 02*128" ∷ codes "fread a 64 2" ∷ []))
      []
      (codes "ok" ∷ codes "ok" ∷ codes "ok" ∷ codes "data 00*64" ∷ codes "poison file a 64 64" ∷ codes "poison file a 64 64"
      ∷ codes "poison file a 64 64" ∷ codes "ok" ∷ codes "data 02*2" ∷ [])
  pub room_for_sixteen_pages : Writes
      (text (codes "create a 17" ∷ codes "fwrite a 0 01*65536" ∷ codes "fwrite a 65536 01" ∷ codes "fatomic a 0 02*65536" ∷ []))
      [] (codes "ok" ∷ codes "ok" ∷ codes "refused full" ∷ codes "ok" ∷ [])
  pub rest_of_a_page_stays : Writes
      (text (codes "create a 2" ∷ codes "fwrite a 0 05*8" ∷ codes "fatomic a 4 01*2" ∷ codes "fread a 0 10" ∷ codes "fatomic a 4090 07*8"
      ∷ codes "fread a 4088 12" ∷ []))
      []
      (codes "ok" ∷ codes "ok" ∷ codes "ok" ∷ codes "data 05*4,01*2,05*2,00*2" ∷ codes "ok" ∷ codes "data 00*2,07*8,00*2" ∷ [])
  pub bytes_beside_are_durable_too : Writes
      (text (codes "create a 1" ∷ codes "fwrite a 64 05*8" ∷ codes "fatomic a 0 01*8" ∷ codes "cut" ∷ codes "restart none" ∷ codes "fread a 0 8"
      ∷ codes "fread a 64 8" ∷ []))
      (leaving Firsts (with_inode 0 97 1 ++ (with_page_on 0 0 1 ++ ((24576, 72340172838076673) ∷ (24584, 361700864190383365) ∷ []))) ∷ [])
      (codes "ok" ∷ codes "ok" ∷ codes "ok" ∷ codes "ok" ∷ codes "ok bad 0" ∷ codes "data 01*8" ∷ codes "data 05*8" ∷ [])
  pub reasons_in_order : Writes
      (text (codes "fatomic a 0 01" ∷ codes "fmulti a 9 01 9 01" ∷ codes "create a 17" ∷ codes "fatomic a 69632 01" ∷ codes "fmulti a 1 01*65535 69632 01"
      ∷ codes "fatomic a 1 01*65536" ∷ codes "fmulti a 0 01 0 01 2 01 3 01 4 01 5 01 6 01 7 01 8 01" ∷ codes "fmulti a 0 01*8 4 02*4"
      ∷ codes "fmulti a 0 01*8 8 02*4" ∷ codes "fread a 7 2" ∷ []))
      []
      (codes "refused missing" ∷ codes "refused missing" ∷ codes "ok" ∷ codes "refused range" ∷ codes "refused range" ∷ codes "refused limit"
      ∷ codes "refused limit" ∷ codes "refused overlap" ∷ codes "ok" ∷ codes "data 01,02" ∷ [])
  pub pages_are_counted_once : Writes
      (text (codes "create a 16" ∷ codes "fmulti a 0 01 2 02 4096 03*61440" ∷ codes "fread a 0 4" ∷ codes "fread a 65535 1" ∷ []))
      [] (codes "ok" ∷ codes "ok" ∷ codes "data 01,00,02,00" ∷ codes "data 03" ∷ [])
  pub ranges_that_cover_a_line_together : Writes
      (text (codes "create a 1" ∷ codes "fwrite a 0 01*64" ∷ codes "poison file a 0" ∷ codes "fmulti a 0 02*32 32 02*32" ∷ codes "fmulti a 64 03 0 02*64"
      ∷ codes "fread a 63 2" ∷ []))
      []
      (codes "ok" ∷ codes "ok" ∷ codes "ok" ∷ codes "poison file a 0 64" ∷ codes "ok" ∷ codes "data 02,03" ∷ [])
  pub weak_line_is_healthy_again : Writes
      (text (codes "create a 1" ∷ codes "fwrite a 0 00*128" ∷ codes "weaken file a 64" ∷ codes "fatomic a 0 01" ∷ codes "fsync a"
      ∷ codes "check a 0 4096" ∷ codes "event" ∷ []))
      []
      (codes "ok" ∷ codes "ok" ∷ codes "ok" ∷ codes "ok" ∷ codes "ok" ∷ codes "bad 0" ∷ codes "none" ∷ [])
  pub pages_discarded : Writes
      (text (codes "create a 2" ∷ codes "fwrite a 4090 07*12" ∷ codes "map a 0 8192 shared" ∷ codes "map a 4096 8 private" ∷ codes "fdiscard a 1 1"
      ∷ codes "load 0 4090 8" ∷ codes "load 1 0 8" ∷ codes "fdiscard a 1 2" ∷ codes "fdiscard a 2 0" ∷ codes "fdiscard b 0 1" ∷ codes "fdiscard a 0 2"
      ∷ codes "fread a 4088 8" ∷ codes "poison file a 0" ∷ []))
      []
      (codes "ok" ∷ codes "ok" ∷ codes "handle 0" ∷ codes "handle 1" ∷ codes "ok" ∷ codes "data 07*6,00*2" ∷ codes "data 07*6,00*2"
      ∷ codes "refused range" ∷ codes "refused length" ∷ codes "refused missing" ∷ codes "ok" ∷ codes "data 00*8" ∷ codes "refused nothing" ∷ [])
  pub file_made_durable : Writes
      (text (codes "fsync a" ∷ codes "create a 2" ∷ codes "create b 0" ∷ codes "fsync b" ∷ codes "fwrite a 0 01*8" ∷ codes "fwrite a 4096 02*8"
      ∷ codes "weaken file a 4096" ∷ codes "map a 4096 64 shared" ∷ codes "fsync a" ∷ codes "event" ∷ codes "event" ∷ codes "fread a 4096 1"
      ∷ codes "fsync a" ∷ codes "fread a 0 8" ∷ []))
      []
      (codes "refused missing" ∷ codes "ok" ∷ codes "ok" ∷ codes "ok" ∷ codes "ok" ∷ codes "ok" ∷ codes "ok" ∷ codes "handle 0" ∷ codes "ok"
      ∷ codes "event a 4096 64 mapped live" ∷ codes "none" ∷ codes "poison file a 4096 64" ∷ codes "poison file a 4096 64" ∷ codes "data 01*8" ∷ [])
  pub bad_metadata_stops_them : Writes
      (text (codes "create a 1" ∷ codes "fwrite a 0 05" ∷ codes "poison meta 154" ∷ codes "fatomic a 0 01" ∷ codes "fdiscard a 0 1" ∷ codes "fsync a"
      ∷ codes "fatomic a 4096 01" ∷ codes "fdiscard a 0 0" ∷ codes "fread a 0 1" ∷ []))
      []
      (codes "ok" ∷ codes "ok" ∷ codes "ok" ∷ codes "refused meta 154" ∷ codes "refused meta 154" ∷ codes "ok" ∷ codes "refused range"
      ∷ codes "refused length" ∷ codes "data 05" ∷ [])
  pub discard_gives_room : Writes
      (text (codes "create a 17" ∷ pairs_stored 8 ++ (codes "fatomic a 65536 01" ∷ codes "fdiscard a 0 1" ∷ codes "fatomic a 65536 01"
      ∷ codes "fread a 65536 2" ∷ codes "fread a 4094 3" ∷ [])))
      []
      (so_many_ok 9 ++ (codes "refused full" ∷ codes "ok" ∷ codes "ok" ∷ codes "data 01,00" ∷ codes "data 00*2,02" ∷ []))

-- ranges in two pages, one of them a hole, whose write is cut in its first call; and what is written
abbrev pub with_cut_write : List ℕ
with_cut_write =
    text (codes "create a 2" ∷ codes "fwrite a 0 05*8" ∷ codes "cut in 1" ∷ codes "fmulti a 0 01*8 4096 02*8" ∷ codes "restart all"
    ∷ codes "fread a 0 8" ∷ codes "fread a 4096 8" ∷ [])

abbrev pub cut_write_lines : List ℕ → List ℕ → List (List ℕ)
cut_write_lines first second = codes "ok" ∷ codes "ok" ∷ codes "ok" ∷ codes "power lost" ∷ codes "ok bad 0" ∷ first ∷ second ∷ []

-- a write of two ranges over both holes of a file
abbrev pub the_file_write : Action
the_file_write = FMulti (codes "a") (record { start = 0; len = 8 } ∷ record { start = 4096; len = 8 } ∷ []) (replicate 16 1)

-- what may come of a cut: all ranges have their old bytes, or all their new ones
pub record FileActionRuns : Type 0 where
  pub write_lost : MayWrite with_cut_write (leaving Lasts (with_first_page 97 2 ((24064, 361700864190383365) ∷ [])) ∷ [])
      (cut_write_lines (codes "data 05*8") (codes "data 00*8"))
  pub write_done : MayWrite with_cut_write
      (leaving Lasts (with_inode 0 97 2 ++ (with_page_on 0 0 1 ++ (with_page_on 0 1 2 ++ ((24576, 72340172838076673) ∷ (25088, 144680345676153346) ∷ [])))) ∷ [])
      (cut_write_lines (codes "data 01*8") (codes "data 02*8"))
  pub written_together : (choice : Choice) (image : Image) → RestartMayLeave choice image (cut_in two_holes the_file_write)
      → AreTogether (presence_of (pages_named (codes "a") (files_read small image)))
