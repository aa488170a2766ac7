-- Worked scripts that make bytes of mapped files durable: what the machine writes.
use Rattle.std.specs.Prelude.{[], ◌∷◌, codes}
use Rattle.line_device.specs.declared.line.Choice.TheVariants.{Firsts, Lasts}
use Rattle.machine_rows.specs.PageRows.{with_first_page}
use Rattle.machine_model.specs.WorkedScripts.{text}
use Rattle.machine_rows.specs.Rows.{leaving, Writes}

pub record FlushRows : Type 0 where
  pub mapped_store_lost : Writes
      (text (codes "create a 1" ∷ codes "map a 0 4096 shared" ∷ codes "store 0 0 ff*8" ∷ codes "cut" ∷ codes "restart none" ∷ codes "fread a 0 8"
      ∷ []))
      (leaving Firsts (with_first_page 97 1 []) ∷ [])
      (codes "ok" ∷ codes "handle 0" ∷ codes "ok" ∷ codes "ok" ∷ codes "ok bad 0" ∷ codes "data 00*8" ∷ [])
  pub mapped_store_kept : Writes
      (text (codes "create a 1" ∷ codes "map a 0 4096 shared" ∷ codes "store 0 0 ff*8" ∷ codes "cut" ∷ codes "restart all" ∷ codes "fread a 0 8"
      ∷ []))
      (leaving Lasts (with_first_page 97 1 ((24064, 18446744073709551615) ∷ [])) ∷ [])
      (codes "ok" ∷ codes "handle 0" ∷ codes "ok" ∷ codes "ok" ∷ codes "ok bad 0" ∷ codes "data ff*8" ∷ [])
  pub synced_store_kept : Writes
      (text (codes "create a 1" ∷ codes "map a 0 4096 shared" ∷ codes "store 0 0 ff*8" ∷ codes "sync 0 0 1" ∷ codes "cut" ∷ codes "restart none"
      ∷ codes "fread a 0 8" ∷ []))
      (leaving Firsts (with_first_page 97 1 ((24064, 18446744073709551615) ∷ [])) ∷ [])
      (codes "ok" ∷ codes "handle 0" ∷ codes "ok" ∷ codes "ok" ∷ codes "ok" ∷ codes "ok bad 0" ∷ codes "data ff*8" ∷ [])
  pub weak_line_flushed : Writes
      (text (codes "create a 1" ∷ codes "fwrite a 0 00*4096" ∷ codes "map a 0 4096 shared" ∷ codes "weaken file a 0" ∷ codes "store 0 0 09*8"
      ∷ codes "flush 0 0 8" ∷ codes "load 0 0 8" ∷ []))
      []
      (codes "ok" ∷ codes "ok" ∷ codes "handle 0" ∷ codes "ok" ∷ codes "ok" ∷ codes "ok" ∷ codes "poison file a 0 64" ∷ [])
  pub weak_line_verified : Writes
      (text (codes "create a 1" ∷ codes "fwrite a 0 00*4096" ∷ codes "map a 0 4096 shared" ∷ codes "weaken file a 0" ∷ codes "store 0 0 09*8"
      ∷ codes "flushv 0 0 8" ∷ codes "load 0 0 8" ∷ codes "flushv 0 64 8" ∷ []))
      []
      (codes "ok" ∷ codes "ok" ∷ codes "handle 0" ∷ codes "ok" ∷ codes "ok" ∷ codes "verify file a 0 64" ∷ codes "poison file a 0 64" ∷ codes "ok"
      ∷ [])
  pub eight_spans_of_which_some_overlap : Writes
      (text (codes "create a 1" ∷ codes "fwrite a 0 01*600" ∷ codes "map a 0 4096 shared" ∷ codes "weaken file a 130" ∷ codes "weaken file a 600"
      ∷ codes "flushv 0 200 440 0 70 60 10 64 64 100 30 120 20 128 1 64 1" ∷ codes "load 0 0 128" ∷ codes "load 0 127 2" ∷ codes "load 0 600 1"
      ∷ codes "deepflush 0 0 1 0 1 0 1 0 1 0 1 0 1 0 1 0 1 0 1" ∷ []))
      []
      (codes "ok" ∷ codes "ok" ∷ codes "handle 0" ∷ codes "ok" ∷ codes "ok" ∷ codes "verify file a 128 64" ∷ codes "data 01*128"
      ∷ codes "poison file a 128 64" ∷ codes "poison file a 576 64" ∷ codes "refused limit" ∷ [])
  pub bad_line_refuses_all : Writes
      (text (codes "create a 1" ∷ codes "fwrite a 0 01*128" ∷ codes "map a 0 4096 shared" ∷ codes "weaken file a 0" ∷ codes "poison file a 64"
      ∷ codes "flush 0 0 1 100 1" ∷ codes "load 0 0 2" ∷ codes "flush 0 128 1 192 64" ∷ codes "sync 0 0 1" ∷ codes "load 0 0 2" ∷ []))
      []
      (codes "ok" ∷ codes "ok" ∷ codes "handle 0" ∷ codes "ok" ∷ codes "ok" ∷ codes "poison file a 64 64" ∷ codes "data 01*2" ∷ codes "ok"
      ∷ codes "ok" ∷ codes "poison file a 0 64" ∷ [])
  pub offsets_are_of_the_file : Writes
      (text (codes "create a 2" ∷ codes "fwrite a 4096 01" ∷ codes "map a 4128 96 shared" ∷ codes "weaken file a 4160" ∷ codes "flushv 0 0 32"
      ∷ codes "flushv 0 31 2" ∷ codes "flushv 0 95 1" ∷ codes "flushv 0 95 2" ∷ []))
      []
      (codes "ok" ∷ codes "ok" ∷ codes "handle 0" ∷ codes "ok" ∷ codes "ok" ∷ codes "verify file a 4160 64" ∷ codes "poison file a 4160 64"
      ∷ codes "refused range" ∷ [])
  pub private_one_is_left : Writes
      (text (codes "create a 1" ∷ codes "map a 0 64 private" ∷ codes "store 0 0 05" ∷ codes "load 0 0 1" ∷ codes "fread a 0 1" ∷ codes "sync 0 0 1"
      ∷ codes "flush 0 0 64" ∷ codes "flushv 0 63 1" ∷ codes "deepflush 0 63 2" ∷ codes "sync 0 64 0" ∷ codes "unmap 0" ∷ codes "sync 0 0 1"
      ∷ codes "map a 0 64 shared" ∷ codes "delete a" ∷ []))
      []
      (codes "ok" ∷ codes "handle 0" ∷ codes "ok" ∷ codes "data 05" ∷ codes "data 00" ∷ codes "ok" ∷ codes "ok" ∷ codes "ok"
      ∷ codes "refused range" ∷ codes "refused length" ∷ codes "ok" ∷ codes "refused handle" ∷ codes "handle 1" ∷ codes "refused mapped" ∷ [])
  pub reasons_in_order : Writes
      (text (codes "flush 0 0 0" ∷ codes "create a 1" ∷ codes "map a 0 100 shared" ∷ codes "flush 0 0 0 100 1" ∷ codes "flush 0 0 1 0 0"
      ∷ codes "flush 0 0 1 0 1 0 1 0 1 0 1 0 1 0 1 0 1 0 0" ∷ codes "flush 0 0 1 0 1 0 1 0 1 0 1 0 1 0 1 0 1 0 1" ∷ codes "flush 0 0" ∷ codes "sync 0 0"
      ∷ codes "sync 0 0 101" ∷ codes "sync 0 0 100" ∷ []))
      []
      (codes "refused handle" ∷ codes "ok" ∷ codes "handle 0" ∷ codes "refused range" ∷ codes "refused length" ∷ codes "refused length"
      ∷ codes "refused limit" ∷ codes "refused syntax" ∷ codes "refused syntax" ∷ codes "refused range" ∷ codes "ok" ∷ [])
