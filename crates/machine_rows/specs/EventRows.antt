-- Worked scripts that are told of bad lines of files: what the machine writes.
use Rattle.std.specs.Prelude.{[], ◌∷◌, codes}
use Rattle.line_device.specs.declared.line.Choice.TheVariants.{Lasts}
use Rattle.machine_rows.specs.MediaRows.{leaving_lines}
use Rattle.machine_rows.specs.PageRows.{with_first_page}
use Rattle.machine_model.specs.WorkedScripts.{text}
use Rattle.machine_rows.specs.Rows.{Writes}

pub record EventRows : Type 0 where
  pub weak_line_lost : Writes
      (text (codes "create a 1" ∷ codes "fwrite a 0 00*4096" ∷ codes "map a 0 4096 shared" ∷ codes "weaken file a 0" ∷ codes "store 0 0 09*8"
      ∷ codes "flush 0 0 8" ∷ codes "load 0 0 8" ∷ codes "event" ∷ codes "event" ∷ []))
      []
      (codes "ok" ∷ codes "ok" ∷ codes "handle 0" ∷ codes "ok" ∷ codes "ok" ∷ codes "ok" ∷ codes "poison file a 0 64"
      ∷ codes "event a 0 64 mapped live" ∷ codes "none" ∷ [])
  pub weak_line_lost_and_looked_at : Writes
      (text (codes "create a 1" ∷ codes "fwrite a 0 00*4096" ∷ codes "map a 0 4096 shared" ∷ codes "weaken file a 0" ∷ codes "store 0 0 09*8"
      ∷ codes "flushv 0 0 8" ∷ codes "load 0 0 8" ∷ codes "event" ∷ []))
      []
      (codes "ok" ∷ codes "ok" ∷ codes "handle 0" ∷ codes "ok" ∷ codes "ok" ∷ codes "verify file a 0 64" ∷ codes "poison file a 0 64"
      ∷ codes "event a 0 64 mapped live" ∷ [])
  pub one_for_each_line_and_not_each_span : Writes
      (text (codes "create a 1" ∷ codes "fwrite a 0 01*300" ∷ codes "map a 0 4096 shared" ∷ codes "weaken file a 192" ∷ codes "weaken file a 64"
      ∷ codes "flush 0 250 1 60 10 64 64 0 200" ∷ codes "event" ∷ codes "event" ∷ codes "event" ∷ codes "check a 0 4096" ∷ []))
      []
      (codes "ok" ∷ codes "ok" ∷ codes "handle 0" ∷ codes "ok" ∷ codes "ok" ∷ codes "ok" ∷ codes "event a 64 64 mapped live"
      ∷ codes "event a 192 64 mapped live" ∷ codes "none" ∷ codes "bad 2 64 192" ∷ [])
  pub mapped_by_a_shared_one_that_has_the_line : Writes
      (text (codes "create a 1" ∷ codes "fwrite a 0 01*300" ∷ codes "map a 0 64 private" ∷ codes "map a 100 20 shared" ∷ codes "poison file a 0"
      ∷ codes "poison file a 64" ∷ codes "unmap 1" ∷ codes "poison file a 128" ∷ codes "event" ∷ codes "event" ∷ codes "event" ∷ []))
      []
      (codes "ok" ∷ codes "ok" ∷ codes "handle 0" ∷ codes "handle 1" ∷ codes "ok" ∷ codes "ok" ∷ codes "ok" ∷ codes "ok"
      ∷ codes "event a 0 64 unmapped live" ∷ codes "event a 64 64 mapped live" ∷ codes "event a 128 64 unmapped live" ∷ [])
  pub told_by_the_name_that_it_had : Writes
      (text (codes "event" ∷ codes "create b 1" ∷ codes "fwrite b 0 01" ∷ codes "poison file b 5" ∷ codes "poison file b 6" ∷ codes "poison file b 4096"
      ∷ codes "rename b a" ∷ codes "clear file a 0" ∷ codes "event" ∷ codes "event" ∷ []))
      []
      (codes "none" ∷ codes "ok" ∷ codes "ok" ∷ codes "ok" ∷ codes "ok" ∷ codes "refused range" ∷ codes "ok" ∷ codes "ok"
      ∷ codes "event b 0 64 unmapped live" ∷ codes "none" ∷ [])
  pub found_again_by_a_restart : Writes
      (text (codes "create a 1" ∷ codes "fwrite a 0 01" ∷ codes "map a 0 4096 shared" ∷ codes "poison file a 64" ∷ codes "cut" ∷ codes "event"
      ∷ codes "restart all" ∷ codes "event" ∷ codes "event" ∷ []))
      (leaving_lines Lasts (with_first_page 97 1 ((24064, 1) ∷ [])) (3009 ∷ []) [] ∷ [])
      (codes "ok" ∷ codes "ok" ∷ codes "handle 0" ∷ codes "ok" ∷ codes "ok" ∷ codes "refused off" ∷ codes "ok bad 1"
      ∷ codes "event a 64 64 unmapped restart" ∷ codes "none" ∷ [])
