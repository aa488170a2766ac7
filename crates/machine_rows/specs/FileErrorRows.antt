-- Worked scripts with media errors of files: what the machine writes.
use Rattle.std.specs.Prelude.{[], ◌∷◌, codes}
use Rattle.line_device.specs.declared.line.Choice.TheVariants.{Lasts}
use Rattle.machine_rows.specs.MediaRows.{leaving_lines}
use Rattle.machine_rows.specs.PageRows.{with_first_page}
use Rattle.machine_model.specs.WorkedScripts.{text}
use Rattle.machine_rows.specs.Rows.{Writes}

pub record FileErrorRows : Type 0 where
  pub bad_line_named : Writes
      (text (codes "create a 1" ∷ codes "fwrite a 0 00*4096" ∷ codes "poison file a 70" ∷ codes "fread a 0 64" ∷ codes "fread a 0 65"
      ∷ codes "fwrite a 100 01" ∷ codes "poison file a 127" ∷ codes "fwrite a 64 02*64" ∷ codes "fread a 63 2" ∷ []))
      []
      (codes "ok" ∷ codes "ok" ∷ codes "ok" ∷ codes "data 00*64" ∷ codes "poison file a 64 64" ∷ codes "poison file a 64 64" ∷ codes "ok"
      ∷ codes "ok" ∷ codes "data 00,02" ∷ [])
  pub bad_line_cleared : Writes
      (text (codes "create a 2" ∷ codes "fwrite a 0 07*128" ∷ codes "poison file a 70" ∷ codes "clear file a 64" ∷ codes "fread a 63 2"
      ∷ codes "clear file a 127" ∷ codes "clear file a 4096" ∷ codes "clear file a 8192" ∷ codes "clear file b 8192" ∷ []))
      []
      (codes "ok" ∷ codes "ok" ∷ codes "ok" ∷ codes "ok" ∷ codes "data 07,00" ∷ codes "refused notpoisoned" ∷ codes "refused nothing"
      ∷ codes "refused range" ∷ codes "refused missing" ∷ [])
  pub bad_lines_told : Writes
      (text (codes "create a 2" ∷ codes "fwrite a 0 01" ∷ codes "poison file a 0" ∷ codes "poison file a 4000" ∷ codes "check a 0 4096"
      ∷ codes "check a 63 1" ∷ codes "check a 64 64" ∷ codes "check a 3967 2" ∷ codes "check a 4096 4096" ∷ codes "check a 0 8193"
      ∷ codes "check a 8193 0" ∷ codes "check a 8192 0" ∷ codes "check b 0 1" ∷ []))
      []
      (codes "ok" ∷ codes "ok" ∷ codes "ok" ∷ codes "ok" ∷ codes "bad 2 0 3968" ∷ codes "bad 1 0" ∷ codes "bad 0" ∷ codes "bad 1 3968" ∷ codes "bad 0"
      ∷ codes "refused range" ∷ codes "refused range" ∷ codes "refused length" ∷ codes "refused missing" ∷ [])
  pub no_line_of_a_hole : Writes
      (text (codes "create a 1" ∷ codes "poison file a 0" ∷ codes "weaken file a 4095" ∷ codes "weaken file a 4096" ∷ codes "weaken file b 0"
      ∷ codes "poison file b 4096" ∷ codes "check a 0 4096" ∷ []))
      []
      (codes "ok" ∷ codes "refused nothing" ∷ codes "refused nothing" ∷ codes "refused range" ∷ codes "refused missing" ∷ codes "refused missing"
      ∷ codes "bad 0" ∷ [])
  pub weak_line_until_it_is_stored_over : Writes
      (text (codes "create a 1" ∷ codes "fwrite a 0 01" ∷ codes "weaken file a 0" ∷ codes "weaken file a 0" ∷ codes "check a 0 64" ∷ codes "poison file a 0"
      ∷ codes "weaken file a 0" ∷ codes "fwrite a 0 02*64" ∷ codes "map a 0 64 shared" ∷ codes "flushv 0 0 64" ∷ codes "fread a 0 1" ∷ []))
      []
      (codes "ok" ∷ codes "ok" ∷ codes "ok" ∷ codes "ok" ∷ codes "bad 0" ∷ codes "ok" ∷ codes "ok" ∷ codes "ok" ∷ codes "handle 0" ∷ codes "ok"
      ∷ codes "data 02" ∷ [])
  pub bad_lines_counted : Writes
      (text (codes "create a 1" ∷ codes "fwrite a 0 01" ∷ codes "poison file a 64" ∷ codes "cut" ∷ codes "restart all" ∷ codes "check a 0 4096"
      ∷ codes "fread a 0 2" ∷ []))
      (leaving_lines Lasts (with_first_page 97 1 ((24064, 1) ∷ [])) (3009 ∷ []) [] ∷ [])
      (codes "ok" ∷ codes "ok" ∷ codes "ok" ∷ codes "ok" ∷ codes "ok bad 1" ∷ codes "bad 1 64" ∷ codes "data 01,00" ∷ [])
