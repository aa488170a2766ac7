-- Worked scripts on blocks: what the machine writes.
use Rattle.std.specs.Prelude.{◌==◌, ◌&&◌, ℕ, [], ◌∷◌, codes, nat_le, nat_lt, if◌then◌else◌}
use Rattle.line_device.specs.Panel.{Start}
use Rattle.line_device.specs.declared.line.Choice.TheVariants.{Firsts}
use Rattle.machine_model.specs.Restarting.{zero_image}
use Rattle.machine_model.specs.WorkedScripts.{text}
use Rattle.machine_rows.specs.Rows.{Writes}

-- A restart that left block 1 on the first unit, whose 64 words have this value: the map is on line 18 of 5056, the unit on
-- lines 2368 to 2375.
abbrev pub leaving_block : ℕ → Start
leaving_block value = record {
  choice = Firsts;
  image = record (zero_image 5056) { word = λ p. if p == 145 then 2 else (if nat_le 18944 p && nat_lt p 19008 then value else 0) };
}

pub record BlockRows : Type 0 where
  pub read_of_new_blocks : Writes (text (codes "bread 7 1" ∷ codes "bread 7 2" ∷ codes "bread 0 0" ∷ [])) []
      (codes "data 00*512" ∷ codes "refused range" ∷ codes "refused length" ∷ [])
  pub discard_of_absent_block : Writes
      (text (codes "bexists 0" ∷ codes "bdiscard 0 1" ∷ codes "bexists 0" ∷ codes "bdiscardif 0 8" ∷ codes "bread 0 1" ∷ [])) []
      (codes "no" ∷ codes "ok" ∷ codes "no" ∷ codes "ok" ∷ codes "data 00*512" ∷ [])
  pub written_block_kept : Writes (text (codes "bwrite 1 aa*512" ∷ codes "cut" ∷ codes "restart none" ∷ codes "bread 1 1" ∷ []))
      (leaving_block 12297829382473034410 ∷ []) (codes "ok" ∷ codes "ok" ∷ codes "ok bad 0" ∷ codes "data aa*512" ∷ [])
  pub write_over_a_scar : Writes
      (text (codes "bscar 2 1" ∷ codes "bread 1 3" ∷ codes "bexists 2" ∷ codes "bwrite 2 05*512" ∷ codes "bread 2 1" ∷ [])) []
      (codes "ok" ∷ codes "scarred 2" ∷ codes "yes" ∷ codes "ok" ∷ codes "data 05*512" ∷ [])
  pub absent_written_and_scarred : Writes
      (text (codes "bwrite 1 01*512" ∷ codes "bscar 3 1" ∷ codes "bread 0 3" ∷ codes "bread 0 4" ∷ codes "bdiscard 3 1" ∷ codes "bread 1 3" ∷ []))
      [] (codes "ok" ∷ codes "ok" ∷ codes "data 00*512,01*512,00*512" ∷ codes "scarred 3" ∷ codes "ok" ∷ codes "data 01*512,00*1024" ∷ [])
  pub scar_of_pairs : Writes
      (text (codes "bscar 0 2 1 1" ∷ codes "bscar 0 1 8 1" ∷ codes "bscar 0 1 2 0" ∷ codes "bscar 0 1 2 1" ∷ codes "bexists 1" ∷ codes "bexists 2" ∷ []))
      []
      (codes "refused overlap" ∷ codes "refused range" ∷ codes "refused length" ∷ codes "ok" ∷ codes "no" ∷ codes "yes" ∷ [])
  pub last_block : Writes
      (text (codes "bwrite 7 11*512" ∷ codes "bwrite 7 22*1024" ∷ codes "bwrite 8 33*512" ∷ codes "bread 7 1" ∷ codes "bexists 7" ∷ codes "bexists 8" ∷ []))
      [] (codes "ok" ∷ codes "refused range" ∷ codes "refused range" ∷ codes "data 11*512" ∷ codes "yes" ∷ codes "refused range" ∷ [])
  pub whole_blocks_alone : Writes
      (text (codes "bwrite 0 11*100" ∷ codes "bwrite 0 11*513" ∷ codes "bwrite 8 11*100" ∷ codes "bwrite 0 11*512,22*512" ∷ codes "bread 0 2" ∷ []))
      [] (codes "refused length" ∷ codes "refused length" ∷ codes "refused range" ∷ codes "ok" ∷ codes "data 11*512,22*512" ∷ [])
  pub limits_of_spans : Writes
      (text (codes "bscar 0 1 1 1 2 1 3 1 4 1 5 1 6 1 7 1" ∷ codes "bscar 0 1 1 1 2 1 3 1 4 1 5 1 6 1 7 1 0 1" ∷ codes "bdiscard 0 9" ∷ codes "bdiscardif 8 0" ∷ []))
      [] (codes "ok" ∷ codes "refused limit" ∷ codes "refused range" ∷ codes "refused length" ∷ [])
  pub blocks_and_volume_apart : Writes
      (text (codes "bwrite 0 11*512" ∷ codes "vstore 0 22*512" ∷ codes "bread 0 1" ∷ codes "vload 0 1" ∷ codes "cut" ∷ codes "bread 0 1" ∷ []))
      [] (codes "ok" ∷ codes "ok" ∷ codes "data 11*512" ∷ codes "data 22" ∷ codes "ok" ∷ codes "refused off" ∷ [])
