-- Worked scripts on attributes and write-back: what the machine writes.
use Rattle.std.specs.Prelude.{[], ◌∷◌, codes}
use Rattle.line_device.specs.declared.line.Choice.TheVariants.{Firsts}
use Rattle.machine_model.specs.WorkedScripts.{text}
use Rattle.machine_rows.specs.Rows.{leaving, with_page, Writes}

pub record AttributeRows : Type 0 where
  pub in_each_mode : Writes
      (text (codes "bread 1" ∷ codes "restart all" ∷ codes "attr pm.error_range" ∷ codes "attr x.y" ∷ codes "cut" ∷ codes "attr block.count"
      ∷ codes "evict 1" ∷ []))
      []
      (codes "refused syntax" ∷ codes "refused on" ∷ codes "attr 64" ∷ codes "refused unknown" ∷ codes "ok" ∷ codes "attr 8"
      ∷ codes "refused off" ∷ [])
  pub unknown_in_each_mode : Writes (text (codes "attr block" ∷ codes "cut" ∷ codes "attr BLOCK.count" ∷ codes "attr" ∷ []))
      [] (codes "refused unknown" ∷ codes "ok" ∷ codes "refused unknown" ∷ codes "refused syntax" ∷ [])
  pub written_back_and_kept : Writes
      (text (codes "vstore 0 ff*8" ∷ codes "evict 1000000" ∷ codes "cut" ∷ codes "restart none" ∷ codes "vload 0 8" ∷ []))
      (leaving Firsts (with_page 0 18446744073709551615) ∷ [])
      (codes "ok" ∷ codes "ok" ∷ codes "ok" ∷ codes "ok bad 0" ∷ codes "data ff*8" ∷ [])
  pub any_number_of_lines : Writes (text (codes "evict 0" ∷ codes "evict 4294967295" ∷ codes "evict" ∷ []))
      [] (codes "ok" ∷ codes "ok" ∷ codes "refused syntax" ∷ [])
