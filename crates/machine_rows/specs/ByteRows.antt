-- Worked scripts on a medium that keeps each byte of a word independently.
use Rattle.std.specs.Prelude.{◌≡◌, ℕ, List, [], ◌∷◌, codes}
use Rattle.line_device.specs.Panel.{Start}
use Rattle.line_device.specs.declared.line.Choice.{Choice}
use Rattle.line_device.specs.declared.line.Choice.TheVariants.{Seed}
use Rattle.reply_text.specs.Answer.{reply_text}
use Rattle.script_text.specs.Script.{inputs}
use Rattle.machine_model.specs.Restarting.{fresh}
use Rattle.machine_model.specs.Performing.{perform}
use Rattle.machine_model.specs.WorkedScripts.{small, text}
use Rattle.machine_rows.specs.Rows.{leaving, with_page}

-- a restart of such a medium that left zeros but for these words
abbrev pub leaving_bytes : Choice → List (ℕ × ℕ) → Start
leaving_bytes choice words = record { choice = choice; image = record (leaving choice words).image { unit = 1 } }

-- the machine of such a medium writes these lines for a script
abbrev pub WritesByBytes : List ℕ → List Start → List (List ℕ) → Type 0
WritesByBytes script starts lines = reply_text (perform (record (fresh small) { unit = 1 }) (inputs script) starts).said.answers ≡ text lines

-- bytes 2 and 5 of the word are the stored ones, the others those that were synced
pub record ByteRows : Type 0 where
  pub word_torn_by_a_seed : WritesByBytes
      (text (codes "vstore 0 00*64" ∷ codes "vsync 0 64" ∷ codes "vstore 0 ff*8" ∷ codes "cut" ∷ codes "restart seed 1" ∷ codes "vload 0 8" ∷ []))
      (leaving_bytes (Seed 1) (with_page 0 280375481794560) ∷ [])
      (codes "ok" ∷ codes "ok" ∷ codes "ok" ∷ codes "ok" ∷ codes "ok bad 0" ∷ codes "data 00*2,ff,00*2,ff,00*2" ∷ [])
  pub atomicity_of_bytes : WritesByBytes (text (codes "attr pm.store_atomicity" ∷ codes "attr pm.interrupted_store_atomicity" ∷ []))
      [] (codes "attr 1" ∷ codes "attr 0" ∷ [])
