-- Worked scripts: what the machine writes, from the script's bytes and what each restart left.
use Rattle.std.specs.Prelude.{◌≡◌, ◌+◌, ℕ, List, [], ◌∷◌, ◌++◌, codes}
use Rattle.line_device.specs.Panel.{Start}
use Rattle.line_device.specs.declared.line.Choice.{Choice}
use Rattle.line_device.specs.declared.line.Choice.TheVariants.{Firsts, Lasts}
use Rattle.word_log.specs.Changes.{changed}
use Rattle.word_tables.specs.declared.geometry.Geometry.{Geometry}
use Rattle.reply_text.specs.Answer.{reply_text}
use Rattle.script_text.specs.Script.{inputs}
use Rattle.machine_model.specs.Restarting.{fresh, zero_image}
use Rattle.machine_model.specs.Performing.{perform}
use Rattle.machine_model.specs.WorkedScripts.{small, text}

-- a restart that left zeros but for these words
abbrev pub leaving : Choice → List (ℕ × ℕ) → Start
leaving choice words = record { choice = choice; image = record (zero_image 5056) { word = changed words (λ _. 0) } }

-- the volume's first page is there, and has this word: presence words begin at line 84 of 5056, the page at line 2304
abbrev pub with_page : ℕ → ℕ → List (ℕ × ℕ)
with_page word value = (672, 1) ∷ (18432 + word, value) ∷ []

-- the machine writes these lines for a script, on a medium of these sizes
abbrev pub WritesOn : Geometry → List ℕ → List Start → List (List ℕ) → Type 0
WritesOn geo script starts lines = reply_text (perform (fresh geo) (inputs script) starts).said.answers ≡ text lines

abbrev pub Writes : List ℕ → List Start → List (List ℕ) → Type 0
Writes = WritesOn small

pub record Rows : Type 0 where
  pub unsynced_store_lost : Writes (text (codes "vstore 0 07*8" ∷ codes "cut" ∷ codes "restart none" ∷ codes "vload 0 8" ∷ []))
      (leaving Firsts (with_page 0 0) ∷ []) (codes "ok" ∷ codes "ok" ∷ codes "ok bad 0" ∷ codes "data 00*8" ∷ [])
  pub synced_store_kept : Writes
      (text (codes "vstore 0 07*8" ∷ codes "vsync 0 1" ∷ codes "cut" ∷ codes "restart none" ∷ codes "vload 0 8" ∷ []))
      (leaving Firsts (with_page 0 506381209866536711) ∷ [])
      (codes "ok" ∷ codes "ok" ∷ codes "ok" ∷ codes "ok bad 0" ∷ codes "data 07*8" ∷ [])
  pub last_values_kept : Writes (text (codes "vstore 0 07*8" ∷ codes "cut" ∷ codes "restart all" ∷ codes "vload 0 8" ∷ []))
      (leaving Lasts (with_page 0 506381209866536711) ∷ []) (codes "ok" ∷ codes "ok" ∷ codes "ok bad 0" ∷ codes "data 07*8" ∷ [])
  pub refusals_in_order : Writes
      (text (codes "vload 8184 8" ∷ codes "vload 8188 8" ∷ codes "vload 0 0" ∷ codes "restart all" ∷ codes "cut" ∷ codes "vload 0 1"
      ∷ codes "fread a 0" ∷ []))
      []
      (codes "data 00*8" ∷ codes "refused range" ∷ codes "refused length" ∷ codes "refused on" ∷ codes "ok" ∷ codes "refused off"
      ∷ codes "refused syntax" ∷ [])
  pub edges_of_the_volume : Writes
      (text (codes "vload 8191 1" ∷ codes "vload 8192 1" ∷ codes "vsync 8192 0" ∷ codes "vsync 0 8193" ∷ codes "vsync 0 8192"
      ∷ codes "vstore 8192 00" ∷ codes "vstore 8191 0f" ∷ []))
      []
      (codes "data 00" ∷ codes "refused range" ∷ codes "refused length" ∷ codes "refused range" ∷ codes "ok" ∷ codes "refused range"
      ∷ codes "ok" ∷ [])
  pub several_items_of_data : Writes (text (codes "vstore 8 0102,ff*3,AB" ∷ codes "vload 8 7" ∷ codes "vstore 8 0" ∷ codes "vstore 8 00*0" ∷ []))
      [] (codes "ok" ∷ codes "data 01,02,ff*3,ab,00" ∷ codes "refused syntax" ∷ codes "refused syntax" ∷ [])
  pub nothing_while_off : Writes
      (text (codes "cut" ∷ codes "vsync 0 1" ∷ codes "cut" ∷ codes "vload 9000 0" ∷ codes "restart all" ∷ codes "restart none" ∷ []))
      (leaving Lasts [] ∷ [])
      (codes "ok" ∷ codes "refused off" ∷ codes "refused off" ∷ codes "refused off" ∷ codes "ok bad 0" ∷ codes "refused on" ∷ [])
  pub two_restarts : Writes
      (text (codes "vstore 0 05" ∷ codes "cut" ∷ codes "restart all" ∷ codes "vstore 0 06" ∷ codes "cut" ∷ codes "restart none"
      ∷ codes "vload 0 2" ∷ []))
      (leaving Lasts (with_page 0 5) ∷ leaving Firsts (with_page 0 5) ∷ [])
      (codes "ok" ∷ codes "ok" ∷ codes "ok bad 0" ∷ codes "ok" ∷ codes "ok" ∷ codes "ok bad 0" ∷ codes "data 05,00" ∷ [])
  pub across_lines_and_pages : Writes
      (text (codes "vstore 60 aa*8" ∷ codes "vload 58 12" ∷ codes "vstore 4092 11*8" ∷ codes "vload 4091 10" ∷ codes "vsync 4095 2" ∷ []))
      [] (codes "ok" ∷ codes "data 00*2,aa*8,00*2" ∷ codes "ok" ∷ codes "data 00,11*8,00" ∷ codes "ok" ∷ [])
  pub comments_and_blank_lines : Writes
      (text (codes "# a story" ∷ [] ∷ (32 ∷ 9 ∷ []) ∷ (codes "vload 0 1" ++ 13 ∷ []) ∷ (9 ∷ codes "vload  1 1 ") ∷ codes "VLOAD 0 1" ∷ [])
      ++ codes "vload 2 1" ++ 13 ∷ [])
      [] (codes "data 00" ∷ codes "data 00" ∷ codes "refused syntax" ∷ codes "data 00" ∷ [])
