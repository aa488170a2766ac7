-- Worked scripts with blocks that are written together, and with cuts: what the machine writes, and what it may write.
use Rattle.std.specs.Prelude.{◌≡◌, ◌⊎◌, ◌++◌, ◌+◌, ◌-◌, ◌*◌, ◌&&◌, ℕ, List, [], ◌∷◌, codes, nat_le, nat_lt, if◌then◌else◌}
use Rattle.line_device.specs.Panel.{Start}
use Rattle.line_device.specs.declared.line.Choice.{Choice}
use Rattle.line_device.specs.declared.line.Choice.TheVariants.{Firsts, Lasts}
use Rattle.word_tables.specs.declared.geometry.Geometry.{Geometry}
use Rattle.reply_text.specs.Answer.{reply_text}
use Rattle.script_text.specs.Script.{inputs}
use Rattle.machine_model.specs.Machine.{Machine}
use Rattle.machine_model.specs.Restarting.{fresh, zero_image}
use Rattle.machine_model.specs.Run.{Transcript, Run}
use Rattle.machine_model.specs.WorkedScripts.{small, text}
use Rattle.machine_rows.specs.Rows.{leaving, with_page, Writes, WritesOn}

-- ten times as many blocks
abbrev pub larger : Geometry
larger = record { blocks = 80; vpages = 2; fpages = 32 }

-- A restart that left zeros but for so many blocks from 0 on, on the first units, whose words have this value: the map begins at
-- line 18 of 5056, the units at line 2368.
abbrev pub leaving_first : Choice → ℕ → ℕ → Start
leaving_first choice count value = record {
  choice = choice;
  image = record (zero_image 5056) {
    word = λ p.
        if nat_le 144 p && nat_lt p (144 + count) then p - 142 else (if nat_le 18944 p && nat_lt p (18944 + 64 * count) then value else 0);
  };
}

-- The machine may write these lines for a script, its restarts leaving these: so it does in one of its runs.
pub record MayWrite (script : List ℕ) (starts : List Start) (lines : List (List ℕ)) : Type 0 where
  pub said : Transcript
  pub end : Machine
  pub run : Run (fresh small) (inputs script) said end
  pub left : said.starts ≡ starts
  pub written : reply_text said.answers ≡ text lines

-- a cut that comes in no call of the script
abbrev pub with_late_cut : List ℕ
with_late_cut =
    text (codes "cut in 1000000" ∷ codes "bwrite 0 01*512" ∷ codes "bread 0 1" ∷ codes "cut" ∷ codes "restart all" ∷ codes "bread 0 1" ∷ [])

abbrev pub late_cut_lines : List (List ℕ)
late_cut_lines = codes "ok" ∷ codes "ok" ∷ codes "data 01*512" ∷ codes "ok" ∷ codes "ok bad 0" ∷ codes "data 01*512" ∷ []

-- a cut in the first call of a write of two blocks together; and what is written, up to what is read of them at last
abbrev pub with_cut_write : List ℕ
with_cut_write =
    text (codes "cut in 1" ∷ codes "batomic 0 11*1024" ∷ codes "bread 0 1" ∷ codes "restart none" ∷ codes "bread 0 2" ∷ [])

abbrev pub cut_write_lines : List ℕ → List (List ℕ)
cut_write_lines read = codes "ok" ∷ codes "power lost" ∷ codes "refused off" ∷ codes "ok bad 0" ∷ read ∷ []

-- a cut in the second call of a store over two lines; the first line was durable
abbrev pub with_cut_store : List ℕ
with_cut_store =
    text (codes "vstore 0 00*64" ∷ codes "vsync 0 64" ∷ codes "cut in 2" ∷ codes "vstore 60 ff*8" ∷ codes "restart all" ∷ codes "vload 60 8" ∷ [])

abbrev pub cut_store_lines : List ℕ → List (List ℕ)
cut_store_lines read = codes "ok" ∷ codes "ok" ∷ codes "ok" ∷ codes "power lost" ∷ codes "ok bad 0" ∷ read ∷ []

pub record CutRows : Type 0 where
  pub ranges_apart_and_whole : Writes (text (codes "bmulti 0 11*512 0 22*512" ∷ codes "batomic 0 11*100" ∷ [])) []
      (codes "refused overlap" ∷ codes "refused length" ∷ [])
  pub sixty_four_together : WritesOn larger (text (codes "batomic 0 01*33280" ∷ codes "batomic 0 01*32768" ∷ [])) []
      (codes "refused limit" ∷ codes "ok" ∷ [])
  pub sixty_four_in_ranges : WritesOn larger (text (codes "bmulti 0 01*16896 40 01*16896" ∷ [])) [] (codes "refused limit" ∷ [])
  pub ranges_written : Writes
      (text (codes "bmulti 2 11*512 5 22*1024" ∷ codes "bread 2 1" ∷ codes "bread 5 2" ∷ codes "bread 3 1" ∷ [])) []
      (codes "ok" ∷ codes "data 11*512" ∷ codes "data 22*1024" ∷ codes "data 00*512" ∷ [])
  pub refusals_of_ranges : Writes
      (text (codes "bmulti 7 11*1024 0 22*100" ∷ codes "bmulti 0 11*100 1 01*512 2 01*512 3 01*512 4 01*512 5 01*512 6 01*512 7 01*512 0 01*512"
      ∷ codes "bmulti 0 01*512 1 01*512 2 01*512 3 01*512 4 01*512 5 01*512 6 01*512 7 01*512 0 01*512"
      ∷ codes "bmulti 0 11*512 1 22*512 0 33*512" ∷ codes "bread 0 1" ∷ [])) []
      (codes "refused range" ∷ codes "refused length" ∷ codes "refused limit" ∷ codes "refused overlap" ∷ codes "data 00*512" ∷ [])
  pub cut_after_no_calls : Writes (text (codes "cut in 0" ∷ codes "cut in 5" ∷ codes "cut" ∷ codes "cut in 5" ∷ [])) []
      (codes "refused range" ∷ codes "ok" ∷ codes "ok" ∷ codes "ok" ∷ [])
  pub cut_that_never_came : Writes with_late_cut (leaving_first Lasts 1 72340172838076673 ∷ []) late_cut_lines

-- what may come of a cut
pub record CutRuns : Type 0 where
  pub cut_that_never_came : MayWrite with_late_cut (leaving_first Lasts 1 72340172838076673 ∷ []) late_cut_lines
  pub write_lost : MayWrite with_cut_write (leaving_first Firsts 0 0 ∷ []) (cut_write_lines (codes "data 00*1024"))
  pub write_kept : MayWrite with_cut_write (leaving_first Firsts 2 1229782938247303441 ∷ []) (cut_write_lines (codes "data 11*1024"))
  pub write_all_or_nothing : (starts : List Start) (shown : List ℕ) → MayWrite with_cut_write starts (cut_write_lines (codes "data " ++ shown))
      → (shown ≡ codes "00*1024") ⊎ (shown ≡ codes "11*1024")
  pub write_never_in_part : (starts : List Start) → ¬ MayWrite with_cut_write starts (cut_write_lines (codes "data 11*512,00*512"))
  pub store_in_part : MayWrite with_cut_store (leaving Lasts (with_page 7 18446744069414584320) ∷ []) (cut_store_lines (codes "data ff*4,00*4"))
