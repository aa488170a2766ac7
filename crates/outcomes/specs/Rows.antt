-- Worked questions: whether a program may find this after a cut, from its script's bytes on.
use Rattle.std.specs.Prelude.{◌≡◌, ℕ, Bool, true, false, List, [], ◌∷◌, ◌++◌, codes, replicate}
use Rattle.reply_text.specs.declared.reply.Why.TheVariants.{Missing, Range}
use Rattle.script_text.specs.Script.{inputs}
use Rattle.machine_model.specs.Restarting.{fresh}
use Rattle.machine_model.specs.WorkedScripts.{small, text}
use Rattle.outcomes.specs.Blocks.{BlockReply}
use Rattle.outcomes.specs.Blocks.BlockReply.{Shows as ShowsBlocks}
use Rattle.outcomes.specs.Finds.{may_find}
use Rattle.outcomes.specs.Pages.{PageReply}
use Rattle.outcomes.specs.Pages.PageReply.{Shows, Poison, Refuses}
use Rattle.outcomes.specs.Seen.{Seen}
use Rattle.outcomes.specs.Seen.Seen.{of_volume, of_blocks, of_file}

-- a program on a new device of two volume pages, and what it looks at
abbrev pub Answers : List (List ℕ) → List Seen → Bool → Type 0
Answers lines look may = may_find (fresh small) (inputs (text lines)) look ≡ may

abbrev pub vload : ℕ → ℕ → PageReply → Seen
vload start len reply = of_volume (record { start = start; len = len; reply = reply })

abbrev pub fread : List ℕ → ℕ → ℕ → PageReply → Seen
fread name start len reply = of_file (record { name = name; pages = record { start = start; len = len; reply = reply } })

abbrev pub bread : ℕ → ℕ → BlockReply → Seen
bread first count reply = of_blocks (record { first = first; count = count; reply = reply })

-- the count of records shows one, and the record is not there
abbrev pub counted_too_early : List Seen
counted_too_early = vload 0 1 (Shows (1 ∷ [])) ∷ vload 64 8 (Shows (replicate 8 0)) ∷ []

-- two blocks, one of them written
abbrev pub one_of_two : List Seen
one_of_two = bread 0 2 (ShowsBlocks (replicate 512 1 ++ replicate 512 0)) ∷ []

pub record OutcomeRows : Type 0 where
  pub record_before_count : Answers
      (codes "vstore 64 07*8" ∷ codes "vsync 64 8" ∷ codes "vstore 0 01" ∷ codes "vsync 0 1" ∷ []) counted_too_early false
  pub both_by_one_sync : Answers (codes "vstore 64 07*8" ∷ codes "vstore 0 01" ∷ codes "vsync 0 72" ∷ []) counted_too_early true
  pub no_order_within_a_line : Answers (codes "vstore 8 07*8" ∷ codes "vstore 0 01" ∷ [])
      (vload 0 9 (Shows (1 ∷ replicate 8 0)) ∷ []) true
  pub each_value_of_a_word : Answers (codes "vstore 0 01" ∷ codes "vstore 0 02" ∷ codes "vstore 0 03" ∷ codes "vsync 0 1" ∷ [])
      (vload 0 1 (Shows (2 ∷ [])) ∷ []) true
  pub none_before_its_sync : Answers (codes "vstore 0 01" ∷ codes "vsync 0 1" ∷ codes "vstore 0 02" ∷ codes "# a comment" ∷ codes "vstore 0 03" ∷ [])
      (vload 0 1 (Shows (4 ∷ [])) ∷ []) false
  pub a_word_is_whole : Answers (codes "vstore 0 0101010101010101" ∷ []) (vload 0 2 (Shows (1 ∷ 0 ∷ [])) ∷ []) false
  pub a_word_is_one_value : Answers (codes "vstore 0 01" ∷ codes "vstore 0 02" ∷ [])
      (vload 0 1 (Shows (1 ∷ [])) ∷ vload 0 1 (Shows (2 ∷ [])) ∷ []) false
  pub blocks_together : Answers (codes "batomic 0 01*1024" ∷ []) one_of_two false
  pub blocks_one_by_one : Answers (codes "bwrite 0 01*1024" ∷ []) one_of_two true
  pub a_bad_line_is_named : Answers (codes "vstore 0 07*128" ∷ codes "vsync 0 128" ∷ codes "poison volume 64" ∷ []) (vload 0 128 (Poison 64) ∷ []) true
  pub no_other_line : Answers (codes "vstore 0 07*128" ∷ codes "vsync 0 128" ∷ codes "poison volume 64" ∷ []) (vload 0 128 (Poison 0) ∷ []) false
  pub one_worn_line_of_two : Answers
      (codes "vstore 0 07*128" ∷ codes "weaken volume 0" ∷ codes "weaken volume 64" ∷ codes "vsync 0 128" ∷ [])
      (vload 0 8 (Shows (replicate 8 7)) ∷ vload 64 8 (Poison 64) ∷ []) true
  pub pages_one_by_one : Answers (codes "vstore 0 07" ∷ codes "vstore 4096 08" ∷ codes "vsync 0 4097" ∷ codes "vdiscardif 0 2" ∷ [])
      (vload 0 1 (Shows (0 ∷ [])) ∷ vload 4096 1 (Shows (8 ∷ [])) ∷ []) true
  pub pages_together : Answers (codes "vstore 0 07" ∷ codes "vstore 4096 08" ∷ codes "vsync 0 1" ∷ codes "vsync 4096 1" ∷ codes "vdiscard 0 2" ∷ [])
      (vload 0 1 (Shows (0 ∷ [])) ∷ vload 64 1 (Shows (0 ∷ [])) ∷ vload 4096 1 (Shows (0 ∷ [])) ∷ []) true
  pub a_read_past_the_end : Answers [] (vload 8192 1 (Refuses Range) ∷ []) true
  pub a_read_within : Answers [] (vload 0 1 (Refuses Range) ∷ []) false
  pub renamed_too_early : Answers (codes "create t 1" ∷ codes "fwrite t 0 07*8" ∷ codes "rename t f" ∷ [])
      (fread (codes "f") 0 8 (Shows (replicate 8 0)) ∷ []) true
  pub renamed_once_durable : Answers (codes "create t 1" ∷ codes "fwrite t 0 07*8" ∷ codes "fsync t" ∷ codes "rename t f" ∷ [])
      (fread (codes "f") 0 8 (Shows (replicate 8 0)) ∷ []) false
  pub header_by_one_write : Answers (codes "create f 1" ∷ codes "fatomic f 0 01*16" ∷ [])
      (fread (codes "f") 0 16 (Shows (replicate 8 1 ++ replicate 8 0)) ∷ []) false
  pub header_by_a_store : Answers (codes "create f 1" ∷ codes "fwrite f 0 01*16" ∷ [])
      (fread (codes "f") 0 16 (Shows (replicate 8 1 ++ replicate 8 0)) ∷ []) true
  pub through_a_mapping : Answers
      (codes "create f 1" ∷ codes "map f 0 4096 shared" ∷ codes "store 0 64 07*8" ∷ codes "sync 0 64 8" ∷ codes "store 0 0 01" ∷ codes "sync 0 0 1" ∷ [])
      (fread (codes "f") 0 1 (Shows (1 ∷ [])) ∷ fread (codes "f") 64 8 (Shows (replicate 8 0)) ∷ []) false
  pub before_it_is_made : Answers (codes "create f 1" ∷ []) (fread (codes "f") 0 1 (Refuses Missing) ∷ []) true
  pub all_files_of_one_change : Answers (codes "create f 1" ∷ codes "rename f g" ∷ [])
      (fread (codes "f") 0 1 (Shows (0 ∷ [])) ∷ fread (codes "g") 0 1 (Shows (0 ∷ [])) ∷ []) false
