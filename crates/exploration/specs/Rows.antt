-- Worked scripts: what is explored of them, or where they stop.
use Rattle.std.specs.Prelude.{◌≡◌, ℕ, Bool, true, false, List, [], ◌∷◌, ◌++◌, length, Option, Some, None, replicate, codes}
use Rattle.script_text.specs.Action.{Action}
use Rattle.script_text.specs.Action.Action.{BRead, BWrite, Create, FRead, VLoad, VStore, VSync}
use Rattle.reply_text.specs.declared.reply.Why.TheVariants.{Missing, Range}
use Rattle.outcomes.specs.Pages.{PageReply}
use Rattle.outcomes.specs.Pages.PageReply.{Shows, Poison, Refuses}
use Rattle.outcomes.specs.Blocks.{BlockReply}
use Rattle.outcomes.specs.Blocks.BlockReply.{Scar, BadLine}
use Rattle.outcomes.specs.Seen.{Seen}
use Rattle.outcomes.specs.Seen.Seen.{of_blocks, of_file, of_volume}
use Rattle.word_tables.specs.declared.geometry.Geometry.{Geometry}
use Rattle.exploration.specs.declared.asking.Wanted.TheVariants.{May, Never}
use Rattle.exploration.specs.declared.reason.Reason.TheVariants as why
use Rattle.exploration.specs.Exploration.{Asked, Script, script_of}
use Rattle.exploration.specs.Exploration.Script.{StopsAt, Taken}

-- the smallest sizes
abbrev pub sizes : Geometry
sizes = record { blocks = 8; vpages = 2; fpages = 32 }

-- lines, each with its newline
abbrev pub text_of : List (List ℕ) → List ℕ
text_of [] = []
text_of (line ∷ lines) = line ++ 10 ∷ text_of lines

-- a read of the volume, of blocks, or of a file, and its reply
abbrev pub page : ℕ → ℕ → PageReply → Seen
page start len reply = of_volume (record { start = start; len = len; reply = reply })

abbrev pub block : ℕ → ℕ → BlockReply → Seen
block first count reply = of_blocks (record { first = first; count = count; reply = reply })

abbrev pub file : List ℕ → ℕ → ℕ → PageReply → Seen
file name start len reply = of_file (record { name = name; pages = record { start = start; len = len; reply = reply } })

-- a question that is never to be found, and one that is
abbrev pub never : List Seen → Asked
never look = record { wanted = Never; look = look }

abbrev pub may : List Seen → Asked
may look = record { wanted = May; look = look }

-- a program without marks, of which all cuts are asked about, and its look
abbrev pub unmarked : List (Option Action) → List Action → Bool → Bool → List Asked → Script
unmarked program reads table list questions = Taken (record {
  first = [];
  program = program;
  refused = replicate (length program) false;
  reads = reads;
  table = table;
  list = list;
  questions = questions;
})

pub record ScriptRows : Type 0 where
  pub one_question : script_of sizes (text_of (codes "vstore 0 01" ∷ codes "vsync 0 64" ∷ codes "# look" ∷ codes "vload 0 1" ∷ codes "# never data 00" ∷ []))
      ≡ unmarked (Some (VStore 0 (1 ∷ [])) ∷ Some (VSync 0 64) ∷ []) (VLoad 0 1 ∷ []) false false (never (page 0 1 (Shows (0 ∷ [])) ∷ []) ∷ [])
  pub reads_of_both_kinds : script_of sizes (text_of (codes "# a block" ∷ [] ∷ codes "bwrite 3 aa*512" ∷ codes "# look" ∷ codes "bread 3 1" ∷ [] ∷ codes "vload 64 64"
      ∷ codes "# never scarred 3 | poison volume 64 64" ∷ codes "# never _ | data 07*64" ∷ codes "# never poison block 3 7 | _" ∷ []))
      ≡ unmarked (None ∷ None ∷ Some (BWrite 3 (replicate 512 170)) ∷ []) (BRead 3 1 ∷ VLoad 64 64 ∷ []) false false (never (block 3 1 (Scar 3) ∷ page 64 64 (Poison 64) ∷ []) ∷ never (page 64 64 (Shows (replicate 64 7)) ∷ []) ∷ never (block 3 1 (BadLine 3 7) ∷ []) ∷ [])
  pub no_look : script_of sizes (codes "vstore 0 01") ≡ StopsAt 2 why.NothingAsked
  pub no_line : script_of sizes [] ≡ StopsAt 1 why.NothingAsked
  pub look_without_reads : script_of sizes (text_of (codes "# look" ∷ codes "# table" ∷ [])) ≡ StopsAt 3 why.NothingAsked
  pub reads_without_a_question : script_of sizes (text_of (codes "# look" ∷ codes "vload 0 1" ∷ [])) ≡ StopsAt 3 why.NothingAsked
  pub a_table : script_of sizes (text_of (codes "# look" ∷ codes "vload 0 1" ∷ codes "# table" ∷ []))
      ≡ unmarked [] (VLoad 0 1 ∷ []) true false []
  pub a_list : script_of sizes (text_of (codes "# look" ∷ codes "vload 0 1" ∷ codes "# list" ∷ []))
      ≡ unmarked [] (VLoad 0 1 ∷ []) false true []
  pub all_that_may_be_asked : script_of sizes (text_of (codes "# look" ∷ codes "vload 0 1" ∷ codes "# list" ∷ codes "# never data 00" ∷ codes "# table" ∷ codes "# list" ∷ []))
      ≡ unmarked [] (VLoad 0 1 ∷ []) true true (never (page 0 1 (Shows (0 ∷ [])) ∷ []) ∷ [])
  pub read_behind_a_table : script_of sizes (text_of (codes "# look" ∷ codes "# table" ∷ codes "vload 0 1" ∷ [])) ≡ StopsAt 3 why.ReadAfterAQuestion
  pub read_behind_a_list : script_of sizes (text_of (codes "# look" ∷ codes "vload 0 1" ∷ codes "# list" ∷ codes "vload 0 1" ∷ [])) ≡ StopsAt 4 why.ReadAfterAQuestion
  pub read_behind_a_question : script_of sizes (text_of (codes "# look" ∷ codes "vload 0 1" ∷ codes "# never data 00" ∷ codes "vload 0 1" ∷ [])) ≡ StopsAt 4 why.ReadAfterAQuestion
  pub command_of_power : script_of sizes (text_of (codes "vstore 0 01" ∷ codes "cut" ∷ codes "vsync" ∷ [])) ≡ StopsAt 2 why.NotInAProgram
  pub one_reply_to_two_reads : script_of sizes (text_of (codes "# look" ∷ codes "vload 0 1" ∷ codes "bread 0 1" ∷ codes "# never data 00" ∷ [])) ≡ StopsAt 4 (why.Replies 1 2)
  pub reply_of_another_read : script_of sizes (text_of (codes "# look" ∷ codes "vload 0 64" ∷ codes "# never poison block 0 0" ∷ [])) ≡ StopsAt 3 (why.Kind 1)
  pub second_look : script_of sizes (text_of (codes "vexists 0" ∷ codes "# look" ∷ codes "# look" ∷ [])) ≡ StopsAt 3 why.Again
  pub reads_of_files : script_of sizes (text_of (codes "create log 1" ∷ codes "# look" ∷ codes "fread log 0 64" ∷ codes "fread f 64 1" ∷ codes "# never data 07*64 | refused missing"
      ∷ codes "# never poison file log 0 64 | _" ∷ []))
      ≡ unmarked (Some (Create (codes "log") 1) ∷ []) (FRead (codes "log") 0 64 ∷ FRead (codes "f") 64 1 ∷ []) false false (never (file (codes "log") 0 64 (Shows (replicate 64 7)) ∷ file (codes "f") 64 1 (Refuses Missing) ∷ []) ∷ never (file (codes "log") 0 64 (Poison 0) ∷ []) ∷ [])
  pub line_of_another_file : script_of sizes (text_of (codes "# look" ∷ codes "fread log 0 64" ∷ codes "# never poison file logs 0 64" ∷ [])) ≡ StopsAt 3 (why.Kind 1)
  pub line_of_a_file_and_of_the_volume : script_of sizes (text_of (codes "# look" ∷ codes "fread log 0 64" ∷ codes "# never poison volume 0 64" ∷ [])) ≡ StopsAt 3 (why.Kind 1)
  pub load_of_a_mapping : script_of sizes (text_of (codes "# look" ∷ codes "load 0 0 64" ∷ [])) ≡ StopsAt 2 why.NotInALook
  pub list_before_the_look : script_of sizes (text_of (codes "# list" ∷ codes "# look" ∷ [])) ≡ StopsAt 1 why.BeforeTheLook
  pub one_byte_short : script_of sizes (text_of (codes "# look" ∷ codes "vload 0 2" ∷ codes "# never data 00" ∷ [])) ≡ StopsAt 3 (why.Length 1)
  pub half_a_block : script_of sizes (text_of (codes "# look" ∷ codes "vload 0 1" ∷ codes "bread 3 1" ∷ codes "# never data 00 | data 00*256" ∷ [])) ≡ StopsAt 4 (why.Length 2)
  pub line_that_is_not_touched : script_of sizes (text_of (codes "# look" ∷ codes "vload 0 64" ∷ codes "# never poison volume 64 64" ∷ [])) ≡ StopsAt 3 (why.Place 1)
  pub no_head_of_a_line : script_of sizes (text_of (codes "# look" ∷ codes "fread log 0 64" ∷ codes "# never poison file log 8 64" ∷ [])) ≡ StopsAt 3 (why.Place 1)
  pub block_behind_the_read : script_of sizes (text_of (codes "# look" ∷ codes "bread 3 1" ∷ codes "# never scarred 4" ∷ [])) ≡ StopsAt 3 (why.Place 1)
  pub ninth_line : script_of sizes (text_of (codes "# look" ∷ codes "bread 3 1" ∷ codes "# never poison block 3 8" ∷ [])) ≡ StopsAt 3 (why.Place 1)
  pub refused_as_nothing_is : script_of sizes (text_of (codes "# look" ∷ codes "vload 0 1" ∷ codes "# never refused missing" ∷ [])) ≡ StopsAt 3 (why.Refusal 1)
  pub past_the_volume : script_of sizes (text_of (codes "# look" ∷ codes "vload 8192 1" ∷ codes "# never data 00" ∷ [])) ≡ StopsAt 3 (why.Refusal 1)
  pub refused_as_it_is : script_of sizes (text_of (codes "# look" ∷ codes "vload 8192 1" ∷ codes "# never refused range" ∷ []))
      ≡ unmarked [] (VLoad 8192 1 ∷ []) false false (never (page 8192 1 (Refuses Range) ∷ []) ∷ [])
  pub file_refused_by_no_word : script_of sizes (text_of (codes "# look" ∷ codes "fread f 0 1" ∷ codes "# never refused limit" ∷ [])) ≡ StopsAt 3 (why.Refusal 1)
  pub no_reply_at_all : script_of sizes (text_of (codes "# look" ∷ codes "vload 0 1" ∷ codes "# never ok" ∷ [])) ≡ StopsAt 3 (why.Reply 1)
  pub no_command : script_of sizes (text_of (codes "vstor 0 01" ∷ [])) ≡ StopsAt 1 why.Command
  pub nearly_a_look : script_of sizes (text_of (codes "#look" ∷ [])) ≡ StopsAt 1 why.Spelling
