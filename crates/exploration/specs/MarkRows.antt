-- Worked scripts with marks, and with what is to be found.
use Rattle.std.specs.Prelude.{◌≡◌, true, false, [], ◌∷◌, Some, None, codes}
use Rattle.script_text.specs.Action.Action.{Create, VExists, VLoad, VStore}
use Rattle.outcomes.specs.Pages.PageReply.{Shows}
use Rattle.exploration.specs.declared.reason.Reason.TheVariants as why
use Rattle.exploration.specs.Exploration.{script_of}
use Rattle.exploration.specs.Exploration.Script.{StopsAt, Taken}
use Rattle.exploration.specs.Rows.{may, never, page, sizes, text_of, unmarked}

pub record MarkRows : Type 0 where
  pub begins_at_a_line : script_of sizes (text_of (codes "create log 1" ∷ codes "# begin" ∷ codes "vstore 0 01" ∷ codes "# look" ∷ codes "vload 0 1" ∷ codes "# list" ∷ []))
      ≡ Taken (record { first = Some (Create (codes "log") 1) ∷ None ∷ []; program = None ∷ None ∷ Some (VStore 0 (1 ∷ [])) ∷ []; refused = false ∷ false ∷ false ∷ []; reads = VLoad 0 1 ∷ []; table = false; list = true; questions = [] })
  pub begins_at_once : script_of sizes (text_of (codes "# begin" ∷ codes "vexists 0" ∷ codes "# look" ∷ codes "vload 0 1" ∷ codes "# list" ∷ []))
      ≡ Taken (record { first = None ∷ []; program = None ∷ Some (VExists 0) ∷ []; refused = false ∷ false ∷ []; reads = VLoad 0 1 ∷ []; table = false; list = true; questions = [] })
  pub second_begin : script_of sizes (text_of (codes "# begin" ∷ codes "vexists 0" ∷ codes "# begin" ∷ []))
      ≡ StopsAt 3 why.Again
  pub begin_in_the_look : script_of sizes (text_of (codes "# look" ∷ codes "vload 0 1" ∷ codes "# begin" ∷ []))
      ≡ StopsAt 3 why.NotInALook
  pub begin_and_a_word : script_of sizes (text_of (codes "# begin here" ∷ []))
      ≡ StopsAt 1 why.Spelling
  pub next_command_is_marked : script_of sizes (text_of (codes "# refused" ∷ codes "vexists 0" ∷ codes "vexists 1" ∷ codes "# look" ∷ codes "vload 0 1" ∷ codes "# list" ∷ []))
      ≡ Taken (record { first = []; program = None ∷ Some (VExists 0) ∷ Some (VExists 1) ∷ []; refused = false ∷ true ∷ false ∷ []; reads = VLoad 0 1 ∷ []; table = false; list = true; questions = [] })
  pub each_command_is_marked : script_of sizes (text_of (codes "# refused" ∷ codes "vexists 0" ∷ codes "# refused" ∷ codes "vexists 1" ∷ codes "# look" ∷ codes "vload 0 1" ∷ codes "# list" ∷ []))
      ≡ Taken (record { first = []; program = None ∷ Some (VExists 0) ∷ None ∷ Some (VExists 1) ∷ []; refused = false ∷ true ∷ false ∷ true ∷ []; reads = VLoad 0 1 ∷ []; table = false; list = true; questions = [] })
  pub lines_between : script_of sizes (text_of (codes "# refused" ∷ [] ∷ codes "# a comment" ∷ codes "# begin" ∷ codes "vexists 0" ∷ codes "# look" ∷ codes "vload 0 1" ∷ codes "# list" ∷ []))
      ≡ Taken (record { first = None ∷ None ∷ None ∷ None ∷ []; program = None ∷ None ∷ None ∷ None ∷ Some (VExists 0) ∷ []; refused = false ∷ false ∷ false ∷ false ∷ true ∷ []; reads = VLoad 0 1 ∷ []; table = false; list = true; questions = [] })
  pub marked_before_the_begin : script_of sizes (text_of (codes "# refused" ∷ codes "vexists 0" ∷ codes "# begin" ∷ codes "vexists 1" ∷ codes "# look" ∷ codes "vload 0 1" ∷ codes "# list" ∷ []))
      ≡ Taken (record { first = None ∷ Some (VExists 0) ∷ None ∷ []; program = None ∷ None ∷ None ∷ Some (VExists 1) ∷ []; refused = false ∷ true ∷ false ∷ false ∷ []; reads = VLoad 0 1 ∷ []; table = false; list = true; questions = [] })
  pub marked_twice : script_of sizes (text_of (codes "# refused" ∷ [] ∷ codes "# refused" ∷ codes "vexists 0" ∷ []))
      ≡ StopsAt 3 why.Again
  pub mark_before_the_look : script_of sizes (text_of (codes "# refused" ∷ codes "# look" ∷ codes "vload 0 1" ∷ codes "# list" ∷ []))
      ≡ StopsAt 1 why.NoCommand
  pub mark_at_the_end : script_of sizes (text_of (codes "vexists 0" ∷ codes "# refused" ∷ [] ∷ []))
      ≡ StopsAt 2 why.NoCommand
  pub mark_before_no_command : script_of sizes (text_of (codes "# refused" ∷ codes "vexist 0" ∷ codes "# look" ∷ []))
      ≡ StopsAt 1 why.NoCommand
  pub no_command_before_the_marked_one : script_of sizes (text_of (codes "# refused" ∷ codes "vexist 0" ∷ codes "vexists 0" ∷ []))
      ≡ StopsAt 2 why.Command
  pub mark_before_a_command_of_power : script_of sizes (text_of (codes "# refused" ∷ codes "cut" ∷ codes "# look" ∷ []))
      ≡ StopsAt 1 why.NoCommand
  pub mark_in_the_look : script_of sizes (text_of (codes "# look" ∷ codes "# refused" ∷ codes "vload 0 1" ∷ []))
      ≡ StopsAt 2 why.NotInALook
  pub mark_and_a_word : script_of sizes (text_of (codes "# look" ∷ codes "# refused now" ∷ []))
      ≡ StopsAt 2 why.Spelling
  pub may_be_found : script_of sizes (text_of (codes "# look" ∷ codes "vload 0 1" ∷ codes "vload 1 1" ∷ codes "# may _ | data 00" ∷ codes "# never data 01 | data 00" ∷ []))
      ≡ unmarked [] (VLoad 0 1 ∷ VLoad 1 1 ∷ []) false false (may (page 1 1 (Shows (0 ∷ [])) ∷ []) ∷ never (page 0 1 (Shows (1 ∷ [])) ∷ page 1 1 (Shows (0 ∷ [])) ∷ []) ∷ [])
  pub may_any : script_of sizes (text_of (codes "# look" ∷ codes "vload 0 1" ∷ codes "# may _" ∷ []))
      ≡ StopsAt 3 why.NothingAsked
  pub never_any : script_of sizes (text_of (codes "# look" ∷ codes "vload 0 1" ∷ codes "# never _" ∷ []))
      ≡ unmarked [] (VLoad 0 1 ∷ []) false false (never [] ∷ [])
  pub may_any_of_too_many : script_of sizes (text_of (codes "# look" ∷ codes "vload 0 1" ∷ codes "# may _ | _" ∷ []))
      ≡ StopsAt 3 (why.Replies 2 1)
  pub may_of_another_length : script_of sizes (text_of (codes "# look" ∷ codes "vload 0 1" ∷ codes "# may data 00,01" ∷ []))
      ≡ StopsAt 3 (why.Length 1)
  pub may_before_the_look : script_of sizes (text_of (codes "# may data 00" ∷ codes "# look" ∷ []))
      ≡ StopsAt 1 why.BeforeTheLook
  pub may_the_power_go : script_of sizes (text_of (codes "# may the power go" ∷ codes "# look" ∷ []))
      ≡ StopsAt 1 why.BeforeTheLook
  pub no_reply_that_may_be : script_of sizes (text_of (codes "# look" ∷ codes "vload 0 1" ∷ codes "# may the power go" ∷ []))
      ≡ StopsAt 3 (why.Reply 1)
  pub nearly_a_may : script_of sizes (text_of (codes "# look" ∷ codes "vload 0 1" ∷ codes "#may data 00" ∷ []))
      ≡ StopsAt 3 why.Spelling
