-- Worked witnesses of files: how a cut leaves what is asked of them, as it is printed.
use Rattle.std.specs.Prelude.{◌≡◌, ◌++◌, ℕ, true, List, [], ◌∷◌, codes, replicate, Option, Some, None}
use Rattle.nvm_model.specs.Cell.{Cell}
use Rattle.nvm_model.specs.Cell.Cell.{Kept}
use Rattle.script_text.specs.Action.{Action}
use Rattle.script_text.specs.Action.Action.{Create, Delete, FAtomic, FSync, FWrite, Rename, Resize}
use Rattle.cut_places.specs.Outcomes.Files.{FileRead}
use Rattle.cut_places.specs.Outcomes.Pages.{PageReply}
use Rattle.cut_places.specs.Outcomes.Pages.PageReply.{Shows, Poison}
use Rattle.cut_places.specs.FilesState.{FileState, FilesState}
use Rattle.witnesses.specs.Files.{files_kept}
use Rattle.witnesses.specs.Rows.{read_of, word_with}
use Rattle.witnesses.specs.Sizes.{sizes_kept}
use Rattle.witnesses.specs.Texts.{files_text, sizes_text}

-- what is printed of files and their lines, where a cut falls before a command or inside it, of what is asked and of what is looked at
abbrev pub state_with : List FileState → FilesState
state_with files = record { numbers = 0 ∷ 1 ∷ []; files = files; mappings = record { mappings = []; next = 0 } }

abbrev pub looked_witness : Option Action → List FileRead → List FileRead → List FileState → List ℕ
looked_witness inside reads looked files = sizes_text (sizes_kept inside reads looked (state_with files)) ++ files_text looked (files_kept inside reads looked (state_with files))

abbrev pub file_witness : Option Action → List FileRead → List FileState → List ℕ
file_witness inside reads files = looked_witness inside reads reads files

-- a file of one page, of which the first two lines are held, and a read of it
abbrev pub file_with : List ℕ → Cell → Cell → FileState
file_with name first second =
    record { name = name; pages = 1; lines = record { number = 0; line = first } ∷ record { number = 1; line = second } ∷ [] }

abbrev pub file_read : List ℕ → ℕ → ℕ → PageReply → FileRead
file_read name start len reply = record { name = name; pages = read_of start len reply }

-- a line of zeros, and one that was stored to
abbrev pub empty : Cell
empty = word_with (0 ∷ [])

abbrev pub stored : Cell
stored = word_with (0 ∷ 1 ∷ [])

pub record FileWitnessRows : Type 0 where
  -- a byte that was stored was written back before the sync, or inside it
  pub before : file_witness None (file_read (codes "a") 0 1 (Shows (1 ∷ [])) ∷ []) (file_with (codes "a") stored empty ∷ []) ≡ codes " | file a 0 01,00*7"
  pub inside : file_witness (Some (FSync (codes "a"))) (file_read (codes "a") 0 1 (Shows (1 ∷ [])) ∷ []) (file_with (codes "a") stored empty ∷ []) ≡ codes " | file a 0 01,00*7"
  -- a store over two lines has reached the first, and not the second
  pub first_of_two : file_witness (Some (FWrite (codes "a") 63 (1 ∷ 1 ∷ []))) (file_read (codes "a") 63 2 (Shows (1 ∷ 0 ∷ [])) ∷ []) (file_with (codes "a") empty empty ∷ [])
      ≡ codes " | file a 56 00*7,01 | file a 64 00*8"
  -- one that is atomic has reached both, or none
  pub both : file_witness (Some (FAtomic (codes "a") 63 (1 ∷ 1 ∷ []))) (file_read (codes "a") 63 2 (Shows (1 ∷ 1 ∷ [])) ∷ []) (file_with (codes "a") empty empty ∷ [])
      ≡ codes " | file a 56 00*7,01 | file a 64 01,00*7"
  pub none : file_witness (Some (FAtomic (codes "a") 63 (1 ∷ 1 ∷ []))) (file_read (codes "a") 63 2 (Shows (0 ∷ 0 ∷ [])) ∷ []) (file_with (codes "a") empty empty ∷ [])
      ≡ codes " | file a 56 00*8 | file a 64 00*8"
  -- a file that is made, renamed or removed: the new one is told where it is read, and the old one where that is
  pub made : file_witness (Some (Create (codes "a") 1)) (file_read (codes "a") 0 1 (Shows (0 ∷ [])) ∷ []) [] ≡ codes " | file a pages 1 | file a 0 00*8"
  pub renamed : file_witness (Some (Rename (codes "b") (codes "a"))) (file_read (codes "a") 0 1 (Shows (7 ∷ [])) ∷ []) (file_with (codes "b") (word_with (7 ∷ [])) empty ∷ [])
      ≡ codes " | file a pages 1 | file a 0 07,00*7"
  pub not_renamed : file_witness (Some (Rename (codes "b") (codes "a"))) (file_read (codes "b") 0 1 (Shows (7 ∷ [])) ∷ []) (file_with (codes "b") (word_with (7 ∷ [])) empty ∷ [])
      ≡ codes " | file b pages 1 | file b 0 07,00*7"
  pub not_removed : file_witness (Some (Delete (codes "a"))) (file_read (codes "a") 0 1 (Shows (7 ∷ [])) ∷ []) (file_with (codes "a") (word_with (7 ∷ [])) empty ∷ [])
      ≡ codes " | file a pages 1 | file a 0 07,00*7"
  -- a worn line does not survive the sync
  pub worn : file_witness (Some (FSync (codes "a"))) (file_read (codes "a") 0 8 (Poison 0) ∷ []) (file_with (codes "a") (Kept true (replicate 8 (5 ∷ []))) empty ∷ [])
      ≡ codes " | file a 0 poison"
  -- each file is read for itself, by its own reads
  pub each : file_witness None (file_read (codes "a") 0 1 (Shows (1 ∷ [])) ∷ file_read (codes "b") 0 1 (Shows (0 ∷ [])) ∷ [])
      (file_with (codes "a") stored empty ∷ file_with (codes "b") stored empty ∷ []) ≡ codes " | file a 0 01,00*7 | file b 0 00*8"
  -- what could not be otherwise is not told, and a line once
  pub settled : file_witness None (file_read (codes "a") 0 1 (Shows (7 ∷ [])) ∷ []) (file_with (codes "a") (word_with (7 ∷ [])) empty ∷ []) ≡ []
  pub once : file_witness None (file_read (codes "a") 0 1 (Shows (1 ∷ [])) ∷ file_read (codes "a") 0 2 (Shows (1 ∷ 0 ∷ [])) ∷ []) (file_with (codes "a") stored empty ∷ [])
      ≡ codes " | file a 0 01,00*7"
  -- a file that is looked at and not asked about: it may be missing, and is kept as it was; a word of it, with its oldest value
  pub looked_missing : looked_witness (Some (Create (codes "a") 1)) [] (file_read (codes "a") 0 1 (Poison 0) ∷ []) [] ≡ codes " | file a missing"
  pub looked_there : looked_witness (Some (Delete (codes "a"))) [] (file_read (codes "a") 0 1 (Poison 0) ∷ []) (file_with (codes "a") stored empty ∷ [])
      ≡ codes " | file a pages 1 | file a 0 00*8"
  pub looked_short : looked_witness (Some (Resize (codes "a") 2)) [] (file_read (codes "a") 4096 1 (Poison 4096) ∷ []) (file_with (codes "a") empty empty ∷ []) ≡ codes " | file a pages 1"
  pub looked_word : looked_witness None [] (file_read (codes "a") 0 1 (Poison 0) ∷ []) (file_with (codes "a") stored empty ∷ []) ≡ codes " | file a 0 00*8"
  -- so that the rest is as asked: all files change together
  pub looked_made : looked_witness (Some (Rename (codes "b") (codes "a"))) (file_read (codes "a") 0 1 (Shows (7 ∷ [])) ∷ []) (file_read (codes "a") 0 1 (Poison 0) ∷ file_read (codes "b") 0 1 (Poison 0) ∷ [])
      (file_with (codes "b") (word_with (7 ∷ [])) empty ∷ []) ≡ codes " | file a pages 1 | file b missing | file a 0 07,00*7"
  -- how long a file is that has no choice is not reported
  pub looked_settled : looked_witness None [] (file_read (codes "a") 0 1 (Poison 0) ∷ file_read (codes "b") 0 1 (Poison 0) ∷ []) (file_with (codes "a") (word_with (7 ∷ [])) empty ∷ []) ≡ []
