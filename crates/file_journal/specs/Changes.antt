-- What changes do to tables.
use Rattle.std.specs.Prelude.{◌-◌, ◌/◌, ◌%◌, ◌==◌, ◌&&◌, ℕ, suc, List, [], ◌∷◌, ◌++◌, Option, Some, None, is_some, is_none, map, count_by, slice_set, if◌then◌else◌}
use Rattle.nvm_base.specs.declared.files.FileEntry.{FileEntry}
use Rattle.word_tables.specs.declared.geometry.Geometry.{Geometry}
use Rattle.word_tables.specs.Words.{place, of_inode, of_file_page}
use Rattle.inode_table.specs.Slots.{free_inode, inode_of, pages_at, pages_of}
use Rattle.inode_table.specs.Words.{words_of}
use Rattle.page_table.specs.Pages.{word_of}
use Rattle.nvm_model.specs.Numbered.{list_from, map_from}
use Rattle.file_journal.specs.Tables.{Tables, unit_at}

-- the unit of a page after switches, each of a page to a unit or to none: the first that is listed for it, or the one it had
abbrev pub unit_for : List (ℕ × Option ℕ) → ℕ → Option ℕ → Option ℕ
unit_for [] page old = old
unit_for (c ∷ cs) page old = if c.0 == page then c.1 else unit_for cs page old

-- the unit of an entry after switches of an inode's pages
abbrev pub switched_page : ℕ → List (ℕ × Option ℕ) → ℕ → Option ℕ → Option ℕ
switched_page inode switches entry old = if entry / 256 == inode then unit_for switches (entry % 256) old else old

-- the pages after them
abbrev pub switched_pages : ℕ → List (ℕ × Option ℕ) → List (Option ℕ) → List (Option ℕ)
switched_pages inode switches pages = map_from (switched_page inode switches) 0 pages

-- the tables after an inode became that slot, and its pages were switched
abbrev pub changed_tables : ℕ → Option FileEntry → List (ℕ × Option ℕ) → Tables → Tables
changed_tables inode slot switches t = record { files = slice_set t.files inode slot; pages = switched_pages inode switches t.pages }

-- the same of the tables where no inode changes
abbrev pub switched : ℕ → List (ℕ × Option ℕ) → Tables → Tables
switched inode switches t = record t { pages = switched_pages inode switches t.pages }

-- the pages from one on become holes
abbrev pub holes : ℕ → ℕ → List (ℕ × Option ℕ)
holes first count = list_from (λ page. (page, None)) first count

-- values with the places of words that follow each other
abbrev pub numbered : ℕ → List ℕ → List (ℕ × ℕ)
numbered p [] = []
numbered p (v ∷ vs) = (p, v) ∷ numbered (suc p) vs

-- the words of a slot, but for those that are 0 in each, or that have no meaning
abbrev pub slot_words : Option FileEntry → List ℕ
slot_words None = 0 ∷ []
slot_words (Some file) = words_of file

-- the words of switches
abbrev pub switch_words : Geometry → ℕ → List (ℕ × Option ℕ) → List (ℕ × ℕ)
switch_words geo inode switches = map (λ c. (place geo (of_file_page inode c.0), word_of c.1)) switches

-- the words of a change, with their places
abbrev pub change_words : Geometry → ℕ → Option FileEntry → List (ℕ × Option ℕ) → List (ℕ × ℕ)
change_words geo inode slot switches = numbered (place geo (of_inode inode 0)) (slot_words slot) ++ switch_words geo inode switches

-- how many units switches name
abbrev pub named_units : List (ℕ × Option ℕ) → ℕ
named_units switches = count_by (λ c. is_some c.1) switches

-- how many holes they fill
abbrev pub filled_holes : Tables → ℕ → List (ℕ × Option ℕ) → ℕ
filled_holes t inode switches = count_by (λ c. is_some c.1 && is_none (unit_at t inode c.0)) switches

-- an inode becomes a slot, and its pages past the slot's count become holes
abbrev pub replaced : ℕ → Option FileEntry → Tables → Tables
replaced inode slot t = changed_tables inode slot (holes (pages_of slot) (pages_at t.files inode - pages_of slot)) t

-- the same of an inode that was looked for
abbrev pub replaced_at : Option ℕ → (ℕ → Option FileEntry) → Tables → Tables
replaced_at None slot t = t
replaced_at (Some inode) slot t = replaced inode (slot inode) t

-- a file more, in the lowest free inode; its pages are holes
abbrev pub created : List ℕ → ℕ → Tables → Tables
created name pages t = replaced_at (free_inode t.files) (λ _. Some (record { name = name; pages = pages })) t

-- without the file of that name
abbrev pub deleted : List ℕ → Tables → Tables
deleted name t = replaced_at (inode_of name t.files) (λ _. None) t

-- with that file under another name
abbrev pub renamed : List ℕ → List ℕ → Tables → Tables
renamed name to t = replaced_at (inode_of name t.files) (λ inode. Some (record { name = to; pages = pages_at t.files inode })) t

-- with so many pages of that file: new ones are holes
abbrev pub resized : List ℕ → ℕ → Tables → Tables
resized name pages t = replaced_at (inode_of name t.files) (λ _. Some (record { name = name; pages = pages })) t
