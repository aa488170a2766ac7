-- Worked scripts on files: what the machine writes, and what it may write after a cut.
use Rattle.std.specs.Prelude.{◌≡◌, ◌⊎◌, ◌+◌, ◌*◌, ◌++◌, ℕ, List, [], ◌∷◌, codes, map}
use Rattle.std.specs.Fmt.{decimal}
use Rattle.std.specs.List.{range_with_len}
use Rattle.line_device.specs.Panel.{Start}
use Rattle.line_device.specs.declared.line.Choice.TheVariants.{Firsts, Lasts}
use Rattle.machine_rows.specs.CutRows.{MayWrite}
use Rattle.machine_rows.specs.MediaRows.{leaving_lines}
use Rattle.machine_model.specs.WorkedScripts.{text}
use Rattle.machine_rows.specs.Rows.{leaving, Writes}

-- an inode whose name is one byte, with so many pages: inodes begin at word 1232
abbrev pub with_inode : ℕ → ℕ → ℕ → List (ℕ × ℕ)
with_inode inode byte pages = (1232 + 8 * inode, pages + 1) ∷ (1233 + 8 * inode, byte) ∷ []

-- its page on a unit: page tables begin at word 1744
abbrev pub with_page_on : ℕ → ℕ → ℕ → List (ℕ × ℕ)
with_page_on inode page unit = (1744 + 256 * inode + page, unit + 1) ∷ []

-- files f0, f1 and so on
abbrev pub creations : ℕ → List (List ℕ)
creations count = map (λ i. codes "create f" ++ decimal i ++ codes " 0") (range_with_len 0 count)

abbrev pub all_ok : ℕ → List (List ℕ)
all_ok count = map (λ _. codes "ok") (range_with_len 0 count)

pub record FileRows : Type 0 where
  pub made_listed_and_deleted : Writes
      (text (codes "list" ∷ codes "create a 0" ∷ codes "create a 1" ∷ codes "create b 257" ∷ codes "fread a 0 1" ∷ codes "rename a a"
      ∷ codes "list" ∷ codes "delete a" ∷ codes "delete a" ∷ []))
      []
      (codes "files" ∷ codes "ok" ∷ codes "refused exists" ∷ codes "refused limit" ∷ codes "refused range" ∷ codes "refused exists"
      ∷ codes "files a:0" ∷ codes "ok" ∷ codes "refused missing" ∷ [])
  pub sixty_four_files : Writes (text (creations 64 ++ codes "create g 0" ∷ [])) [] (all_ok 64 ++ codes "refused slots" ∷ [])
  pub slot_that_a_delete_frees : Writes
      (text (creations 64 ++ codes "delete f5" ∷ codes "create g 0" ∷ codes "create h 0" ∷ codes "create h 257" ∷ codes "create g 257" ∷ []))
      [] (all_ok 66 ++ codes "refused slots" ∷ codes "refused limit" ∷ codes "refused exists" ∷ [])
  pub renamed_to_sort_elsewhere : Writes
      (text (codes "create b 1" ∷ codes "create d 2" ∷ codes "create c 3" ∷ codes "rename b e" ∷ codes "list" ∷ codes "rename d a" ∷ codes "list"
      ∷ []))
      []
      (codes "ok" ∷ codes "ok" ∷ codes "ok" ∷ codes "ok" ∷ codes "files c:3 d:2 e:1" ∷ codes "ok" ∷ codes "files a:2 c:3 e:1" ∷ [])
  pub names_that_differ_in_their_last_byte : Writes
      (text (codes "create aab 1" ∷ codes "create aaa 2" ∷ codes "create aa 3" ∷ codes "list" ∷ codes "delete aaa" ∷ codes "list"
      ∷ codes "rename aab aaa" ∷ codes "resize aa 4" ∷ codes "list" ∷ []))
      []
      (codes "ok" ∷ codes "ok" ∷ codes "ok" ∷ codes "files aa:3 aaa:2 aab:1" ∷ codes "ok" ∷ codes "files aa:3 aab:1" ∷ codes "ok" ∷ codes "ok"
      ∷ codes "files aa:4 aaa:1" ∷ [])
  pub reasons_in_order : Writes
      (text (codes "create a 256" ∷ codes "resize b 257" ∷ codes "resize a 257" ∷ codes "rename b a" ∷ codes "rename b c" ∷ codes "create c 1"
      ∷ codes "rename a c" ∷ codes "create c 257" ∷ codes "list" ∷ []))
      []
      (codes "ok" ∷ codes "refused missing" ∷ codes "refused limit" ∷ codes "refused missing" ∷ codes "refused missing" ∷ codes "ok"
      ∷ codes "refused exists" ∷ codes "refused exists" ∷ codes "files a:256 c:1" ∷ [])
  pub what_is_no_name : Writes
      (text (codes "create A 1" ∷ codes "create a/b 1" ∷ codes "create 1" ∷ codes "create abcdefghijklmnopqrstuvwxyz-_.456 1"
      ∷ codes "create abcdefghijklmnopqrstuvwxyz-_.4567 1" ∷ codes "list a" ∷ codes "list" ∷ []))
      []
      (codes "refused syntax" ∷ codes "refused syntax" ∷ codes "refused syntax" ∷ codes "ok" ∷ codes "refused syntax" ∷ codes "refused syntax"
      ∷ codes "files abcdefghijklmnopqrstuvwxyz-_.456:1" ∷ [])
  pub made_file_kept : Writes (text (codes "create a 2" ∷ codes "cut" ∷ codes "list" ∷ codes "restart none" ∷ codes "list" ∷ []))
      (leaving Firsts (with_inode 0 97 2) ∷ []) (codes "ok" ∷ codes "ok" ∷ codes "refused off" ∷ codes "ok bad 0" ∷ codes "files a:2" ∷ [])
  pub cut_page_is_a_hole : Writes
      (text (codes "cut" ∷ codes "restart all" ∷ codes "resize a 1" ∷ codes "resize a 2" ∷ codes "list" ∷ codes "cut" ∷ codes "restart all"
      ∷ codes "list" ∷ []))
      (leaving_lines Lasts (with_inode 0 97 2 ++ with_page_on 0 1 0) (3008 ∷ []) [] ∷ leaving_lines Lasts (with_inode 0 97 2) (3008 ∷ []) [] ∷ [])
      (codes "ok" ∷ codes "ok bad 1" ∷ codes "ok" ∷ codes "ok" ∷ codes "files a:2" ∷ codes "ok" ∷ codes "ok bad 0" ∷ codes "files a:2" ∷ [])
  pub bad_metadata_stops_changes : Writes
      (text (codes "create a 1" ∷ codes "poison meta 154" ∷ codes "create a 1" ∷ codes "create b 1" ∷ codes "delete b" ∷ codes "delete a"
      ∷ codes "rename a b" ∷ codes "resize a 2" ∷ codes "list" ∷ codes "cut" ∷ codes "restart all" ∷ codes "list" ∷ []))
      (leaving_lines Lasts (with_inode 0 97 1) (154 ∷ []) [] ∷ [])
      (codes "ok" ∷ codes "ok" ∷ codes "refused exists" ∷ codes "refused meta 154" ∷ codes "refused missing" ∷ codes "refused meta 154"
      ∷ codes "refused meta 154" ∷ codes "refused meta 154" ∷ codes "files a:1" ∷ codes "ok" ∷ codes "stopped meta 154" ∷ codes "refused meta 154"
      ∷ [])

-- a deletion that is cut in some call of it, and the files that are listed at last
abbrev pub with_cut_deletion : List ℕ
with_cut_deletion = text (codes "create a 1" ∷ codes "cut in 3" ∷ codes "delete a" ∷ codes "restart none" ∷ codes "list" ∷ [])

abbrev pub cut_change_lines : List ℕ → List (List ℕ)
cut_change_lines files = codes "ok" ∷ codes "ok" ∷ codes "power lost" ∷ codes "ok bad 0" ∷ files ∷ []

-- a renaming, likewise
abbrev pub with_cut_renaming : List ℕ
with_cut_renaming = text (codes "create a 1" ∷ codes "cut in 3" ∷ codes "rename a b" ∷ codes "restart none" ∷ codes "list" ∷ [])

-- what may come of a cut in them: all of it or nothing
pub record FileRuns : Type 0 where
  pub deletion_lost : MayWrite with_cut_deletion (leaving Firsts (with_inode 0 97 1) ∷ []) (cut_change_lines (codes "files a:1"))
  pub deletion_kept : MayWrite with_cut_deletion (leaving Firsts [] ∷ []) (cut_change_lines (codes "files"))
  pub renaming_lost : MayWrite with_cut_renaming (leaving Firsts (with_inode 0 97 1) ∷ []) (cut_change_lines (codes "files a:1"))
  pub renaming_kept : MayWrite with_cut_renaming (leaving Firsts (with_inode 0 98 1) ∷ []) (cut_change_lines (codes "files b:1"))
  pub renaming_all_or_nothing : (starts : List Start) (shown : List ℕ) → MayWrite with_cut_renaming starts (cut_change_lines (codes "files" ++ shown))
      → (shown ≡ codes " a:1") ⊎ (shown ≡ codes " b:1")
