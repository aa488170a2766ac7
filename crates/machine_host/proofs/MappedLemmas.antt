-- A mapping's file is there and has its stretch, as the tables have it and as the machine has it, and after a change of files.
use Rattle.std.proofs.Common.{◌≡◌, ◌+◌, ◌*◌, ◌||◌, ◌≤◌, ◌∙◌, ℕ, Bool, true, false, cond, Option, Some, None, List, [], ◌∷◌, length, refl, sym, ap, subst}
use Rattle.std.proofs.lemmas.Bool.{or_parts}
use Rattle.std.proofs.lemmas.Option.{same_Some}
use Rattle.std.proofs.lemmas.Slice.Eq.{bytes_eq-Decides}
use Rattle.std.specs.Bool.{Decides}
use Rattle.std.specs.Str.{bytes_eq}
use Rattle.line_device.specs.Medium.{Medium}
use Rattle.inode_table.specs.Slots.{inode_of}
use Rattle.inode_table.proofs.SlotLemmas.{found_is_named}
use Rattle.nvm_model.specs.Files.{new_file, with_name, with_pages}
use Rattle.nvm_model.specs.Listing.{change_file, file_name, file_of, has_file, put_file, rename_file, without_file}
use Rattle.nvm_model.specs.Mappings.{has_handle, is_mapped, mapping_of}
use Rattle.nvm_model.specs.Storage.{File, Mapping}
use Rattle.nvm_model.proofs.FileLemmas.{file_of-none}
use Rattle.nvm_model.proofs.OtherFileLemmas.{other-change, other-put, other-rename, other-without}
use Rattle.file_journal.specs.Device.{device_files}
use Rattle.file_journal.specs.Object.{JournalState}
use Rattle.file_journal.specs.Standing.{FilesStand}
use Rattle.file_journal.specs.Tables.{AreTables, Tables}
use Rattle.file_journal.proofs.DeviceFileLemmas.{device_files-stand}
use Rattle.file_pages.proofs.FoundLemmas.{file-found, file-missing}
use Rattle.machine_host.specs.Stands.{EachMapping, IsOnFile}

-- the file is one of these, and has the stretch
pub record IsAmong (files : List File) (m : Mapping) : Type 0 where
  pub file : File
  pub found : file_of file_name m.name files ≡ Some file
  pub within : m.start + m.len ≤ 4096 * length file.pages

-- Tables and device agree on that.
module _ (s : JournalState) (d : Medium) (are : AreTables s.geo.fpages s.tables) (files : List File) (stand : FilesStand s.geo d s.tables files) (m : Mapping) where
  pub among-of : IsOnFile s.tables.files m → IsAmong files m
  among-of on =
      let here = file-found s d are m.name files stand on.inode (found_is_named m.name s.tables.files on.inode on.found) in
      record { file = here.file; found = here.found; within = subst (λ n. m.start + m.len ≤ 4096 * n) (sym here.size) on.within }

  pub on-of : IsAmong files m → IsOnFile s.tables.files m
  on-of among = by_inode (inode_of m.name s.tables.files) refl
    where
      by_inode : (o : Option ℕ) → inode_of m.name s.tables.files ≡ o → IsOnFile s.tables.files m
      by_inode None is = cc (among.found, file-missing s d m.name files stand is)
      by_inode (Some inode) is =
          let here = file-found s d are m.name files stand inode (found_is_named m.name s.tables.files inode is) in
          let same : here.file ≡ among.file = same_Some _ _ (sym here.found ∙ among.found) in
          record {
            inode = inode;
            found = is;
            within = subst (λ n. m.start + m.len ≤ 4096 * n) (ap (λ (f : File). length f.pages) (sym same) ∙ here.size) among.within;
          }

-- A change of these files leaves those of the mappings.
abbrev pub Spares : (List File → List File) → List File → List Mapping → Type 0
Spares f files mappings = EachMapping (λ (m : Mapping). IsAmong files m → IsAmong (f files) m) mappings

-- so they are on their files still, once the tables hold the changed ones
module _ (s : JournalState) (d : Medium) (to : Tables) (f : List File → List File) (are : AreTables s.geo.fpages s.tables) (right : AreTables s.geo.fpages to)
    (stand : FilesStand s.geo d to (f (device_files s.geo d s.tables))) where
  pub still_on : (mappings : List Mapping) → EachMapping (IsOnFile s.tables.files) mappings → Spares f (device_files s.geo d s.tables) mappings → EachMapping (IsOnFile to.files) mappings
  still_on [] on spares = tt
  still_on (m ∷ ms) on spares =
      let was = among-of s d are (device_files s.geo d s.tables) (device_files-stand s.geo d s.tables) m on.0 in
      let after : JournalState = record s { tables = to } in
      (on-of after d right (f (device_files s.geo d s.tables)) stand m (spares.0 was), still_on ms on.1 spares.1)

-- each change leaves the file of another name
spare-create : (name : List ℕ) (pages : ℕ) (files : List File) (m : Mapping) → has_file file_name name files ≡ false → IsAmong files m → IsAmong (put_file file_name (new_file name pages) files) m
spare-create name pages files m none among = record {
  file = among.file;
  found = other-put file_name m.name (new_file name pages) files among.file (λ same. let gone = file_of-none file_name name files none in let here = among.found in cc (gone, here, same)) among.found;
  within = among.within;
}

spare-delete : (name : List ℕ) (files : List File) (m : Mapping) → (name ≡ m.name → ⊥) → IsAmong files m → IsAmong (without_file file_name name files) m
spare-delete name files m other among = record { file = among.file; found = other-without file_name m.name name files among.file other among.found; within = among.within }

spare-rename : (name to : List ℕ) (files : List File) (m : Mapping) → (name ≡ m.name → ⊥) → has_file file_name to files ≡ false → IsAmong files m → IsAmong (rename_file file_name name (with_name to) files) m
spare-rename name to files m other none among = record {
  file = among.file;
  found = other-rename file_name m.name name (with_name to) files among.file other (λ x same. let gone = file_of-none file_name to files none in let here = among.found in cc (gone, here, same)) among.found;
  within = among.within;
}

spare-change : (name : List ℕ) (f : File → File) (files : List File) (m : Mapping) → ((x : File) → (f x).name ≡ x.name) → (name ≡ m.name → ⊥) → IsAmong files m
    → IsAmong (change_file file_name name f files) m
spare-change name f files m keeps other among = record { file = among.file; found = other-change file_name m.name name f files among.file other keeps among.found; within = among.within }

-- so they leave the files of all mappings, where none is of that name
module _ (files : List File) where
  other_names : (name : List ℕ) (m : Mapping) (ms : List Mapping) → is_mapped name (m ∷ ms) ≡ false → (name ≡ m.name → ⊥) × (is_mapped name ms ≡ false)
  other_names name m ms free =
      let parts = or_parts (bytes_eq m.name name) (is_mapped name ms) free in
      (λ same. let is = (bytes_eq-Decides m.name name).1 (sym same) in let none = parts.0 in cc (is, none), parts.1)

  pub spares-create : (name : List ℕ) (pages : ℕ) (mappings : List Mapping) → has_file file_name name files ≡ false → Spares (put_file file_name (new_file name pages)) files mappings
  spares-create name pages [] none = tt
  spares-create name pages (m ∷ ms) none = (spare-create name pages files m none, spares-create name pages ms none)

  pub spares-delete : (name : List ℕ) (mappings : List Mapping) → is_mapped name mappings ≡ false → Spares (without_file file_name name) files mappings
  spares-delete name [] free = tt
  spares-delete name (m ∷ ms) free = let others = other_names name m ms free in (spare-delete name files m others.0, spares-delete name ms others.1)

  pub spares-rename : (name to : List ℕ) (mappings : List Mapping) → is_mapped name mappings ≡ false → has_file file_name to files ≡ false → Spares (rename_file file_name name (with_name to)) files mappings
  spares-rename name to [] free none = tt
  spares-rename name to (m ∷ ms) free none = let others = other_names name m ms free in (spare-rename name to files m others.0 none, spares-rename name to ms others.1 none)

  pub spares-resize : (name : List ℕ) (pages : ℕ) (mappings : List Mapping) → is_mapped name mappings ≡ false → Spares (change_file file_name name (with_pages pages)) files mappings
  spares-resize name pages [] free = tt
  spares-resize name pages (m ∷ ms) free =
      let others = other_names name m ms free in
      (spare-change name (with_pages pages) files m (λ x. refl) others.0, spares-resize name pages ms others.1)

-- what holds of all mappings holds of the one with a handle
pub held_by : (P : Mapping → Type 0) (handle : ℕ) (mappings : List Mapping) (m : Mapping) → mapping_of handle mappings ≡ Some m → EachMapping P mappings → P m
held_by P handle [] m found all = cc found
held_by P handle (x ∷ xs) m found all = by_test (has_handle handle x) found (λ later. held_by P handle xs m later all.1)
  where
    by_test : (b : Bool) → cond b (Some x) (mapping_of handle xs) ≡ Some m → (mapping_of handle xs ≡ Some m → P m) → P m
    by_test true is later = subst P (same_Some _ _ is) all.0
    by_test false is later = later is

-- a file that is mapped is there
pub mapped_there : (s : JournalState) (d : Medium) → AreTables s.geo.fpages s.tables → (files : List File) → FilesStand s.geo d s.tables files → (name : List ℕ) (mappings : List Mapping)
    → EachMapping (IsOnFile s.tables.files) mappings → is_mapped name mappings ≡ true → has_file file_name name files ≡ true
mapped_there s d are files stand name [] on is = cc is
mapped_there s d are files stand name (m ∷ ms) on is = by_test (bytes_eq m.name name) (bytes_eq-Decides m.name name) is (λ later. mapped_there s d are files stand name ms on.1 later)
  where
    by_test : (b : Bool) → Decides b (m.name ≡ name) → (b || is_mapped name ms) ≡ true → (is_mapped name ms ≡ true → has_file file_name name files ≡ true) → has_file file_name name files ≡ true
    by_test true tells is later =
        let among = among-of s d are files stand m on.0 in
        by_file (has_file file_name name files) refl (ap (λ n. file_of file_name n files) (sym (tells.0 refl)) ∙ among.found)
      where
        by_file : (b : Bool) → has_file file_name name files ≡ b → {x : File} → file_of file_name name files ≡ Some x → has_file file_name name files ≡ true
        by_file true has found = has
        by_file false none found = let gone = file_of-none file_name name files none in cc (gone, found)
    by_test false tells is later = later is
