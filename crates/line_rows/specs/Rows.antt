-- Worked lines: what they ask for.
use Rattle.std.specs.Prelude.{◌≡◌, ℕ, [], ◌∷◌, ◌++◌, replicate, codes}
use Rattle.nvm_base.specs.declared.units.Span.{Span}
use Rattle.script_text.specs.Action.Action.{BAtomic, BMulti, VRanges, VPSync, VDiscard, VDiscardIf, VExists, Create, Delete, Rename, Resize, ListFiles, FRead, FWrite, FAtomic, FMulti, FDiscard, FSync, PoisonBlock, PoisonVolume, PoisonMeta, WeakenVolume, ClearVolume, Cut, CutIn, FailIn, Restart, Recover, Attr, Evict}
use Rattle.line_device.specs.declared.line.Choice.TheVariants.{Firsts, Seed}
use Rattle.script_text.specs.Script.{line_input}
use Rattle.script_text.specs.Script.Input.{Malformed, Overlong, Asked}

-- a range from its first block or byte and its length in bytes
abbrev pub range : ℕ → ℕ → Span
range start len = record { start = start; len = len }

pub record LineRows : Type 0 where
  pub one_range : line_input (codes "batomic 1 aa*512") ≡ Asked (BAtomic 1 (replicate 512 170))
  pub several_ranges : line_input (codes "bmulti 0 11*512 3 22*512")
      ≡ Asked (BMulti (range 0 512 ∷ range 3 512 ∷ []) (replicate 512 17 ++ replicate 512 34))
  pub ranges_of_any_length : line_input (codes "bmulti 7 0102 0 ff*3") ≡ Asked (BMulti (range 7 2 ∷ range 0 3 ∷ []) (1 ∷ 2 ∷ 255 ∷ 255 ∷ 255 ∷ []))
  pub no_range : line_input (codes "bmulti") ≡ Malformed
  pub range_without_bytes : line_input (codes "bmulti 0") ≡ Malformed
  pub last_range_without_bytes : line_input (codes "bmulti 0 11 1") ≡ Malformed
  pub range_of_no_bytes : line_input (codes "bmulti 0 11*0 1 22") ≡ Malformed
  pub too_many_bytes_together : line_input (codes "bmulti 0 00*40000 99 00*40000") ≡ Malformed
  pub where_the_volume_is : line_input (codes "vranges") ≡ Asked VRanges
  pub ranges_and_a_number : line_input (codes "vranges 0") ≡ Malformed
  pub sync_by_address : line_input (codes "vpsync 147456 4096") ≡ Asked (VPSync 147456 4096)
  pub pages_discarded : line_input (codes "vdiscard 0 2") ≡ Asked (VDiscard 0 2)
  pub pages_hinted : line_input (codes "vdiscardif 1 1") ≡ Asked (VDiscardIf 1 1)
  pub page_asked_for : line_input (codes "vexists 15") ≡ Asked (VExists 15)
  pub page_without_a_number : line_input (codes "vexists") ≡ Malformed
  pub file_created : line_input (codes "create log 4") ≡ Asked (Create (codes "log") 4)
  pub file_deleted : line_input (codes "delete log") ≡ Asked (Delete (codes "log"))
  pub file_renamed : line_input (codes "rename log log.old") ≡ Asked (Rename (codes "log") (codes "log.old"))
  pub file_resized : line_input (codes "resize log 0") ≡ Asked (Resize (codes "log") 0)
  pub files_listed : line_input (codes "list") ≡ Asked ListFiles
  pub name_of_digits : line_input (codes "create 7 4") ≡ Asked (Create (codes "7") 4)
  pub name_of_32_bytes : line_input (codes "delete abcdefghijklmnopqrstuvwxyz-_.012") ≡ Asked (Delete (codes "abcdefghijklmnopqrstuvwxyz-_.012"))
  pub name_of_33_bytes : line_input (codes "delete abcdefghijklmnopqrstuvwxyz-_.0123") ≡ Malformed
  pub new_name_of_33_bytes : line_input (codes "rename log abcdefghijklmnopqrstuvwxyz-_.0123") ≡ Malformed
  pub upper_case_letter_in_a_name : line_input (codes "delete Log") ≡ Malformed
  pub slash_in_a_new_name : line_input (codes "rename log log/old") ≡ Malformed
  pub most_pages : line_input (codes "resize log 4294967295") ≡ Asked (Resize (codes "log") 4294967295)
  pub too_many_pages : line_input (codes "create log 4294967296") ≡ Malformed
  pub pages_before_the_name : line_input (codes "create 4 log") ≡ Malformed
  pub file_without_pages : line_input (codes "create log") ≡ Malformed
  pub file_without_a_name : line_input (codes "delete") ≡ Malformed
  pub file_without_a_new_name : line_input (codes "rename log") ≡ Malformed
  pub file_and_two_numbers : line_input (codes "resize log 4 4") ≡ Malformed
  pub two_files_deleted : line_input (codes "delete log head") ≡ Malformed
  pub two_new_names : line_input (codes "rename log head tail") ≡ Malformed
  pub list_of_a_file : line_input (codes "list log") ≡ Malformed
  pub file_read : line_input (codes "fread log 64 128") ≡ Asked (FRead (codes "log") 64 128)
  pub file_written : line_input (codes "fwrite log 4088 0102,ff*3") ≡ Asked (FWrite (codes "log") 4088 (1 ∷ 2 ∷ 255 ∷ 255 ∷ 255 ∷ []))
  pub file_written_whole : line_input (codes "fwrite log 0 aa*65536") ≡ Asked (FWrite (codes "log") 0 (replicate 65536 170))
  pub file_read_without_a_length : line_input (codes "fread log 64") ≡ Malformed
  pub file_read_by_three_numbers : line_input (codes "fread log 64 128 1") ≡ Malformed
  pub offset_before_the_name : line_input (codes "fread 64 log 128") ≡ Malformed
  pub file_written_without_bytes : line_input (codes "fwrite log 0") ≡ Malformed
  pub file_written_twice : line_input (codes "fwrite log 0 11 22") ≡ Malformed
  pub write_of_no_file : line_input (codes "fwrite 0 11") ≡ Malformed
  pub too_many_bytes_of_a_file : line_input (codes "fwrite log 0 aa*65537") ≡ Malformed
  pub file_written_at_once : line_input (codes "fatomic log 4088 0102,ff*3") ≡ Asked (FAtomic (codes "log") 4088 (1 ∷ 2 ∷ 255 ∷ 255 ∷ 255 ∷ []))
  pub ranges_of_a_file : line_input (codes "fmulti log 4088 0102 0 ff*3")
      ≡ Asked (FMulti (codes "log") (range 4088 2 ∷ range 0 3 ∷ []) (1 ∷ 2 ∷ 255 ∷ 255 ∷ 255 ∷ []))
  pub range_of_a_file_without_bytes : line_input (codes "fmulti log 0 11 64") ≡ Malformed
  pub no_range_of_a_file : line_input (codes "fmulti log") ≡ Malformed
  pub ranges_of_no_file : line_input (codes "fmulti 0 11 64 22") ≡ Malformed
  pub too_many_bytes_of_a_file_together : line_input (codes "fmulti log 0 00*40000 65536 00*40000") ≡ Malformed
  pub pages_of_a_file_discarded : line_input (codes "fdiscard log 1 2") ≡ Asked (FDiscard (codes "log") 1 2)
  pub pages_of_a_file_not_counted : line_input (codes "fdiscard log 1") ≡ Malformed
  pub file_synced : line_input (codes "fsync log") ≡ Asked (FSync (codes "log"))
  pub two_files_synced : line_input (codes "fsync log head") ≡ Malformed
  pub line_of_a_block_poisoned : line_input (codes "poison block 3 7") ≡ Asked (PoisonBlock 3 7)
  pub line_of_the_volume_poisoned : line_input (codes "poison volume 4032") ≡ Asked (PoisonVolume 4032)
  pub line_of_the_metadata_poisoned : line_input (codes "poison meta 2303") ≡ Asked (PoisonMeta 2303)
  pub line_weakened : line_input (codes "weaken volume 64") ≡ Asked (WeakenVolume 64)
  pub line_cleared : line_input (codes "clear volume 65535") ≡ Asked (ClearVolume 65535)
  pub block_without_a_line : line_input (codes "poison block 3") ≡ Malformed
  pub offset_and_a_length : line_input (codes "poison volume 0 64") ≡ Malformed
  pub metadata_without_a_line : line_input (codes "poison meta") ≡ Malformed
  pub two_lines_of_the_metadata : line_input (codes "poison meta 1 2") ≡ Malformed
  pub poison_of_no_place : line_input (codes "poison 0") ≡ Malformed
  pub block_weakened : line_input (codes "weaken block 3 7") ≡ Malformed
  pub block_cleared : line_input (codes "clear block 3 7") ≡ Malformed
  pub cut_at_once : line_input (codes "cut") ≡ Asked Cut
  pub cut_later : line_input (codes "cut in 5") ≡ Asked (CutIn 5)
  pub cut_in_no_calls : line_input (codes "cut in 0") ≡ Asked (CutIn 0)
  pub cut_without_a_number : line_input (codes "cut in") ≡ Malformed
  pub cut_at_another_word : line_input (codes "cut on 5") ≡ Malformed
  pub cut_in_two_numbers : line_input (codes "cut in 5 6") ≡ Malformed
  pub failure_later : line_input (codes "fail in 5") ≡ Asked (FailIn 5)
  pub failure_at_the_largest_number : line_input (codes "fail in 4294967295") ≡ Asked (FailIn 4294967295)
  pub failure_at_a_larger_number : line_input (codes "fail in 4294967296") ≡ Malformed
  pub failure_at_once : line_input (codes "fail") ≡ Malformed
  pub failure_without_a_number : line_input (codes "fail in") ≡ Malformed
  pub failure_without_its_word : line_input (codes "fail 1") ≡ Malformed
  pub failure_in_two_numbers : line_input (codes "fail in 1 2") ≡ Malformed
  pub restart_of_first_values : line_input (codes "restart none") ≡ Asked (Restart Firsts)
  pub restart_by_a_seed : line_input (codes "restart seed 5") ≡ Asked (Restart (Seed 5))
  pub restart_by_the_largest_seed : line_input (codes "restart seed 4294967295") ≡ Asked (Restart (Seed 4294967295))
  pub restart_by_a_larger_seed : line_input (codes "restart seed 4294967296") ≡ Malformed
  pub restart_without_a_seed : line_input (codes "restart seed") ≡ Malformed
  pub restart_by_two_seeds : line_input (codes "restart seed 1 2") ≡ Malformed
  pub restart_all_by_a_seed : line_input (codes "restart all 1") ≡ Malformed
  pub recovery : line_input (codes "recover") ≡ Asked Recover
  pub recovery_and_a_number : line_input (codes "recover 1") ≡ Malformed
  pub attribute_asked_for : line_input (codes "attr pm.error_range") ≡ Asked (Attr (codes "pm.error_range"))
  pub attribute_of_any_name : line_input (codes "attr x.y") ≡ Asked (Attr (codes "x.y"))
  pub attribute_without_a_name : line_input (codes "attr") ≡ Malformed
  pub two_attributes : line_input (codes "attr a b") ≡ Malformed
  pub lines_evicted : line_input (codes "evict 1000000") ≡ Asked (Evict 1000000)
  pub too_many_lines_evicted : line_input (codes "evict 4294967296") ≡ Malformed
  pub lines_not_counted : line_input (codes "evict") ≡ Malformed
  pub longest_line : line_input (replicate 65536 97) ≡ Malformed
  pub longer_line : line_input (replicate 65537 97) ≡ Overlong
