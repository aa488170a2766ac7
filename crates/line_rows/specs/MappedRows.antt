-- Worked lines on mapped files.
use Rattle.std.specs.Prelude.{◌≡◌, [], ◌∷◌, codes}
use Rattle.nvm_base.specs.declared.files.Kind.TheVariants.{Shared, Private}
use Rattle.script_text.specs.Action.Action.{Map, Unmap, Load, Store}
use Rattle.line_rows.specs.Rows.{range}
use Rattle.script_text.specs.Script.{line_input}
use Rattle.script_text.specs.Script.Input.{Malformed, Asked}

pub record MappedRows : Type 0 where
  pub file_shown : line_input (codes "map log 0 65536 shared") ≡ Asked (Map (codes "log") (range 0 65536) Shared)
  pub file_copied : line_input (codes "map log 64 1 private") ≡ Asked (Map (codes "log") (range 64 1) Private)
  pub map_of_no_kind : line_input (codes "map log 0 65536") ≡ Malformed
  pub map_of_another_kind : line_input (codes "map log 0 65536 Shared") ≡ Malformed
  pub map_of_two_kinds : line_input (codes "map log 0 65536 shared private") ≡ Malformed
  pub map_without_a_length : line_input (codes "map log 0 shared") ≡ Malformed
  pub mapping_ended : line_input (codes "unmap 7") ≡ Asked (Unmap 7)
  pub mapping_ended_by_name : line_input (codes "unmap log") ≡ Malformed
  pub two_mappings_ended : line_input (codes "unmap 7 8") ≡ Malformed
  pub mapping_read : line_input (codes "load 7 64 128") ≡ Asked (Load 7 64 128)
  pub mapping_read_without_a_handle : line_input (codes "load 64 128") ≡ Malformed
  pub mapping_stored_to : line_input (codes "store 7 64 0102,ff*3") ≡ Asked (Store 7 64 (1 ∷ 2 ∷ 255 ∷ 255 ∷ 255 ∷ []))
  pub too_many_bytes_of_a_mapping : line_input (codes "store 7 0 aa*65537") ≡ Malformed
