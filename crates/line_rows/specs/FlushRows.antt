-- Worked lines on flushes of mappings, on events, and on bad and weak lines of files.
use Rattle.std.specs.Prelude.{◌≡◌, [], ◌∷◌, codes}
use Rattle.script_text.specs.Action.Action.{Sync, Flush, FlushVerify, DeepFlush, NextEvent, CheckFile, PoisonFile, WeakenFile, ClearFile}
use Rattle.line_rows.specs.Rows.{range}
use Rattle.script_text.specs.Script.{line_input}
use Rattle.script_text.specs.Script.Input.{Malformed, Asked}

pub record FlushRows : Type 0 where
  pub mapping_synced : line_input (codes "sync 7 64 128") ≡ Asked (Sync 7 64 128)
  pub sync_without_a_length : line_input (codes "sync 7 0") ≡ Malformed
  pub sync_of_a_span_and_a_number : line_input (codes "sync 7 0 64 64") ≡ Malformed
  pub span_flushed : line_input (codes "flush 7 0 64") ≡ Asked (Flush 7 (range 0 64 ∷ []))
  pub spans_flushed : line_input (codes "flush 7 0 64 4096 1") ≡ Asked (Flush 7 (range 0 64 ∷ range 4096 1 ∷ []))
  pub flush_of_no_span : line_input (codes "flush 7") ≡ Malformed
  pub flush_of_half_a_span : line_input (codes "flush 7 0") ≡ Malformed
  pub flush_of_a_span_and_a_half : line_input (codes "flush 7 0 64 64") ≡ Malformed
  pub flush_without_a_handle : line_input (codes "flush log 0 64") ≡ Malformed
  pub span_flushed_and_looked_at : line_input (codes "flushv 7 0 64") ≡ Asked (FlushVerify 7 (range 0 64 ∷ []))
  pub look_at_half_a_span : line_input (codes "flushv 7 0") ≡ Malformed
  pub span_flushed_deep : line_input (codes "deepflush 7 0 64") ≡ Asked (DeepFlush 7 (range 0 64 ∷ []))
  pub deep_flush_of_no_span : line_input (codes "deepflush 7") ≡ Malformed
  pub event_taken : line_input (codes "event") ≡ Asked NextEvent
  pub event_and_a_number : line_input (codes "event 1") ≡ Malformed
  pub file_checked : line_input (codes "check log 0 65536") ≡ Asked (CheckFile (codes "log") 0 65536)
  pub file_checked_without_a_length : line_input (codes "check log 0") ≡ Malformed
  pub line_of_a_file_poisoned : line_input (codes "poison file log 64") ≡ Asked (PoisonFile (codes "log") 64)
  pub poison_of_a_file_without_an_offset : line_input (codes "poison file log") ≡ Malformed
  pub line_of_a_file_weakened : line_input (codes "weaken file log 64") ≡ Asked (WeakenFile (codes "log") 64)
  pub weakened_in_no_place : line_input (codes "weaken log 64") ≡ Malformed
  pub line_of_a_file_cleared : line_input (codes "clear file log 64") ≡ Asked (ClearFile (codes "log") 64)
  pub line_of_a_file_cleared_and_a_number : line_input (codes "clear file log 64 1") ≡ Malformed
