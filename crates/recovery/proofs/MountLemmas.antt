-- What a mount gives, once nothing was found before a log is replayed.
use Rattle.std.proofs.Common.{◌≡◌, ℕ, List, None, Result, Ok, Err, IfOk, IsTrue, map, option_map, sym, ◌∙◌, ap, ap₂, subst}
use Rattle.nvm_base.proofs.FirstLemmas.{not_mapped}
use Rattle.line_device.specs.Medium.{Medium, WritesBack, last_image}
use Rattle.line_words.proofs.FrameLemmas.{last_image-write_back}
use Rattle.word_tables.specs.declared.geometry.Geometry.{Geometry}
use Rattle.word_log.specs.Mount.Finding.{wrong_word}
use Rattle.word_log.specs.Replay.{replayed}
use Rattle.word_log.specs.Rest.{IsAtRest}
use Rattle.word_log.proofs.FindingLemmas.{IsRead}
use Rattle.block_map.specs.States.{word_of}
use Rattle.block_device.specs.Area.{block_area}
use Rattle.block_device.specs.Images.{KeepsReads}
use Rattle.block_device.specs.Mounting.{wrong_map_word}
use Rattle.block_device.specs.Object.{AreDurable, BlocksServe}
use Rattle.block_device.specs.Reading.{states_read, blocks_read}
use Rattle.block_device.proofs.MountedLemmas as blocks
use Rattle.block_device.proofs.PlaceLemmas.{area_whole}
use Rattle.block_device.proofs.ReachLemmas.{keeps_reads-reached, keeps_reads-trans, keeps_reads-write_back}
use Rattle.block_device.proofs.ReadLemmas.{durable-write_back}
use Rattle.pm_volume.specs.Area.{volume_area}
use Rattle.pm_volume.specs.Presence.{presence_read, words_read, wrong_page_word}
use Rattle.pm_volume.proofs.MountedLemmas as pages
use Rattle.file_journal.specs.Area.{file_area}
use Rattle.file_journal.specs.Reading as reading
use Rattle.file_journal.proofs.MountLemmas as files
use Rattle.recovery.specs.declared.fault.MountFault.{MountFault}
use Rattle.recovery.specs.declared.Mounted.{Mounted}
use Rattle.recovery.specs.declared.replaying.Tables.{Tables}
use Rattle.recovery.specs.Findings.{geometry_told, inspection_finding, first_finding, wrong_log, wrong_table}
use Rattle.recovery.specs.Mounting.{Finds, HasDurableBlocks, IsInOrder, IsOfLogs}
use Rattle.recovery.specs.Calls.{IsMounted, LeavesDevice}
use Rattle.recovery.specs.Tables.{AreOf, AreTables, LeavesLogs, ServesFiles, wrong_words}
use Rattle.recovery.proofs.FindingLemmas.{bad-write_back, finds_judged, three_none}
use Rattle.recovery.proofs.LogLemmas.{in_order-outside, logs_in_metadata}
use Rattle.recovery.proofs.LeaveLemmas.{leaves-then, leaves-write_back}

module _ (old now : Medium) (geo : Geometry) (is : geo ≡ geometry_told old) (x : WritesBack old now) where
  -- the logs are the same
  pub logs_same : wrong_log geo (last_image now) ≡ wrong_log (geometry_told old) (last_image old)
  logs_same = ap₂ wrong_log is (last_image-write_back old now x)

  -- and the blocks
  blocks_same : blocks_read geo now.is_bad (last_image now) ≡ blocks_read (geometry_told old) old.is_bad (last_image old)
  blocks_same =
      ap₂ (blocks_read geo) (bad-write_back old now x) (last_image-write_back old now x) ∙ ap (λ g. blocks_read g old.is_bad (last_image old)) is

  pub left_unreplayed : LeavesDevice old now
  left_unreplayed = record {
    logs = leaves-write_back (geometry_told old) old now x;
    reads = λ _. keeps_reads-write_back (geometry_told old) old now x;
    refused = λ _. x;
  }

  -- what the replays leave, they leave of the device
  module _ (right : inspection_finding old ≡ None) (new : Medium) (order : IsInOrder geo now) (left : LeavesLogs geo now new) where
    pub mount_leaves : LeavesDevice old new
    mount_leaves = record {
      logs = subst (λ g. LeavesLogs g old new) is (leaves-then geo order.valid old now new (leaves-write_back geo old now x) left);
      reads = λ _.
          subst (λ g. KeepsReads g old new) is
          (keeps_reads-trans geo old now new order.valid (keeps_reads-write_back geo old now x)
          (keeps_reads-reached geo (IsOfLogs geo) (logs_in_metadata geo order.valid) now new order.valid left.outside left.blocks (area_whole geo order.valid now order.good)));
      refused = λ wrong. absurd (wrong right);
    }

  -- the tables that were read
  module _ (right : inspection_finding old ≡ None) (tables : Tables) (are : AreTables geo (last_image now) tables) where
    words_same : wrong_words geo tables.map.items tables.presence.items tables.file_words.items ≡ wrong_table (geometry_told old) (last_image old)
    words_same =
        ap₂ (λ (ms ps : List ℕ). wrong_words geo ms ps tables.file_words.items) (blocks.mounted_words geo now tables.map.items are.map) (pages.mounted_words geo now tables.presence.items are.presence)
        ∙ ap (wrong_words geo (map word_of (states_read geo (last_image now))) (words_read geo (last_image now))) (files.mounted_words geo now tables.file_words.items are.file_words)
        ∙ ap₂ wrong_table is (last_image-write_back old now x)

    pub mount_finds : {T : Type 0} (r : Result T MountFault) → Finds (option_map wrong_word (wrong_words geo tables.map.items tables.presence.items tables.file_words.items)) r → Finds (first_finding old) r
    mount_finds r h = finds_judged old r right (subst (λ o. Finds (option_map wrong_word o) r) words_same h)

    -- and what was made of them
    module _ (new : Medium) (order : IsInOrder geo now) (left : LeavesLogs geo now new) (files_rest : IsAtRest (file_area geo) new (replayed (file_area geo) (last_image now))) where
      -- the device is the one of the files of the words that were read
      pub mount_files : ServesFiles geo new tables.file_words.items
      mount_files s sizes named right =
          files.judged_serves geo now new (IsOfLogs geo) tables.file_words.items (record { words = are.file_words; rest = files_rest; outside = left.outside }) (Ok s) order.count order.strong (sizes, named) right

      module _ (rest : IsAtRest (block_area geo) new (replayed (block_area geo) (last_image now))) (volume_rest : IsAtRest (volume_area geo) new (replayed (volume_area geo) (last_image now))) where
        pub mount_mounted : (r : Result Mounted MountFault) → IfOk r (AreOf geo new tables)
            → Finds (option_map wrong_word (wrong_words geo tables.map.items tables.presence.items tables.file_words.items)) r → IfOk r (IsMounted old new)
        mount_mounted (Err f) made h = tt
        mount_mounted (Ok mounted) made h =
            let parts = three_none (wrong_map_word geo tables.map.items) (wrong_page_word geo tables.presence.items) (reading.wrong_table geo tables.file_words.items) (not_mapped wrong_word _ h) in
            let of_blocks : IsRead (block_area geo) (IsOfLogs geo) now new tables.map.items = record { words = are.map; rest = rest; outside = left.outside } in
            let reads = blocks.judged_reads geo order.valid (IsOfLogs geo) (logs_in_metadata geo order.valid) now new tables.map.items of_blocks (Ok mounted.blocks) made.blocks parts.0 in
            let there = pages.judged_pages geo now tables.presence.items are.presence (Ok mounted.volume) made.volume in
            let on = files.judged_tables geo now tables.file_words.items are.file_words (Ok mounted.files.journal) made.journal in
            let states = states_read geo (last_image old) in
            record {
              geo = made.sizes ∙ is;
              blocks_geo = reads.0 ∙ is;
              blocks = reads.1 ∙ blocks_same;
              blocks_serve = λ durable.
                  let told = subst (λ g. AreDurable g old (states_read g (last_image old))) (sym is) (durable (mount_finds (Ok mounted) h)) in
                  let still = subst (λ (word : ℕ → ℕ). AreDurable geo now (states_read geo word)) (sym (last_image-write_back old now x)) (durable-write_back geo states old now x told) in
                  blocks.judged_serves geo order.valid (IsOfLogs geo) (logs_in_metadata geo order.valid) now new tables.map.items of_blocks (Ok mounted.blocks) order.count order.strong made.blocks parts.0 still;
              rest =
                  subst (λ (word : ℕ → ℕ). IsAtRest (block_area (geometry_told old)) new (replayed (block_area (geometry_told old)) word)) (last_image-write_back old now x)
                  (subst (λ g. IsAtRest (block_area g) new (replayed (block_area g) (last_image now))) is rest);
              volume_geo = there.0 ∙ is;
              present = there.1 ∙ ap₂ presence_read is (last_image-write_back old now x);
              volume_serves = pages.judged_serves geo order.valid now new (IsOfLogs geo) tables.presence.items (record { words = are.presence; rest = volume_rest; outside = left.outside }) (Ok mounted.volume) order.count order.strong made.volume;
              journal_geo = on.0 ∙ is;
              tables = on.1 ∙ ap₂ reading.tables_read is (last_image-write_back old now x);
              right = made.right;
              held = made.held;
              journal_serves = mount_files mounted.files.journal made.journal.0 made.journal.1 parts.2;
              settled = made.settled;
              events = made.events;
              room = made.room;
              order = subst (λ g. IsInOrder g new) (sym made.sizes) (in_order-outside geo (IsOfLogs geo) now new order left.outside);
            }

-- what is mounted can be used, where what the map names is durable
pub usable : (old new : Medium) (r : Result Mounted MountFault) → HasDurableBlocks old → (HasDurableBlocks old → IfOk r (λ mounted. BlocksServe mounted.blocks new)) → IfOk r (λ mounted. IsTrue mounted.blocks.settled → BlocksServe mounted.blocks new)
usable old new (Ok mounted) durable serves = λ _. serves durable
usable old new (Err f) durable serves = tt
