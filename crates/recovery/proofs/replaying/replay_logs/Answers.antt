use Rattle.std.proofs.Common.{inl, inr, true, refl, sym, ◌∙◌, ap}
use Rattle.line_device.specs.Medium.{last_image}
use Rattle.line_device.specs.Panel.Outcome.{went}
use Rattle.line_words.specs.Told.{told_outcome}
use Rattle.word_log.specs.declared.area.LogArea.{LogArea}
use Rattle.word_log.specs.Mount.{says}
use Rattle.block_device.specs.Area.{block_area}
use Rattle.block_device.proofs.MountedLemmas as map
use Rattle.pm_volume.specs.Area.{volume_area}
use Rattle.pm_volume.proofs.MountedLemmas as presence
use Rattle.file_journal.specs.Area.{file_area}
use Rattle.file_journal.proofs.MountLemmas as journal
use Rattle.recovery.specs.Mounting.{mount_outcome}
use Rattle.recovery.proofs.FindingLemmas.{ended_told, logs_right}
use Rattle.recovery.proofs.LogLemmas.{log_fits, log_strong, log_whole}
use Rattle.recovery.proofs.LeaveLemmas.{leaves_one, leaves-then}
use Rattle.recovery.proofs.ReplayLemmas.{blocks_rest, file_words, files_rest, files_right, late_order, map_words, mid_order, presence_words, right_at, runs_all, runs_one, runs_two, volume_rest, volume_right}
use Rattle.recovery.proofs.TableLemmas.{not_refused}
use Rattle.recovery.proofs.replaying.replay_logs.Goals as goal

pub mount_words-requires-clause-fits : goal.mount_words-requires-clause-fits
mount_words-requires-clause-fits g c =
    log_fits c.args.geo c.block_area.result (inl c.block_area.ensures) (g.L.Lines.state c.args.dev.now).medium c.requires.order

pub mount_words-requires-clause-strong : goal.mount_words-requires-clause-strong
mount_words-requires-clause-strong g c =
    log_strong c.args.geo c.block_area.result (inl c.block_area.ensures) (g.L.Lines.state c.args.dev.now).medium c.requires.order

pub returns-in_err-block_log-clause-stop : goal.returns-in_err-block_log-clause-stop
returns-in_err-block_log-clause-stop g c =
    let geo = c.args.geo in
    let old = (g.L.Lines.state c.args.dev.now).medium in
    not_refused c.from_residual.result (says c.in_err-block_log.field-0.0) c.block_area.result old c.from_residual.ensures.1 (log_whole geo c.block_area.result (inl c.block_area.ensures) old c.requires.order)
    (right_at c.block_area.result (block_area geo) (last_image old) c.block_area.ensures (logs_right geo (last_image old) c.requires.right).0) c.in_err-block_log.ensures.finds

pub returns-in_err-block_log-clause-left : goal.returns-in_err-block_log-clause-left
returns-in_err-block_log-clause-left g c =
    let geo = c.args.geo in
    let old = (g.L.Lines.state c.args.dev.now).medium in
    let mid = (g.L.Lines.state c.mount_words.new.dev).medium in
    leaves_one geo c.requires.order.valid c.block_area.result (inl c.block_area.ensures) old mid c.in_err-block_log.ensures.leaves

pub returns-in_err-block_log-clause-runs : goal.returns-in_err-block_log-clause-runs
returns-in_err-block_log-clause-runs g c =
    let geo = c.args.geo in
    runs_one geo (mount_outcome c.from_residual.result) _ _
    (map.mounted_runs geo c.block_area.result (mount_outcome c.from_residual.result) (told_outcome (says c.in_err-block_log.field-0.0)) _ _ c.requires.order.valid.whole_lines c.block_area.ensures
    (sym (ended_told c.from_residual.result (says c.in_err-block_log.field-0.0) c.from_residual.ensures.1)) c.in_err-block_log.ensures.runs)

pub mount_words-requires-2-clause-fits : goal.mount_words-requires-2-clause-fits
mount_words-requires-2-clause-fits g c =
    let geo = c.args.geo in
    let old = (g.L.Lines.state c.args.dev.now).medium in
    let mid = (g.L.Lines.state c.mount_words.new.dev).medium in
    log_fits geo c.volume_area.result (inr (inl c.volume_area.ensures)) mid (mid_order geo old mid c.requires.order c.requires.right c.block_area.result c.block_area.ensures c.in_ok-block_log.ensures.leaves.outside)

pub mount_words-requires-2-clause-strong : goal.mount_words-requires-2-clause-strong
mount_words-requires-2-clause-strong g c =
    let geo = c.args.geo in
    let old = (g.L.Lines.state c.args.dev.now).medium in
    let mid = (g.L.Lines.state c.mount_words.new.dev).medium in
    log_strong geo c.volume_area.result (inr (inl c.volume_area.ensures)) mid (mid_order geo old mid c.requires.order c.requires.right c.block_area.result c.block_area.ensures c.in_ok-block_log.ensures.leaves.outside)

pub returns-in_err-volume_log-clause-stop : goal.returns-in_err-volume_log-clause-stop
returns-in_err-volume_log-clause-stop g c =
    let geo = c.args.geo in
    let old = (g.L.Lines.state c.args.dev.now).medium in
    let mid = (g.L.Lines.state c.mount_words.new.dev).medium in
    not_refused c.from_residual-in_err-volume_log.result (says c.in_err-volume_log.field-0.0) c.volume_area.result mid c.from_residual-in_err-volume_log.ensures.1 (log_whole geo c.volume_area.result (inr (inl c.volume_area.ensures)) mid (mid_order geo old mid c.requires.order c.requires.right c.block_area.result c.block_area.ensures c.in_ok-block_log.ensures.leaves.outside))
    (right_at c.volume_area.result (volume_area geo) (last_image mid) c.volume_area.ensures (volume_right geo old mid c.requires.order c.requires.right c.block_area.result c.block_area.ensures c.in_ok-block_log.ensures.leaves.outside)) c.in_err-volume_log.ensures.finds

pub returns-in_err-volume_log-clause-left : goal.returns-in_err-volume_log-clause-left
returns-in_err-volume_log-clause-left g c =
    let geo = c.args.geo in
    let old = (g.L.Lines.state c.args.dev.now).medium in
    let mid = (g.L.Lines.state c.mount_words.new.dev).medium in
    let late = (g.L.Lines.state c.mount_words-2.new.dev).medium in
    leaves-then geo c.requires.order.valid old mid late (leaves_one geo c.requires.order.valid c.block_area.result (inl c.block_area.ensures) old mid c.in_ok-block_log.ensures.leaves)
    (leaves_one geo c.requires.order.valid c.volume_area.result (inr (inl c.volume_area.ensures)) mid late c.in_err-volume_log.ensures.leaves)

pub returns-in_err-volume_log-clause-runs : goal.returns-in_err-volume_log-clause-runs
returns-in_err-volume_log-clause-runs g c =
    let geo = c.args.geo in
    runs_two geo (mount_outcome c.from_residual-in_err-volume_log.result) _ _ _ (map.mounted_runs geo c.block_area.result went went _ _ c.requires.order.valid.whole_lines c.block_area.ensures refl c.in_ok-block_log.ensures.runs)
    (presence.mounted_runs geo c.volume_area.result (mount_outcome c.from_residual-in_err-volume_log.result) (told_outcome (says c.in_err-volume_log.field-0.0)) _ _ c.requires.order.valid c.volume_area.ensures
    (sym (ended_told c.from_residual-in_err-volume_log.result (says c.in_err-volume_log.field-0.0) c.from_residual-in_err-volume_log.ensures.1)) c.in_err-volume_log.ensures.runs)

pub mount_words-requires-3-clause-fits : goal.mount_words-requires-3-clause-fits
mount_words-requires-3-clause-fits g c =
    let geo = c.args.geo in
    let old = (g.L.Lines.state c.args.dev.now).medium in
    let mid = (g.L.Lines.state c.mount_words.new.dev).medium in
    let late = (g.L.Lines.state c.mount_words-2.new.dev).medium in
    log_fits geo c.file_area.result (inr (inr c.file_area.ensures)) late (late_order geo old mid c.requires.order c.requires.right c.block_area.result c.block_area.ensures c.in_ok-block_log.ensures.leaves.outside late c.volume_area.result c.volume_area.ensures c.in_ok-volume_log.ensures.leaves.outside)

pub mount_words-requires-3-clause-strong : goal.mount_words-requires-3-clause-strong
mount_words-requires-3-clause-strong g c =
    let geo = c.args.geo in
    let old = (g.L.Lines.state c.args.dev.now).medium in
    let mid = (g.L.Lines.state c.mount_words.new.dev).medium in
    let late = (g.L.Lines.state c.mount_words-2.new.dev).medium in
    log_strong geo c.file_area.result (inr (inr c.file_area.ensures)) late (late_order geo old mid c.requires.order c.requires.right c.block_area.result c.block_area.ensures c.in_ok-block_log.ensures.leaves.outside late c.volume_area.result c.volume_area.ensures c.in_ok-volume_log.ensures.leaves.outside)

pub returns-in_err-file_log-clause-stop : goal.returns-in_err-file_log-clause-stop
returns-in_err-file_log-clause-stop g c =
    let geo = c.args.geo in
    let old = (g.L.Lines.state c.args.dev.now).medium in
    let mid = (g.L.Lines.state c.mount_words.new.dev).medium in
    let late = (g.L.Lines.state c.mount_words-2.new.dev).medium in
    not_refused c.from_residual-in_err-file_log.result (says c.in_err-file_log.field-0.0) c.file_area.result late c.from_residual-in_err-file_log.ensures.1 (log_whole geo c.file_area.result (inr (inr c.file_area.ensures)) late (late_order geo old mid c.requires.order c.requires.right c.block_area.result c.block_area.ensures c.in_ok-block_log.ensures.leaves.outside late c.volume_area.result c.volume_area.ensures c.in_ok-volume_log.ensures.leaves.outside))
    (right_at c.file_area.result (file_area geo) (last_image late) c.file_area.ensures (files_right geo old mid c.requires.order c.requires.right c.block_area.result c.block_area.ensures c.in_ok-block_log.ensures.leaves.outside late c.volume_area.result c.volume_area.ensures c.in_ok-volume_log.ensures.leaves.outside)) c.in_err-file_log.ensures.finds

pub returns-in_err-file_log-clause-left : goal.returns-in_err-file_log-clause-left
returns-in_err-file_log-clause-left g c =
    let geo = c.args.geo in
    let old = (g.L.Lines.state c.args.dev.now).medium in
    let mid = (g.L.Lines.state c.mount_words.new.dev).medium in
    let late = (g.L.Lines.state c.mount_words-2.new.dev).medium in
    let new = (g.L.Lines.state c.mount_words-3.new.dev).medium in
    leaves-then geo c.requires.order.valid old late new
    (leaves-then geo c.requires.order.valid old mid late (leaves_one geo c.requires.order.valid c.block_area.result (inl c.block_area.ensures) old mid c.in_ok-block_log.ensures.leaves)
    (leaves_one geo c.requires.order.valid c.volume_area.result (inr (inl c.volume_area.ensures)) mid late c.in_ok-volume_log.ensures.leaves))
    (leaves_one geo c.requires.order.valid c.file_area.result (inr (inr c.file_area.ensures)) late new c.in_err-file_log.ensures.leaves)

pub returns-in_err-file_log-clause-runs : goal.returns-in_err-file_log-clause-runs
returns-in_err-file_log-clause-runs g c =
    let geo = c.args.geo in
    runs_all geo (mount_outcome c.from_residual-in_err-file_log.result) _ _ _ _ (map.mounted_runs geo c.block_area.result went went _ _ c.requires.order.valid.whole_lines c.block_area.ensures refl c.in_ok-block_log.ensures.runs)
    (presence.mounted_runs geo c.volume_area.result went went _ _ c.requires.order.valid c.volume_area.ensures refl c.in_ok-volume_log.ensures.runs)
    (journal.mounted_runs geo c.file_area.result (mount_outcome c.from_residual-in_err-file_log.result) (told_outcome (says c.in_err-file_log.field-0.0)) _ _ c.file_area.ensures
    (sym (ended_told c.from_residual-in_err-file_log.result (says c.in_err-file_log.field-0.0) c.from_residual-in_err-file_log.ensures.1)) c.in_err-file_log.ensures.runs)

pub returns-clause-left : goal.returns-clause-left
returns-clause-left g c =
    let geo = c.args.geo in
    let old = (g.L.Lines.state c.args.dev.now).medium in
    let mid = (g.L.Lines.state c.mount_words.new.dev).medium in
    let late = (g.L.Lines.state c.mount_words-2.new.dev).medium in
    let new = (g.L.Lines.state c.mount_words-3.new.dev).medium in
    leaves-then geo c.requires.order.valid old late new
    (leaves-then geo c.requires.order.valid old mid late (leaves_one geo c.requires.order.valid c.block_area.result (inl c.block_area.ensures) old mid c.in_ok-block_log.ensures.leaves)
    (leaves_one geo c.requires.order.valid c.volume_area.result (inr (inl c.volume_area.ensures)) mid late c.in_ok-volume_log.ensures.leaves))
    (leaves_one geo c.requires.order.valid c.file_area.result (inr (inr c.file_area.ensures)) late new c.in_ok-file_log.ensures.leaves)

pub returns-clause-runs : goal.returns-clause-runs
returns-clause-runs g c =
    let geo = c.args.geo in
    runs_all geo went _ _ _ _ (map.mounted_runs geo c.block_area.result went went _ _ c.requires.order.valid.whole_lines c.block_area.ensures refl c.in_ok-block_log.ensures.runs)
    (presence.mounted_runs geo c.volume_area.result went went _ _ c.requires.order.valid c.volume_area.ensures refl c.in_ok-volume_log.ensures.runs)
    (journal.mounted_runs geo c.file_area.result went went _ _ c.file_area.ensures refl c.in_ok-file_log.ensures.runs)

pub returns-clause-tables : goal.returns-clause-tables
returns-clause-tables g c =
    let geo = c.args.geo in
    let old = (g.L.Lines.state c.args.dev.now).medium in
    let mid = (g.L.Lines.state c.mount_words.new.dev).medium in
    let late = (g.L.Lines.state c.mount_words-2.new.dev).medium in
    record {
      blocks = c.in_ok-block_log.ensures.log ∙ ap (λ (a : LogArea). record { area = a; settled = true }) c.block_area.ensures;
      map = map_words geo old mid c.requires.order c.requires.right c.block_area.result c.block_area.ensures c.in_ok-block_log.ensures.leaves.outside c.in_ok-block_log.map.items c.in_ok-block_log.ensures.words;
      volume = c.in_ok-volume_log.ensures.log ∙ ap (λ (a : LogArea). record { area = a; settled = true }) c.volume_area.ensures;
      presence = presence_words geo old mid c.requires.order c.requires.right c.block_area.result c.block_area.ensures c.in_ok-block_log.ensures.leaves.outside late c.volume_area.result c.volume_area.ensures c.in_ok-volume_log.ensures.leaves.outside c.in_ok-volume_log.presence.items c.in_ok-volume_log.ensures.words;
      files = c.in_ok-file_log.ensures.log ∙ ap (λ (a : LogArea). record { area = a; settled = true }) c.file_area.ensures;
      file_words = file_words geo old mid c.requires.order c.requires.right c.block_area.result c.block_area.ensures c.in_ok-block_log.ensures.leaves.outside late c.volume_area.result c.volume_area.ensures c.in_ok-volume_log.ensures.leaves.outside c.file_area.result c.file_area.ensures c.in_ok-file_log.file_words.items c.in_ok-file_log.ensures.words;
    }

pub returns-clause-blocks_rest : goal.returns-clause-blocks_rest
returns-clause-blocks_rest g c =
    let geo = c.args.geo in
    let old = (g.L.Lines.state c.args.dev.now).medium in
    let mid = (g.L.Lines.state c.mount_words.new.dev).medium in
    let late = (g.L.Lines.state c.mount_words-2.new.dev).medium in
    let new = (g.L.Lines.state c.mount_words-3.new.dev).medium in
    blocks_rest geo old mid c.requires.order c.requires.right c.block_area.result c.block_area.ensures c.in_ok-block_log.ensures.leaves.outside late c.volume_area.result c.volume_area.ensures c.in_ok-volume_log.ensures.leaves.outside c.file_area.result c.file_area.ensures new c.in_ok-file_log.ensures.leaves.outside
    c.in_ok-block_log.ensures.rest

pub returns-clause-volume_rest : goal.returns-clause-volume_rest
returns-clause-volume_rest g c =
    let geo = c.args.geo in
    let old = (g.L.Lines.state c.args.dev.now).medium in
    let mid = (g.L.Lines.state c.mount_words.new.dev).medium in
    let late = (g.L.Lines.state c.mount_words-2.new.dev).medium in
    let new = (g.L.Lines.state c.mount_words-3.new.dev).medium in
    volume_rest geo old mid c.requires.order c.requires.right c.block_area.result c.block_area.ensures c.in_ok-block_log.ensures.leaves.outside late c.volume_area.result c.volume_area.ensures c.in_ok-volume_log.ensures.leaves.outside c.file_area.result c.file_area.ensures new c.in_ok-file_log.ensures.leaves.outside
    c.in_ok-volume_log.ensures.rest

pub returns-clause-files_rest : goal.returns-clause-files_rest
returns-clause-files_rest g c =
    let geo = c.args.geo in
    let old = (g.L.Lines.state c.args.dev.now).medium in
    let mid = (g.L.Lines.state c.mount_words.new.dev).medium in
    let late = (g.L.Lines.state c.mount_words-2.new.dev).medium in
    let new = (g.L.Lines.state c.mount_words-3.new.dev).medium in
    files_rest geo old mid c.requires.order c.requires.right c.block_area.result c.block_area.ensures c.in_ok-block_log.ensures.leaves.outside late c.volume_area.result c.volume_area.ensures c.in_ok-volume_log.ensures.leaves.outside c.file_area.result c.file_area.ensures new c.in_ok-file_log.ensures.leaves.outside
    c.in_ok-file_log.ensures.rest
