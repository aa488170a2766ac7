use Rattle.std.proofs.Common.{inl, inr, option_map, ap}
use Rattle.line_device.specs.Medium.{last_image}
use Rattle.line_device.proofs.WriteBackLemmas.{write_back-refl, write_back-trans}
use Rattle.word_log.specs.Mount.{says}
use Rattle.word_log.specs.Mount.Finding.{wrong_word}
use Rattle.block_device.specs.Area.{block_area}
use Rattle.pm_volume.specs.Area.{volume_area}
use Rattle.file_journal.specs.Area.{file_area}
use Rattle.recovery.specs.Findings.{wrong_log}
use Rattle.recovery.proofs.LogLemmas.{in_order-write_back, log_fits, log_whole}
use Rattle.recovery.proofs.TableLemmas.{blocks_wrong, files_wrong, finds_log, no_wrong_log, right_before, volume_wrong}
use Rattle.recovery.proofs.replaying.inspect_logs.Goals as goal

pub inspect-requires-clause-fits : goal.inspect-requires-clause-fits
inspect-requires-clause-fits g c = log_fits c.args.geo c.block_area.result (inl c.block_area.ensures) (g.L.Lines.state c.args.dev.now).medium c.requires.order

pub returns-in_err-inspect-clause-finds : goal.returns-in_err-inspect-clause-finds
returns-in_err-inspect-clause-finds g c =
    let geo = c.args.geo in
    let old = (g.L.Lines.state c.args.dev.now).medium in
    let is = c.block_area.ensures in
    finds_log c.block_area.result (block_area geo) is old old (write_back-refl old) (option_map wrong_word (wrong_log geo (last_image old))) c.from_residual.result (says c.in_err-inspect.field-0.0)
    c.from_residual.ensures.1 (log_whole geo c.block_area.result (inl is) old c.requires.order) (blocks_wrong geo (last_image old)) c.in_err-inspect.ensures.finds

pub inspect-requires-2-clause-fits : goal.inspect-requires-2-clause-fits
inspect-requires-2-clause-fits g c =
    let old = (g.L.Lines.state c.args.dev.now).medium in
    let now = (g.L.Lines.state c.inspect.new.dev).medium in
    log_fits c.args.geo c.volume_area.result (inr (inl c.volume_area.ensures)) now (in_order-write_back c.args.geo old now c.requires.order c.in_ok-inspect.ensures.lines)

pub returns-in_err-inspect-2-clause-finds : goal.returns-in_err-inspect-2-clause-finds
returns-in_err-inspect-2-clause-finds g c =
    let geo = c.args.geo in
    let old = (g.L.Lines.state c.args.dev.now).medium in
    let now = (g.L.Lines.state c.inspect.new.dev).medium in
    let x = c.in_ok-inspect.ensures.lines in
    let is = c.volume_area.ensures in
    finds_log c.volume_area.result (volume_area geo) is old now x (option_map wrong_word (wrong_log geo (last_image old))) c.from_residual-in_err-inspect-2.result (says c.in_err-inspect-2.field-0.0)
    c.from_residual-in_err-inspect-2.ensures.1 (log_whole geo c.volume_area.result (inr (inl is)) now (in_order-write_back geo old now c.requires.order x))
    (λ why. volume_wrong geo (last_image old) why (right_before c.block_area.result (block_area geo) c.block_area.ensures old old (write_back-refl old) c.in_ok-inspect.ensures.finds.1))
    c.in_err-inspect-2.ensures.finds

pub returns-in_err-inspect-2-clause-lines : goal.returns-in_err-inspect-2-clause-lines
returns-in_err-inspect-2-clause-lines g c = write_back-trans _ _ _ c.in_ok-inspect.ensures.lines c.in_err-inspect-2.ensures.lines

pub inspect-requires-3-clause-fits : goal.inspect-requires-3-clause-fits
inspect-requires-3-clause-fits g c =
    let old = (g.L.Lines.state c.args.dev.now).medium in
    let now = (g.L.Lines.state c.inspect-2.new.dev).medium in
    log_fits c.args.geo c.file_area.result (inr (inr c.file_area.ensures)) now
    (in_order-write_back c.args.geo old now c.requires.order (write_back-trans _ _ _ c.in_ok-inspect.ensures.lines c.in_ok-inspect-2.ensures.lines))

pub returns-in_err-inspect-3-clause-finds : goal.returns-in_err-inspect-3-clause-finds
returns-in_err-inspect-3-clause-finds g c =
    let geo = c.args.geo in
    let old = (g.L.Lines.state c.args.dev.now).medium in
    let mid = (g.L.Lines.state c.inspect.new.dev).medium in
    let now = (g.L.Lines.state c.inspect-2.new.dev).medium in
    let x = c.in_ok-inspect.ensures.lines in
    let y = write_back-trans old mid now x c.in_ok-inspect-2.ensures.lines in
    let is = c.file_area.ensures in
    finds_log c.file_area.result (file_area geo) is old now y (option_map wrong_word (wrong_log geo (last_image old))) c.from_residual-in_err-inspect-3.result (says c.in_err-inspect-3.field-0.0)
    c.from_residual-in_err-inspect-3.ensures.1 (log_whole geo c.file_area.result (inr (inr is)) now (in_order-write_back geo old now c.requires.order y))
    (λ why. files_wrong geo (last_image old) why (right_before c.block_area.result (block_area geo) c.block_area.ensures old old (write_back-refl old) c.in_ok-inspect.ensures.finds.1)
    (right_before c.volume_area.result (volume_area geo) c.volume_area.ensures old mid x c.in_ok-inspect-2.ensures.finds.1))
    c.in_err-inspect-3.ensures.finds

pub returns-in_err-inspect-3-clause-lines : goal.returns-in_err-inspect-3-clause-lines
returns-in_err-inspect-3-clause-lines g c =
    write_back-trans _ _ _ (write_back-trans _ _ _ c.in_ok-inspect.ensures.lines c.in_ok-inspect-2.ensures.lines) c.in_err-inspect-3.ensures.lines

pub returns-clause-finds : goal.returns-clause-finds
returns-clause-finds g c =
    let geo = c.args.geo in
    let old = (g.L.Lines.state c.args.dev.now).medium in
    let mid = (g.L.Lines.state c.inspect.new.dev).medium in
    let now = (g.L.Lines.state c.inspect-2.new.dev).medium in
    let x = c.in_ok-inspect.ensures.lines in
    ap (option_map wrong_word)
    (no_wrong_log geo (last_image old) (right_before c.block_area.result (block_area geo) c.block_area.ensures old old (write_back-refl old) c.in_ok-inspect.ensures.finds.1)
    (right_before c.volume_area.result (volume_area geo) c.volume_area.ensures old mid x c.in_ok-inspect-2.ensures.finds.1)
    (right_before c.file_area.result (file_area geo) c.file_area.ensures old now (write_back-trans old mid now x c.in_ok-inspect-2.ensures.lines) c.in_ok-inspect-3.ensures.finds.1))

pub returns-clause-lines : goal.returns-clause-lines
returns-clause-lines g c =
    write_back-trans _ _ _ (write_back-trans _ _ _ c.in_ok-inspect.ensures.lines c.in_ok-inspect-2.ensures.lines) c.in_ok-inspect-3.ensures.lines
