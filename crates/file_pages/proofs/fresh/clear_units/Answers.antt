use Rattle.std.proofs.Common.{◌≡◌, ◌<◌, ◌≤◌, ◌+◌, ◌*◌, ℕ, Some, OnOk, length, sym, subst, arith}
use Rattle.line_device.proofs.PanelLemmas.{runs_within}
use Rattle.nvm_model.specs.Cell.{CellStands, zero_cell}
use Rattle.page_lines.specs.Placed.{AreApart, IsPlacedAmong}
use Rattle.page_lines.specs.Turns.{WritesBackOthers}
use Rattle.page_lines.proofs.CountLemmas.{there_among_most}
use Rattle.page_lines.proofs.OthersLemmas.{others-wider}
use Rattle.page_lines.proofs.ResultLemmas.{on_ok-then}
use Rattle.file_pages.specs.Fresh.{IsUnitLine, switch_units}
use Rattle.file_pages.specs.Object.{PlacesState, unit_place}
use Rattle.file_pages.proofs.PlaceLemmas.{place_below, places_apart}
use Rattle.file_pages.proofs.fresh.clear_units.Goals as goal

pub clear_lines-requires-clause-apart : goal.clear_lines-requires-clause-apart
clear_lines-requires-clause-apart g c =
    let count = (g.L.Lines.state c.args.dev.now).medium.count in
    subst (λ (l : PlacesState). AreApart (unit_place l.geo l.units) count) (sym c.of-lines.ensures)
    (places_apart c.args.geo _ c.requires.own count c.requires.lines)

pub returns-clause-zeros : goal.returns-clause-zeros
returns-clause-zeros g c =
    let new = (g.L.Lines.state c.clear_lines.new.dev).medium in
    let units = switch_units c.args.fresh.now in
    on_ok-then c.clear_lines.result
    (λ zeros n line is. zeros n line (omega arith) (let below = place_below c.args.geo c.args.fresh.now n line is in omega (arith, below)) is)
    (subst (λ (l : PlacesState). OnOk c.clear_lines.result ((n line : ℕ) → 0 ≤ n → n < 0 + 64 * length c.args.fresh.now → unit_place l.geo l.units n ≡ Some line → CellStands new line zero_cell)) c.of-lines.ensures c.clear_lines.ensures.ok)

pub returns-clause-outside : goal.returns-clause-outside
returns-clause-outside g c =
    let old = (g.L.Lines.state c.args.dev.now).medium in
    let new = (g.L.Lines.state c.clear_lines.new.dev).medium in
    let units = switch_units c.args.fresh.now in
    let size = 64 * length c.args.fresh.now in
    others-wider (IsPlacedAmong (unit_place c.args.geo units) 0 size) (IsUnitLine c.args.geo units) old new (λ line is. (is.0, is.3))
    (subst (λ (l : PlacesState). WritesBackOthers (IsPlacedAmong (unit_place l.geo l.units) 0 size) old new) c.of-lines.ensures c.clear_lines.ensures.outside)

pub returns-clause-runs : goal.returns-clause-runs
returns-clause-runs g c =
    let l = c.of-lines.result in
    let most = there_among_most (unit_place l.geo l.units) 0 (64 * length c.args.fresh.now) in
    runs_within _ _ _ _ _ _ _ c.clear_lines.ensures.runs (omega (arith, most)) (omega arith)
