use Rattle.std.proofs.Common.{◌≡◌, ◌+◌, ◌*◌, ◌<◌, ◌≤◌, Some, ℕ, OnOk, false, subst, arith}
use Rattle.line_device.proofs.PanelLemmas.{runs_within}
use Rattle.nvm_model.specs.Cell.{CellStands, zero_cell}
use Rattle.page_lines.specs.Placed.{IsPlacedAmong}
use Rattle.page_lines.specs.Turns.{WritesBackOthers}
use Rattle.page_lines.proofs.OthersLemmas.{others-wider}
use Rattle.word_tables.specs.Layout.{volume_line}
use Rattle.pm_volume.specs.Checked.{IsAbsentLine}
use Rattle.pm_volume.specs.Object.{PlacesState, volume_place}
use Rattle.pm_volume.proofs.PlaceLemmas.{place_of}
use Rattle.pm_volume.proofs.PutLemmas.{places_apart}
use Rattle.std.proofs.lemmas.Result.{on_ok_weaker}
use Rattle.pm_volume.proofs.CountLemmas.{there_among_most}
use Rattle.pm_volume.proofs.Volume.clear_absent.Goals as goal

pub clear_lines-requires-clause-apart : goal.clear_lines-requires-clause-apart
clear_lines-requires-clause-apart g c = places_apart c.lines-lines.result c.args.self.now _ false c.lines-lines.ensures c.requires.served.serves

pub returns-clause-zeros : goal.returns-clause-zeros
returns-clause-zeros g c =
    let s = c.args.self.now in
    let new = (g.L.Lines.state c.clear_lines.new.dev).medium in
    on_ok_weaker c.clear_lines.result
    (λ zeros n from to absent. zeros n (volume_line s.geo n) (omega (arith, from)) (omega (arith, to)) (place_of s.geo s.present false n absent))
    (subst (λ (l : PlacesState). OnOk c.clear_lines.result ((n line : ℕ) → 64 * c.args.pages.start ≤ n → n < 64 * c.args.pages.start + 64 * c.args.pages.len → volume_place l.geo l.present l.wanted n ≡ Some line → CellStands new line zero_cell)) c.lines-lines.ensures c.clear_lines.ensures.ok)

pub returns-clause-outside : goal.returns-clause-outside
returns-clause-outside g c =
    let s = c.args.self.now in
    let old = (g.L.Lines.state c.args.dev.now).medium in
    let new = (g.L.Lines.state c.clear_lines.new.dev).medium in
    others-wider (IsPlacedAmong (volume_place s.geo s.present false) (64 * c.args.pages.start) (64 * c.args.pages.len)) (IsAbsentLine s.geo s.present) old new (λ line is. (is.0, is.3))
    (subst (λ (l : PlacesState). WritesBackOthers (IsPlacedAmong (volume_place l.geo l.present l.wanted) (64 * c.args.pages.start) (64 * c.args.pages.len)) old new) c.lines-lines.ensures c.clear_lines.ensures.outside)

pub returns-clause-runs : goal.returns-clause-runs
returns-clause-runs g c =
    let l = c.lines-lines.result in
    let most = there_among_most (volume_place l.geo l.present l.wanted) (64 * c.args.pages.start) (64 * c.args.pages.len) in
    runs_within _ _ _ _ _ _ _ c.clear_lines.ensures.runs (omega (arith, most)) (omega arith)
