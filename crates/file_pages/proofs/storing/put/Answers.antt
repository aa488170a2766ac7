use Rattle.std.proofs.Common.{◌≡◌, Some, ℕ, OnErr, OnOk, length, sym, subst, arith}
use Rattle.line_device.proofs.PanelLemmas.{runs_within}
use Rattle.page_lines.proofs.CountLemmas.{there_in_most}
use Rattle.nvm_model.specs.Cell.{put_cell}
use Rattle.nvm_model.specs.Interrupted.{MayPut}
use Rattle.page_lines.specs.Placed.{AreApart, IsPlaced}
use Rattle.page_lines.specs.Turns.{MayTurn, Turns, WritesBackOthers}
use Rattle.page_lines.proofs.ResultLemmas.{on_ok-then}
use Rattle.file_pages.specs.Object.{PlacesState, unit_place}
use Rattle.file_pages.proofs.PlaceLemmas.{places_apart, units_own}
use Rattle.file_pages.proofs.WorkLemmas.{IsWorked, put-files, put-images, turned-marks, turned-outside, turned-serves}
use Rattle.file_pages.proofs.storing.put.Given as given
use Rattle.file_pages.proofs.storing.put.Goals as goal
use Rattle.file_pages.proofs.storing.put.Goals.{After-put_lines}

worked : (g : given.Over) (c : goal.After-put_lines g) → IsWorked c.args.journal.now (g.L.Lines.state c.args.dev.now).medium (g.L.Lines.state c.put_lines.new.dev).medium c.args.inode c.args.offset (length c.args.bytes.now)
worked g c = record {
  valid = c.requires.valid;
  are = c.requires.tables;
  low = c.requires.inode;
  serves = c.requires.serves;
  beside = subst (λ (l : PlacesState). WritesBackOthers (IsPlaced (unit_place l.geo l.units) c.args.offset (length c.args.bytes.now)) (g.L.Lines.state c.args.dev.now).medium (g.L.Lines.state c.put_lines.new.dev).medium) c.of-lines.ensures c.put_lines.ensures.outside;
}

pub put_lines-requires-clause-apart : goal.put_lines-requires-clause-apart
put_lines-requires-clause-apart g c =
    let s = c.args.journal.now in
    let count = (g.L.Lines.state c.args.dev.now).medium.count in
    subst (λ (l : PlacesState). AreApart (unit_place l.geo l.units) count) (sym c.of-lines.ensures)
    (places_apart s.geo _ (units_own s.geo.fpages s.tables c.requires.tables c.args.inode c.requires.inode) count c.requires.serves.count)

pub returns-clause-ok : goal.returns-clause-ok
returns-clause-ok g c =
    let old = (g.L.Lines.state c.args.dev.now).medium in
    let new = (g.L.Lines.state c.put_lines.new.dev).medium in
    on_ok-then c.put_lines.result
    (λ turned. put-files (worked g (goal.at.returns-clause-ok g c).After-put_lines) c.args.bytes.now turned)
    (subst (λ (l : PlacesState). OnOk c.put_lines.result ((n line : ℕ) → unit_place l.geo l.units n ≡ Some line → Turns (put_cell c.args.offset c.args.bytes.now n) line old new)) c.of-lines.ensures c.put_lines.ensures.ok)

pub returns-clause-images : goal.returns-clause-images
returns-clause-images g c =
    let old = (g.L.Lines.state c.args.dev.now).medium in
    let new = (g.L.Lines.state c.put_lines.new.dev).medium in
    put-images (worked g (goal.at.returns-clause-images g c).After-put_lines) c.args.bytes.now c.put_lines.result
    (subst (λ (l : PlacesState). OnOk c.put_lines.result ((n line : ℕ) → unit_place l.geo l.units n ≡ Some line → Turns (put_cell c.args.offset c.args.bytes.now n) line old new)) c.of-lines.ensures c.put_lines.ensures.ok)
    (subst (λ (l : PlacesState). OnErr c.put_lines.result ((n line : ℕ) → unit_place l.geo l.units n ≡ Some line → MayTurn (MayPut c.args.offset c.args.bytes.now n) line old new)) c.of-lines.ensures c.put_lines.ensures.err)

pub returns-clause-outside : goal.returns-clause-outside
returns-clause-outside g c = turned-outside (worked g (goal.at.returns-clause-outside g c).After-put_lines)

pub returns-clause-metadata : goal.returns-clause-metadata
returns-clause-metadata g c = turned-marks (worked g (goal.at.returns-clause-metadata g c).After-put_lines)

pub returns-clause-serves : goal.returns-clause-serves
returns-clause-serves g c = turned-serves (worked g (goal.at.returns-clause-serves g c).After-put_lines)

pub returns-clause-runs : goal.returns-clause-runs
returns-clause-runs g c =
    let l = c.of-lines.result in
    let most = there_in_most (unit_place l.geo l.units) (record { start = c.args.offset; len = length c.args.bytes.now }) in
    runs_within _ _ _ _ _ _ _ c.put_lines.ensures.runs (omega (arith, most)) (omega arith)
