use Rattle.std.proofs.Common.{◌≡◌, ◌+◌, ◌*◌, ℕ, Some, length, sym, subst, arith}
use Rattle.line_device.specs.Panel.{Outcome, Runs}
use Rattle.word_log.specs.Changes.{commit_calls, commit_persists}
use Rattle.line_device.proofs.PanelLemmas.{runs_within}
use Rattle.page_lines.specs.Turns.{WritesBackOthers}
use Rattle.page_lines.proofs.ResultLemmas.{on_ok-then}
use Rattle.word_tables.specs.declared.geometry.Geometry.{Geometry}
use Rattle.nvm_model.specs.Cell.{CellStands, zero_cell}
use Rattle.nvm_model.specs.Files.{on_pages}
use Rattle.nvm_model.specs.Listing.{change_file, file_name}
use Rattle.nvm_model.specs.Page.{fill}
use Rattle.file_journal.proofs.ReplaceLemmas.{pages_at_most}
use Rattle.file_journal.specs.Standing.{FilesStand}
use Rattle.file_journal.specs.Tables.{AreTables, Tables}
use Rattle.file_pages.specs.Fresh.{AreOwn, IsUnitLine, switch_units}
use Rattle.file_pages.specs.Object.{unit_place}
use Rattle.file_pages.proofs.FilledLemmas.{AreCleared, cleared-good, cleared-images, cleared-marks, cleared-outside, cleared-serves, filled-covered, filled-files, filled-images, filled-marks, filled-outside, filled-tables}
use Rattle.file_pages.proofs.SwitchedLemmas.{fresh_filled, fresh_named, fresh_own, fresh_pages, fresh_switches, unrefused}
use Rattle.file_pages.proofs.WorkLemmas.{ended_as}
use Rattle.file_pages.proofs.filling.fill_with.Given as given
use Rattle.file_pages.proofs.filling.fill_with.Goals as goal
use Rattle.file_pages.proofs.filling.fill_with.Goals.{After-clear_units, In_ok-clear_units}

cleared : (g : given.Over) (c : goal.After-clear_units g)
    → AreCleared c.args.journal.now (g.L.Lines.state c.args.dev.now).medium c.args.inode c.args.span c.args.pages c.args.fresh.now c.args.journal.now.free (g.L.Lines.state c.clear_units.new.dev).medium
cleared g c = record {
  serves = c.requires.serves;
  valid = c.requires.valid;
  are = c.requires.tables;
  low = c.requires.inode;
  some = c.requires.some;
  units = c.requires.pages;
  within = c.requires.within;
  taken = c.requires.fresh;
  beside = subst (λ (geo : Geometry). WritesBackOthers (IsUnitLine geo (switch_units c.args.fresh.now)) (g.L.Lines.state c.args.dev.now).medium (g.L.Lines.state c.clear_units.new.dev).medium) c.geometry.ensures.geometry c.clear_units.ensures.outside;
}

zeros : (g : given.Over) (c : goal.In_ok-clear_units g) (n line : ℕ) → unit_place c.args.journal.now.geo (switch_units c.args.fresh.now) n ≡ Some line → CellStands (g.L.Lines.state c.clear_units.new.dev).medium line zero_cell
zeros g c = subst (λ (geo : Geometry). (n line : ℕ) → unit_place geo (switch_units c.args.fresh.now) n ≡ Some line → CellStands (g.L.Lines.state c.clear_units.new.dev).medium line zero_cell) c.geometry.ensures.geometry c.in_ok-clear_units.ensures.zeros

pub clear_units-requires-clause-few : goal.clear_units-requires-clause-few
clear_units-requires-clause-few g c = omega (arith, c.requires.fresh.few, c.requires.few)

pub clear_units-requires-clause-own : goal.clear_units-requires-clause-own
clear_units-requires-clause-own g c =
    let s = c.args.journal.now in
    subst (λ (geo : Geometry). AreOwn geo.fpages (switch_units c.args.fresh.now)) (sym c.geometry.ensures.geometry)
    (fresh_own s c.args.inode c.args.pages.start c.args.pages.len c.args.fresh.now s.free c.requires.fresh)

pub returns-in_err-clear_units-clause-images : goal.returns-in_err-clear_units-clause-images
returns-in_err-clear_units-clause-images g c = cleared-images (cleared g (goal.at.returns-in_err-clear_units-clause-images g c).After-clear_units)

pub returns-in_err-clear_units-clause-outside : goal.returns-in_err-clear_units-clause-outside
returns-in_err-clear_units-clause-outside g c = cleared-outside (cleared g (goal.at.returns-in_err-clear_units-clause-outside g c).After-clear_units)

pub returns-in_err-clear_units-clause-metadata : goal.returns-in_err-clear_units-clause-metadata
returns-in_err-clear_units-clause-metadata g c = cleared-marks (cleared g (goal.at.returns-in_err-clear_units-clause-metadata g c).After-clear_units)

pub returns-in_err-clear_units-clause-runs : goal.returns-in_err-clear_units-clause-runs
returns-in_err-clear_units-clause-runs g c =
    let p = (g.L.Lines.state c.args.dev.now).panel in
    let q = (g.L.Lines.state c.clear_units.new.dev).panel in
    let n = length c.args.fresh.now in
    subst (λ (o : Outcome). Runs (64 * n + commit_calls (5 + n)) (commit_persists (5 + n)) o p q) (sym (ended_as c.from_residual.result c.in_err-clear_units.field-0.0 c.from_residual.ensures.1))
    (runs_within _ _ (64 * n + commit_calls (5 + n)) (commit_persists (5 + n)) _ p q c.in_err-clear_units.ensures.runs (omega arith) (omega arith))

pub name_units-requires-clause-serves : goal.name_units-requires-clause-serves
name_units-requires-clause-serves g c = cleared-serves (cleared g (goal.at.name_units-requires-clause-serves g c).After-clear_units)

pub name_units-requires-clause-switches : goal.name_units-requires-clause-switches
name_units-requires-clause-switches g c =
    let s = c.args.journal.now in
    fresh_switches s c.args.inode c.args.pages.start c.args.pages.len c.args.fresh.now s.free c.requires.fresh c.requires.few
    (omega (arith, c.requires.within, pages_at_most s.tables.files c.args.inode c.requires.tables.names c.requires.inode))

pub name_units-requires-clause-within : goal.name_units-requires-clause-within
name_units-requires-clause-within g c =
    let s = c.args.journal.now in
    fresh_pages s c.args.inode c.args.pages.start c.args.pages.len c.args.fresh.now s.free c.requires.fresh c.requires.within

pub name_units-requires-clause-unrefused : goal.name_units-requires-clause-unrefused
name_units-requires-clause-unrefused g c =
    let s = c.args.journal.now in
    let filled = fresh_filled s c.args.inode c.args.pages.start c.args.pages.len c.args.fresh.now s.free c.requires.fresh in
    unrefused s (g.L.Lines.state c.clear_units.new.dev).medium c.args.inode c.args.fresh.now (omega (arith, filled, c.requires.room)) (cleared-good (cleared g (goal.at.name_units-requires-clause-unrefused g c).After-clear_units) c.requires.good)

pub returns-clause-ok : goal.returns-clause-ok
returns-clause-ok g c =
    let here = goal.at.returns-clause-ok g c in
    on_ok-then c.name_units.result
    (λ tables files file at.
    subst (λ (t : Tables). FilesStand c.args.journal.now.geo (g.L.Lines.state c.name_units.new.dev).medium t (change_file file_name file.name (on_pages (λ p. fill c.args.span.start c.args.span.len p)) files)) (sym tables)
    (filled-files (cleared g here.After-clear_units) c.name_units.ensures.outside (zeros g here.In_ok-clear_units) files file at))
    c.name_units.ensures.ok

pub returns-clause-images : goal.returns-clause-images
returns-clause-images g c = λ files file at.
    let here = goal.at.returns-clause-images g c in
    filled-images (cleared g here.After-clear_units) c.name_units.ensures.outside (zeros g here.In_ok-clear_units) files file at
    (filled-tables (cleared g here.After-clear_units) c.requires.few c.requires.room) c.name_units.ensures.images

pub returns-clause-outside : goal.returns-clause-outside
returns-clause-outside g c =
    let here = goal.at.returns-clause-outside g c in
    filled-outside (cleared g here.After-clear_units) c.name_units.ensures.outside (zeros g here.In_ok-clear_units)

pub returns-clause-metadata : goal.returns-clause-metadata
returns-clause-metadata g c =
    let here = goal.at.returns-clause-metadata g c in
    filled-marks (cleared g here.After-clear_units) c.name_units.ensures.outside (zeros g here.In_ok-clear_units)

pub returns-clause-covered : goal.returns-clause-covered
returns-clause-covered g c =
    let here = goal.at.returns-clause-covered g c in
    on_ok-then c.name_units.result
    (λ tables. filled-covered (cleared g here.After-clear_units) c.name_units.ensures.outside (zeros g here.In_ok-clear_units) c.name_units.new.journal c.name_units.ensures.object.0 tables c.requires.covered)
    c.name_units.ensures.ok

pub returns-clause-tables : goal.returns-clause-tables
returns-clause-tables g c =
    on_ok-then c.name_units.result
    (λ tables.
    subst (λ (geo : Geometry). AreTables geo.fpages c.name_units.new.journal.tables) (sym c.name_units.ensures.object.0)
    (subst (AreTables c.args.journal.now.geo.fpages) (sym tables) (filled-tables (cleared g (goal.at.returns-clause-tables g c).After-clear_units) c.requires.few c.requires.room)))
    c.name_units.ensures.ok

pub returns-clause-known : goal.returns-clause-known
returns-clause-known g c =
    let s = c.args.journal.now in
    let named = fresh_named s c.args.inode c.args.pages.start c.args.pages.len c.args.fresh.now s.free c.requires.fresh in
    on_ok-then c.name_units.result (λ units. omega (arith, units.known, named)) c.name_units.ensures.units
