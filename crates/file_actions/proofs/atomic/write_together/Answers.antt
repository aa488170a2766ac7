use Rattle.std.proofs.Common.{ℕ, ◌≡◌, ◌⊎◌, inl, List, Option, refl, ap, sym, subst, ◌∙◌, arith}
use Rattle.word_tables.specs.declared.geometry.Geometry.{Geometry}
use Rattle.page_table.specs.Pages.{used_pages}
use Rattle.nvm_model.specs.Files.{OneFileLeft}
use Rattle.nvm_model.proofs.OneFileLemmas.{left-same}
use Rattle.page_lines.proofs.ResultLemmas.{on_ok-then}
use Rattle.file_journal.specs.Changes.{named_units}
use Rattle.file_journal.specs.Standing.{EachReadsFiles}
use Rattle.file_journal.specs.Tables.{AreTables, Tables}
use Rattle.file_pages.proofs.WorkLemmas.{reads-left}
use Rattle.file_actions.specs.Rewriting.{rewritten}
use Rattle.file_actions.proofs.CommitLemmas.{IsMade, commit-files, commit-images, commit-outside, commit-switches, commit-tables, commit-unrefused, made_named, next_is}
use Rattle.file_actions.proofs.PreparedLemmas.{file_still, tables_still}
use Rattle.file_actions.proofs.atomic.write_together.Given as given
use Rattle.file_actions.proofs.atomic.write_together.Goals as goal
use Rattle.file_actions.proofs.atomic.write_together.Goals.{After-as_slice}

pub returns-in_err-write_pages-clause-images : goal.returns-in_err-write_pages-clause-images
returns-in_err-write_pages-clause-images g c = λ files file at.
    let a = c.args.files.now in
    let b = c.write_pages.new.files in
    let ranges = c.args.ranges.now in
    let bytes = c.args.bytes.now in
    let old = (g.L.Lines.state c.args.dev.now).medium in
    let mid = (g.L.Lines.state c.write_pages.new.dev).medium in
    let x = c.in_err-write_pages.ensures.before in
    subst (λ (geo : Geometry). EachReadsFiles geo mid (OneFileLeft file.name (λ was left. (left ≡ was) ⊎ (left ≡ rewritten ranges bytes was)) files)) x.geo
    (reads-left b.journal mid files (OneFileLeft file.name (λ was left. (left ≡ was) ⊎ (left ≡ rewritten ranges bytes was)) files) (tables_still a b old mid x c.requires.tables) x.serves
    (file_still a b old mid x c.args.inode files file at).stand (left-same file.name _ (λ p. inl refl) files))

all_made : (g : given.Over) (c : goal.After-as_slice g)
    → IsMade c.args.files.now c.write_pages.new.files c.args.inode c.args.ranges.now c.args.bytes.now c.write_pages.new.switches.items c.as_slice.result.now (g.L.Lines.state c.args.dev.now).medium (g.L.Lines.state c.write_pages.new.dev).medium
all_made g c =
    let done = c.in_ok-write_pages.ensures in
    record {
      same = c.as_slice.ensures.value;
      valid = c.requires.valid;
      are = c.requires.tables;
      low = c.requires.inode;
      writable = c.requires.writable;
      before = done.before;
      made = done.made;
      written = done.written;
    }

pub switch-requires-clause-switches : goal.switch-requires-clause-switches
switch-requires-clause-switches g c = commit-switches (all_made g c)

pub switch-requires-clause-unrefused : goal.switch-requires-clause-unrefused
switch-requires-clause-unrefused g c = commit-unrefused (all_made g c)

pub returns-clause-ok : goal.returns-clause-ok
returns-clause-ok g c =
    let is = all_made g (goal.at.returns-clause-ok g c).After-as_slice in
    on_ok-then c.switch.result (commit-files is c.switch.ensures.outside c.switch.new.files.journal.tables) c.switch.ensures.ok

pub returns-clause-images : goal.returns-clause-images
returns-clause-images g c =
    commit-images (all_made g (goal.at.returns-clause-images g c).After-as_slice) c.switch.ensures.outside c.switch.ensures.images

pub returns-clause-outside : goal.returns-clause-outside
returns-clause-outside g c = commit-outside (all_made g (goal.at.returns-clause-outside g c).After-as_slice) c.switch.ensures.outside

pub returns-clause-tables : goal.returns-clause-tables
returns-clause-tables g c =
    let is = all_made g (goal.at.returns-clause-tables g c).After-as_slice in
    on_ok-then c.switch.result
    (λ now.
    subst (λ (geo : Geometry). AreTables geo.fpages c.switch.new.files.journal.tables) (sym (c.switch.ensures.object.0 ∙ is.before.geo))
    (subst (λ (t : Tables). AreTables c.args.files.now.journal.geo.fpages t) (sym (now ∙ next_is is)) (commit-tables is)))
    c.switch.ensures.ok

pub returns-clause-held : goal.returns-clause-held
returns-clause-held g c =
    let is = all_made g (goal.at.returns-clause-held g c).After-as_slice in
    let named = made_named c.args.files.now.journal c.args.inode c.args.ranges.now c.write_pages.new.switches.items c.write_pages.new.files.journal.free is.are is.low is.made in
    on_ok-then c.switch.result
    (λ units. omega (
      arith,
      units.known,
      named,
      c.in_ok-write_pages.ensures.left,
      c.requires.held,
      ap (λ (xs : List (ℕ × Option ℕ)). named_units xs) is.same,
      ap (λ (t : Tables). used_pages t.pages) is.before.tables,
      ap (λ (geo : Geometry). geo.fpages) c.switch.ensures.object.0,
      ap (λ (geo : Geometry). geo.fpages) is.before.geo,
    ))
    c.switch.ensures.units
