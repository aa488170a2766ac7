use Rattle.std.proofs.Common.{◌≡◌, ◌+◌, ℕ, List, Option, None, length, ap, subst, sym, ◌∙◌, arith}
use Rattle.line_device.specs.Panel.{Runs}
use Rattle.line_words.specs.Ending.{ended}
use Rattle.word_log.specs.Changes.{commit_calls, commit_persists}
use Rattle.word_tables.specs.declared.geometry.Geometry.{Geometry}
use Rattle.inode_table.specs.Slots.{pages_at}
use Rattle.nvm_model.proofs.NumberedLemmas.{length-list_from}
use Rattle.page_lines.proofs.ResultLemmas.{on_ok-then}
use Rattle.file_journal.specs.Changes.{holes, named_units, switched}
use Rattle.file_journal.specs.Images.{EachReadsTables, IsEither}
use Rattle.file_journal.specs.Object.{KeepsUnits}
use Rattle.file_journal.specs.Refusals.{switch_refusal}
use Rattle.file_journal.specs.Switches.{AreHeld, AreSwitches, ArePagesOf}
use Rattle.file_journal.specs.Tables.{AreTables, Tables}
use Rattle.file_journal.proofs.HoleLemmas.{holes_are, holes_held, named_holes}
use Rattle.file_journal.proofs.ReplaceLemmas.{pages_at_most}
use Rattle.file_actions.proofs.HoledLemmas.{filled-holes, holed-files, holed-images, holes-right, holes-within}
use Rattle.file_actions.proofs.SwitchingLemmas.{area-outside, unrefused}
use Rattle.file_actions.proofs.discarding.make_holes.Goals as goal

pub switch-requires-clause-switches : goal.switch-requires-clause-switches
switch-requires-clause-switches g c =
    let s = c.args.files.now.journal in
    let most = pages_at_most s.tables.files c.args.inode c.requires.tables.names c.requires.inode in
    subst (AreSwitches s.geo.fpages) (sym (c.as_slice.ensures.value ∙ c.holes-switches.ensures)) (holes_are s.geo.fpages c.args.pages.start c.args.pages.len (omega (arith, most, c.requires.within)))

pub switch-requires-clause-within : goal.switch-requires-clause-within
switch-requires-clause-within g c =
    let count = pages_at c.args.files.now.journal.tables.files c.args.inode in
    subst (ArePagesOf count) (sym (c.as_slice.ensures.value ∙ c.holes-switches.ensures)) (holes-within c.args.pages.start c.args.pages.len count c.requires.within)

pub switch-requires-clause-held : goal.switch-requires-clause-held
switch-requires-clause-held g c =
    let s = c.args.files.now.journal in
    subst (AreHeld s.tables.pages s.free) (sym (c.as_slice.ensures.value ∙ c.holes-switches.ensures)) (holes_held s.tables.pages s.free c.args.pages.start c.args.pages.len)

pub switch-requires-clause-unrefused : goal.switch-requires-clause-unrefused
switch-requires-clause-unrefused g c =
    let s = c.args.files.now.journal in
    let m = (g.L.Lines.state c.args.dev.now).medium in
    subst (λ (ss : List (ℕ × Option ℕ)). switch_refusal s m c.args.inode ss ≡ None) (sym (c.as_slice.ensures.value ∙ c.holes-switches.ensures))
    (unrefused s m c.args.inode (holes c.args.pages.start c.args.pages.len) (omega (arith, filled-holes s.tables c.args.inode c.args.pages.start c.args.pages.len, c.requires.tables.room)) c.requires.good)

pub returns-clause-ok : goal.returns-clause-ok
returns-clause-ok g c =
    let s = c.args.files.now.journal in
    let are = c.as_slice.ensures.value ∙ c.holes-switches.ensures in
    on_ok-then c.switch.result
    (λ same listed file at.
    holed-files s (g.L.Lines.state c.args.dev.now).medium (g.L.Lines.state c.switch.new.dev).medium c.requires.valid c.requires.tables c.args.inode c.requires.inode c.args.pages.start c.args.pages.len c.requires.within c.switch.ensures.outside listed file at
    c.switch.new.files.journal.tables (same ∙ ap (λ (ss : List (ℕ × Option ℕ)). switched c.args.inode ss s.tables) are))
    c.switch.ensures.ok

pub returns-clause-images : goal.returns-clause-images
returns-clause-images g c = λ listed file at.
    let s = c.args.files.now.journal in
    let new = (g.L.Lines.state c.switch.new.dev).medium in
    let are = c.as_slice.ensures.value ∙ c.holes-switches.ensures in
    holed-images s (g.L.Lines.state c.args.dev.now).medium new c.requires.valid c.requires.tables c.args.inode c.requires.inode c.args.pages.start c.args.pages.len c.requires.within c.switch.ensures.outside listed file at
    (subst (λ (ss : List (ℕ × Option ℕ)). EachReadsTables s.geo new (IsEither s.tables (switched c.args.inode ss s.tables))) are c.switch.ensures.images)

pub returns-clause-outside : goal.returns-clause-outside
returns-clause-outside g c = area-outside c.args.files.now.journal.geo (g.L.Lines.state c.args.dev.now).medium (g.L.Lines.state c.switch.new.dev).medium c.switch.ensures.outside

pub returns-clause-tables : goal.returns-clause-tables
returns-clause-tables g c =
    let s = c.args.files.now.journal in
    let are = c.as_slice.ensures.value ∙ c.holes-switches.ensures in
    on_ok-then c.switch.result
    (λ same.
    subst (λ (geo : Geometry). AreTables geo.fpages c.switch.new.files.journal.tables) (sym c.switch.ensures.object.0)
    (subst (λ (t : Tables). AreTables s.geo.fpages t) (sym (same ∙ ap (λ (ss : List (ℕ × Option ℕ)). switched c.args.inode ss s.tables) are))
    (holes-right s.geo.fpages s.tables c.args.inode c.args.pages.start c.args.pages.len c.requires.tables c.requires.inode c.requires.within)))
    c.switch.ensures.ok

pub returns-clause-switched : goal.returns-clause-switched
returns-clause-switched g c =
    let s = c.args.files.now.journal in
    on_ok-then c.switch.result (λ same. same ∙ ap (λ (ss : List (ℕ × Option ℕ)). switched c.args.inode ss s.tables) (c.as_slice.ensures.value ∙ c.holes-switches.ensures)) c.switch.ensures.ok

pub returns-clause-units : goal.returns-clause-units
returns-clause-units g c =
    let named = ap named_units (c.as_slice.ensures.value ∙ c.holes-switches.ensures) ∙ named_holes c.args.pages.start c.args.pages.len in
    let before = c.args.files.now.journal in
    let after = c.switch.new.files.journal in
    on_ok-then c.switch.result (λ (units : KeepsUnits (named_units c.as_slice.result.now) before after). subst (λ (n : ℕ). KeepsUnits n before after) named units) c.switch.ensures.units

pub returns-clause-runs : goal.returns-clause-runs
returns-clause-runs g c =
    let f : ℕ → ℕ × Option ℕ = λ page. (page, None) in
    subst (λ (n : ℕ). Runs (commit_calls (5 + n)) (commit_persists (5 + n)) (ended c.switch.result) (g.L.Lines.state c.args.dev.now).panel (g.L.Lines.state c.switch.new.dev).panel)
    (ap length (c.as_slice.ensures.value ∙ c.holes-switches.ensures) ∙ length-list_from f c.args.pages.start c.args.pages.len)
    c.switch.ensures.runs
