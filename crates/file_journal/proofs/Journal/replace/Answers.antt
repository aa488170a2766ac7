use Rattle.std.proofs.Common.{◌≡◌, ◌+◌, ◌-◌, ℕ, List, Option, None, length, ap, subst, sym, ◌∙◌, arith}
use Rattle.inode_table.specs.Slots.{pages_at, pages_of}
use Rattle.nvm_model.proofs.NumberedLemmas.{length-list_from}
use Rattle.file_journal.specs.Calls.{CanSwitch, Works}
use Rattle.file_journal.specs.Changes.{changed_tables, holes, named_units}
use Rattle.file_journal.specs.Object.{JournalState}
use Rattle.file_journal.specs.Tables.{AreTables}
use Rattle.file_journal.proofs.HoleLemmas.{holes_are, holes_held, named_holes}
use Rattle.file_journal.proofs.ReplaceLemmas.{cut_is, pages_at_most, pages_of_most, replaced_are, set_names}
use Rattle.file_journal.proofs.Journal.replace.Given as given
use Rattle.file_journal.proofs.Journal.replace.Goals as goal
use Rattle.file_journal.proofs.Journal.replace.Goals.{After-as_slice, After-self}

-- the pages that are cut
cut : (g : given.Over) (c : After-as_slice g) → c.as_slice.result.now ≡ holes (pages_of c.args.slot.now) (pages_at c.args.self.now.tables.files c.args.inode - pages_of c.args.slot.now)
cut g c =
    cut_is c.as_slice.result.now c.pages-before.result c.pages_of-after.result c.saturating_sub.result c.args.inode c.args.slot.now c.args.self.now.tables.files (c.as_slice.ensures.value ∙ c.holes-cut.ensures) c.pages_of-after.ensures c.saturating_sub.ensures
    (c.pages-before.ensures.pages ∙ ap (λ (t : JournalState). pages_at t.tables.files c.args.inode) c.self.view_is)

right : (g : given.Over) (c : After-self g) → AreTables c.args.self.now.geo.fpages c.args.self.now.tables
right g c = subst (λ (t : JournalState). AreTables t.geo.fpages t.tables) c.self.view_is c.self.invariant.tables

pub holes-cut-requires : goal.holes-cut-requires
holes-cut-requires g c =
    let few = pages_of_most c.args.slot.now c.requires.set.pages in
    let most = pages_at_most c.self.inside.inodes c.args.inode c.self.invariant.tables.names c.requires.inode in
    omega (arith, few, most, c.saturating_sub.ensures, c.pages_of-after.ensures, c.pages-before.ensures.pages)

pub change-requires-clause-can : goal.change-requires-clause-can
change-requires-clause-can g c =
    let s = c.args.self.now in
    let few = pages_of_most c.args.slot.now c.requires.set.pages in
    let most = pages_at_most s.tables.files c.args.inode (right g (goal.at.change-requires-clause-can g c).After-self).names c.requires.inode in
    let count = pages_at s.tables.files c.args.inode - pages_of c.args.slot.now in
    subst (CanSwitch s.geo.fpages s.tables.pages s.free c.args.inode) (sym (cut g (goal.at.change-requires-clause-can g c).After-as_slice))
    (record { below = c.requires.inode; are = holes_are s.geo.fpages (pages_of c.args.slot.now) count (omega (arith, few, most)); held = holes_held s.tables.pages s.free (pages_of c.args.slot.now) count })

pub change-requires-clause-after : goal.change-requires-clause-after
change-requires-clause-after g c =
    let s = c.args.self.now in
    let are = right g (goal.at.change-requires-clause-after g c).After-self in
    subst (λ (ss : List (ℕ × Option ℕ)). AreTables s.geo.fpages (changed_tables c.args.inode c.args.slot.now ss s.tables)) (sym (cut g (goal.at.change-requires-clause-after g c).After-as_slice))
    (replaced_are s.geo.fpages c.args.inode c.args.slot.now s.tables are c.requires.inode
    (set_names c.args.inode c.args.slot.now s.tables.files are.names c.requires.set.name c.requires.named c.requires.set.pages))

pub returns : goal.returns
returns g c =
    let s = c.args.self.now in
    let first = pages_of c.args.slot.now in
    let count = pages_at s.tables.files c.args.inode - first in
    let works = Works g.L.Lines.state s c.change.new.self c.args.dev.now c.change.new.dev c.change.result in
    let page : ℕ → ℕ × Option ℕ = λ page. (page, None) in
    record {
      works =
          subst (λ (n : ℕ). works (changed_tables c.args.inode c.args.slot.now (holes first count) s.tables) 0 (5 + n)) (length-list_from page first count)
          (subst (λ (n : ℕ). works (changed_tables c.args.inode c.args.slot.now (holes first count) s.tables) n (5 + length (holes first count))) (named_holes first count)
          (subst (λ (ss : List (ℕ × Option ℕ)). works (changed_tables c.args.inode c.args.slot.now ss s.tables) (named_units ss) (5 + length ss)) (cut g (goal.at.returns g c).After-as_slice) c.change.ensures.works));
    }
