use Rattle.std.proofs.Common.{ℕ, Err, Ok, refl, subst, ◌*◌, ◌≤◌, ◌+◌, arith}
use Rattle.line_words.specs.Told.{Checks}
use Rattle.word_tables.specs.declared.geometry.Geometry.{Geometry}
use Rattle.word_tables.specs.Layout.{meta_lines}
use Rattle.nvm_model.specs.Lines.{AreGood}
use Rattle.inode_table.specs.Slots.{pages_at}
use Rattle.page_table.specs.Pages.{used_pages}
use Rattle.page_lines.proofs.ResultLemmas.{checks_found, checks_second}
use Rattle.file_journal.proofs.ReplaceLemmas.{pages_at_most}
use Rattle.file_pages.specs.Object.{pages_there}
use Rattle.file_actions.specs.Checked.{AreTogether}
use Rattle.file_actions.specs.Refusals.{action_says, full_refusal, holes_touched, metadata_refusal, poisoned_at, together_refusal}
use Rattle.file_actions.specs.declared.fault.ActionFault.TheVariants.{Poison}
use Rattle.file_actions.proofs.RefusalLemmas.{in_reach, writable, write_checked}
use Rattle.file_actions.proofs.checks.check_write.Given as given
use Rattle.file_actions.proofs.checks.check_write.Goals as goal
use Rattle.file_actions.proofs.checks.check_write.Goals.{In_ok-check_together, In_ok-check_room, In_ok-check_meta}

together : (g : given.Over) (c : goal.In_ok-check_together g) → Checks {T = Unit {0}} action_says (together_refusal (pages_at c.journal-journal.result.now.tables.files c.args.inode) c.args.ranges.now) (Ok tt)
together g c = subst (λ (n : ℕ). Checks {T = Unit {0}} action_says (together_refusal n c.args.ranges.now) (Ok tt)) c.pages.ensures.pages c.in_ok-check_together.ensures.refused

room : (g : given.Over) (c : goal.In_ok-check_room g) → Checks {T = Unit {0}} action_says (full_refusal c.journal-journal.result.now (holes_touched c.args.ranges.now (pages_there c.journal-journal.result.now c.args.inode))) (Ok tt)
room g c = subst (λ (n : ℕ). Checks {T = Unit {0}} action_says (full_refusal c.journal-journal.result.now n) (Ok tt)) c.hole_count.ensures.holes c.in_ok-check_room.ensures.refused

good : (g : given.Over) (c : goal.In_ok-check_meta g) → Checks {T = Unit {0}} action_says (metadata_refusal c.journal-journal.result.now.geo (g.L.Lines.state c.args.dev.now).medium) (Ok tt)
good g c = subst (λ (geo : Geometry). Checks {T = Unit {0}} action_says (metadata_refusal geo (g.L.Lines.state c.args.dev.now).medium) (Ok tt)) c.geometry-geo.ensures.geometry c.in_ok-check_meta.ensures.refused

pub returns-in_err-check_together-clause-refused : goal.returns-in_err-check_together-clause-refused
returns-in_err-check_together-clause-refused g c = λ files file at.
    write_checked c.journal-journal.ensures c.args.ranges.now c.pages.ensures.tables at c.from_residual.result
    (checks_found action_says _ _ _ _ c.in_err-check_together.field-0.0 c.from_residual.result c.from_residual.ensures.1
    (subst (λ (n : ℕ). Checks {T = Unit {0}} action_says (together_refusal n c.args.ranges.now) (Err c.in_err-check_together.field-0.0)) c.pages.ensures.pages c.in_err-check_together.ensures.refused))

pub hole_count-requires-clause-ends : goal.hole_count-requires-clause-ends
hole_count-requires-clause-ends g c =
    let small : c.pages.result ≤ 256 = omega (arith, c.pages.ensures.pages, pages_at_most c.journal-journal.result.now.tables.files c.args.inode c.pages.ensures.tables.names c.requires.inode) in
    in_reach c.pages.result c.args.ranges.now small c.in_ok-check_together.ensures.together.within

pub first_lost-requires-clause-ends : goal.first_lost-requires-clause-ends
first_lost-requires-clause-ends g c =
    let small : c.pages.result ≤ 256 = omega (arith, c.pages.ensures.pages, pages_at_most c.journal-journal.result.now.tables.files c.args.inode c.pages.ensures.tables.names c.requires.inode) in
    in_reach c.pages.result c.args.ranges.now small c.in_ok-check_together.ensures.together.within

pub returns-in_err-check_room-clause-refused : goal.returns-in_err-check_room-clause-refused
returns-in_err-check_room-clause-refused g c = λ files file at.
    write_checked c.journal-journal.ensures c.args.ranges.now c.pages.ensures.tables at c.from_residual-in_err-check_room.result
    (checks_second action_says _ _ tt c.from_residual-in_err-check_room.result (together g (goal.at.returns-in_err-check_room-clause-refused g c).In_ok-check_together)
    (checks_found action_says _ _ _ _ c.in_err-check_room.field-0.0 c.from_residual-in_err-check_room.result c.from_residual-in_err-check_room.ensures.1
    (subst (λ (n : ℕ). Checks {T = Unit {0}} action_says (full_refusal c.journal-journal.result.now n) (Err c.in_err-check_room.field-0.0)) c.hole_count.ensures.holes c.in_err-check_room.ensures.refused)))

pub returns-in_err-check_meta-clause-refused : goal.returns-in_err-check_meta-clause-refused
returns-in_err-check_meta-clause-refused g c = λ files file at.
    let here = goal.at.returns-in_err-check_meta-clause-refused g c in
    write_checked c.journal-journal.ensures c.args.ranges.now c.pages.ensures.tables at c.from_residual-in_err-check_meta.result
    (checks_second action_says _ _ tt c.from_residual-in_err-check_meta.result (together g here.In_ok-check_together)
    (checks_second action_says _ _ tt c.from_residual-in_err-check_meta.result (room g here.In_ok-check_room)
    (checks_found action_says _ _ _ _ c.in_err-check_meta.field-0.0 c.from_residual-in_err-check_meta.result c.from_residual-in_err-check_meta.ensures.1
    (subst (λ (geo : Geometry). Checks {T = Unit {0}} action_says (metadata_refusal geo (g.L.Lines.state c.args.dev.now).medium) (Err c.in_err-check_meta.field-0.0)) c.geometry-geo.ensures.geometry c.in_err-check_meta.ensures.refused))))

pub returns-in-Some-clause-refused : goal.returns-in-Some-clause-refused
returns-in-Some-clause-refused g c = λ files file at.
    let here = goal.at.returns-in-Some-clause-refused g c in
    write_checked c.journal-journal.ensures c.args.ranges.now c.pages.ensures.tables at (Err (Poison (64 * c.in-Some.n)))
    (checks_second action_says _ _ tt (Err (Poison (64 * c.in-Some.n))) (together g here.In_ok-check_together)
    (checks_second action_says _ _ tt (Err (Poison (64 * c.in-Some.n))) (room g here.In_ok-check_room)
    (checks_second action_says _ _ tt (Err (Poison (64 * c.in-Some.n))) (good g here.In_ok-check_meta)
    (subst (λ o. Checks {T = Unit {0}} action_says (poisoned_at o) (Err (Poison (64 * c.in-Some.n)))) (c.in-Some.ensures.lost files file at) refl))))

pub returns-in-None-clause-refused : goal.returns-in-None-clause-refused
returns-in-None-clause-refused g c = λ files file at.
    let here = goal.at.returns-in-None-clause-refused g c in
    write_checked c.journal-journal.ensures c.args.ranges.now c.pages.ensures.tables at (Ok tt)
    (checks_second action_says _ _ tt (Ok tt) (together g here.In_ok-check_together)
    (checks_second action_says _ _ tt (Ok tt) (room g here.In_ok-check_room)
    (checks_second action_says _ _ tt (Ok tt) (good g here.In_ok-check_meta)
    (subst (λ o. Checks {T = Unit {0}} action_says (poisoned_at o) (Ok tt)) (c.in-None.ensures.lost files file at) tt))))

pub returns-in-None-clause-writable : goal.returns-in-None-clause-writable
returns-in-None-clause-writable g c =
    let j = c.journal-journal.result.now in
    let s = c.args.files.now.journal in
    let m = (g.L.Lines.state c.args.dev.now).medium in
    let ranges = c.args.ranges.now in
    let together = subst (λ (n : ℕ). AreTogether n ranges) c.pages.ensures.pages c.in_ok-check_together.ensures.together in
    let good = subst (λ (geo : Geometry). AreGood m (meta_lines geo)) c.geometry-geo.ensures.geometry c.in_ok-check_meta.ensures.good in
    let room = subst (λ (n : ℕ). used_pages j.tables.pages + n + 16 ≤ j.geo.fpages) c.hole_count.ensures.holes c.in_ok-check_room.ensures.room in
    writable j s c.journal-journal.ensures m c.args.inode ranges c.requires.inode c.pages.ensures.tables together room good (λ files file at. c.in-None.ensures.lost files file at)
