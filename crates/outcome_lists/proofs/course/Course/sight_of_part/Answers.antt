use Rattle.std.proofs.Common.{◌≡◌, ◌+◌, ◌-◌, [], ◌∷◌, drop, subst, sym, take}
use Rattle.explorer.specs.CutPlaces.declared.sight.Sight.{Sight}
use Rattle.explorer.specs.ValueTables.Looking.{IsOf}
use Rattle.outcome_lists.proofs.ResultLemmas.{on_found_all}
use Rattle.outcome_lists.proofs.SightLemmas.{block_follows, one_of, sight_of_block, sight_of_word, word_follows}
use Rattle.outcome_lists.proofs.course.Course.sight_of_part.Goals as goal

pub returns-in-Volume-clause-looks : goal.returns-in-Volume-clause-looks
returns-in-Volume-clause-looks c =
    let all = c.args.self.now.sight.now in
    let geo = c.args.self.now.geometry in
    on_found_all {P = λ (s : Sight). s.lines.items ≡ take (c.args.passed.now.lines + 1 - c.args.passed.now.lines) (drop c.args.passed.now.lines c.deref.result.now)}
    {Q = λ (s : Sight). s.blocks.items ≡ []}
    {R = λ (s : Sight). s.files ≡ c.args.self.now.sight.now.files} c.sight_of.result
    (λ s lines blocks files. subst (λ part. IsOf s geo (part ∷ [])) (sym c.in-Volume.is)
    (sight_of_word all geo c.args.passed.now.lines c.args.passed.now.blocks s files c.in-Volume.start c.in-Volume.len
    (rw c.in-Volume.is at c.requires.part) (rw c.in-Volume.is at c.requires.at)
    (one_of all.lines.items c.deref.result.now s.lines.items c.args.passed.now.lines lines c.deref.ensures.value) blocks))
    c.sight_of.ensures.lines c.sight_of.ensures.blocks c.sight_of.ensures.files

pub returns-in-Volume-clause-follows : goal.returns-in-Volume-clause-follows
returns-in-Volume-clause-follows c = λ h follows.
    on_found_all {P = λ (s : Sight). s.lines.items ≡ take (c.args.passed.now.lines + 1 - c.args.passed.now.lines) (drop c.args.passed.now.lines c.deref.result.now)}
    {Q = λ (s : Sight). s.blocks.items ≡ []}
    {R = λ (s : Sight). s.files ≡ c.args.self.now.sight.now.files} c.sight_of.result
    (λ s lines blocks files. word_follows c.args.self.now.sight.now s c.args.self.now.geometry h c.args.passed.now.lines
    (one_of c.args.self.now.sight.now.lines.items c.deref.result.now s.lines.items c.args.passed.now.lines lines c.deref.ensures.value) blocks files follows)
    c.sight_of.ensures.lines c.sight_of.ensures.blocks c.sight_of.ensures.files

pub returns-in-Blocks-clause-looks : goal.returns-in-Blocks-clause-looks
returns-in-Blocks-clause-looks c =
    let all = c.args.self.now.sight.now in
    let geo = c.args.self.now.geometry in
    on_found_all {P = λ (s : Sight). s.lines.items ≡ []}
    {Q = λ (s : Sight). s.blocks.items ≡ take (c.args.passed.now.blocks + 1 - c.args.passed.now.blocks) (drop c.args.passed.now.blocks c.deref-in-Blocks.result.now)}
    {R = λ (s : Sight). s.files ≡ c.args.self.now.sight.now.files} c.sight_of-in-Blocks.result
    (λ s lines blocks files. subst (λ part. IsOf s geo (part ∷ [])) (sym c.in-Blocks.is)
    (sight_of_block all geo c.args.passed.now.lines c.args.passed.now.blocks s files c.in-Blocks.first c.in-Blocks.count
    (rw c.in-Blocks.is at c.requires.part) (rw c.in-Blocks.is at c.requires.at)
    lines (one_of all.blocks.items c.deref-in-Blocks.result.now s.blocks.items c.args.passed.now.blocks blocks c.deref-in-Blocks.ensures.value)))
    c.sight_of-in-Blocks.ensures.lines c.sight_of-in-Blocks.ensures.blocks c.sight_of-in-Blocks.ensures.files

pub returns-in-Blocks-clause-follows : goal.returns-in-Blocks-clause-follows
returns-in-Blocks-clause-follows c = λ h follows.
    on_found_all {P = λ (s : Sight). s.lines.items ≡ []}
    {Q = λ (s : Sight). s.blocks.items ≡ take (c.args.passed.now.blocks + 1 - c.args.passed.now.blocks) (drop c.args.passed.now.blocks c.deref-in-Blocks.result.now)}
    {R = λ (s : Sight). s.files ≡ c.args.self.now.sight.now.files} c.sight_of-in-Blocks.result
    (λ s lines blocks files. block_follows c.args.self.now.sight.now s c.args.self.now.geometry h c.args.passed.now.blocks
    lines (one_of c.args.self.now.sight.now.blocks.items c.deref-in-Blocks.result.now s.blocks.items c.args.passed.now.blocks blocks c.deref-in-Blocks.ensures.value) files follows)
    c.sight_of-in-Blocks.ensures.lines c.sight_of-in-Blocks.ensures.blocks c.sight_of-in-Blocks.ensures.files
