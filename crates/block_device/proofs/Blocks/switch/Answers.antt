-- A commit on blocks that are ready for it.
use Rattle.std.proofs.Common.{sym, ◌∙◌, ap, subst, arith, rules}
use Rattle.std.proofs.lemmas.Grind.{common_steps}
use Rattle.block_device.specs.Object.{BlocksState}
use Rattle.block_device.specs.Changes.{MayChange, changed_map, word_changes}
use Rattle.block_device.proofs.ChangeLemmas.{within_from_may}
use Rattle.block_device.proofs.SwitchLemmas.{ready_from, ready_usable, ready_taken, switch-images, switch-outside, switch-serves}
use Rattle.block_device.proofs.Blocks.switch.Goals as goal

pub word_changes-words-requires-clause-may : goal.word_changes-words-requires-clause-may
word_changes-words-requires-clause-may g c =
    within_from_may c.self.inside.map c.args.changes.now c.self.inside.geo.blocks c.self.invariant.all
    (subst (λ (s : BlocksState). MayChange s.map c.args.changes.now) (sym c.self.view_is) c.requires.prepared.may)

pub commit-requires-clause-usable : goal.commit-requires-clause-usable
commit-requires-clause-usable g c =
    ready_usable c.args.self.now c.self.inside.log.area (g.L.Lines.state c.args.dev.now).medium c.args.changes.now
    (ready_from _ _ _ _ _ c.self.view_is c.self.invariant c.requires.serves c.requires.good c.requires.prepared) (g.L.Lines.state c.args.dev.now).panel c.requires.on

pub commit-requires-clause-changes : goal.commit-requires-clause-changes
commit-requires-clause-changes g c =
    ready_taken c.args.self.now c.self.inside.log.area _ c.args.changes.now (ready_from _ _ _ _ _ c.self.view_is c.self.invariant c.requires.serves c.requires.good c.requires.prepared)
    c.as_slice.result.now (c.as_slice.ensures.value ∙ c.word_changes-words.ensures ∙ ap (λ (s : BlocksState). word_changes s.geo c.args.changes.now) c.self.view_is) c.requires.some c.requires.few

pub returns-in_err-commit : goal.returns-in_err-commit
returns-in_err-commit g c =
    let s = c.args.self.now in
    let area = c.self.inside.log.area in
    let words = c.as_slice.ensures.value ∙ c.word_changes-words.ensures ∙ ap (λ (b : BlocksState). word_changes b.geo c.args.changes.now) c.self.view_is in
    let ready = ready_from _ s area (g.L.Lines.state c.args.dev.now).medium c.args.changes.now c.self.view_is c.self.invariant c.requires.serves c.requires.good c.requires.prepared in
    let commit = c.in_err-commit.ensures.commits in
    record {
      switches = record {
        ok = search rules;
        images = switch-images s area _ c.args.changes.now ready _ commit.outside c.as_slice.result.now words commit.images;
        outside = switch-outside s area _ c.args.changes.now ready _ commit.outside;
        serves = search rules;
        in_step = search rules;
        object = grind (arith, common_steps);
        runs = grind (arith, common_steps);
      };
    }

pub returns : goal.returns
returns g c =
    let s = c.args.self.now in
    let cs = c.args.changes.now in
    let area = c.self.inside.log.area in
    let words = c.as_slice.ensures.value ∙ c.word_changes-words.ensures ∙ ap (λ (b : BlocksState). word_changes b.geo cs) c.self.view_is in
    let ready = ready_from _ s area (g.L.Lines.state c.args.dev.now).medium cs c.self.view_is c.self.invariant c.requires.serves c.requires.good c.requires.prepared in
    let commit = c.in_ok-commit.ensures.commits in
    record {
      switches = record {
        ok = grind (arith, common_steps);
        images = switch-images s area _ cs ready _ commit.outside c.as_slice.result.now words commit.images;
        outside = switch-outside s area _ cs ready _ commit.outside;
        serves =
            switch-serves s area _ cs ready _ commit.outside c.as_slice.result.now _ words
            (ap (λ (b : BlocksState). b.geo) c.self-2.view_is ∙ c.assign.ensures.others.0 ∙ ap (λ (b : BlocksState). b.geo) c.self.view_is)
            (ap (λ (b : BlocksState). b.map) c.self-2.view_is ∙ c.assign.ensures.map ∙ ap (λ (b : BlocksState). changed_map cs b.map) c.self.view_is)
            commit.ok;
        in_step = grind (arith, common_steps);
        object = grind (arith, common_steps);
        runs = grind (arith, common_steps);
      };
    }
