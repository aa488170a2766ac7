use Rattle.std.proofs.Common.{inl, inr, ℕ, arith, rules}
use Rattle.std.proofs.lemmas.Grind.{common_steps}
use Rattle.word_log.specs.Rest.{IsAtRest}
use Rattle.word_log.proofs.FrameLemmas.{fits-outside}
use Rattle.line_words.proofs.FrameLemmas.{outside-trans}
use Rattle.word_log.proofs.StepLemmas.{on_ok-then}
use Rattle.word_log.proofs.PhaseLemmas.{images_rest, images_opening, rest-outside, opened_from, outside-gate, outside-behind_gate}
use Rattle.word_log.proofs.protocol.commit_at.Goals as goal

pub returns-in_err-write_entries : goal.returns-in_err-write_entries
returns-in_err-write_entries g c =
    let x = c.in_err-write_entries.ensures.outside in
    record {
      commits = record {
        ok = search rules;
        images = λ words rest image is.
            inl (images_rest c.args.area words _ (fits-outside c.args.area _ _ _ c.requires.usable.fits x) (rest-outside c.args.area words _ _ c.requires.usable.fits rest x) image is);
        outside = outside-behind_gate c.args.area _ _ x;
        runs = grind (arith, common_steps);
      };
    }

pub returns-in_err-set_gate : goal.returns-in_err-set_gate
returns-in_err-set_gate g c =
    let x = c.in_ok-write_entries.ensures.outside in
    let y = c.in_err-set_gate.ensures.outside in
    let fits = fits-outside c.args.area _ _ _ c.requires.usable.fits x in
    record {
      commits = record {
        ok = search rules;
        images = λ words rest.
            images_opening c.args.area c.args.changes.now words _ _
            (record { fits = fits; taken = c.requires.taken; recorded = c.in_ok-write_entries.ensures.ok })
            (rest-outside c.args.area words _ _ c.requires.usable.fits rest x)
            (fits-outside c.args.area _ _ _ fits y)
            y
            c.in_err-set_gate.ensures.either;
        outside = outside-trans _ _ _ _ (outside-behind_gate c.args.area _ _ x) (outside-gate c.args.area _ _ _ c.requires.usable.fits y);
        runs = grind (arith, common_steps);
      };
    }

pub finish-requires-clause-written : goal.finish-requires-clause-written
finish-requires-clause-written g c =
    (opened_from c.args.area c.args.changes.now c.requires.rest.0 _ _ _ c.requires.usable.fits c.requires.taken c.requires.rest.1 c.in_ok-write_entries.ensures.outside c.in_ok-write_entries.ensures.ok c.in_ok-set_gate.ensures.outside c.in_ok-set_gate.ensures.ok).written

pub returns : goal.returns
returns g c =
    let x = c.in_ok-write_entries.ensures in
    let y = c.in_ok-set_gate.ensures in
    let opened = λ (words : ℕ → ℕ) (rest : IsAtRest c.args.area (g.L.Lines.state c.args.dev.now).medium words). opened_from c.args.area c.args.changes.now words _ _ _ c.requires.usable.fits c.requires.taken rest x.outside x.ok y.outside y.ok in
    record {
      commits = record {
        ok = on_ok-then c.finish.result c.finish.ensures.ok (λ close words rest. close words (opened words rest));
        images = λ words rest image is. inr (c.finish.ensures.images words (opened words rest) image is);
        outside =
            outside-trans _ _ _ _
            (outside-trans _ _ _ _ (outside-behind_gate c.args.area _ _ x.outside) (outside-gate c.args.area _ _ _ c.requires.usable.fits y.outside))
            c.finish.ensures.outside;
        runs = grind (arith, common_steps);
      };
    }
