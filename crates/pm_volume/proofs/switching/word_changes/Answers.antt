use Rattle.std.proofs.Common.{◌≡◌, ◌+◌, ◌-◌, ◌++◌, ℕ, [], ◌∷◌, length, ap, ap₂, sym, ◌∙◌, arith}
use Rattle.nvm_model.proofs.NumberedLemmas.{length-list_from}
use Rattle.pm_volume.specs.Presence.{presence_word, word_changes}
use Rattle.word_tables.specs.Words.{place, of_volume_page}
use Rattle.pm_volume.proofs.WordLemmas.{changes_push}
use Rattle.pm_volume.proofs.switching.word_changes.Goals as goal

pub push-requires : goal.push-requires
push-requires c =
    let size = ap length c.loop-page.invariant.words ∙ length-list_from (λ page. (place c.args.geo (of_volume_page page), presence_word c.args.there)) c.args.pages.start (c.loop-page.page - c.args.pages.start) in
    (omega arith, omega (arith, size, c.loop-page-test.true, c.requires.within, c.requires.valid.most_vpages))

pub loop-page-preserved : goal.loop-page-preserved
loop-page-preserved c =
    let geo = c.args.geo in
    let first = c.args.pages.start in
    let page = c.loop-page.page in
    let to = c.args.there in
    let before = word_changes geo first (page - first) to in
    let at : page ≡ first + (page - first) = omega (arith, c.loop-page.invariant.from) in
    let next : page - first + 1 ≡ page + 1 - first = omega (arith, c.loop-page.invariant.from) in
    record {
      from = omega (arith, c.loop-page.invariant.from);
      words =
          c.push.ensures.items
          ∙ ap (λ ws. ws ++ (c.presence_word.result, c.presence_word-in-loop-page.result) ∷ []) c.loop-page.invariant.words
          ∙ ap₂ (λ (a b : ℕ). before ++ (a, b) ∷ []) (c.presence_word.ensures ∙ ap (λ k. place geo (of_volume_page k)) at) c.presence_word-in-loop-page.ensures
          ∙ sym (changes_push geo first (page - first) to)
          ∙ ap (λ k. word_changes geo first k to) next;
    }
