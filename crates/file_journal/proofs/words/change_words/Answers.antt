use Rattle.std.proofs.Common.{◌≡◌, ◌++◌, ℕ, [], ◌∷◌, Option, Some, None, length, take, get_or, ap, ap₂, sym, ◌∙◌, append_assoc, arith}
use Rattle.std.proofs.lemmas.List.{append-nil, length-append, length-map, length-take, map-append, take_all, take_more}
use Rattle.word_tables.specs.Words.{place, of_inode, of_file_page}
use Rattle.page_table.specs.Pages.{word_of}
use Rattle.file_journal.specs.Changes.{change_words, numbered, slot_words, switch_words}
use Rattle.file_journal.proofs.SwitchLemmas.{is_below, page_of, switch_is, unit_of}
use Rattle.file_journal.proofs.WordLemmas.{length-numbered, slot_words_few}
use Rattle.file_journal.proofs.words.change_words.Goals as goal

pub loop-page-init : goal.loop-page-init
loop-page-init c = c.slot_words-words.ensures ∙ sym (append-nil _)

pub page_word-requires-clause-page : goal.page_word-requires-clause-page
page_word-requires-clause-page c =
    let at = switch_is c.args.switches.now c.loop-page.page-index c.loop-page-test.true in
    c.requires.switches.within c.loop-page.page-index (page_of c.args.switches.now c.loop-page.page-index) (unit_of c.args.switches.now c.loop-page.page-index) at

pub word-requires : goal.word-requires
word-requires c =
    let i = c.loop-page.page-index in
    let switches = c.args.switches.now in
    let at = switch_is switches i c.loop-page-test.true in
    is_below 1024 (unit_of switches i) (λ u is.
    let low = c.requires.switches.below i (page_of switches i) u (at ∙ ap (λ (o : Option ℕ). Some (page_of switches i, o)) is) in
    omega (arith, low, c.requires.valid.most_fpages))

pub push-requires : goal.push-requires
push-requires c =
    let i = c.loop-page.page-index in
    let switches = c.args.switches.now in
    let first = numbered (place c.args.geo (of_inode c.args.inode 0)) (slot_words c.args.slot.now) in
    let more = switch_words c.args.geo c.args.inode (take i switches) in
    let size = ap length c.loop-page.invariant ∙ length-append first more in
    let one = length-numbered (place c.args.geo (of_inode c.args.inode 0)) (slot_words c.args.slot.now) in
    let few = (slot_words_few c.args.slot.now).1 in
    let two : length more ≡ length (take i switches) = length-map (take i switches) _ in
    (omega arith, omega (arith, size, one, few, two, length-take i switches, c.requires.switches.few, c.loop-page-test.true))

pub loop-page-preserved : goal.loop-page-preserved
loop-page-preserved c =
    let geo = c.args.geo in
    let inode = c.args.inode in
    let i = c.loop-page.page-index in
    let switches = c.args.switches.now in
    let first = numbered (place geo (of_inode inode 0)) (slot_words c.args.slot.now) in
    let more = switch_words geo inode (take i switches) in
    let x : ℕ × ℕ = (place geo (of_file_page inode (page_of switches i)), word_of (unit_of switches i)) in
    c.push.ensures.items
    ∙ ap (λ ws. ws ++ (c.page_word.result, c.word.result) ∷ []) c.loop-page.invariant
    ∙ ap₂ (λ (a b : ℕ). (first ++ more) ++ (a, b) ∷ []) c.page_word.ensures c.word.ensures.word
    ∙ append_assoc first more (x ∷ [])
    ∙ ap (λ ws. first ++ ws) (sym (map-append (λ (s : ℕ × Option ℕ). (place geo (of_file_page inode s.0), word_of s.1)) (take i switches) (get_or switches i (0, None) ∷ [])) ∙ ap (switch_words geo inode) (sym (take_more switches i (0, None) c.loop-page-test.true)))

pub returns : goal.returns
returns c =
    c.loop-page.invariant
    ∙ ap (change_words c.args.geo c.args.inode c.args.slot.now) (take_all c.loop-page.page-index c.args.switches.now c.loop-page-test.false)
