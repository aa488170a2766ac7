use Rattle.std.proofs.Common.{◌∙◌}
use Rattle.line_histories.proofs.WordLemmas.{put_eight}
use Rattle.line_histories.proofs.words.put_word.Goals as goal

pub returns : goal.returns
returns c =
    c.word_in.ensures
    ∙ put_eight c.args.at c.args.w c.args.old c.args.bytes.now c.word_bytes.result _ _ _ _ _ _ _ _ c.word_bytes.ensures
    c.put_byte.ensures
    c.put_byte-2.ensures
    c.put_byte-3.ensures
    c.put_byte-4.ensures
    c.put_byte-5.ensures
    c.put_byte-6.ensures
    c.put_byte-7.ensures
    c.put_byte-8.ensures
