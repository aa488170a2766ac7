use Rattle.std.proofs.Common.{◌++◌, ◌∷◌, Ok, arith, codes, decimal, subst}
use Rattle.std.proofs.lemmas.Fmt.{length-decimal-le}
use Rattle.std.specs.declared.alloc.AllocError.{AllocError}
use Rattle.nvm_base.specs.Stock.{Appends}
use Rattle.nvm_base.proofs.AppendLemmas.{Appended-none, Appended-more, Appends-last, Appends-whole}
use Rattle.reply_text.specs.Answer.{file_line_text}
use Rattle.reply_text.proofs.FileTextLemmas.{name-short}
use Rattle.reply_text.proofs.files.print_file_line.Goals as goal

pub returns-in_err-extend-clause-short : goal.returns-in_err-extend-clause-short
returns-in_err-extend-clause-short c = omega (arith, length-decimal-le 20 c.args.offset (omega arith) (omega arith) (omega arith), name-short c.args.name.now c.bytes-text.ensures.name)

pub returns-in_err-extend-2-clause-short : goal.returns-in_err-extend-2-clause-short
returns-in_err-extend-2-clause-short c = omega (arith, length-decimal-le 20 c.args.offset (omega arith) (omega arith) (omega arith), name-short c.args.name.now c.bytes-text.ensures.name)

pub returns-clause-text : goal.returns-clause-text
returns-clause-text c =
    let words = c.args.words.now in
    let text = words ++ file_line_text c.args.name.now c.args.offset in
    let number = 32 ∷ decimal c.args.offset in
    let rest = number ++ codes " 64" in
    let first = c.in_ok-extend.ensures in
    let second = c.in_ok-extend-2.ensures in
    let last = c.extend-3.ensures in
    Appends-last text (codes " 64") _ _ _ _
    (Appended-more {E = AllocError} text number (codes " 64") _ _ _ tt
    (Appended-more {E = AllocError} text c.args.name.now rest _ _ _ tt
    (Appended-more {E = AllocError} text words (c.args.name.now ++ rest) _ _ _ tt (Appended-none text c.args.out.now)
    (Appends-whole words _ _ (Ok tt) first.ok first.err first.succeeds first.spare))
    (subst (λ n. Appends {E = AllocError} n (Ok tt) c.extend.new.self c.extend-2.new.self) c.bytes-text.ensures.text (Appends-whole c.bytes-text.result.now _ _ (Ok tt) second.ok second.err second.succeeds second.spare))) c.in_ok-print_counted.ensures.text)
    (Appends-whole (codes " 64") _ _ c.extend-3.result last.ok last.err last.succeeds last.spare)
