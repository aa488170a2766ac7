use Rattle.std.proofs.Common.{◌≡◌, Err, refl, arith, rules}
use Rattle.nvm_base.specs.Data.{data_within}
use Rattle.script_text.proofs.DataLemmas.{data_within-ok, data_within-err}
use Rattle.script_text.proofs.ranges.next_range.Goals as goal

pub returns-in-Ok : goal.returns-in-Ok
returns-in-Ok c =
    let read = data_within-ok c.args.room c.in-Some-next_word.text.now c.in-Ok.bytes.items c.in-Ok.ensures.ok in
    let number = c.in-Some-read_number.ensures in
    let first = c.in-Some.ensures in
    let second = c.in-Some-next_word.ensures in
    rw (first, second, ← number, read.0) (omega arith, read.1, refl)

pub returns-in-Err-Bad : goal.returns-in-Err-Bad
returns-in-Err-Bad c =
    let refused : data_within c.args.room c.in-Some-next_word.text.now ≡ Err c.in-Err-Bad.field-0 = search rules in
    let number = c.in-Some-read_number.ensures in
    let first = c.in-Some.ensures in
    let second = c.in-Some-next_word.ensures in
    rw (first, second, ← number) (data_within-err c.args.room _ c.in-Some-next_word.text.now c.in-Err-Bad.field-0 _ refused)
