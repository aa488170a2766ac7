use Rattle.std.proofs.Common.{◌≡◌, ◌+◌, ◌-◌, ◌++◌, length, take, drop, sym, subst, arith}
use Rattle.line_device.specs.Word.{IsPut}
use Rattle.line_device.proofs.PutLemmas.{is_put-mid}
use Rattle.line_module.proofs.bytes.put.Goals as goal

pub returns-clause-bytes : goal.returns-clause-bytes
returns-clause-bytes c =
    let at = c.args.at in
    let bytes = c.args.bytes.now in
    let line = c.args.line.now in
    let count : at + length bytes - at ≡ length bytes = omega arith in
    let copied = c.copy_from_slice.ensures.after in
    let whole : take at line ++ (c.copy_from_slice.new.self ++ drop (at + length bytes - at) (drop at line)) ≡ take at line ++ (bytes ++ drop (length bytes) (drop at line)) = (λ i. take at line ++ (copied i ++ drop (count i) (drop at line))) in
    subst (IsPut at bytes line) (sym whole) (is_put-mid at bytes line (omega (arith, c.told-line)))
