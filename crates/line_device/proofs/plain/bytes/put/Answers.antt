use Rattle.std.proofs.Common.{◌≡◌, ℕ, ◌+◌, ◌-◌, ◌≤◌, List, ◌++◌, length, take, drop, sym, ◌∙◌, ap, subst, arith}
use Rattle.std.proofs.lemmas.List.{take_all, append-nil}
use Rattle.std.proofs.lemmas.List.{drop_all}
use Rattle.line_device.specs.Word.{IsPut}
use Rattle.line_device.proofs.PutLemmas.{mid, length-mid, is_put-mid}
use Rattle.line_device.proofs.plain.bytes.put.Goals as goal

is_put-written : (len at n : ℕ) (xs seen copied bytes : List ℕ) → seen ≡ xs → copied ≡ bytes → length xs ≡ len → n ≡ length bytes → at + length bytes ≤ len → IsPut at bytes xs (take len ((take at seen ++ (copied ++ drop n (drop at seen))) ++ drop (length (take at seen ++ (copied ++ drop n (drop at seen)))) xs))
is_put-written len at n xs seen copied bytes is_seen is_copied is_len is_n fits =
    let whole = take at seen ++ (copied ++ drop n (drop at seen)) in
    let fits_in : at + length bytes ≤ length xs = omega arith in
    let long = length-mid at bytes xs fits_in in
    let is_whole : whole ≡ mid at bytes xs = cc in
    let is : take len (whole ++ drop (length whole) xs) ≡ mid at bytes xs =
    ap (λ l. take len (l ++ drop (length l) xs)) is_whole
    ∙ ap (λ l. take len (mid at bytes xs ++ l)) (drop_all (length (mid at bytes xs)) xs (omega arith))
    ∙ ap (take len) (append-nil (mid at bytes xs))
    ∙ take_all len (mid at bytes xs) (omega arith) in
    subst (IsPut at bytes xs) (sym is) (is_put-mid at bytes xs fits_in)

pub returns-clause-bytes : goal.returns-clause-bytes
returns-clause-bytes c =
    is_put-written c.args.list.now.len c.args.at (c.args.at + length c.args.bytes.now - c.args.at) c.args.list.now.items c.deref_mut.result.now c.copy_from_slice.new.self c.args.bytes.now c.deref_mut.ensures.value c.copy_from_slice.ensures.after
    (sym (ap length c.deref_mut.ensures.value) ∙ c.deref_mut.ensures.len)
    (omega arith)
    c.requires
