-- The text of media errors.
use Rattle.std.proofs.Common.{◌≡◌, ℕ, suc, Bool, true, false, ◌+◌, ◌*◌, ◌^◌, ◌<◌, ◌≤◌, List, [], ◌∷◌, ◌++◌, length, get_or, drop, arith, decimal, length-append}
use Rattle.std.proofs.lemmas.Fmt.{length-decimal-le}
use Rattle.std.proofs.lemmas.List.{at_drop_more}
use Rattle.nvm_model.specs.Storage.{Event}
use Rattle.reply_text.specs.Answer.{event_text, live_text, mapped_text, offsets_text}

length-mapped_text : (b : Bool) → length (mapped_text b) ≤ 9
length-mapped_text true = omega arith
length-mapped_text false = omega arith

length-live_text : (b : Bool) → length (live_text b) ≤ 8
length-live_text true = omega arith
length-live_text false = omega arith

length-decimal : (n : ℕ) → n < 2 ^ 64 → length (decimal n) ≤ 20
length-decimal n p = length-decimal-le 20 n (omega arith) (omega (arith, p)) p

-- a name, two numbers and two words
length-five : (a b c d e : List ℕ) → length a ≤ 32 → length b ≤ 20 → length c ≤ 20 → length d ≤ 9 → length e ≤ 8 → length (a ++ ((32 ∷ b ++ (32 ∷ c)) ++ (d ++ e))) ≤ 91
length-five a b c d e p q r s t =
    omega (arith, length-append a ((32 ∷ b ++ (32 ∷ c)) ++ (d ++ e)), length-append (32 ∷ b ++ (32 ∷ c)) (d ++ e), length-append b (32 ∷ c), length-append d e, p, q, r, s, t)

pub length-event_text : (event : Event) → length event.file ≤ 32 → event.offset < 2 ^ 64 → event.len < 2 ^ 64 → length (event_text event) ≤ 91
length-event_text event p q r =
    length-five event.file (decimal event.offset) (decimal event.len) (mapped_text event.mapped) (live_text event.live) p
    (length-decimal event.offset q) (length-decimal event.len r) (length-mapped_text event.mapped) (length-live_text event.live)

pub length-offsets_text : (offsets : List ℕ) → ((k : ℕ) → get_or offsets k 0 < 2 ^ 64) → length (offsets_text offsets) ≤ 21 * length offsets
length-offsets_text [] h = omega arith
length-offsets_text (offset ∷ offsets) h =
    let first = length-decimal offset (h 0) in
    let rest = length-offsets_text offsets (λ k. h (suc k)) in
    omega (arith, length-append (32 ∷ decimal offset) (offsets_text offsets), first, rest)

-- one offset more
pub offsets_text-more : (i d : ℕ) (offsets : List ℕ) → i < length offsets → offsets_text (drop i offsets) ≡ (32 ∷ decimal (get_or offsets i d)) ++ offsets_text (drop (i + 1) offsets)
offsets_text-more i d offsets h = at_drop_more offsets_text offsets i d h
