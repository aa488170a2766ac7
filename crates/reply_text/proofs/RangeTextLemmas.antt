-- The text of ranges.
use Rattle.std.proofs.Common.{All, ◌≡◌, ℕ, ◌+◌, ◌*◌, ◌^◌, ◌<◌, ◌≤◌, List, [], ◌∷◌, ◌++◌, length, get_or, drop, arith, decimal, sum_by, length-append}
use Rattle.std.proofs.lemmas.Fmt.{length-decimal-le}
use Rattle.std.proofs.lemmas.List.{at_drop_more}
use Rattle.std.proofs.lemmas.List.Elements.{All-head, All-tail}
use Rattle.std.proofs.lemmas.List.Sums.{sum_by-cons}
use Rattle.nvm_base.specs.declared.units.Span.{Span}
use Rattle.reply_text.specs.Answer.{range_text, ranges_text}
use Rattle.reply_text.specs.Room.{HasStart}

abbrev pub len : Span → ℕ
len range = range.len

length-three : (a b c : List ℕ) → length a ≤ 20 → length b ≤ 20 → length c ≤ 20 → length (32 ∷ a ++ 32 ∷ b ++ 32 ∷ c) ≤ 63
length-three a b c p q r = omega (arith, length-append (a ++ 32 ∷ b) (32 ∷ c), length-append a (32 ∷ b), p, q, r)

length-range_text : (offset : ℕ) (range : Span) → offset < 2 ^ 64 → range.start < 2 ^ 64 → range.len < 2 ^ 64 → length (range_text offset range) ≤ 63
length-range_text offset range p q r =
    length-three (decimal offset) (decimal range.start) (decimal range.len)
    (length-decimal-le 20 offset (omega arith) (omega (arith, p)) p) (length-decimal-le 20 range.start (omega arith) (omega (arith, q)) q) (length-decimal-le 20 range.len (omega arith) (omega (arith, r)) r)

pub length-ranges_text : (offset : ℕ) (ranges : List Span) → All HasStart ranges → offset + sum_by len ranges < 2 ^ 64 → length (ranges_text offset ranges) ≤ 63 * length ranges
length-ranges_text offset [] h s = omega arith
length-ranges_text offset (range ∷ ranges) h s =
    let sum = sum_by-cons len range ranges in
    let first = length-range_text offset range (omega (arith, s)) (All-head HasStart range ranges h) (omega (arith, s, sum)) in
    let rest = length-ranges_text (offset + range.len) ranges (All-tail HasStart range ranges h) (omega (arith, s, sum)) in
    omega (arith, length-append (range_text offset range) (ranges_text (offset + range.len) ranges), first, rest)

-- one range more
pub ranges_text-more : (offset i : ℕ) (ranges : List Span) (d : Span) → i < length ranges → ranges_text offset (drop i ranges) ≡ range_text offset (get_or ranges i d) ++ ranges_text (offset + (get_or ranges i d).len) (drop (i + 1) ranges)
ranges_text-more offset i ranges d h = at_drop_more (ranges_text offset) ranges i d h
