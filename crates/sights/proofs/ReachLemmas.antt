-- A read that doesn't reach a word agrees on any value of it.
use Rattle.std.proofs.Common.{◌≡◌, ◌==◌, ◌+◌, ◌-◌, ◌*◌, ◌%◌, ◌≤◌, ◌<◌, ◌&&◌, ◌||◌, ◌⊎◌, inl, inr, ℕ, zero, suc, Bool, true, false, not, nat_lt, slice_index, List, refl, sym, ap, arith}
use Rattle.std.specs.Int.{byte_at}
use Rattle.std.specs.List.{list_all, range_with_len}
use Rattle.std.proofs.lemmas.Bool.{and_from}
use Rattle.std.proofs.lemmas.Bool.Decides.{nat_tests}
use Rattle.nvm_model.specs.Numbered.{is_among}
use Rattle.asked_reads.specs.Outcomes.Pages.{agrees}
use Rattle.asked_reads.specs.Outcomes.Pages.PageReply.{Shows}

-- what is before the first, or past the last, is not among them
not_among : (first count i : ℕ) → (i < first) ⊎ (first + count ≤ i) → is_among first count i ≡ false
not_among first count i (inl before) = grind (arith, nat_tests)
not_among first count i (inr past) = grind (arith, nat_tests)

out_next : (first count at n : ℕ) → (at + suc n ≤ first) ⊎ (first + count ≤ at) → ((at < first) ⊎ (first + count ≤ at)) × ((at + 1 + n ≤ first) ⊎ (first + count ≤ at + 1))
out_next first count at n (inl before) = (inl (omega (arith, before)), inl (omega (arith, before)))
out_next first count at n (inr past) = (inr past, inr (omega (arith, past)))

all_out : (first count : ℕ) (f : ℕ → Bool) (at n : ℕ) → (at + n ≤ first) ⊎ (first + count ≤ at) → list_all (λ i. not (is_among first count i) || f i) (range_with_len at n) ≡ true
all_out first count f at zero out = refl
all_out first count f at (suc n) out =
    let next = out_next first count at n out in
    and_from _ _ (ap (λ b. not b || f at) (not_among first count at next.0)) (all_out first count f (at + 1) n next.1)

apart : (start len p : ℕ) → (nat_lt start (8 * p + 8) && nat_lt (8 * p) (start + len)) ≡ false → (8 * p + 8 ≤ start) ⊎ (start + len ≤ 8 * p)
apart start len p out = by_tests (nat_lt start (8 * p + 8)) (nat_lt (8 * p) (start + len)) refl refl out
  where
    by_tests : (a b : Bool) → nat_lt start (8 * p + 8) ≡ a → nat_lt (8 * p) (start + len) ≡ b → (a && b) ≡ false → (8 * p + 8 ≤ start) ⊎ (start + len ≤ 8 * p)
    by_tests true true ea eb out = cc out
    by_tests true false ea eb out = inr (grind (arith, nat_tests, eb))
    by_tests false b ea eb out = inl (grind (arith, nat_tests, ea))

pub unreached : (start len p v : ℕ) (bytes : List ℕ) → (nat_lt start (8 * p + 8) && nat_lt (8 * p) (start + len)) ≡ false → true ≡ agrees p v start len (Shows bytes)
unreached start len p v bytes out = sym (all_out start len (λ i. slice_index bytes (i - start) == byte_at (i % 8) v) (8 * p) 8 (apart start len p out))
