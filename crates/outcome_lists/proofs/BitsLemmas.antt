-- Whatever is done to pages and files, the values of words are of 64 bits, where the bytes that are brought are bytes.
use Rattle.std.proofs.Common.{ℕ, zero, suc, ◌+◌, ◌*◌, ◌<◌, ◌^◌, Bool, true, false, cond, List, [], ◌∷◌, ◌++◌, length, arith}
use Rattle.std.specs.Prelude.{slice_index}
use Rattle.std.specs.Int.{byte_at}
use Rattle.std.specs.List.{AllByRecursion}
use Rattle.std.proofs.lemmas.Bool.Decides.{nat_tests}
use Rattle.line_device.specs.History.{latest, newest}
use Rattle.line_device.specs.Medium.{word_stored}
use Rattle.line_device.specs.Word.{byte_over, reaches, word_at, word_from, word_over}
use Rattle.nvm_model.specs.Numbered.{list_from}
use Rattle.explorer.proofs.Durable.RewrittenLemmas.{byte_rewritten, rewritten-small}
use Rattle.explorer.proofs.Outcomes.HistoryLemmas.{Keeps}
use Rattle.outcome_lists.proofs.PairLemmas.{all_joined}
use Rattle.nvm_model.proofs.PutLemmas.{byte_at-small as byte_below}

-- numbers of 64 bits, and bytes
abbrev pub Are64 : List ℕ → Type 0
Are64 history = AllByRecursion (λ v. v < 2 ^ 64) history

abbrev pub AreSmall : List ℕ → Type 0
AreSmall bytes = (k : ℕ) → slice_index bytes k < 256

latest_has : (history : List ℕ) → Are64 history → Are64 (latest history)
latest_has [] all = tt
latest_has (x ∷ []) all = all
latest_has (x ∷ y ∷ ys) all = latest_has (y ∷ ys) all.1

-- a word of eight bytes
eight_below : (a b c d e f g h : ℕ) → a < 256 → b < 256 → c < 256 → d < 256 → e < 256 → f < 256 → g < 256 → h < 256
    → a + b * 256 + c * 65536 + d * 16777216 + e * 4294967296 + f * 1099511627776 + g * 281474976710656 + h * 72057594037927936 < 18446744073709551616
eight_below a b c d e f g h la lb lc ld le lf lg lh = omega arith

word_below : (byte : ℕ → ℕ) → ((k : ℕ) → byte k < 256) → word_from byte < 2 ^ 64
unfolding word_from
word_below byte small = eight_below _ _ _ _ _ _ _ _ (small 0) (small 1) (small 2) (small 3) (small 4) (small 5) (small 6) (small 7)

pub word_of_bytes : (bytes : List ℕ) (w : ℕ) → AreSmall bytes → Are64 (word_at bytes w ∷ [])
word_of_bytes bytes w small = (word_below (λ k. slice_index bytes (8 * w + k)) (λ k. small (8 * w + k)), tt)

laid_below : (byte : ℕ → ℕ) (n count k : ℕ) → ((i : ℕ) → byte i < 256) → slice_index (list_from byte n count) k < 256
laid_below byte n zero k small = omega arith
laid_below byte n (suc count) zero small = small n
laid_below byte n (suc count) (suc k) small = laid_below byte (suc n) count k small

over_below : (at i old : ℕ) (bytes : List ℕ) → AreSmall bytes → old < 256 → byte_over at bytes i old < 256
unfolding byte_over
over_below at i old bytes small below = grind (arith, nat_tests, small)

put_below : (at w old : ℕ) (bytes : List ℕ) → AreSmall bytes → word_over at bytes w old < 2 ^ 64
unfolding word_over
put_below at w old bytes small =
    word_below (λ k. byte_over at bytes (8 * w + k) (byte_at k old)) (λ k. over_below at (8 * w + k) (byte_at k old) bytes small (byte_below k old))

stored_has : (at : ℕ) (bytes : List ℕ) (p : ℕ) (history : List ℕ) → AreSmall bytes → Are64 history → Are64 (word_stored at bytes p history)
stored_has at bytes p history small all = by_test (reaches at (length bytes) p)
  where
    by_test : (b : Bool) → Are64 (cond b (history ++ word_over at bytes p (newest history) ∷ []) history)
    by_test true = all_joined (λ v. v < 2 ^ 64) history (word_over at bytes p (newest history) ∷ []) all (put_below at p (newest history) bytes small, tt)
    by_test false = all

pub bits_kept : Keeps Are64 AreSmall
bits_kept = record {
  zeros = (omega arith, tt);
  last = latest_has;
  stored = stored_has;
  durable = λ ranges bytes pages n w small.
      word_of_bytes (list_from (byte_rewritten ranges bytes pages) (64 * n) 64) w
      (λ k. laid_below (byte_rewritten ranges bytes pages) (64 * n) 64 k (rewritten-small ranges bytes pages small));
}
