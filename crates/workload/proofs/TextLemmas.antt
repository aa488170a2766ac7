-- Sums of the bytes of single items, and of a reply.
use Rattle.std.proofs.Common.{◌≡◌, ℕ, ◌+◌, ◌*◌, ◌%◌, ◌^◌, ◌<◌, ◌≤◌, ◌==◌, ◌&&◌, Bool, true, false, List, [], ◌∷◌, drop, get_or, length, nat_lt, Option, Some, None, refl, sym, ap, ◌∙◌, arith, codes, rules, tests, sum, option_map, if◌then◌else◌}
use Rattle.std.specs.Bool.{then_some}
use Rattle.std.specs.Char.{digit_value}
use Rattle.std.specs.Option.{unwrap_or}
use Rattle.std.proofs.lemmas.Bool.Decides.{nat_tests}
use Rattle.std.proofs.lemmas.Option.{same_Some}
use Rattle.nvm_base.specs.Data.{ByteRun, data_of, item_of, pair_of, pairs_of, run, runs_of, spelled}
use Rattle.nvm_base.specs.Numbers.{number_of}
use Rattle.workload.specs.Summary.{begins, told, total_of, wrapped}
use Rattle.workload.proofs.SumLemmas.{Summed, Summed-all, Summed-bad}

pub pairs_end : (pairs rest : List ℕ) (total : ℕ) → Summed (pairs_of pairs) (pairs_of rest) total → total < 2 ^ 64 → length rest < 2 → then_some (length rest == 0) total ≡ wrapped (pairs_of pairs)
pairs_end pairs [] total s fits h = sym (Summed-all (pairs_of pairs) (Some []) total s refl fits)
pairs_end pairs (a ∷ []) total s fits h = sym (Summed-bad (pairs_of pairs) None total s refl)
pairs_end pairs (a ∷ b ∷ rest) total s fits h = absurd (omega arith)

-- one pair, `*` and how often it comes
pub item_of-run : (item : List ℕ) (byte count : ℕ) → 3 ≤ length item → get_or item 2 0 ≡ 42 → pair_of (get_or item 0 0) (get_or item 1 0) ≡ Some byte → number_of (drop 3 item) ≡ Some count → 0 < count → item_of item ≡ Some (run byte count)
item_of-run [] byte count h e p n some = absurd (omega arith)
item_of-run (a ∷ []) byte count h e p n some = absurd (omega arith)
item_of-run (a ∷ b ∷ []) byte count h e p n some = absurd (omega arith)
item_of-run (a ∷ b ∷ c ∷ text) byte count h e p n some =
    let positive : nat_lt 0 count ≡ true = search (rules, tests) in
    rw (e, p, n, positive) refl

pair_within : (d e byte : ℕ) (b : Bool) → (nat_lt d 16 && nat_lt e 16) ≡ b → (if b then Some (16 * d + e) else None) ≡ Some byte → byte < 256
pair_within d e byte true t p = grind (arith, nat_tests, same_Some _ _ p, t)
pair_within d e byte false t p = cc p

-- a pair of digits is a byte
pub pair_of-byte : (high low byte : ℕ) → pair_of high low ≡ Some byte → byte < 256
pair_of-byte high low byte p = pair_within (digit_value high) (digit_value low) byte _ refl p

wrapped-unwrapped : (o : Option (List ByteRun)) → unwrap_or (wrapped o) 0 ≡ unwrap_or (option_map sum (option_map spelled o)) 0 % 2 ^ 64
wrapped-unwrapped None = refl
wrapped-unwrapped (Some runs) = refl

pub told-of : (reply text : List ℕ) (total : Option ℕ) → begins reply (codes "data ") ≡ true → text ≡ drop 5 reply → total ≡ wrapped (runs_of text) → unwrap_or total 0 ≡ told reply % 2 ^ 64
unfolding told data_of
told-of reply text total b e t =
    let is : told reply ≡ unwrap_or (total_of (drop 5 reply)) 0 = rw b refl in
    ap (λ o. unwrap_or o 0) t
    ∙ wrapped-unwrapped (runs_of text)
    ∙ ap (λ u. unwrap_or (total_of u) 0 % 2 ^ 64) e
    ∙ ap (λ n. n % 2 ^ 64) (sym is)

pub told-none : (reply : List ℕ) → begins reply (codes "data ") ≡ false → 0 ≡ told reply % 2 ^ 64
unfolding told
told-none reply b = rw b refl
