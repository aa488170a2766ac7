-- Bytes put in the midst of a list.
use Rattle.std.proofs.Common.{◌≡◌, ℕ, ◌+◌, ◌-◌, ◌≤◌, List, ◌++◌, length, get_or, take, drop, inl, inr, sym, ◌∙◌, arith, rules, length-append, length-take, length-drop}
use Rattle.std.proofs.lemmas.Bool.{cases_lt}
use Rattle.std.proofs.lemmas.List.{places}
use Rattle.line_device.specs.Word.{byte_over, IsPut}
use Rattle.line_device.proofs.WordLemmas.{byte_over-in, byte_over-out}

-- the list with the bytes in its midst
abbrev pub mid : ℕ → List ℕ → List ℕ → List ℕ
mid at bytes xs = take at xs ++ (bytes ++ drop (length bytes) (drop at xs))

pub length-mid : (at : ℕ) (bytes xs : List ℕ) → at + length bytes ≤ length xs → length (mid at bytes xs) ≡ length xs
length-mid at bytes xs fits =
    omega (arith, length-append (take at xs) (bytes ++ drop (length bytes) (drop at xs)), length-append bytes (drop (length bytes) (drop at xs)), length-take at xs, length-drop at xs, length-drop (length bytes) (drop at xs))

pub is_put-mid : (at : ℕ) (bytes xs : List ℕ) → at + length bytes ≤ length xs → IsPut at bytes xs (mid at bytes xs)
is_put-mid at bytes xs fits k =
    elim (cases_lt k at) as (λ _. get_or (mid at bytes xs) k 0 ≡ byte_over at bytes k (get_or xs k 0)) [
      | inl before ↦
          let same : get_or (mid at bytes xs) k 0 ≡ get_or xs k 0 = search (rules, places) in same ∙ sym (byte_over-out at k (get_or xs k 0) bytes (inl before))
      | inr from ↦
          elim (cases_lt k (at + length bytes)) as (λ _. get_or (mid at bytes xs) k 0 ≡ byte_over at bytes k (get_or xs k 0)) [
            | inl to ↦
                let put : get_or (mid at bytes xs) k 0 ≡ get_or bytes (k - at) 0 = search (rules, places) in put ∙ sym (byte_over-in at k (get_or xs k 0) bytes from to)
            | inr past ↦
                let same : get_or (mid at bytes xs) k 0 ≡ get_or xs k 0 = search (rules, places) in same ∙ sym (byte_over-out at k (get_or xs k 0) bytes (inr past))
          ]
    ]
