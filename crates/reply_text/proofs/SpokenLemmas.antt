-- Words of printed answers, with a blank between each two.
use Rattle.std.proofs.Common.{◌≡◌, ◌==◌, ℕ, ◌^◌, ◌<◌, Bool, true, not, nat_lt, List, [], ◌∷◌, ◌++◌, length, decimal, get_or, refl, ap, ◌∙◌, append-nil, rules, tests}
use Rattle.std.specs.Char.{is_ascii_digit}
use Rattle.std.specs.List.{list_all, slice_split, join_with_byte}
use Rattle.std.proofs.lemmas.Bool.{and_parts}
use Rattle.std.proofs.lemmas.List.Folds.{list_all-append}
use Rattle.nvm_base.specs.Data.{data_text}
use Rattle.nvm_base.specs.Names.{is_name, is_name_byte}
use Rattle.nvm_base.proofs.DecimalLemmas.{decimal-digits}
use Rattle.nvm_base.proofs.PrintedLemmas.{is_data_byte, data_text-bytes}
use Rattle.nvm_base.proofs.SplitLemmas.{has_none, list_all-weaker, split-alone, split-before}

-- a byte above the blank
abbrev pub is_visible : ℕ → Bool
is_visible c = nat_lt 32 c

digit-visible : (c : ℕ) → is_ascii_digit c ≡ true → is_visible c ≡ true
digit-visible c e = search (rules, tests)

data_byte-visible : (c : ℕ) → is_data_byte c ≡ true → is_visible c ≡ true
data_byte-visible c e = search (rules, tests)

name_byte-visible : (c : ℕ) → is_name_byte c ≡ true → is_visible c ≡ true
name_byte-visible c e = search (rules, tests)

pub decimal-visible : (n : ℕ) → n < 2 ^ 64 → list_all is_visible (decimal n) ≡ true
decimal-visible n small = list_all-weaker is_ascii_digit is_visible digit-visible (decimal n) (decimal-digits n small)

pub data_text-visible : (bytes : List ℕ) → length bytes < 2 ^ 32 → ((k : ℕ) → get_or bytes k 0 < 256) → list_all is_visible (data_text bytes) ≡ true
data_text-visible bytes few small = list_all-weaker is_data_byte is_visible data_byte-visible (data_text bytes) (data_text-bytes bytes few small)

pub name-visible : (name : List ℕ) → is_name name ≡ true → list_all is_visible name ≡ true
name-visible name good = list_all-weaker is_name_byte is_visible name_byte-visible name (and_parts _ _ good).1

no_blank : (c : ℕ) → is_visible c ≡ true → not (c == 32) ≡ true
no_blank c e = search (rules, tests)

no_end : (c : ℕ) → is_visible c ≡ true → not (c == 10) ≡ true
no_end c e = search (rules, tests)

-- each byte of each word is
abbrev pub are_visible : List (List ℕ) → Bool
are_visible words = list_all (list_all is_visible) words

-- words that are told apart again
pub split-joined : (word : List ℕ) (words : List (List ℕ)) → are_visible (word ∷ words) ≡ true → slice_split (λ c. c == 32) (join_with_byte 32 (word ∷ words)) ≡ word ∷ words
split-joined word [] seen =
    let first = list_all-weaker is_visible (λ c. not (c == 32)) no_blank word (and_parts _ _ seen).0 in
    split-alone (λ c. c == 32) word first
split-joined word (next ∷ words) seen =
    let parts = and_parts (list_all is_visible word) (are_visible (next ∷ words)) seen in
    let first = list_all-weaker is_visible (λ c. not (c == 32)) no_blank word parts.0 in
    split-before (λ c. c == 32) word 32 (join_with_byte 32 (next ∷ words)) first refl ∙ ap (λ rest. word ∷ rest) (split-joined next words parts.1)

-- a line of them goes on to its end
pub joined-unended : (word : List ℕ) (words : List (List ℕ)) → are_visible (word ∷ words) ≡ true → has_none (λ c. c == 10) (join_with_byte 32 (word ∷ words)) ≡ true
joined-unended word [] seen = list_all-weaker is_visible (λ c. not (c == 10)) no_end word (and_parts _ _ seen).0
joined-unended word (next ∷ words) seen =
    let parts = and_parts (list_all is_visible word) (are_visible (next ∷ words)) seen in
    let first = list_all-weaker is_visible (λ c. not (c == 10)) no_end word parts.0 in
    let rest = joined-unended next words parts.1 in
    list_all-append (λ c. not (c == 10)) word (32 ∷ join_with_byte 32 (next ∷ words)) ∙ rw (first, rest) refl

-- each word behind a blank
abbrev pub spaced : List (List ℕ) → List ℕ
spaced [] = []
spaced (word ∷ words) = (32 ∷ word) ++ spaced words

pub spaced-joined : (word : List ℕ) (words : List (List ℕ)) → word ++ spaced words ≡ join_with_byte 32 (word ∷ words)
spaced-joined word [] = append-nil word
spaced-joined word (next ∷ words) = ap (λ rest. word ++ 32 ∷ rest) (spaced-joined next words)
