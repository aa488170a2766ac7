-- A name's words spell its bytes.
use Rattle.std.proofs.Common.{◌≡◌, ◌<◌, ◌≤◌, ◌+◌, ◌*◌, ◌^◌, ◌/◌, ◌%◌, ◌-◌, ◌==◌, ◌&&◌, ◌||◌, ℕ, zero, suc, Bool, true, nat_le, List, [], ◌∷◌, ◌++◌, Some, None, if◌then◌else◌, length, get_or, take, drop, replicate, refl, sym, ap, ap₂, ◌∙◌, inl, inr, arith}
use Rattle.std.specs.List.{list_all}
use Rattle.std.specs.Option.{option_map}
use Rattle.std.specs.Int.{byte_at, bytes_low_first}
use Rattle.std.proofs.Math.Nat.{div-div-eq-div-mul, div-one, pow-succ'}
use Rattle.std.proofs.lemmas.Bool.{and_parts, or_cases, leb-true, eqb-true, ne_eqb}
use Rattle.std.proofs.lemmas.List.{append-nil, drop-drop, length-append, length-drop, length-replicate, take-append-drop, take_all}
use Rattle.byteorder.specs.Endian.{little_bytes, little_from, little_number}
use Rattle.byteorder.specs.Numbers.{little_from-cons}
use Rattle.nvm_base.specs.Names.{is_name, is_name_byte, name_in, padded}
use Rattle.nvm_base.specs.declared.files.FileEntry.{FileEntry}
use Rattle.nvm_base.proofs.NameLemmas.{name_in-padded}
use Rattle.inode_table.specs.Words.{bytes_in, name_word, name_words, slot_of, words_of}

byte_at-pow : (k x : ℕ) → byte_at k x ≡ x / 256 ^ k % 256
byte_at-pow zero x = ap (λ (y : ℕ). y % 256) (sym (div-one x))
byte_at-pow (suc k) x = refl

-- a byte in front moves the others on
byte_at-suc : (x r j : ℕ) → x < 256 → byte_at (suc j) (x + 256 * r) ≡ byte_at j r
byte_at-suc x r j small =
    let rest : (x + 256 * r) / 256 ≡ r = omega arith in
    ap (λ p. (x + 256 * r) / p % 256) (pow-succ' 256 j)
    ∙ ap (λ n. n % 256) (sym (div-div-eq-div-mul (x + 256 * r) 256 (256 ^ j)))
    ∙ ap (λ n. n / 256 ^ j % 256) rest
    ∙ sym (byte_at-pow j r)

bytes-suc : (x r j n : ℕ) → x < 256 → bytes_low_first (suc j) n (x + 256 * r) ≡ bytes_low_first j n r
bytes-suc x r j zero small = refl
bytes-suc x r j (suc n) small = ap₂ ◌∷◌ (byte_at-suc x r j small) (bytes-suc x r (suc j) n small)

-- each is a byte
abbrev pub AreBytes : List ℕ → Type 0
AreBytes [] = Unit {0}
AreBytes (x ∷ xs) = (x < 256) × AreBytes xs

AreBytes-drop : (n : ℕ) (xs : List ℕ) → AreBytes xs → AreBytes (drop n xs)
AreBytes-drop zero xs all = all
AreBytes-drop (suc n) [] all = all
AreBytes-drop (suc n) (x ∷ xs) all = AreBytes-drop n xs all.1

bytes_of-number : (n : ℕ) (xs : List ℕ) → AreBytes xs → n ≤ length xs → bytes_low_first 0 n (little_from 0 n xs) ≡ take n xs
bytes_of-number zero xs all enough = refl
bytes_of-number (suc n) [] all enough = absurd (omega arith)
bytes_of-number (suc n) (x ∷ xs) all enough =
    let rest = little_from 0 n xs in
    let low : (x + 256 * rest) % 256 ≡ x = omega (arith, all.0) in
    ap (λ r. bytes_low_first 0 (suc n) (x + 256 * r)) (little_from-cons 0 n x xs)
    ∙ ap₂ ◌∷◌ low (bytes-suc x rest 0 n all.0 ∙ bytes_of-number n xs all.1 (omega arith))

abbrev letter : ℕ → Bool
letter c = nat_le 97 c && nat_le c 122

abbrev digit : ℕ → Bool
digit c = nat_le 48 c && nat_le c 57

small_byte : (c : ℕ) → is_name_byte c ≡ true → c < 256
small_byte c good =
    elim (or_cases (letter c || digit c || c == 46 || c == 95) (c == 45) good) [
      | inl any ↦ elim (or_cases (letter c || digit c || c == 46) (c == 95) any) [
        | inl any ↦ elim (or_cases (letter c || digit c) (c == 46) any) [
          | inl any ↦ elim (or_cases (letter c) (digit c) any) [
            | inl is_letter ↦ let top : c ≤ 122 = leb-true c 122 (and_parts (nat_le 97 c) (nat_le c 122) is_letter).1 in omega arith
            | inr is_digit ↦ let top : c ≤ 57 = leb-true c 57 (and_parts (nat_le 48 c) (nat_le c 57) is_digit).1 in omega arith
          ]
          | inr is ↦ let same : c ≡ 46 = eqb-true c 46 is in omega arith
        ]
        | inr is ↦ let same : c ≡ 95 = eqb-true c 95 is in omega arith
      ]
      | inr is ↦ let same : c ≡ 45 = eqb-true c 45 is in omega arith
    ]

zeros_are : (n : ℕ) → AreBytes (replicate n 0)
zeros_are zero = tt
zeros_are (suc n) = (omega arith, zeros_are n)

padded_are : (text : List ℕ) (n : ℕ) → list_all is_name_byte text ≡ true → AreBytes (text ++ replicate n 0)
padded_are [] n good = zeros_are n
padded_are (c ∷ text) n good = (small_byte c (and_parts _ _ good).0, padded_are text n (and_parts _ _ good).1)

length-padded : (text : List ℕ) → length text ≤ 32 → length (padded text) ≡ 32
length-padded text short = omega (arith, length-append text (replicate (32 - length text) 0), length-replicate {A = ℕ} (32 - length text) 0)

quarter : (n m : ℕ) (xs : List ℕ) → n + 8 ≡ m → take 8 (drop n xs) ++ drop m xs ≡ drop n xs
quarter n m xs next = ap (λ ys. take 8 (drop n xs) ++ ys) (ap (λ k. drop k xs) (sym next) ∙ sym (drop-drop 8 n xs)) ∙ take-append-drop 8 (drop n xs)

quarters : (xs : List ℕ) → length xs ≡ 32 → take 8 xs ++ (take 8 (drop 8 xs) ++ (take 8 (drop 16 xs) ++ (take 8 (drop 24 xs) ++ []))) ≡ xs
quarters xs size =
    let last : take 8 (drop 24 xs) ++ [] ≡ drop 24 xs = append-nil _ ∙ take_all 8 (drop 24 xs) (omega (arith, length-drop 24 xs)) in
    let third = ap (λ ys. take 8 (drop 16 xs) ++ ys) last ∙ quarter 16 24 xs refl in
    let second = ap (λ ys. take 8 (drop 8 xs) ++ ys) third ∙ quarter 8 16 xs refl in
    ap (λ ys. take 8 xs ++ ys) second ∙ take-append-drop 8 xs

module _ (name : List ℕ) (good : is_name name ≡ true) where
  short : length name ≤ 32
  short = leb-true (length name) 32 (and_parts _ _ (and_parts _ _ good).0).1

  spelled : (n : ℕ) → n ≤ 24 → little_bytes 8 (little_number 8 (drop n (padded name))) ≡ take 8 (drop n (padded name))
  spelled n low =
      bytes_of-number 8 (drop n (padded name)) (AreBytes-drop n (padded name) (padded_are name _ (and_parts _ _ good).1)) (omega (arith, length-drop n (padded name), length-padded name short))

  -- a name's words have its bytes
  pub bytes_in-name : bytes_in (name_words name) ≡ padded name
  unfolding bytes_in name_word
  bytes_in-name =
      ap₂ ◌++◌ (spelled 0 (omega arith)) (ap₂ ◌++◌ (spelled 8 (omega arith)) (ap₂ ◌++◌ (spelled 16 (omega arith)) (ap (λ bs. bs ++ []) (spelled 24 (omega arith)))))
      ∙ quarters (padded name) (length-padded name short)

-- a file's words are read as the file
pub slot_of-words : (file : FileEntry) → is_name file.name ≡ true → slot_of (words_of file) ≡ Some file
slot_of-words file good =
    let spelled_back = ap name_in (bytes_in-name file.name good) ∙ name_in-padded file.name good in
    let pages : file.pages + 1 - 1 ≡ file.pages = omega arith in
    ap (λ b. if b then None else option_map (λ text. record { name = text; pages = file.pages + 1 - 1 }) (name_in (bytes_in (name_words file.name)))) (ne_eqb (file.pages + 1) 0 (λ none. omega arith))
    ∙ ap (option_map (λ text. record { name = text; pages = file.pages + 1 - 1 })) spelled_back
    ∙ ap (λ p. Some (record { name = file.name; pages = p })) pages

-- four words that are read from a name's padded bytes are its words
pub read_words : (name words : List ℕ) → length words ≡ 4 → ((k : ℕ) → k < 4 → get_or words k 0 ≡ little_number 8 (drop (8 * k) (padded name))) → words ≡ name_words name
unfolding name_word
read_words name [] size reads = absurd (omega arith)
read_words name (a ∷ []) size reads = absurd (omega arith)
read_words name (a ∷ b ∷ []) size reads = absurd (omega arith)
read_words name (a ∷ b ∷ c ∷ []) size reads = absurd (omega arith)
read_words name (a ∷ b ∷ c ∷ d ∷ []) size reads =
    ap₂ ◌∷◌ (reads 0 (omega arith)) (ap₂ ◌∷◌ (reads 1 (omega arith)) (ap₂ ◌∷◌ (reads 2 (omega arith)) (ap (λ w. w ∷ []) (reads 3 (omega arith)))))
read_words name (a ∷ b ∷ c ∷ d ∷ e ∷ words) size reads = absurd (omega arith)
