-- The 512 bytes of a block.
use Rattle.std.proofs.Common.{◌≡◌, ℕ, zero, suc, ◌+◌, ◌*◌, ◌/◌, ◌%◌, ◌<◌, ◌≤◌, Option, Some, None, List, ◌++◌, length, replicate, get_or, get_or-take, get_or-drop, take, drop, length-drop, refl, sym, ap, ◌∙◌, arith}
use Rattle.std.proofs.lemmas.List.{length-replicate, length-take-le, take-append-le, take_all}
use Rattle.std.proofs.lemmas.Option.{get_or_from_slice_get}
use Rattle.nvm_model.specs.Numbered.{list_from}
use Rattle.nvm_model.specs.Blocks.{block_byte, data_from, line_byte}
use Rattle.nvm_model.proofs.NumberedLemmas.{list_from-is, slice_get-list_from}
use Rattle.block_sights.specs.Sights.{bytes_by}

-- byte i of a list made by number
get_list_from : (f : ℕ → ℕ) (n count i : ℕ) → i < count → get_or (list_from f n count) i 0 ≡ f (n + i)
get_list_from f n count i lt = get_or_from_slice_get (list_from f n count) i (f (n + i)) 0 (slice_get-list_from f n count i lt)

pub bytes_by-at : (f : ℕ → ℕ) (i : ℕ) → i < 512 → get_or (bytes_by f) i 0 ≡ f i
unfolding bytes_by
bytes_by-at f i lt = let e : 0 + i ≡ i = omega arith in get_list_from f 0 512 i lt ∙ ap f e

-- 512 bytes that are those
pub bytes_by-is : (f : ℕ → ℕ) (xs : List ℕ) → length xs ≡ 512 → ((k : ℕ) → k < 512 → get_or xs k 0 ≡ f k) → xs ≡ bytes_by f
unfolding bytes_by
bytes_by-is f xs size same =
    list_from-is f 0 xs (λ k lt. let e : k ≡ 0 + k = omega arith in same k (omega (arith, lt, size)) ∙ ap f e) ∙ ap (list_from f 0) size

-- a list whose items were all written
zeros_of : (n k : ℕ) → get_or {A = ℕ} (replicate n 0) k 0 ≡ 0
zeros_of zero k = refl
zeros_of (suc n) zero = refl
zeros_of (suc n) (suc k) = zeros_of n k

pub filled : (len : ℕ) (new old : List ℕ) → len ≡ 512 → length old ≡ len → new ≡ replicate (length old) 0 → take len (new ++ drop (length new) old) ≡ bytes_by (λ _. 0)
filled len new old whole size is =
    let new_size : length new ≡ len = ap length is ∙ length-replicate (length old) 0 ∙ size in
    take-append-le len new (drop (length new) old) (omega (arith, new_size))
    ∙ take_all len new (omega (arith, new_size))
    ∙ bytes_by-is (λ _. 0) new (new_size ∙ whole) (λ k lt. ap (λ xs. get_or xs k 0) is ∙ zeros_of (length old) k)

-- byte k of a block of bytes
pub byte_of_data : (bytes : List ℕ) (i k : ℕ) → k < 512 → block_byte (data_from bytes i) k ≡ get_or bytes (512 * i + k) 0
byte_of_data bytes i k lt =
    let byte : ℕ → ℕ = λ n. get_or bytes n 0 in
    let line : ℕ → Option (List ℕ) = λ n. Some (list_from byte (64 * n) 64) in
    let n : ℕ = 8 * i + k / 64 in
    let place : 64 * n + k % 64 ≡ 512 * i + k = omega arith in
    ap (λ o. line_byte o (k % 64)) (get_or_from_slice_get (list_from line (8 * i) 8) (k / 64) (line n) None (slice_get-list_from line (8 * i) 8 (k / 64) (omega (arith, lt))))
    ∙ get_list_from byte (64 * n) 64 (k % 64) (omega arith)
    ∙ ap byte place

-- a block of bytes, of which a part is this one
pub part_of_data : (bytes : List ℕ) (i : ℕ) → 512 * i + 512 ≤ length bytes → take 512 (drop (512 * i) bytes) ≡ bytes_by (block_byte (data_from bytes i))
part_of_data bytes i there =
    bytes_by-is (block_byte (data_from bytes i)) (take 512 (drop (512 * i) bytes))
    (length-take-le 512 (drop (512 * i) bytes) (omega (arith, there, length-drop (512 * i) bytes)))
    (λ k lt. get_or-take 512 (drop (512 * i) bytes) k 0 lt ∙ get_or-drop (512 * i) bytes k 0 ∙ sym (byte_of_data bytes i k lt))
