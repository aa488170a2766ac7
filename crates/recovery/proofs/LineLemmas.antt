-- The bytes of words that were written one after another.
use Rattle.std.proofs.Common.{◌≡◌, ◌+◌, ◌*◌, ◌^◌, ◌<◌, ◌≤◌, ℕ, zero, suc, List, [], ◌∷◌, length, get_or, refl, ◌∙◌, ap, arith}
use Rattle.std.proofs.lemmas.List.{get_or-append-add}
use Rattle.std.specs.Int.{byte_at}
use Rattle.std.specs.List.{flat_map}
use Rattle.line_device.specs.Word.{word_at}
use Rattle.line_device.proofs.WordLemmas.{below_eight, word_from-cong, word_from-byte_at}
use Rattle.byteorder.specs.Endian.{little_bytes}
use Rattle.word_tables.specs.declared.geometry.Geometry.{Geometry}
use Rattle.word_tables.specs.Bounds.{IsValid}
use Rattle.word_tables.specs.Layout.{first_line, meta_lines, total_lines}
use Rattle.word_tables.specs.Superblock.{superblock_word, superblock_words}

-- they spell the words
words_written : (xs : List ℕ) (w : ℕ) → w < length xs → get_or xs w 0 < 2 ^ 64 → word_at (flat_map (little_bytes 8) xs) w ≡ get_or xs w 0
words_written [] w below small = absurd (omega arith)
words_written (x ∷ xs) zero below small =
    word_from-cong (λ k. get_or (flat_map (little_bytes 8) (x ∷ xs)) (8 * 0 + k) 0) (λ k. byte_at k x)
    (λ k less. below_eight (λ i. get_or (flat_map (little_bytes 8) (x ∷ xs)) (8 * 0 + i) 0 ≡ byte_at i x) refl refl refl refl refl refl refl refl k less)
    ∙ word_from-byte_at x small
words_written (x ∷ xs) (suc w) below small =
    word_from-cong (λ k. get_or (flat_map (little_bytes 8) (x ∷ xs)) (8 * suc w + k) 0) (λ k. get_or (flat_map (little_bytes 8) xs) (8 * w + k) 0)
    (λ k less.
    let later : 8 * suc w + k ≡ length (little_bytes 8 x) + (8 * w + k) = omega arith in
    ap (λ i. get_or (flat_map (little_bytes 8) (x ∷ xs)) i 0) later ∙ get_or-append-add (little_bytes 8 x) (flat_map (little_bytes 8) xs) (8 * w + k) 0)
    ∙ words_written xs w (omega arith) small

meta_small : (geo : Geometry) → IsValid geo → meta_lines geo < 2 ^ 64
unfolding first_line
meta_small geo valid = omega (arith, valid.most_blocks, valid.most_vpages)

total_small : (geo : Geometry) → IsValid geo → total_lines geo ≤ 118016
unfolding total_lines
total_small geo valid = omega (arith, valid.most_blocks, valid.most_vpages, valid.most_fpages)

-- the words of a superblock fit
superblock_small : (geo : Geometry) → IsValid geo → (w : ℕ) → w < 8 → superblock_word geo w < 2 ^ 64
superblock_small geo valid w below =
    below_eight (λ k. superblock_word geo k < 2 ^ 64) (omega arith) (omega arith)
    (omega (arith, valid.most_blocks)) (omega (arith, valid.most_vpages)) (omega (arith, valid.most_fpages))
    (meta_small geo valid) (omega (arith, total_small geo valid)) (omega arith) w below

-- the bytes of the words of a superblock
pub superblock_written : (geo : Geometry) → IsValid geo → (words bytes : List ℕ) → words ≡ superblock_words geo → bytes ≡ flat_map (little_bytes 8) words → (w : ℕ) → w < 8 → word_at bytes w ≡ superblock_word geo w
superblock_written geo valid words bytes are written w below =
    ap (λ bs. word_at bs w) (written ∙ ap (flat_map (little_bytes 8)) are)
    ∙ words_written (superblock_words geo) w below (superblock_small geo valid w below)
