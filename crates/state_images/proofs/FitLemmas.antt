-- Each word of the image has eight bytes.
use Rattle.std.proofs.Common.{◌≡◌, inl, inr, ℕ, zero, suc, ◌+◌, ◌-◌, ◌*◌, ◌^◌, ◌/◌, ◌%◌, ◌<◌, ◌≤◌, ◌==◌, ◌&&◌, ◌||◌, nat_le, true, false, cond, ltb, Option, Some, None, option_and_then, List, [], ◌∷◌, ◌++◌, length, drop, replicate, get_or, slice_get, lit<, refl, sym, ap, ◌∙◌, arith}
use Rattle.std.specs.List.{list_all}
use Rattle.std.proofs.lemmas.Bool.{and_parts, cases_lt, eqb-true, leb-true, or_cases}
use Rattle.std.proofs.lemmas.Option.{slice_get_within}
use Rattle.nvm_base.specs.Names.{is_name, is_name_byte, padded}
use Rattle.line_device.specs.Word.{word_at, word_from}
use Rattle.word_tables.specs.declared.geometry.Geometry.{Geometry}
use Rattle.word_tables.specs.Bounds.{IsValid}
use Rattle.word_tables.specs.Layout.{first_range, size, sizes, total_lines, first_line}
use Rattle.word_tables.specs.Superblock.{superblock_word}
use Rattle.inode_table.specs.Words.{name_word}
use Rattle.page_table.specs.Pages.{word_of}
use Rattle.nvm_model.specs.Cell.{Cell, zero_cell}
use Rattle.nvm_model.specs.Page.{Page, cell_of}
use Rattle.nvm_model.specs.Page.Page.{Absent, Present}
use Rattle.nvm_model.specs.Storage.{Block, File}
use Rattle.nvm_model.specs.Storage.Block.{Absent as AbsentBlock, Scarred, Data}
use Rattle.file_journal.specs.Files.{UnitFile}
use Rattle.state_images.specs.Cells.{block_word, cell_or_zeros, line_in_block, line_of_bytes, map_word_of, page_word, presence_word_of}
use Rattle.state_images.specs.Files.{all_present, entry_word_of, inode_word_of, present_pages, unit_files_of, unit_of_entry, word_in_inode}
use Rattle.state_images.specs.Fitting.{FilesFit, LineFits, PagesFit}
use Rattle.state_images.specs.Images.{areas_of, image_of, line_of}
use Rattle.state_images.specs.Lines.{laid, words_line}
use Rattle.state_images.specs.Storable.{AreBytes, AreLinesOfBytes, AreStorableBlocks, IsLineOfBytes, IsStorableFiles, IsWholeBlock}
use Rattle.state_images.proofs.BlockLemmas.{block-whole, small-byte}
use Rattle.state_images.proofs.NumberLemmas.{file-number}
use Rattle.state_images.proofs.PageLemmas.{line-of_page}
use Rattle.state_images.proofs.UnitLemmas.{IsEntry, entries, item-right}

zeros-fit : LineFits zero_cell
zeros-fit zero = omega arith
zeros-fit (suc zero) = omega arith
zeros-fit (suc (suc zero)) = omega arith
zeros-fit (suc (suc (suc zero))) = omega arith
zeros-fit (suc (suc (suc (suc zero)))) = omega arith
zeros-fit (suc (suc (suc (suc (suc zero))))) = omega arith
zeros-fit (suc (suc (suc (suc (suc (suc zero)))))) = omega arith
zeros-fit (suc (suc (suc (suc (suc (suc (suc zero))))))) = omega arith
zeros-fit (suc (suc (suc (suc (suc (suc (suc (suc k)))))))) = omega arith

words-fit : (word : ℕ → ℕ) (i : ℕ) → ((w : ℕ) → word w < 2 ^ 64) → LineFits (words_line word i)
unfolding words_line
words-fit word i fit zero = fit (8 * i)
words-fit word i fit (suc zero) = fit (suc (8 * i))
words-fit word i fit (suc (suc zero)) = fit (suc (suc (8 * i)))
words-fit word i fit (suc (suc (suc zero))) = fit (suc (suc (suc (8 * i))))
words-fit word i fit (suc (suc (suc (suc zero)))) = fit (suc (suc (suc (suc (8 * i)))))
words-fit word i fit (suc (suc (suc (suc (suc zero))))) = fit (suc (suc (suc (suc (suc (8 * i))))))
words-fit word i fit (suc (suc (suc (suc (suc (suc zero)))))) = fit (suc (suc (suc (suc (suc (suc (8 * i)))))))
words-fit word i fit (suc (suc (suc (suc (suc (suc (suc zero))))))) = fit (suc (suc (suc (suc (suc (suc (suc (8 * i))))))))
words-fit word i fit (suc (suc (suc (suc (suc (suc (suc (suc k)))))))) = omega arith

-- lines of areas that all have a property
abbrev AllAreas : (Cell → Type 0) → List (ℕ → Cell) → Type 0
AllAreas P [] = Unit {0}
AllAreas P (area ∷ areas) = ((i : ℕ) → P (area i)) × AllAreas P areas

laid-all : (P : Cell → Type 0) (sizes : List ℕ) (areas : List (ℕ → Cell)) (n : ℕ) → P zero_cell → AllAreas P areas → P (laid sizes areas n)
unfolding laid
laid-all P [] areas n none all = none
laid-all P (size ∷ sizes) [] n none all = none
laid-all P (size ∷ sizes) (area ∷ areas) n none all =
    elim (ltb n size) as (λ b. P (cond b (area n) (laid sizes areas (n - size)))) [ true ↦ all.0 n | false ↦ laid-all P sizes areas (n - size) none all.1 ]

-- words of the tables
superblock-fits : (geo : Geometry) → IsValid geo → (w : ℕ) → superblock_word geo w < 2 ^ 64
unfolding first_line total_lines
superblock-fits geo valid zero = omega arith
superblock-fits geo valid (suc zero) = omega arith
superblock-fits geo valid (suc (suc zero)) = omega arith
superblock-fits geo valid (suc (suc (suc zero))) = omega arith
superblock-fits geo valid (suc (suc (suc (suc zero)))) = omega arith
superblock-fits geo valid (suc (suc (suc (suc (suc zero))))) = omega arith
superblock-fits geo valid (suc (suc (suc (suc (suc (suc zero)))))) = omega arith
superblock-fits geo valid (suc (suc (suc (suc (suc (suc (suc zero))))))) = omega arith
superblock-fits geo valid (suc (suc (suc (suc (suc (suc (suc (suc w)))))))) = omega arith

block-fits : (b : ℕ) (o : Option Block) → b < 4096 → block_word b o < 2 ^ 64
block-fits b None low = omega arith
block-fits b (Some AbsentBlock) low = omega arith
block-fits b (Some Scarred) low = omega arith
block-fits b (Some (Data lines)) low = omega arith

map-fits : (geo : Geometry) (blocks : List Block) → IsValid geo → AreStorableBlocks geo blocks → (b : ℕ) → map_word_of blocks b < 2 ^ 64
map-fits geo blocks valid storable b = by_block (slice_get blocks b) refl
  where
    by_block : (o : Option Block) → slice_get blocks b ≡ o → block_word b o < 2 ^ 64
    by_block None is = omega arith
    by_block (Some block) is = block-fits b (Some block) (omega (arith, slice_get_within blocks b block is, storable.all, valid.most_blocks))

page-fits : (o : Option Page) → page_word o < 2 ^ 64
page-fits None = omega arith
page-fits (Some Absent) = omega arith
page-fits (Some (Present cells)) = omega arith

spelled-below : (a b c d e f g h : ℕ) → a < 256 → b < 256 → c < 256 → d < 256 → e < 256 → f < 256 → g < 256 → h < 256
    → a + 256 * (b + 256 * (c + 256 * (d + 256 * (e + 256 * (f + 256 * (g + 256 * (h + 256 * 0))))))) < 18446744073709551616
spelled-below a b c d e f g h la lb lc ld le lf lg lh = omega arith

small-name_byte : (c : ℕ) → is_name_byte c ≡ true → c < 256
small-name_byte c good =
    elim (or_cases ((nat_le 97 c && nat_le c 122) || (nat_le 48 c && nat_le c 57) || c == 46 || c == 95) (c == 45) good) [
      | inl any ↦ elim (or_cases ((nat_le 97 c && nat_le c 122) || (nat_le 48 c && nat_le c 57) || c == 46) (c == 95) any) [
        | inl any ↦ elim (or_cases ((nat_le 97 c && nat_le c 122) || (nat_le 48 c && nat_le c 57)) (c == 46) any) [
          | inl any ↦ elim (or_cases (nat_le 97 c && nat_le c 122) (nat_le 48 c && nat_le c 57) any) [
            | inl is_letter ↦ let top : c ≤ 122 = leb-true c 122 (and_parts (nat_le 97 c) (nat_le c 122) is_letter).1 in omega arith
            | inr is_digit ↦ let top : c ≤ 57 = leb-true c 57 (and_parts (nat_le 48 c) (nat_le c 57) is_digit).1 in omega arith
          ]
          | inr is ↦ let same : c ≡ 46 = eqb-true c 46 is in omega arith
        ]
        | inr is ↦ let same : c ≡ 95 = eqb-true c 95 is in omega arith
      ]
      | inr is ↦ let same : c ≡ 45 = eqb-true c 45 is in omega arith
    ]

zeros-small : (n k : ℕ) → get_or (replicate n 0) k 0 < 256
zeros-small zero k = omega arith
zeros-small (suc n) zero = omega arith
zeros-small (suc n) (suc k) = zeros-small n k

text-small : (text : List ℕ) (n k : ℕ) → list_all is_name_byte text ≡ true → get_or (text ++ replicate n 0) k 0 < 256
text-small [] n k good = zeros-small n k
text-small (c ∷ text) n zero good = small-name_byte c (and_parts _ _ good).0
text-small (c ∷ text) n (suc k) good = text-small text n k (and_parts _ _ good).1

drop-small : (n : ℕ) (xs : List ℕ) → ((k : ℕ) → get_or xs k 0 < 256) → (k : ℕ) → get_or (drop n xs) k 0 < 256
drop-small zero xs small k = small k
drop-small (suc n) [] small k = omega arith
drop-small (suc n) (x ∷ xs) small k = drop-small n xs (λ j. small (suc j)) k

name-fits : (name : List ℕ) (k : ℕ) → is_name name ≡ true → name_word name k < 2 ^ 64
unfolding name_word
name-fits name k good =
    let small : (j : ℕ) → get_or (drop (8 * k) (padded name)) j 0 < 256 = drop-small (8 * k) (padded name) (λ j. text-small name _ j (and_parts _ _ good).1) in
    spelled-below _ _ _ _ _ _ _ _ (small 0) (small 1) (small 2) (small 3) (small 4) (small 5) (small 6) (small 7)

inode-fits : (o : Option UnitFile) (k : ℕ) → ((on : UnitFile) → o ≡ Some on → IsEntry on) → word_in_inode o k < 2 ^ 64
inode-fits None k right = omega arith
inode-fits (Some on) zero right = omega (arith, (right on refl).few)
inode-fits (Some on) (suc zero) right = name-fits on.name 0 (right on refl).name
inode-fits (Some on) (suc (suc zero)) right = name-fits on.name 1 (right on refl).name
inode-fits (Some on) (suc (suc (suc zero))) right = name-fits on.name 2 (right on refl).name
inode-fits (Some on) (suc (suc (suc (suc zero)))) right = name-fits on.name 3 (right on refl).name
inode-fits (Some on) (suc (suc (suc (suc (suc k))))) right = omega arith

unit-fits : (o : Option ℕ) → ((unit : ℕ) → o ≡ Some unit → unit < 1024) → word_of o < 2 ^ 64
unit-fits None low = omega arith
unit-fits (Some unit) low = omega (arith, low unit refl)

-- lines of data
pages-fit : (o : Option Cell) → ((cell : Cell) → o ≡ Some cell → LineFits cell) → LineFits (cell_or_zeros o)
pages-fit None fit = zeros-fit
pages-fit (Some cell) fit = fit cell refl

eight-below : (a b c d e f g h : ℕ) → a < 256 → b < 256 → c < 256 → d < 256 → e < 256 → f < 256 → g < 256 → h < 256
    → a + b * 256 + c * 65536 + d * 16777216 + e * 4294967296 + f * 1099511627776 + g * 281474976710656 + h * 72057594037927936 < 18446744073709551616
eight-below a b c d e f g h la lb lc ld le lf lg lh = omega arith

word-fits : (bytes : List ℕ) (w : ℕ) → AreBytes bytes → word_at bytes w < 2 ^ 64
unfolding word_from
word-fits bytes w all =
    eight-below _ _ _ _ _ _ _ _
    (small-byte bytes (8 * w + 0) all)
    (small-byte bytes (8 * w + 1) all)
    (small-byte bytes (8 * w + 2) all)
    (small-byte bytes (8 * w + 3) all)
    (small-byte bytes (8 * w + 4) all)
    (small-byte bytes (8 * w + 5) all)
    (small-byte bytes (8 * w + 6) all)
    (small-byte bytes (8 * w + 7) all)

line-fits : (o : Option (List ℕ)) → IsLineOfBytes o → LineFits (line_of_bytes o)
line-fits None whole = λ k. lit< tt
line-fits (Some bytes) whole = words-fit (word_at bytes) 0 (λ w. word-fits bytes w whole.1)

lines-fit : (lines : List (Option (List ℕ))) (i : ℕ) → AreLinesOfBytes lines → LineFits (line_of_bytes (get_or lines i (Some [])))
lines-fit [] i all = words-fit (word_at []) 0 (λ w. word-fits [] w tt)
lines-fit (line ∷ lines) zero all = line-fits line all.0
lines-fit (line ∷ lines) (suc i) all = lines-fit lines i all.1

block-lines-fit : (o : Option Block) (i : ℕ) → ((block : Block) → o ≡ Some block → IsWholeBlock block) → LineFits (line_in_block o i)
block-lines-fit None i whole = zeros-fit
block-lines-fit (Some AbsentBlock) i whole = zeros-fit
block-lines-fit (Some Scarred) i whole = zeros-fit
block-lines-fit (Some (Data lines)) i whole = lines-fit lines i (whole (Data lines) refl).1

present-fit : (pages : List Page) (k l : ℕ) (cells : List Cell) (cell : Cell) → PagesFit pages → slice_get (present_pages pages) k ≡ Some cells → slice_get cells l ≡ Some cell → l < 64 → LineFits cell
present-fit pages k l cells cell fit = by_page pages k 0 (λ i lines is line here low. fit (64 * i + l) line (line-of_page pages i l lines line is here low))
  where
    by_page : (rest : List Page) (k : ℕ) (n : ℕ) → ((i : ℕ) (lines : List Cell) → slice_get rest i ≡ Some (Present lines) → (line : Cell) → slice_get lines l ≡ Some line → l < 64 → LineFits line)
        → slice_get (present_pages rest) k ≡ Some cells → slice_get cells l ≡ Some cell → l < 64 → LineFits cell
    by_page [] k n each is here low = cc
    by_page (Absent ∷ rest) k n each is here low = by_page rest k n (λ i. each (suc i)) is here low
    by_page (Present lines ∷ rest) zero n each is here low = let same : lines ≡ cells = cc in each 0 lines refl cell (ap (λ (ls : List Cell). slice_get ls l) same ∙ here) low
    by_page (Present lines ∷ rest) (suc k) n each is here low = by_page rest k n (λ i. each (suc i)) is here low

all-present-fit : (files : List File) (k l : ℕ) (cells : List Cell) (cell : Cell) → FilesFit files → slice_get (all_present files) k ≡ Some cells → slice_get cells l ≡ Some cell
    → l < 64 → LineFits cell
all-present-fit [] k l cells cell fit is here low = cc
all-present-fit (file ∷ files) k l cells cell fit is here low =
    elim (cases_lt k (length (present_pages file.pages))) [
      | inl own ↦ present-fit file.pages k l cells cell fit.0 (by_left (present_pages file.pages) (all_present files) k own ∙ is) here low
      | inr later ↦
          let n : ℕ = length (present_pages file.pages) in
          let at : n + (k - n) ≡ k = omega arith in
          all-present-fit files (k - n) l cells cell fit.1
          (sym (item-right (present_pages file.pages) (all_present files) (k - n)) ∙ ap (slice_get (present_pages file.pages ++ all_present files)) at ∙ is) here low
    ]
  where
    by_left : (xs ys : List (List Cell)) (k : ℕ) → k < length xs → slice_get xs k ≡ slice_get (xs ++ ys) k
    by_left [] ys k below = absurd (omega arith)
    by_left (x ∷ xs) ys zero below = refl
    by_left (x ∷ xs) ys (suc k) below = by_left xs ys k (omega arith)

unit-lines-fit : (o : Option (List Cell)) (l : ℕ) → ((cells : List Cell) (cell : Cell) → o ≡ Some cells → slice_get cells l ≡ Some cell → LineFits cell)
    → LineFits (cell_or_zeros (option_and_then (λ cells. slice_get cells l) o))
unit-lines-fit None l fit = zeros-fit
unit-lines-fit (Some cells) l fit = pages-fit (slice_get cells l) (λ cell is. fit cells cell refl is)

module _ (geo : Geometry) (blocks : List Block) (volume : List Page) (files : List File) (valid : IsValid geo)
    (of_blocks : AreStorableBlocks geo blocks) (of_files : IsStorableFiles geo files) (volume_fits : PagesFit volume) (files_fit : FilesFit files) where
  entry-low : (e unit : ℕ) → unit_of_entry (unit_files_of files) e ≡ Some unit → unit < 1024
  entry-low e unit is = omega (arith, (file-number 0 files (e / 256) (e % 256) unit is).1, of_files.room, valid.most_fpages)

  areas-fit : AllAreas LineFits (areas_of geo blocks volume files)
  areas-fit = (
    λ i. words-fit (superblock_word geo) i (superblock-fits geo valid),
    (
      λ i. zeros-fit,
      (
        λ i. words-fit (map_word_of blocks) i (map-fits geo blocks valid of_blocks),
        (
          λ i. zeros-fit,
          (
            λ i. words-fit (presence_word_of volume) i (λ w. page-fits (slice_get volume w)),
            (
              λ i. zeros-fit,
              (
                λ i. words-fit (inode_word_of (unit_files_of files)) i
                    (λ w. inode-fits (slice_get (unit_files_of files) (w / 8)) (w % 8) (λ on is. entries 0 files (w / 8) on of_files.each is)),
                (
                  λ i. words-fit (entry_word_of (unit_files_of files)) i (λ e. unit-fits (unit_of_entry (unit_files_of files) e) (entry-low e)),
                  (
                    λ i. zeros-fit,
                    (
                      λ i. pages-fit (cell_of volume i) (volume_fits i),
                      (
                        λ i. block-lines-fit (slice_get blocks (i / 8)) (i % 8) (λ block is. block-whole blocks (i / 8) block of_blocks.whole is),
                        (
                          λ i. pages-fit (cell_of volume (size geo first_range + i)) (volume_fits (size geo first_range + i)),
                          (
                            λ i. unit-lines-fit (slice_get (all_present files) (i / 64)) (i % 64)
                                (λ cells cell is here. all-present-fit files (i / 64) (i % 64) cells cell files_fit is here (omega arith)),
                            tt,
                          ),
                        ),
                      ),
                    ),
                  ),
                ),
              ),
            ),
          ),
        ),
      ),
    ),
  )

  pub every-word-fits : (p : ℕ) → (image_of geo blocks volume files).word p < 2 ^ 64
  unfolding line_of
  every-word-fits p = laid-all LineFits (sizes geo) (areas_of geo blocks volume files) (p / 8) zeros-fit areas-fit (p % 8)
