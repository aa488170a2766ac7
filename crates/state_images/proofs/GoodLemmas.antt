-- No line of metadata is bad.
use Rattle.std.proofs.Common.{◌≡◌, inl, inr, ℕ, zero, suc, ◌+◌, ◌-◌, ◌<◌, Bool, false, cond, ltb, List, [], ◌∷◌, take, sum, refl, sym, ap, subst, ◌∙◌, arith}
use Rattle.std.specs.Prelude.{filter}
use Rattle.std.specs.List.{range_with_len}
use Rattle.std.proofs.lemmas.Bool.{cases_lt, cond-true, cond-false, lt-ltb}
use Rattle.std.proofs.lemmas.Bool.Decides.{nat_tests}
use Rattle.std.proofs.lemmas.List.Sums.{sum_by-cons}
use Rattle.word_tables.specs.declared.geometry.Geometry.{Geometry}
use Rattle.word_tables.specs.Layout.{first_line, meta_lines, sizes}
use Rattle.word_tables.specs.Superblock.{superblock_word}
use Rattle.nvm_model.specs.Cell.{Cell, zero_cell}
use Rattle.nvm_model.specs.Page.{Page}
use Rattle.nvm_model.specs.Storage.{Block, File}
use Rattle.state_images.specs.Cells.{map_word_of, presence_word_of}
use Rattle.state_images.specs.Files.{entry_word_of, inode_word_of, unit_files_of}
use Rattle.state_images.specs.Images.{areas_of, image_of, line_of}
use Rattle.state_images.specs.Lines.{laid, shown_bad, shown_weak, words_line}

-- a line is neither bad nor weak
IsGoodLine : Cell → Type 0
IsGoodLine cell = (shown_bad cell ≡ false) × (shown_weak cell ≡ false)

zeros-good : IsGoodLine zero_cell
unfolding IsGoodLine
zeros-good = (refl, refl)

words-good : (word : ℕ → ℕ) (i : ℕ) → IsGoodLine (words_line word i)
unfolding IsGoodLine words_line
words-good word i = (refl, refl)

-- no line of these areas
abbrev AreGoodAreas : List (ℕ → Cell) → Type 0
AreGoodAreas [] = Unit {0}
AreGoodAreas (area ∷ areas) = ((i : ℕ) → IsGoodLine (area i)) × AreGoodAreas areas

-- so no line before the area that follows them
laid-good : (sizes : List ℕ) (areas : List (ℕ → Cell)) (r n : ℕ) → AreGoodAreas (take r areas) → n < sum (take r sizes) → IsGoodLine (laid sizes areas n)
unfolding laid
laid-good [] areas r n good below = zeros-good
laid-good (size ∷ sizes) [] r n good below = zeros-good
laid-good (size ∷ sizes) (area ∷ areas) zero n good below = absurd (omega arith)
laid-good (size ∷ sizes) (area ∷ areas) (suc r) n good below =
    elim (cases_lt n size) [
      | inl inside ↦ subst IsGoodLine (sym (cond-true (ltb n size) (area n) (laid sizes areas (n - size)) (lt-ltb n size inside))) (good.0 n)
      | inr past ↦
          let not_inside : ltb n size ≡ false = grind (arith, nat_tests) in
          subst IsGoodLine (sym (cond-false (ltb n size) (area n) (laid sizes areas (n - size)) not_inside))
          (laid-good sizes areas r (n - size) good.1 (omega (arith, below, sum_by-cons (λ x. x) size (take r sizes))))
    ]

none_passes : (test : ℕ → Bool) (start len : ℕ) → ((n : ℕ) → n < start + len → test n ≡ false) → filter test (range_with_len start len) ≡ []
none_passes test start zero fails = refl
none_passes test start (suc len) fails =
    ap (λ b. cond b (start ∷ filter test (range_with_len (start + 1) len)) (filter test (range_with_len (start + 1) len))) (fails start (omega arith))
    ∙ none_passes test (start + 1) len (λ n low. fails n (omega (arith, low)))

module _ (geo : Geometry) (blocks : List Block) (volume : List Page) (files : List File) where
  tables_good : AreGoodAreas (take 9 (areas_of geo blocks volume files))
  tables_good = (
    words-good (superblock_word geo),
    (
      λ i. zeros-good,
      (
        words-good (map_word_of blocks),
        (
          λ i. zeros-good,
          (
            words-good (presence_word_of volume),
            (
              λ i. zeros-good,
              (
                words-good (inode_word_of (unit_files_of files)),
                (
                  words-good (entry_word_of (unit_files_of files)),
                  (λ i. zeros-good, tt),
                ),
              ),
            ),
          ),
        ),
      ),
    ),
  )

  line-good : (n : ℕ) → n < meta_lines geo → IsGoodLine (line_of geo blocks volume files n)
  unfolding line_of first_line
  line-good n below = laid-good (sizes geo) (areas_of geo blocks volume files) 9 n tables_good below

  pub metadata-good : (n : ℕ) → n < meta_lines geo → (image_of geo blocks volume files).is_bad n ≡ false
  unfolding IsGoodLine
  metadata-good n below = (line-good n below).0

  pub metadata-strong : (n : ℕ) → n < meta_lines geo → (image_of geo blocks volume files).is_weak n ≡ false
  unfolding IsGoodLine
  metadata-strong n below = (line-good n below).1

  pub none_bad : filter (image_of geo blocks volume files).is_bad (range_with_len 0 (meta_lines geo)) ≡ []
  none_bad = none_passes (image_of geo blocks volume files).is_bad 0 (meta_lines geo) (λ n low. metadata-good n (omega (arith, low)))
