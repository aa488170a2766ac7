-- The lowest wrong word of a superblock.
use Rattle.std.proofs.Common.{◌≡◌, ◌≢◌, inl, inr, ◌+◌, ◌<◌, ◌==◌, ◌&&◌, ◌%◌, ℕ, Bool, true, false, not, List, length, get_or, position, nat_lt, cond, Some, None, ◌∙◌, ap, lit<, arith}
use Rattle.std.specs.List.{position_or_len}
use Rattle.std.proofs.lemmas.Bool.{eq-eqb, ne_eqb, lt-ltb, le-ltb, leb-true, eqb-true, and_from, and_left, and_right, and_parts, cases_lt}
use Rattle.std.proofs.lemmas.List.Sums.{position_or_len_is}
use Rattle.word_tables.specs.declared.geometry.Geometry.{Geometry}
use Rattle.word_tables.specs.Bounds.{IsValid}
use Rattle.word_tables.specs.Layout.{meta_lines, total_lines}
use Rattle.word_tables.specs.Superblock.{mark, geometry_of, is_within, are_right, first_wrong_word}

-- the first n tests pass
abbrev Passes : List Bool → ℕ → Type 0
Passes bs n = (k : ℕ) → k < n → get_or bs k true ≡ true

one_more : (bs : List Bool) (n : ℕ) → Passes bs n → get_or bs n true ≡ true → Passes bs (1 + n)
one_more bs n pass here k below =
    elim (cases_lt k n) as (λ _. get_or bs k true ≡ true) [ inl before ↦ pass k before | inr from ↦ let at : k ≡ n = omega arith in ap (λ i. get_or bs i true) at ∙ here ]

-- and the next one fails, or there is none
fails_at : (bs : List Bool) (n : ℕ) → n < length bs → Passes bs n → get_or bs n true ≡ false → position not bs ≡ Some n
fails_at bs n within pass here =
    let is : position_or_len not bs ≡ n = position_or_len_is not bs n true (omega arith) (λ k below. ap not (pass k below)) (λ _. ap not here) in
    ap (λ i. cond (nat_lt i (length bs)) (Some i) None) is ∙ ap (λ b. cond b (Some n) None) (lt-ltb n (length bs) within)

all_pass : (bs : List Bool) → Passes bs (length bs) → position not bs ≡ None
all_pass bs pass =
    let n = length bs in
    let is : position_or_len not bs ≡ n = position_or_len_is not bs n true (omega arith) (λ k below. ap not (pass k below)) (λ h. absurd (omega arith)) in
    ap (λ i. cond (nat_lt i n) (Some i) None) is ∙ ap (λ b. cond b (Some n) None) (le-ltb n n (omega arith))

-- sizes that pass their tests are valid
pub sizes_valid : (geo : Geometry) → (is_within 8 4096 geo.blocks && geo.blocks % 8 == 0) ≡ true → is_within 2 256 geo.vpages ≡ true → is_within 32 1024 geo.fpages ≡ true → IsValid geo
sizes_valid geo b v f =
    let blocks = and_parts (is_within 8 4096 geo.blocks) (geo.blocks % 8 == 0) b in
    let few = and_parts _ _ blocks.0 in
    let vpages = and_parts _ _ v in
    let fpages = and_parts _ _ f in
    record {
      least_blocks = leb-true 8 geo.blocks few.0;
      most_blocks = leb-true geo.blocks 4096 few.1;
      whole_lines = eqb-true (geo.blocks % 8) 0 blocks.1;
      least_vpages = leb-true 2 geo.vpages vpages.0;
      most_vpages = leb-true geo.vpages 256 vpages.1;
      least_fpages = leb-true 32 geo.fpages fpages.0;
      most_fpages = leb-true geo.fpages 1024 fpages.1;
    }

-- each test of a word, where all before it pass
module _ (lines : ℕ) (word : ℕ → ℕ) where
  pub at_mark : word 0 ≢ mark → first_wrong_word lines word ≡ Some 0
  unfolding first_wrong_word
  at_mark wrong = fails_at (are_right lines word) 0 (lit< tt) (λ k below. absurd (omega arith)) (ne_eqb (word 0) mark wrong)

  module _ (m : word 0 ≡ mark) where
    pass1 : Passes (are_right lines word) 1
    pass1 = one_more (are_right lines word) 0 (λ k below. absurd (omega arith)) (eq-eqb (word 0) mark m)

    pub at_layout : word 1 ≢ 1 → first_wrong_word lines word ≡ Some 1
    unfolding first_wrong_word
    at_layout wrong = fails_at (are_right lines word) 1 (lit< tt) pass1 (ne_eqb (word 1) 1 wrong)

    module _ (l : word 1 ≡ 1) where
      pass2 : Passes (are_right lines word) 2
      pass2 = one_more (are_right lines word) 1 pass1 (eq-eqb (word 1) 1 l)

      pub at_blocks : (is_within 8 4096 (word 2) && word 2 % 8 == 0) ≡ false → first_wrong_word lines word ≡ Some 2
      unfolding first_wrong_word
      at_blocks wrong = fails_at (are_right lines word) 2 (lit< tt) pass2 wrong

      module _ (b : (is_within 8 4096 (word 2) && word 2 % 8 == 0) ≡ true) where
        pass3 : Passes (are_right lines word) 3
        pass3 = one_more (are_right lines word) 2 pass2 b

        pub at_vpages : is_within 2 256 (word 3) ≡ false → first_wrong_word lines word ≡ Some 3
        unfolding first_wrong_word
        at_vpages wrong = fails_at (are_right lines word) 3 (lit< tt) pass3 wrong

        module _ (v : is_within 2 256 (word 3) ≡ true) where
          pass4 : Passes (are_right lines word) 4
          pass4 = one_more (are_right lines word) 3 pass3 v

          pub at_fpages : is_within 32 1024 (word 4) ≡ false → first_wrong_word lines word ≡ Some 4
          unfolding first_wrong_word
          at_fpages wrong = fails_at (are_right lines word) 4 (lit< tt) pass4 wrong

          module _ (f : is_within 32 1024 (word 4) ≡ true) where
            pass5 : Passes (are_right lines word) 5
            pass5 = one_more (are_right lines word) 4 pass4 f

            pub at_meta : word 5 ≢ meta_lines (geometry_of word) → first_wrong_word lines word ≡ Some 5
            unfolding first_wrong_word
            at_meta wrong = fails_at (are_right lines word) 5 (lit< tt) pass5 (ne_eqb (word 5) (meta_lines (geometry_of word)) wrong)

            module _ (n : word 5 ≡ meta_lines (geometry_of word)) where
              pass6 : Passes (are_right lines word) 6
              pass6 = one_more (are_right lines word) 5 pass5 (eq-eqb (word 5) (meta_lines (geometry_of word)) n)

              pub at_total : word 6 ≢ total_lines (geometry_of word) → first_wrong_word lines word ≡ Some 6
              unfolding first_wrong_word
              at_total wrong =
                  fails_at (are_right lines word) 6 (lit< tt) pass6
                  (and_left (word 6 == total_lines (geometry_of word)) (word 6 == lines) (ne_eqb (word 6) (total_lines (geometry_of word)) wrong))

              pub at_lines : word 6 ≢ lines → first_wrong_word lines word ≡ Some 6
              unfolding first_wrong_word
              at_lines wrong =
                  fails_at (are_right lines word) 6 (lit< tt) pass6 (and_right (word 6 == total_lines (geometry_of word)) (word 6 == lines) (ne_eqb (word 6) lines wrong))

              module _ (t : word 6 ≡ total_lines (geometry_of word)) (c : word 6 ≡ lines) where
                pass7 : Passes (are_right lines word) 7
                pass7 =
                    one_more (are_right lines word) 6 pass6
                    (and_from (word 6 == total_lines (geometry_of word)) (word 6 == lines) (eq-eqb (word 6) (total_lines (geometry_of word)) t) (eq-eqb (word 6) lines c))

                pub at_bytes : word 7 ≢ 8 → first_wrong_word lines word ≡ Some 7
                unfolding first_wrong_word
                at_bytes wrong = fails_at (are_right lines word) 7 (lit< tt) pass7 (ne_eqb (word 7) 8 wrong)

                pub at_end : word 7 ≡ 8 → first_wrong_word lines word ≡ None
                unfolding first_wrong_word
                at_end e = all_pass (are_right lines word) (one_more (are_right lines word) 7 pass7 (eq-eqb (word 7) 8 e))
