-- Words that are a superblock.
use Rattle.std.proofs.Common.{◌≡◌, ◌<◌, ◌≤◌, ◌==◌, ◌%◌, ℕ, zero, suc, Bool, true, false, not, [], ◌∷◌, position, None, refl, sym, ◌∙◌, arith}
use Rattle.std.proofs.lemmas.Bool.{eq-eqb, eqb-true, le-leb, leb-true, and_from, and_parts}
use Rattle.std.proofs.lemmas.Option.{none-some}
use Rattle.word_tables.specs.declared.geometry.Geometry.{Geometry}
use Rattle.word_tables.specs.Bounds.{IsValid}
use Rattle.word_tables.specs.Layout.{meta_lines, total_lines}
use Rattle.word_tables.specs.Superblock.{mark, superblock_word, geometry_of, is_within, first_wrong_word, IsSuperblock, TellsItsSizes}

all_right : (a b c d e f g h : Bool) → a ≡ true → b ≡ true → c ≡ true → d ≡ true → e ≡ true → f ≡ true → g ≡ true → h ≡ true
    → position not (a ∷ b ∷ c ∷ d ∷ e ∷ f ∷ g ∷ h ∷ []) ≡ None
all_right true true true true true true true true _ _ _ _ _ _ _ _ = refl
all_right _ _ _ _ _ _ _ _ p q r s t u v w = grind arith

-- what eight tests tell where none fails
record AllTrue (a b c d e f g h : Bool) : Type 0 where
  mark : a ≡ true
  layout : b ≡ true
  blocks : c ≡ true
  vpages : d ≡ true
  fpages : e ≡ true
  meta : f ≡ true
  total : g ≡ true
  bytes : h ≡ true

none_fails : (a b c d e f g h : Bool) → position not (a ∷ b ∷ c ∷ d ∷ e ∷ f ∷ g ∷ h ∷ []) ≡ None → AllTrue a b c d e f g h
none_fails false b c d e f g h none = absurd (none-some 0 (sym none))
none_fails true false c d e f g h none = absurd (none-some 1 (sym none))
none_fails true true false d e f g h none = absurd (none-some 2 (sym none))
none_fails true true true false e f g h none = absurd (none-some 3 (sym none))
none_fails true true true true false f g h none = absurd (none-some 4 (sym none))
none_fails true true true true true false g h none = absurd (none-some 5 (sym none))
none_fails true true true true true true false h none = absurd (none-some 6 (sym none))
none_fails true true true true true true true false none = absurd (none-some 7 (sym none))
none_fails true true true true true true true true none =
    record { mark = refl; layout = refl; blocks = refl; vpages = refl; fpages = refl; meta = refl; total = refl; bytes = refl }

within : (least most n : ℕ) → least ≤ n → n ≤ most → is_within least most n ≡ true
within least most n from to = and_from _ _ (le-leb least n from) (le-leb n most to)

-- the words of a superblock, one by one
each_word : (word : ℕ → ℕ) → word 0 ≡ mark → word 1 ≡ 1 → word 5 ≡ meta_lines (geometry_of word) → word 6 ≡ total_lines (geometry_of word) → word 7 ≡ 8
    → (w : ℕ) → w < 8 → word w ≡ superblock_word (geometry_of word) w
each_word word a b c d e zero lt = a
each_word word a b c d e (suc zero) lt = b
each_word word a b c d e (suc (suc zero)) lt = refl
each_word word a b c d e (suc (suc (suc zero))) lt = refl
each_word word a b c d e (suc (suc (suc (suc zero)))) lt = refl
each_word word a b c d e (suc (suc (suc (suc (suc zero))))) lt = c
each_word word a b c d e (suc (suc (suc (suc (suc (suc zero)))))) lt = d
each_word word a b c d e (suc (suc (suc (suc (suc (suc (suc zero))))))) lt = e
each_word word a b c d e (suc (suc (suc (suc (suc (suc (suc (suc n)))))))) lt = absurd (omega arith)

pub told : (geo : Geometry) → IsValid geo → TellsItsSizes geo
unfolding first_wrong_word
told geo valid = record {
  sizes = refl;
  right =
      all_right _ _ _ _ _ _ _ _ refl refl
      (and_from _ _ (within 8 4096 geo.blocks valid.least_blocks valid.most_blocks) (eq-eqb (geo.blocks % 8) 0 valid.whole_lines))
      (within 2 256 geo.vpages valid.least_vpages valid.most_vpages)
      (within 32 1024 geo.fpages valid.least_fpages valid.most_fpages)
      (eq-eqb (meta_lines geo) _ refl)
      (and_from _ _ (eq-eqb (total_lines geo) _ refl) (eq-eqb (total_lines geo) _ refl))
      refl;
}

pub right : (lines : ℕ) (word : ℕ → ℕ) → first_wrong_word lines word ≡ None → IsSuperblock lines word
unfolding first_wrong_word
right lines word none =
    let x = none_fails _ _ _ _ _ _ _ _ none in
    let blocks = and_parts (is_within 8 4096 (word 2)) (word 2 % 8 == 0) x.blocks in
    let few_blocks = and_parts _ _ blocks.0 in
    let vpages = and_parts _ _ x.vpages in
    let fpages = and_parts _ _ x.fpages in
    let total = and_parts (word 6 == total_lines (geometry_of word)) (word 6 == lines) x.total in
    record {
      valid =
          record {
            least_blocks = leb-true 8 (word 2) few_blocks.0;
            most_blocks = leb-true (word 2) 4096 few_blocks.1;
            whole_lines = eqb-true (word 2 % 8) 0 blocks.1;
            least_vpages = leb-true 2 (word 3) vpages.0;
            most_vpages = leb-true (word 3) 256 vpages.1;
            least_fpages = leb-true 32 (word 4) fpages.0;
            most_fpages = leb-true (word 4) 1024 fpages.1;
          };
      count = sym (eqb-true (word 6) lines total.1) ∙ eqb-true (word 6) (total_lines (geometry_of word)) total.0;
      words =
          each_word word (eqb-true (word 0) mark x.mark) (eqb-true (word 1) 1 x.layout) (eqb-true (word 5) (meta_lines (geometry_of word)) x.meta)
          (eqb-true (word 6) (total_lines (geometry_of word)) total.0) (eqb-true (word 7) 8 x.bytes);
    }
