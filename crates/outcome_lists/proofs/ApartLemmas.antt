-- A line of the volume may be read as its words are read one by one.
use Rattle.std.proofs.Common.{◌≡◌, ℕ, zero, suc, ◌+◌, ◌-◌, ◌*◌, ◌/◌, ◌%◌, ◌<◌, ◌≤◌, ◌==◌, ◌&&◌, ◌||◌, nat_le, nat_lt, not, Bool, true, false, List, [], ◌∷◌, length, refl, sym, ap, subst, ◌∙◌, arith}
use Rattle.std.specs.Prelude.{slice_index, slice_index_or}
use Rattle.std.specs.Int.{byte_at}
use Rattle.std.specs.List.{AllByRecursion, list_all, list_any, range_with_len}
use Rattle.std.proofs.lemmas.Bool.{eqb-false, eqb-true, leb-true, ltb-true, ne_eqb}
use Rattle.nvm_model.specs.Cell.{touches}
use Rattle.nvm_model.specs.Cell.Cell.{Bad, Kept}
use Rattle.nvm_model.specs.Numbered.{is_among}
use Rattle.explorer.specs.Outcomes.Pages.{PageRead, PageReply, agrees, all_agree, allows_bad, allows_good, words_fit}
use Rattle.explorer.specs.Outcomes.Pages.PageReply.{Shows, Poison, Refuses}
use Rattle.explorer.proofs.SightsSeen.ShowLemmas.{tests_same}
use Rattle.explorer.specs.ValueTables.Listed.{HaveOne}
use Rattle.explorer.proofs.ValueTables.HistoryLemmas.{word_has}
use Rattle.explorer.proofs.ValueTables.RangeLemmas.{range_all}
use Rattle.outcome_lists.specs.Apart.{AreApart, AreWords, IsWordRead, IsWordReply, LineAlone, OtherLine}

-- tests of lists
and_true : (a : Bool) → a ≡ (a && true)
and_true true = refl
and_true false = refl

across : (a b c d : Bool) → ((a && b) && (c && d)) ≡ ((a && c) && (b && d))
across true true c d = refl
across true false true d = refl
across true false false d = refl
across false b c d = refl

pub all_true : {A : Type 0} (xs : List A) → list_all (λ (x : A). true) xs ≡ true
all_true [] = refl
all_true (x ∷ xs) = all_true xs

-- where each passes two tests all pass the one and all the other
pub all_both : {A : Type 0} (f g : A → Bool) (xs : List A) → list_all (λ x. f x && g x) xs ≡ (list_all f xs && list_all g xs)
all_both f g [] = refl
all_both f g (x ∷ xs) = ap (λ b. (f x && g x) && b) (all_both f g xs) ∙ across (f x) (g x) (list_all f xs) (list_all g xs)

-- all of these with all of those, either way round
pub all_swapped : {A B : Type 0} (f : A → B → Bool) (xs : List A) (ys : List B) → list_all (λ x. list_all (λ y. f x y) ys) xs ≡ list_all (λ y. list_all (λ x. f x y) xs) ys
all_swapped f [] ys = sym (all_true ys)
all_swapped f (x ∷ xs) ys =
    ap (λ b. list_all (λ y. f x y) ys && b) (all_swapped f xs ys) ∙ sym (all_both (λ y. f x y) (λ y. list_all (λ x. f x y) xs) ys)

-- tests that are the same of all numbers below a bound
range_same : (f g : ℕ → Bool) (start count : ℕ) → ((k : ℕ) → k < start + count → f k ≡ g k) → list_all f (range_with_len start count) ≡ list_all g (range_with_len start count)
range_same f g start zero same = refl
range_same f g start (suc count) same =
    ap (λ b. b && list_all f (range_with_len (start + 1) count)) (same start (omega arith))
    ∙ ap (λ b. g start && b) (range_same f g (start + 1) count (λ k lt. same k (omega (arith, lt))))

pub any_same : (f g : ℕ → Bool) (values : List ℕ) → ((v : ℕ) → f v ≡ g v) → list_any f values ≡ list_any g values
any_same f g [] same = refl
any_same f g (v ∷ values) same = ap (λ b. b || list_any f values) (same v) ∙ ap (λ b. g v || b) (any_same f g values same)

-- of some values that all pass some do
pub some_value : (f : ℕ → Bool) (values : List ℕ) → 1 ≤ length values → ((v : ℕ) → f v ≡ true) → list_any f values ≡ true
some_value f [] some each = absurd (omega (arith, some))
some_value f (v ∷ values) some each = ap (λ b. b || list_any f values) (each v)

-- a read of a word says nothing of another word
outside : (start len p i : ℕ) → start % 8 ≡ 0 → len ≡ 8 → (start ≡ 8 * p → ⊥) → 8 * p ≤ i → i < 8 * p + 8 → is_among start len i ≡ false
outside start len p i place eight other from to = by_tests (nat_le start i) (nat_lt i (start + len)) refl refl
  where
    by_tests : (a b : Bool) → nat_le start i ≡ a → nat_lt i (start + len) ≡ b → (a && b) ≡ false
    by_tests true true low high = let l = leb-true start i low in let h = ltb-true i (start + len) high in absurd (other (omega (arith, l, h, place, eight, from, to)))
    by_tests true false low high = refl
    by_tests false b low high = refl

agrees_beside : (p v start len : ℕ) (reply : PageReply) → start % 8 ≡ 0 → len ≡ 8 → (start ≡ 8 * p → ⊥) → agrees p v start len reply ≡ true
agrees_beside p v start len (Shows bytes) place eight other =
    range_all (λ i. not (is_among start len i) || (slice_index bytes (i - start) == byte_at (i % 8) v)) (8 * p) 8
    (λ k lt. ap (λ b. not b || (slice_index bytes (8 * p + k - start) == byte_at ((8 * p + k) % 8) v))
    (outside start len p (8 * p + k) place eight other (omega arith) (omega (arith, lt))))
agrees_beside p v start len (Poison at) place eight other = refl
agrees_beside p v start len (Refuses why) place eight other = refl

module _ (p : ℕ) where
  beside : (r : PageRead) → IsWordRead r → (r.start ≡ 8 * p → ⊥) → (v : ℕ) → agrees p v r.start r.len r.reply ≡ true
  beside r is other v = agrees_beside p v r.start r.len r.reply is.place is.eight other

  -- nor do several
  all_beside : (first : ℕ) → first ≡ 8 * p → (rs : List PageRead) → AllByRecursion IsWordRead rs → AllByRecursion (λ (x : PageRead). first ≡ x.start → ⊥) rs → (v : ℕ) → all_agree rs p v ≡ true
  all_beside first at [] each apart v = refl
  all_beside first at (r ∷ rs) each apart v =
      ap (λ b. b && all_agree rs p v) (beside r each.0 (λ same. apart.0 (at ∙ sym same)) v) ∙ all_beside first at rs each.1 apart.1 v

  module _ (history : List ℕ) (some : 1 ≤ length history) where
    -- a value on which one read agrees, or all of them
    abbrev one_agrees : PageRead → Bool
    one_agrees r = list_any (all_agree (r ∷ []) p) history

    one_beside : (r : PageRead) → IsWordRead r → (r.start ≡ 8 * p → ⊥) → one_agrees r ≡ true
    one_beside r is other = some_value (all_agree (r ∷ []) p) history some (λ v. ap (λ b. b && true) (beside r is other v))

    each_beside : (first : ℕ) → first ≡ 8 * p → (rs : List PageRead) → AllByRecursion IsWordRead rs → AllByRecursion (λ (x : PageRead). first ≡ x.start → ⊥) rs → list_all one_agrees rs ≡ true
    each_beside first at [] each apart = refl
    each_beside first at (r ∷ rs) each apart = ap (λ b. b && list_all one_agrees rs) (one_beside r each.0 (λ same. apart.0 (at ∙ sym same))) ∙ each_beside first at rs each.1 apart.1

    -- of distinct words at most one read is of this one, so there is a value for all where there is one for each
    word_alone : (rs : List PageRead) → AllByRecursion IsWordRead rs → AreApart rs → list_any (all_agree rs p) history ≡ list_all one_agrees rs
    word_alone [] each apart = some_value (λ v. true) history some (λ v. refl)
    word_alone (r ∷ rs) each apart = by_start (r.start == 8 * p) refl (word_alone rs each.1 apart.1)
      where
        by_start : (b : Bool) → (r.start == 8 * p) ≡ b → list_any (all_agree rs p) history ≡ list_all one_agrees rs → list_any (all_agree (r ∷ rs) p) history ≡ (one_agrees r && list_all one_agrees rs)
        by_start true is rest =
            let at = eqb-true r.start (8 * p) is in
            any_same (all_agree (r ∷ rs) p) (all_agree (r ∷ []) p) history (λ v. ap (λ b. agrees p v r.start r.len r.reply && b) (all_beside r.start at rs each.1 apart.0 v))
            ∙ and_true (one_agrees r) ∙ ap (λ b. one_agrees r && b) (sym (each_beside r.start at rs each.1 apart.0))
        by_start false is rest =
            any_same (all_agree (r ∷ rs) p) (all_agree rs p) history (λ v. ap (λ b. b && all_agree rs p v) (beside r each.0 (eqb-false r.start (8 * p) is) v))
            ∙ rest ∙ ap (λ b. b && list_all one_agrees rs) (sym (one_beside r each.0 (eqb-false r.start (8 * p) is)))

-- each word of a line has a value
each_has : (words : List (List ℕ)) → (length words ≡ 8) × HaveOne words → (w : ℕ) → w < 8 → 1 ≤ length (slice_index_or words w [])
each_has words have w lt = word_has words w (subst (λ m. w < m) (sym have.0) lt) have.1

-- the words of a line
words_alone : (rs : List PageRead) (n : ℕ) (words : List (List ℕ)) → AreWords rs → (length words ≡ 8) × HaveOne words → words_fit rs n words ≡ list_all (λ r. words_fit (r ∷ []) n words) rs
words_alone rs n words are have =
    range_same (λ w. list_any (all_agree rs (8 * n + w)) (slice_index_or words w [])) (λ w. list_all (λ r. list_any (all_agree (r ∷ []) (8 * n + w)) (slice_index_or words w [])) rs) 0 8
    (λ w lt. word_alone (8 * n + w) (slice_index_or words w []) (each_has words have w (omega (arith, lt))) rs are.each are.apart)
    ∙ all_swapped (λ w r. list_any (all_agree (r ∷ []) (8 * n + w)) (slice_index_or words w [])) (range_with_len 0 8) rs

-- a line may be read so as each read alone may
pub line_alone : LineAlone
line_alone rs n Bad are have =
    tests_same (λ (r : PageRead). allows_bad n r.start r.len r.reply) (λ (r : PageRead). allows_bad n r.start r.len r.reply && true) rs (λ r. and_true (allows_bad n r.start r.len r.reply))
line_alone rs n (Kept weak words) are have =
    ap (λ b. b && words_fit rs n words) (tests_same (λ (r : PageRead). allows_good n r.reply) (λ (r : PageRead). allows_good n r.reply && true) rs (λ r. and_true (allows_good n r.reply)))
    ∙ ap (λ b. list_all (λ (r : PageRead). allows_good n r.reply && true) rs && b) (words_alone rs n words are have)
    ∙ sym (all_both (λ (r : PageRead). allows_good n r.reply && true) (λ r. words_fit (r ∷ []) n words) rs)

-- a read of a word touches its own line alone
untouched : (start len n : ℕ) → start % 8 ≡ 0 → len ≡ 8 → (start / 64 ≡ n → ⊥) → touches start len n ≡ false
untouched start len n place eight other = by_tests (nat_lt start (64 * n + 64)) (nat_lt (64 * n) (start + len)) refl refl
  where
    by_tests : (a b : Bool) → nat_lt start (64 * n + 64) ≡ a → nat_lt (64 * n) (start + len) ≡ b → (a && b) ≡ false
    by_tests true true low high = let l = ltb-true start (64 * n + 64) low in let h = ltb-true (64 * n) (start + len) high in absurd (other (omega (arith, l, h, place, eight)))
    by_tests true false low high = refl
    by_tests false b low high = refl

bad_beside : (n start len : ℕ) (reply : PageReply) → start % 8 ≡ 0 → len ≡ 8 → (start / 64 ≡ n → ⊥) → allows_bad n start len reply ≡ true
bad_beside n start len (Shows bytes) place eight other = ap not (untouched start len n place eight other)
bad_beside n start len (Poison at) place eight other = ap (λ b. not (b && nat_lt n (at / 64))) (untouched start len n place eight other)
bad_beside n start len (Refuses why) place eight other = refl

good_beside : (n start : ℕ) (reply : PageReply) → IsWordReply start reply → (start / 64 ≡ n → ⊥) → allows_good n reply ≡ true
good_beside n start (Shows bytes) told other = refl
good_beside n start (Poison at) told other = ap not (ne_eqb n (at / 64) (λ same. other (omega (arith, told, same))))
good_beside n start (Refuses why) told other = refl

-- so it tells nothing of another line
pub other_line : OtherLine
other_line r n Bad is other have = ap (λ b. b && true) (bad_beside n r.start r.len r.reply is.place is.eight other)
other_line r n (Kept weak words) is other have =
    ap (λ b. (b && true) && words_fit (r ∷ []) n words) (good_beside n r.start r.reply is.told other)
    ∙ range_all (λ w. list_any (all_agree (r ∷ []) (8 * n + w)) (slice_index_or words w [])) 0 8 word
  where
    word : (w : ℕ) → w < 8 → list_any (all_agree (r ∷ []) (8 * n + (0 + w))) (slice_index_or words (0 + w) []) ≡ true
    word w lt = one_beside (8 * n + (0 + w)) (slice_index_or words (0 + w) []) (each_has words have (0 + w) (omega (arith, lt))) r is (λ same. other (omega (arith, same, lt)))
