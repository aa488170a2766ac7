-- The presence words that change together.
use Rattle.std.proofs.Common.{◌≡◌, inl, inr, ℕ, zero, suc, ◌≢◌, ◌+◌, ◌-◌, ◌*◌, ◌<◌, ◌≤◌, ◌||◌, Bool, true, false, IsTrue, Some, option_map, List, [], ◌∷◌, ◌++◌, length, get_or, if◌then◌else◌, refl, sym, ap, ◌∙◌, arith}
use Rattle.std.proofs.lemmas.Bool.{cases_eq, eq-eqb, ne_eqb, both_ways}
use Rattle.std.proofs.lemmas.Option.{get_or_from_slice_get, slice_get-get_or}
use Rattle.word_tables.specs.declared.geometry.Geometry.{Geometry}
use Rattle.word_tables.specs.Bounds.{IsValid}
use Rattle.word_tables.specs.Layout.{first_line, presence}
use Rattle.word_tables.specs.Words.{place, of_volume_page}
use Rattle.word_log.specs.Area.{IsHome}
use Rattle.word_log.specs.Changes.{IsDistinct, MayCommit, changed, lists}
use Rattle.nvm_model.specs.Numbered.{is_among}
use Rattle.nvm_model.proofs.NumberedLemmas.{length-list_from, slice_get-map_from}
use Rattle.pm_volume.specs.Area.{volume_area}
use Rattle.pm_volume.specs.Presence.{presence_word, presence_words, switched, word_changes}
use Rattle.nvm_model.proofs.TouchedPageLemmas.{among_bounds, among_from, not_among, same_tests}

change_of : Geometry → Bool → ℕ → ℕ × ℕ
change_of geo to page = (place geo (of_volume_page page), presence_word to)

pub changes_push : (geo : Geometry) (first k : ℕ) (to : Bool) → word_changes geo first (k + 1) to ≡ word_changes geo first k to ++ (place geo (of_volume_page (first + k)), presence_word to) ∷ []
unfolding change_of
changes_push geo first zero to =
    let at : first ≡ first + 0 = omega arith in
    ap (λ n. change_of geo to n ∷ []) at
changes_push geo first (suc k) to =
    let at : suc first + k ≡ first + suc k = omega arith in
    let more : suc k + 1 ≡ suc (k + 1) = omega arith in
    ap (λ n. word_changes geo first n to) more
    ∙ ap (λ cs. change_of geo to first ∷ cs) (changes_push geo (suc first) k to)
    ∙ ap (λ n. change_of geo to first ∷ (word_changes geo (suc first) k to ++ change_of geo to n ∷ [])) at

-- the words that change are those of the pages
pub changes-lists : (geo : Geometry) (first count : ℕ) (to : Bool) (p : ℕ) → 8 * first_line geo presence ≤ p → lists (word_changes geo first count to) p ≡ is_among first count (p - 8 * first_line geo presence)
changes-lists geo first zero to p from = sym (not_among first 0 (p - 8 * first_line geo presence) (λ a b. absurd (omega arith)))
changes-lists geo first (suc count) to p from =
    let base : ℕ = 8 * first_line geo presence in
    let rest : Bool = lists (word_changes geo (suc first) count to) p in
    elim (cases_eq (place geo (of_volume_page first)) p) as (λ _. lists (word_changes geo first (suc count) to) p ≡ is_among first (suc count) (p - base)) [
      | inl here ↦
          ap (λ b. b || rest) (eq-eqb (place geo (of_volume_page first)) p here) ∙ sym (among_from first (suc count) (p - base) (omega arith) (omega arith))
      | inr other ↦
          ap (λ b. b || rest) (ne_eqb (place geo (of_volume_page first)) p other)
          ∙ changes-lists geo (suc first) count to p from
          ∙ same_tests (is_among (suc first) count (p - base)) (is_among first (suc count) (p - base))
          (λ is. let b = among_bounds (suc first) count (p - base) is in among_from first (suc count) (p - base) (omega (arith, b.0)) (omega (arith, b.1)))
          (λ is.
          let b = among_bounds first (suc count) (p - base) is in
          let not_first : p - base ≢ first = λ e. other (omega (arith, e)) in
          among_from (suc first) count (p - base) (omega (arith, b.0, not_first)) (omega (arith, b.1)))
    ]

changes-distinct : (geo : Geometry) (first count : ℕ) (to : Bool) → IsDistinct (word_changes geo first count to)
changes-distinct geo first zero to = tt
changes-distinct geo first (suc count) to =
    let at : place geo (of_volume_page first) - 8 * first_line geo presence ≡ first = omega arith in (
      changes-lists geo (suc first) count to (place geo (of_volume_page first)) (omega arith)
          ∙ ap (is_among (suc first) count) at
          ∙ not_among (suc first) count first (λ a b. absurd (omega arith)),
      changes-distinct geo (suc first) count to,
    )

listed_from : (geo : Geometry) (first count : ℕ) (to : Bool) (p : ℕ) → IsTrue (lists (word_changes geo first count to) p) → 8 * first_line geo presence + first ≤ p
listed_from geo first zero to p is = absurd (both_ways false refl is)
listed_from geo first (suc count) to p is =
    let rest : Bool = lists (word_changes geo (suc first) count to) p in
    elim (cases_eq (place geo (of_volume_page first)) p) as (λ _. 8 * first_line geo presence + first ≤ p) [
      | inl here ↦ omega arith
      | inr other ↦
          let later = listed_from geo (suc first) count to p (sym (ap (λ b. b || rest) (ne_eqb (place geo (of_volume_page first)) p other)) ∙ is) in
          omega (arith, later)
    ]

pub changes-taken : (geo : Geometry) (first count : ℕ) (to : Bool) → IsValid geo → 0 < count → first + count ≤ geo.vpages → MayCommit (volume_area geo) (word_changes geo first count to)
changes-taken geo first count to valid some within =
    let size : length (word_changes geo first count to) ≡ count = length-list_from (λ page. (place geo (of_volume_page page), presence_word to)) first count in
    record {
      some = omega arith;
      few = omega (arith, size, valid.most_vpages);
      home = λ p is.
          let from = listed_from geo first count to p is in
          let low : 8 * first_line geo presence ≤ p = omega (arith, from) in
          let b = among_bounds first count (p - 8 * first_line geo presence) (sym (changes-lists geo first count to p low) ∙ is) in
          (low, omega (arith, b.0, b.1));
      distinct = changes-distinct geo first count to;
    }

-- their values, and those of the others
changed-among : (geo : Geometry) (first count : ℕ) (to : Bool) (word : ℕ → ℕ) (p : ℕ) → 8 * first_line geo presence ≤ p → changed (word_changes geo first count to) word p ≡ (if is_among first count (p - 8 * first_line geo presence) then presence_word to else word p)
changed-among geo first zero to word p from =
    sym (ap (λ b. if b then presence_word to else word p) (not_among first 0 (p - 8 * first_line geo presence) (λ a b. absurd (omega arith))))
changed-among geo first (suc count) to word p from =
    let base : ℕ = 8 * first_line geo presence in
    let rest : ℕ = changed (word_changes geo (suc first) count to) word p in
    elim (cases_eq (place geo (of_volume_page first)) p) as (λ _. changed (word_changes geo first (suc count) to) word p ≡ (if is_among first (suc count) (p - base) then presence_word to else word p)) [
      | inl here ↦
          ap (λ b. if b then presence_word to else rest) (eq-eqb (place geo (of_volume_page first)) p here)
          ∙ sym (ap (λ b. if b then presence_word to else word p) (among_from first (suc count) (p - base) (omega arith) (omega arith)))
      | inr other ↦
          ap (λ b. if b then presence_word to else rest) (ne_eqb (place geo (of_volume_page first)) p other)
          ∙ changed-among geo (suc first) count to word p from
          ∙ ap (λ b. if b then presence_word to else word p)
          (same_tests (is_among (suc first) count (p - base)) (is_among first (suc count) (p - base))
          (λ is. let b = among_bounds (suc first) count (p - base) is in among_from first (suc count) (p - base) (omega (arith, b.0)) (omega (arith, b.1)))
          (λ is.
          let b = among_bounds first (suc count) (p - base) is in
          let not_first : p - base ≢ first = λ e. other (omega (arith, e)) in
          among_from (suc first) count (p - base) (omega (arith, b.0, not_first)) (omega (arith, b.1))))
    ]

pub get_or-switched : (first count : ℕ) (to : Bool) (there : List Bool) (i : ℕ) → i < length there → get_or (switched first count to there) i false ≡ (if is_among first count i then to else get_or there i false)
get_or-switched first count to there i below =
    get_or_from_slice_get (switched first count to there) i (if is_among first count i then to else get_or there i false) false
    (slice_get-map_from (λ k was. if is_among first count k then to else was) 0 there i
    ∙ ap (option_map (λ was. if is_among first count (0 + i) then to else was)) (slice_get-get_or there i false below)
    ∙ ap (λ k. Some (if is_among first count k then to else get_or there i false)) zero_more)
  where
    zero_more : 0 + i ≡ i
    zero_more = omega arith

word_if : (t to was : Bool) → (if t then presence_word to else presence_word was) ≡ presence_word (if t then to else was)
word_if true to was = refl
word_if false to was = refl

-- the words after the changes are those of the switched pages
pub words_switched : (geo : Geometry) (first count : ℕ) (to : Bool) (there : List Bool) (p : ℕ) → length there ≡ geo.vpages → IsHome (volume_area geo) p → changed (word_changes geo first count to) (presence_words geo there) p ≡ presence_words geo (switched first count to there) p
words_switched geo first count to there p all home =
    let i : ℕ = p - 8 * first_line geo presence in
    changed-among geo first count to (presence_words geo there) p home.0
    ∙ word_if (is_among first count i) to (get_or there i false)
    ∙ sym (ap presence_word (get_or-switched first count to there i (omega (arith, all, home.0, home.1))))
