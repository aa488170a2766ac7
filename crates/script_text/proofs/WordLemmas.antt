-- Words of a text.
use Rattle.std.proofs.Common.{◌≡◌, ℕ, suc, ◌+◌, ◌<◌, ◌≤◌, inl, inr, Bool, true, false, not, cond, List, [], ◌∷◌, Some, None, take, drop, length, get_or, nat_lt, filter, position, refl, sym, ap, ◌∙◌, arith, rules, tests}
use Rattle.std.proofs.lemmas.List.{drop_more, drop_all, take_all, length-take-le, length-drop, get_or-drop}
use Rattle.std.proofs.lemmas.Bool.{cases_lt, cond-true, cond-false, false≢true}
use Rattle.std.proofs.lemmas.List.Splits.{slice_split_none, slice_split_first}
use Rattle.std.proofs.lemmas.List.Sums.{prefix_len-le-length, prefix_len_passes, prefix_len_stops}
use Rattle.std.specs.List.{slice_split, position_or_len}
use Rattle.std.specs.Option.{unwrap_or}
use Rattle.script_text.specs.Script.{is_blank, words_of}
use Rattle.nvm_base.proofs.SplitLemmas.{fails}

-- the pieces between bytes that pass the test
abbrev pieces : (ℕ → Bool) → List ℕ → List (List ℕ)
pieces p text = filter (λ word. nat_lt 0 (length word)) (slice_split p text)

skip_step : (p : ℕ → Bool) (b : Bool) (c k : ℕ) (cs : List ℕ) → p c ≡ b → pieces p (drop k cs) ≡ pieces p cs → pieces p (drop (cond (not (not b)) (1 + k) 0) (c ∷ cs)) ≡ pieces p (c ∷ cs)
skip_step p true c k cs e more =
    let shift : 1 + k ≡ suc k = omega arith in
    rw (shift, e) more
skip_step p false c k cs e more = refl

-- what passes at the front makes no piece
skip : (p : ℕ → Bool) (text : List ℕ) → pieces p (drop (position_or_len (λ c. not (p c)) text) text) ≡ pieces p text
skip p [] = refl
skip p (c ∷ cs) = skip_step p (p c) c _ cs refl (skip p cs)

pub passes : (b : Bool) → not b ≡ false → b ≡ true
passes true e = refl
passes false e = absurd (cc)

pub full : (word : List ℕ) (parts : List (List ℕ)) → 0 < length word → filter (λ w. nat_lt 0 (length w)) (word ∷ parts) ≡ word ∷ filter (λ w. nat_lt 0 (length w)) parts
full word parts some =
    let e : nat_lt 0 (length word) ≡ true = search (rules, tests) in
    rw (e, filter) refl

after : (p : ℕ → Bool) (c : ℕ) (cs : List ℕ) → p c ≡ true → pieces p (c ∷ cs) ≡ pieces p cs
after p c cs e = rw e refl

-- what is before the first byte that passes is a piece
cut : (p : ℕ → Bool) (text : List ℕ) (n : ℕ) → n ≡ position_or_len p text → 0 < n → pieces p text ≡ take n text ∷ pieces p (drop n text)
cut p text n is some =
    let within : n ≤ length text = omega (arith, prefix_len-le-length (λ c. not (p c)) text) in
    let front : 0 < length (take n text) = omega (arith, length-take-le n text within) in
    elim (cases_lt n (length text)) [
      | inl inside ↦
          let stop = prefix_len_stops (λ c. not (p c)) text 0 (omega arith) in
          let here : p (get_or text n 0) ≡ true = rw is (passes _ stop) in
          let parts : slice_split p text ≡ take n text ∷ slice_split p (drop (n + 1) text) = rw is (slice_split_first p text 0 (omega arith)) in
          ap (filter (λ w. nat_lt 0 (length w))) parts ∙ full (take n text) (slice_split p (drop (n + 1) text)) front ∙ ap (λ rest. take n text ∷ rest) (sym (ap (pieces p) (drop_more text n 0 inside) ∙ after p (get_or text n 0) (drop (n + 1) text) here))
      | inr all ↦
          let none = slice_split_none p text (λ k d low. fails _ (prefix_len_passes (λ c. not (p c)) text k d (omega arith))) in
          let whole : take n text ≡ text = take_all n text all in
          let end : drop n text ≡ [] = drop_all n text all in
          rw (none, whole, end) (full text [] (omega arith))
    ]

position-some : (p : ℕ → Bool) (text : List ℕ) (n : ℕ) → position p text ≡ Some n → (n ≡ position_or_len p text) × (position_or_len p text < length text)
position-some p text n e =
    elim (cases_lt (position_or_len p text) (length text)) [
      | inl inside ↦
          let t : nat_lt (position_or_len p text) (length text) ≡ true = search (rules, tests) in
          let found : Some (position_or_len p text) ≡ Some n = sym (cond-true _ _ _ t) ∙ e in
          (cc, inside)
      | inr outside ↦
          let t : nat_lt (position_or_len p text) (length text) ≡ false = search (rules, tests) in
          let found : None ≡ Some n = sym (cond-false _ (Some (position_or_len p text)) None t) ∙ e in
          absurd (cc)
    ]

position-none : (p : ℕ → Bool) (text : List ℕ) → position p text ≡ None → length text ≤ position_or_len p text
position-none p text e =
    elim (cases_lt (position_or_len p text) (length text)) [
      | inl inside ↦
          let t : nat_lt (position_or_len p text) (length text) ≡ true = search (rules, tests) in
          let found : Some (position_or_len p text) ≡ None = sym (cond-true _ _ _ t) ∙ e in
          absurd (cc)
      | inr outside ↦ outside
    ]

position-or : (p : ℕ → Bool) (text : List ℕ) → unwrap_or (position p text) (length text) ≡ position_or_len p text
position-or p text =
    elim (cases_lt (position_or_len p text) (length text)) [
      | inl inside ↦
          let t : nat_lt (position_or_len p text) (length text) ≡ true = search (rules, tests) in
          ap (λ o. unwrap_or o (length text)) (cond-true _ (Some (position_or_len p text)) None t)
      | inr outside ↦
          let t : nat_lt (position_or_len p text) (length text) ≡ false = search (rules, tests) in
          let most = prefix_len-le-length (λ c. not (p c)) text in
          ap (λ o. unwrap_or o (length text)) (cond-false _ (Some (position_or_len p text)) None t) ∙ omega arith
    ]

-- a text of blanks
pub words_of-blank : (text : List ℕ) → position (λ c. not (is_blank c)) text ≡ None → words_of text ≡ []
unfolding words_of
words_of-blank text e =
    let all = position-none (λ c. not (is_blank c)) text e in
    sym (skip is_blank text) ∙ ap (pieces is_blank) (drop_all _ text all)

-- something else than a blank comes at the front
begins : (text : List ℕ) (start : ℕ) → start ≡ position_or_len (λ c. not (is_blank c)) text → start < length text → 0 < position_or_len is_blank (drop start text)
begins text start is inside =
    elim (cases_lt 0 (position_or_len is_blank (drop start text))) [
      | inl some ↦ some
      | inr none ↦
          let size = length-drop start text in
          let zero_is : position_or_len is_blank (drop start text) ≡ 0 = omega arith in
          let other : not (is_blank (get_or text start 0)) ≡ true = rw is (passes _ (prefix_len_stops (λ c. not (not (is_blank c))) text 0 (omega arith))) in
          let blank : is_blank (get_or (drop start text) (position_or_len is_blank (drop start text)) 0) ≡ true = passes _ (prefix_len_stops (λ c. not (is_blank c)) (drop start text) 0 (omega arith)) in
          let plus : start + 0 ≡ start = omega arith in
          let same = ap (λ k. get_or (drop start text) k 0) zero_is ∙ get_or-drop start text 0 0 ∙ ap (λ k. get_or text k 0) plus in
          let no : not (is_blank (get_or text start 0)) ≡ false = ap not (sym (ap is_blank same) ∙ blank) in
          absurd (false≢true (sym no ∙ other))
    ]

-- the first word of a text
pub words_of-first : (text : List ℕ) (start end : ℕ) → position (λ c. not (is_blank c)) text ≡ Some start → end ≡ unwrap_or (position is_blank (drop start text)) (length (drop start text)) → words_of text ≡ take end (drop start text) ∷ words_of (drop end (drop start text))
unfolding words_of
words_of-first text start end e is =
    let at = position-some (λ c. not (is_blank c)) text start e in
    let end_is : end ≡ position_or_len is_blank (drop start text) = is ∙ position-or is_blank (drop start text) in
    let some : 0 < end = omega (arith, begins text start at.0 (omega arith)) in
    sym (skip is_blank text) ∙ ap (λ n. pieces is_blank (drop n text)) (sym at.0) ∙ cut is_blank (drop start text) end end_is some

pub first_within : (text : List ℕ) → unwrap_or (position is_blank text) (length text) ≤ length text
first_within text = omega (arith, position-or is_blank text, prefix_len-le-length (λ c. not (is_blank c)) text)
