-- What calls do to lines of memory that keep of each word its first and its last value.
use Rattle.std.proofs.Common.{◌≡◌, inl, inr, ℕ, zero, suc, Bool, true, false, ◌+◌, ◌-◌, ◌*◌, ◌/◌, ◌%◌, ◌<◌, ◌≤◌, List, [], ◌∷◌, ◌++◌, length, get_or, set, take, drop, replicate, nat_lt, Option, Some, None, if◌then◌else◌, refl, add-zero, sym, ◌∙◌, ap, subst, arith}
use Rattle.std.specs.List.{slice_get}
use Rattle.std.proofs.lemmas.Bool.{cases_eq, cases_lt, eq-eqb, ne_eqb, lt-ltb, le-ltb}
use Rattle.std.proofs.lemmas.List.{length-replicate, length-take, length-drop, get_or-replicate, get_or_past, get_or-take, get_or-drop}
use Rattle.std.proofs.lemmas.Option.{slice_get-get_or, slice_get_past}
use Rattle.line_device.specs.Word.{word_from, word_at, byte_over, word_over, reaches, IsPut}
use Rattle.line_device.specs.History.{latest, newest, IsPart, WordWritesBack}
use Rattle.line_device.specs.Medium.{Medium, WritesBack, Weakens, zeros, with_at, on_line, word_stored, stored, renewed, flushed, IsLine}
use Rattle.line_device.specs.Cells.{first_and_last, ends, ends_of, is_bad_mark, is_weak_mark, has_words, good_mark, memory, weakened}
use Rattle.line_device.specs.declared.plain.cells.Mark.{Mark}
use Rattle.line_device.specs.declared.plain.cells.Mark.TheVariants.{Healthy, Weak, Bad}
use Rattle.line_device.proofs.HistoryLemmas.{latest-cons, word_write_back-refl}
use Rattle.line_device.proofs.WriteBackLemmas.{write_back-refl, on_line-in, on_line-out}
use Rattle.line_device.proofs.WordLemmas.{word_from-cong, word_at-cong, word_at-put_in, word_at-put_out, word_at-put_past, word_at-put_line}

-- one value or two
first_and_last-cases : (P : List ℕ → Type 0) (x y : ℕ) → (x ≡ y → P (y ∷ [])) → P (x ∷ y ∷ []) → P (first_and_last x y)
first_and_last-cases P x y one two = elim (cases_eq x y) as (λ _. P (first_and_last x y)) [
  | inl is ↦ subst (λ b. P (if b then y ∷ [] else x ∷ y ∷ [])) (sym (eq-eqb x y is)) (one is)
  | inr other ↦ subst (λ b. P (if b then y ∷ [] else x ∷ y ∷ [])) (sym (ne_eqb x y other)) two
]

pub newest-first_and_last : (x y : ℕ) → newest (first_and_last x y) ≡ y
newest-first_and_last x y = first_and_last-cases (λ l. newest l ≡ y) x y (λ _. refl) refl

latest-first_and_last : (x y : ℕ) → latest (first_and_last x y) ≡ y ∷ []
latest-first_and_last x y = first_and_last-cases (λ l. latest l ≡ y ∷ []) x y (λ _. refl) refl

first-first_and_last : (x y : ℕ) → take 1 (first_and_last x y) ≡ x ∷ []
first-first_and_last x y = first_and_last-cases (λ l. take 1 l ≡ x ∷ []) x y (λ is. ap (λ v. v ∷ []) (sym is)) refl

one_value : (x : ℕ) → first_and_last x x ≡ x ∷ []
one_value x = ap (λ b. if b then x ∷ [] else x ∷ x ∷ []) (eq-eqb x x refl)

ends-first_and_last : (x y : ℕ) → ends (first_and_last x y) ≡ first_and_last x y
ends-first_and_last x y = first_and_last-cases (λ l. ends l ≡ first_and_last x y) x y (λ is. ap (λ v. first_and_last v y) (sym is)) refl

ends-push : (x y v : ℕ) → ends (first_and_last x y ++ v ∷ []) ≡ first_and_last x v
ends-push x y v = first_and_last-cases (λ l. ends (l ++ v ∷ []) ≡ first_and_last x v) x y (λ is. ap (λ a. first_and_last a v) (sym is)) refl

-- lines are told apart by their parts
pub same_medium : (a b : Medium) → a.count ≡ b.count → ((n : ℕ) → a.is_bad n ≡ b.is_bad n) → ((n : ℕ) → a.is_weak n ≡ b.is_weak n) → ((p : ℕ) → a.history p ≡ b.history p) → a ≡ b
same_medium a b count bad weak history = λ i. record { count = count i; is_bad = λ n. bad n i; is_weak = λ n. weak n i; history = λ p. history p i }

pub slice_get-set_same : {X : Type 0} → (xs : List X) (i : ℕ) (x : X) → i < length xs → slice_get (set xs i x) i ≡ Some x
slice_get-set_same [] i x within = absurd (omega arith)
slice_get-set_same (y ∷ ys) zero x within = refl
slice_get-set_same (y ∷ ys) (suc i) x within = slice_get-set_same ys i x (omega arith)

pub slice_get-set_other : {X : Type 0} → (xs : List X) (i n : ℕ) (x : X) → (n ≡ i → ⊥) → slice_get (set xs i x) n ≡ slice_get xs n
slice_get-set_other [] i n x other = refl
slice_get-set_other (y ∷ ys) zero zero x other = absurd (other refl)
slice_get-set_other (y ∷ ys) zero (suc n) x other = refl
slice_get-set_other (y ∷ ys) (suc i) zero x other = refl
slice_get-set_other (y ∷ ys) (suc i) (suc n) x other = slice_get-set_other ys i n x (λ is. other (ap suc is))

-- what is read off a mark, after one was changed
mark_set : {A : Type 0} → (f : Option Mark → A) (marks : List Mark) (line : ℕ) (mark : Mark) (n : ℕ) → line < length marks → f (slice_get (set marks line mark) n) ≡ with_at (λ k. f (slice_get marks k)) line (f (Some mark)) n
mark_set f marks line mark n within = elim (cases_eq n line) as (λ _. f (slice_get (set marks line mark) n) ≡ with_at (λ k. f (slice_get marks k)) line (f (Some mark)) n) [
  | inl is ↦
      ap (λ k. f (slice_get (set marks line mark) k)) is
      ∙ ap f (slice_get-set_same marks line mark within)
      ∙ sym (ap (λ b. if b then f (Some mark) else f (slice_get marks n)) (eq-eqb n line is))
  | inr other ↦
      ap f (slice_get-set_other marks line n mark other)
      ∙ sym (ap (λ b. if b then f (Some mark) else f (slice_get marks n)) (ne_eqb n line other))
]

-- the words of a line with this mark
abbrev words : Option Mark → ℕ → ℕ → List ℕ
words mark x y = if has_words mark then first_and_last x y else []

ends-words : (mark : Option Mark) (x y : ℕ) → ends (words mark x y) ≡ words mark x y
ends-words mark x y = elim (has_words mark) as (λ b. ends (if b then first_and_last x y else []) ≡ (if b then first_and_last x y else [])) [ true ↦ ends-first_and_last x y | false ↦ refl ]

-- a line is made anew
pub memory-renewed : (count line : ℕ) (marks : List Mark) (mark : Mark) (durable last durable' last' : List ℕ) (values : ℕ → List ℕ) → line < length marks → ((p : ℕ) → (p / 8 ≡ line → ⊥) → word_at durable' p ≡ word_at durable p) → ((p : ℕ) → (p / 8 ≡ line → ⊥) → word_at last' p ≡ word_at last p) → ((p : ℕ) → p / 8 ≡ line → words (Some mark) (word_at durable' p) (word_at last' p) ≡ values (p % 8)) → memory count (set marks line mark) durable' last' ≡ renewed (memory count marks durable last) line (is_bad_mark (Some mark)) (is_weak_mark (Some mark)) values
memory-renewed count line marks mark durable last durable' last' values within durable_out last_out on =
    let old = memory count marks durable last in
    let new = memory count (set marks line mark) durable' last' in
    same_medium new (renewed old line (is_bad_mark (Some mark)) (is_weak_mark (Some mark)) values)
    refl
    (λ n. mark_set is_bad_mark marks line mark n within)
    (λ n. mark_set is_weak_mark marks line mark n within)
    (λ p. elim (cases_eq (p / 8) line) as (λ _. new.history p ≡ on_line line (λ w _. values w) old.history p) [
      | inl is ↦
          ap (λ n. words (slice_get (set marks line mark) n) (word_at durable' p) (word_at last' p)) is
          ∙ ap (λ m. words m (word_at durable' p) (word_at last' p)) (slice_get-set_same marks line mark within)
          ∙ on p is
          ∙ sym (on_line-in line (λ w _. values w) old.history p is)
      | inr other ↦
          ap (λ m. words m (word_at durable' p) (word_at last' p)) (slice_get-set_other marks line (p / 8) mark other)
          ∙ ap (λ x. words (slice_get marks (p / 8)) x (word_at last' p)) (durable_out p other)
          ∙ ap (λ y. words (slice_get marks (p / 8)) (word_at durable p) y) (last_out p other)
          ∙ sym (on_line-out line (λ w _. values w) old.history p other)
    ])

-- bytes are put over a line's last ones
pub memory-stored : (count line at : ℕ) (marks : List Mark) (bytes durable last last' : List ℕ) → ((k : ℕ) → get_or last k 0 < 256) → at + length bytes ≤ 64 → IsPut (64 * line + at) bytes last last' → has_words (slice_get marks line) ≡ true → memory count marks durable last' ≡ ends_of (stored (memory count marks durable last) line at bytes)
memory-stored count line at marks bytes durable last last' small fits put has =
    let old = memory count marks durable last in
    let new = memory count marks durable last' in
    let change = word_stored at bytes in
    same_medium new (ends_of (stored old line at bytes)) refl (λ n. refl) (λ n. refl)
    (λ p. elim (cases_eq (p / 8) line) as (λ _. new.history p ≡ ends (on_line line change old.history p)) [
      | inl is ↦
          let here : has_words (slice_get marks (p / 8)) ≡ true = ap (λ n. has_words (slice_get marks n)) is ∙ has in
          let x = word_at durable p in
          let y = word_at last p in
          let was : old.history p ≡ first_and_last x y = ap (λ b. if b then first_and_last x y else []) here in
          ap (λ b. if b then first_and_last x (word_at last' p) else []) here
          ∙ changed p is (reaches at (length bytes) (p % 8)) refl
          ∙ sym (ap (λ h. ends (change (p % 8) h)) was)
          ∙ sym (ap ends (on_line-in line change old.history p is))
      | inr other ↦
          ap (λ y. words (slice_get marks (p / 8)) (word_at durable p) y) (word_at-put_out line at p bytes last last' fits put other)
          ∙ sym (ends-words (slice_get marks (p / 8)) (word_at durable p) (word_at last p))
          ∙ sym (ap ends (on_line-out line change old.history p other))
    ])
  where
    changed : (p : ℕ) → p / 8 ≡ line → (b : Bool) → reaches at (length bytes) (p % 8) ≡ b → first_and_last (word_at durable p) (word_at last' p) ≡ ends (word_stored at bytes (p % 8) (first_and_last (word_at durable p) (word_at last p)))
    changed p is true reached =
        let x = word_at durable p in
        let y = word_at last p in
        let h = first_and_last x y in
        ap (first_and_last x) (word_at-put_in line at p bytes last last' small put is ∙ ap (word_over at bytes (p % 8)) (sym (newest-first_and_last x y)))
        ∙ sym (ends-push x y (word_over at bytes (p % 8) (newest h)))
        ∙ sym (ap (λ b. ends (if b then h ++ word_over at bytes (p % 8) (newest h) ∷ [] else h)) reached)
    changed p is false reached =
        let x = word_at durable p in
        let y = word_at last p in
        let h = first_and_last x y in
        ap (first_and_last x) (word_at-put_past line at p bytes last last' put is reached)
        ∙ sym (ends-first_and_last x y)
        ∙ sym (ap (λ b. ends (if b then h ++ word_over at bytes (p % 8) (newest h) ∷ [] else h)) reached)

words-last : (mark : Option Mark) (x y : ℕ) → words mark y y ≡ latest (words mark x y)
words-last mark x y = elim (has_words mark) as (λ b. (if b then first_and_last y y else []) ≡ latest (if b then first_and_last x y else [])) [ true ↦ one_value y ∙ sym (latest-first_and_last x y) | false ↦ refl ]

-- a line's last bytes become the durable ones
pub memory-flushed : (count line : ℕ) (marks : List Mark) (bytes durable durable' last : List ℕ) → length bytes ≡ 64 → ((k : ℕ) → k < 64 → get_or bytes k 0 ≡ get_or last (64 * line + k) 0) → IsPut (64 * line) bytes durable durable' → memory count marks durable' last ≡ flushed (memory count marks durable last) line
memory-flushed count line marks bytes durable durable' last whole piece put =
    let old = memory count marks durable last in
    let new = memory count marks durable' last in
    same_medium new (flushed old line) refl (λ n. refl) (λ n. refl)
    (λ p. elim (cases_eq (p / 8) line) as (λ _. new.history p ≡ on_line line (λ _ h. latest h) old.history p) [
      | inl is ↦
          let last_bytes : word_at bytes (p % 8) ≡ word_at last p =
          word_at-cong bytes last (p % 8) p
          (λ k h. piece (8 * (p % 8) + k) (omega arith) ∙ ap (λ i. get_or last i 0) (place p k is)) in
          ap (λ x. words (slice_get marks (p / 8)) x (word_at last p)) (word_at-put_line line p bytes durable durable' whole put is ∙ last_bytes)
          ∙ words-last (slice_get marks (p / 8)) (word_at durable p) (word_at last p)
          ∙ sym (on_line-in line (λ _ h. latest h) old.history p is)
      | inr other ↦
          ap (λ x. words (slice_get marks (p / 8)) x (word_at last p))
          (word_at-put_out line 0 p bytes durable durable' (omega arith) (λ k. put k ∙ ap (λ a. byte_over a bytes k (get_or durable k 0)) (sym (add-zero (64 * line)))) other)
          ∙ sym (on_line-out line (λ _ h. latest h) old.history p other)
    ])
  where
    place : (p k : ℕ) → p / 8 ≡ line → 64 * line + (8 * (p % 8) + k) ≡ 8 * p + k
    place p k is = omega arith

-- the line's last bytes
pub is_line-memory : (count line : ℕ) (marks : List Mark) (durable last bytes : List ℕ) → length bytes ≡ 64 → ((k : ℕ) → k < 64 → get_or bytes k 0 ≡ get_or last (64 * line + k) 0) → has_words (slice_get marks line) ≡ true → IsLine (memory count marks durable last) line bytes
is_line-memory count line marks durable last bytes whole piece has = record {
  length = whole;
  words = λ w below.
      let place : (8 * line + w) / 8 ≡ line = omega arith in
      let here : has_words (slice_get marks ((8 * line + w) / 8)) ≡ true = ap (λ n. has_words (slice_get marks n)) place ∙ has in
      let x = word_at durable (8 * line + w) in
      let y = word_at last (8 * line + w) in
      ap (λ b. newest (if b then first_and_last x y else [])) here
      ∙ newest-first_and_last x y
      ∙ word_at-cong last bytes (8 * line + w) w (λ k h. ap (λ i. get_or last i 0) (spot w k) ∙ sym (piece (8 * w + k) (omega arith)));
}
  where
    spot : (w k : ℕ) → 8 * (8 * line + w) + k ≡ 64 * line + (8 * w + k)
    spot w k = omega arith

-- a line that is there and not bad has words
pub has_words-good : (marks : List Mark) (line : ℕ) → line < length marks → is_bad_mark (slice_get marks line) ≡ false → has_words (slice_get marks line) ≡ true
has_words-good [] line within good = absurd (omega arith)
has_words-good (Healthy ∷ marks) zero within good = refl
has_words-good (Weak ∷ marks) zero within good = refl
has_words-good (Bad ∷ marks) zero within good = cc
has_words-good (mark ∷ marks) (suc line) within good = has_words-good marks line (omega arith) good

slice_get-replicate : (n i : ℕ) → slice_get (replicate n Healthy) i ≡ (if nat_lt i n then Some Healthy else None)
slice_get-replicate n i = elim (cases_lt i n) as (λ _. slice_get (replicate n Healthy) i ≡ (if nat_lt i n then Some Healthy else None)) [
  | inl within ↦
      slice_get-get_or (replicate n Healthy) i Healthy (omega (arith, length-replicate n Healthy))
      ∙ ap Some (get_or-replicate n i Healthy Healthy within)
      ∙ sym (ap (λ b. if b then Some Healthy else None) (lt-ltb i n within))
  | inr past ↦
      slice_get_past (replicate n Healthy) i (omega (arith, length-replicate n Healthy))
      ∙ sym (ap (λ b. if b then Some Healthy else None) (le-ltb i n past))
]

get_or-zeros : (n i : ℕ) → ◌≡◌ {A = ℕ} (get_or (replicate n 0) i 0) 0
get_or-zeros n i = elim (cases_lt i n) as (λ _. ◌≡◌ {A = ℕ} (get_or (replicate n 0) i 0) 0) [ inl within ↦ get_or-replicate n i 0 0 within | inr past ↦ get_or_past (replicate n 0) i 0 (omega (arith, length-replicate {A = ℕ} n 0)) ]

pub word_at-zeros : (n p : ℕ) → word_at (replicate n 0) p ≡ 0
unfolding word_from
word_at-zeros n p = word_from-cong (λ k. get_or (replicate n 0) (8 * p + k) 0) (λ _. 0) (λ k _. get_or-zeros n (8 * p + k))

pub memory-zeros : (count n m : ℕ) → memory count (replicate count Healthy) (replicate n 0) (replicate m 0) ≡ zeros count
memory-zeros count n m =
    same_medium (memory count (replicate count Healthy) (replicate n 0) (replicate m 0)) (zeros count) refl
    (λ k. ap is_bad_mark (slice_get-replicate count k) ∙ none_bad (nat_lt k count))
    (λ k. ap is_weak_mark (slice_get-replicate count k) ∙ none_weak (nat_lt k count))
    (λ p.
    ap (λ mark. words mark (word_at (replicate n 0) p) (word_at (replicate m 0) p)) (slice_get-replicate count (p / 8))
    ∙ ap (λ x. words (if nat_lt (p / 8) count then Some Healthy else None) x (word_at (replicate m 0) p)) (word_at-zeros n p)
    ∙ ap (λ y. words (if nat_lt (p / 8) count then Some Healthy else None) 0 y) (word_at-zeros m p)
    ∙ all_zero (nat_lt (p / 8) count))
  where
    none_bad : (b : Bool) → is_bad_mark (if b then Some Healthy else None) ≡ false
    none_bad true = refl
    none_bad false = refl

    none_weak : (b : Bool) → is_weak_mark (if b then Some Healthy else None) ≡ false
    none_weak true = refl
    none_weak false = refl

    all_zero : (b : Bool) → words (if b then Some Healthy else None) 0 0 ≡ (if b then 0 ∷ [] else [])
    all_zero true = refl
    all_zero false = refl

-- a line is made anew of bytes
pub memory-renewed_good : (count line : ℕ) (weak : Bool) (marks : List Mark) (bytes durable last durable' last' : List ℕ) → line < length marks → length bytes ≡ 64 → IsPut (64 * line) bytes durable durable' → IsPut (64 * line) bytes last last' → memory count (set marks line (good_mark weak)) durable' last' ≡ renewed (memory count marks durable last) line false weak (λ w. word_at bytes w ∷ [])
memory-renewed_good count line weak marks bytes durable last durable' last' within whole put_durable put_last =
    elim weak as (λ b. memory count (set marks line (good_mark b)) durable' last' ≡ renewed (memory count marks durable last) line false b (λ w. word_at bytes w ∷ [])) [
      | true ↦ memory-renewed count line marks Weak durable last durable' last' (λ w. word_at bytes w ∷ []) within (out durable durable' put_durable) (out last last' put_last) on
      | false ↦ memory-renewed count line marks Healthy durable last durable' last' (λ w. word_at bytes w ∷ []) within (out durable durable' put_durable) (out last last' put_last) on
    ]
  where
    out : (old new : List ℕ) → IsPut (64 * line) bytes old new → (p : ℕ) → (p / 8 ≡ line → ⊥) → word_at new p ≡ word_at old p
    out old new put p other =
        word_at-put_out line 0 p bytes old new (omega arith) (λ k. put k ∙ ap (λ a. byte_over a bytes k (get_or old k 0)) (sym (add-zero (64 * line)))) other

    on : (p : ℕ) → p / 8 ≡ line → first_and_last (word_at durable' p) (word_at last' p) ≡ word_at bytes (p % 8) ∷ []
    on p is =
        ap (λ x. first_and_last x (word_at last' p)) (word_at-put_line line p bytes durable durable' whole put_durable is)
        ∙ ap (first_and_last (word_at bytes (p % 8))) (word_at-put_line line p bytes last last' whole put_last is)
        ∙ one_value (word_at bytes (p % 8))

-- the bytes of a line within those of all lines, as a slice of them has them
pub length-line : (line lines : ℕ) (seen : List ℕ) → length seen ≡ 64 * lines → line < lines → length (take (64 * line + 64 - 64 * line) (drop (64 * line) seen)) ≡ 64
length-line line lines seen long within = omega (arith, length-take (64 * line + 64 - 64 * line) (drop (64 * line) seen), length-drop (64 * line) seen)

pub get_or-line : (line : ℕ) (seen all : List ℕ) → seen ≡ all → (k : ℕ) → k < 64 → get_or (take (64 * line + 64 - 64 * line) (drop (64 * line) seen)) k 0 ≡ get_or all (64 * line + k) 0
get_or-line line seen all is k below =
    get_or-take (64 * line + 64 - 64 * line) (drop (64 * line) seen) k 0 (omega arith) ∙ get_or-drop (64 * line) seen k 0 ∙ ap (λ l. get_or l (64 * line + k) 0) is

part_newest : (x : ℕ) (xs : List ℕ) → IsPart (newest (x ∷ xs) ∷ []) (x ∷ xs)
part_newest x [] = inl (refl, tt)
part_newest x (y ∷ ys) = inr (part_newest y ys)

word_write_back-ends : (weak : Bool) (h : List ℕ) → WordWritesBack weak h (ends h)
word_write_back-ends weak [] = record { part = tt; last = refl; first = λ _. refl }
word_write_back-ends weak (x ∷ []) = subst (WordWritesBack weak (x ∷ [])) (sym (one_value x)) (word_write_back-refl weak (x ∷ []))
word_write_back-ends weak (x ∷ y ∷ ys) = record {
  part = first_and_last-cases (λ l. IsPart l (x ∷ y ∷ ys)) x (newest (y ∷ ys)) (λ _. inr (part_newest y ys)) (inl (refl, part_newest y ys));
  last = latest-first_and_last x (newest (y ∷ ys)) ∙ sym (latest-cons y ys);
  first = λ _. first-first_and_last x (newest (y ∷ ys));
}

pub write_back-ends_of : (m : Medium) → WritesBack m (ends_of m)
write_back-ends_of m = record { count = refl; bad = λ n. refl; weak = λ n. refl; word_write_back = λ p. word_write_back-ends (m.is_weak (p / 8)) (m.history p) }

pub write_back_from-ends_of : (a b : Medium) → b ≡ ends_of a → WritesBack a b
write_back_from-ends_of a b is = subst (WritesBack a) (sym is) (write_back-ends_of a)

pub weakens_from-weakened : (a b : Medium) (line : ℕ) → b ≡ weakened a line → Weakens line a b
weakens_from-weakened a b line is = subst (Weakens line a) (sym is) (record { marks = λ n. refl; write_back = write_back-refl a })
