-- Each line of the device is shown once, so what is done to a shown line is done to the line behind it.
use Rattle.std.proofs.Common.{◌≡◌, ◌+◌, ◌-◌, ◌*◌, ◌/◌, ◌%◌, ◌<◌, ◌≤◌, ◌^◌, ◌&&◌, ℕ, Bool, true, false, not, List, [], ◌∷◌, Option, Some, None, Result, Ok, Err, MatchResult, if◌then◌else◌, refl, sym, ap, ◌∙◌, subst, inl, inr, arith}
use Rattle.std.specs.Option.{option_map}
use Rattle.std.proofs.lemmas.Bool.{cases_lt, cases_eq, lt-ltb, le-ltb, eq-eqb, ne_eqb}
use Rattle.std.proofs.lemmas.Option.{same_Some, none-some}
use Rattle.nvm_base.specs.declared.units.Span.{Span}
use Rattle.line_device.specs.History.{latest, WordWritesBack}
use Rattle.line_device.specs.Medium.{Medium, IsSound, WritesBack, Weakens, with_at, on_line, word_stored, stored, renewed, poisoned, flushed, persisted, cleared}
use Rattle.line_device.specs.Device.{IsPoison}
use Rattle.line_device.specs.declared.fault.DeviceFault.{DeviceFault}
use Rattle.line_device.proofs.HistoryLemmas.{word_write_back-refl}
use Rattle.line_device.proofs.WriteBackLemmas.{on_line-in, on_line-out}
use Rattle.range_sets.specs.Lines.{fits}
use Rattle.range_sets.specs.Ranges.{total_of, address_of, offset_of, IsRangeSet}
use Rattle.range_sets.proofs.PlaceLemmas.{place-offset_of, offset_of-place}
use Rattle.range_sets.proofs.LineLemmas.{total_of-lines, line_within, line_past, line_behind, line_ahead}
use Rattle.volume_view.specs.Shown.{AreLent, shown, shown_count, line_shown, shown_as, shown_by, beside, mark_of, history_of}
use Rattle.volume_view.specs.ShownSound.{IsBehind, line_of_word, shown_count-lent, shown-lent, line_shown-some, shown_sound}

among : List Span → ℕ → Option ℕ
among ranges n = option_map (λ address. address / 64) (address_of ranges (64 * n))

past : List Span → ℕ → Option ℕ
past ranges n = beside (n - total_of ranges / 64) (offset_of ranges (64 * (n - total_of ranges / 64)))

line_shown-within : (ranges : List Span) (n : ℕ) → 64 * n < total_of ranges → line_shown ranges n ≡ among ranges n
unfolding line_shown among
line_shown-within ranges n within = ap (λ b. if b then option_map (λ address. address / 64) (address_of ranges (64 * n)) else (let line = n - total_of ranges / 64 in beside line (offset_of ranges (64 * line)))) (lt-ltb (64 * n) (total_of ranges) within)

line_shown-past : (ranges : List Span) (n : ℕ) → total_of ranges ≤ 64 * n → line_shown ranges n ≡ past ranges n
unfolding line_shown past
line_shown-past ranges n over = ap (λ b. if b then option_map (λ address. address / 64) (address_of ranges (64 * n)) else (let line = n - total_of ranges / 64 in beside line (offset_of ranges (64 * line)))) (le-ltb (64 * n) (total_of ranges) over)

among-at : (ranges : List Span) (n address : ℕ) → address_of ranges (64 * n) ≡ Some address → among ranges n ≡ Some (address / 64)
unfolding among
among-at ranges n address found = ap (option_map (λ address. address / 64)) found

-- the line that is shown as n is shown as n alone
beside-some : (line k : ℕ) (o : Option ℕ) → beside line o ≡ Some k → (o ≡ None) × (line ≡ k)
beside-some line k None is = (refl, same_Some _ _ is)
beside-some line k (Some offset) is = absurd (none-some k is)

among-as : (ranges : List Span) (count n line : ℕ) → AreLent ranges count → 64 * n < total_of ranges → among ranges n ≡ Some line → shown_as ranges line ≡ n
unfolding shown_as among
among-as ranges count n line lent within is =
    let whole = total_of-lines ranges count lent.fit in
    let few : n < total_of ranges / 64 = omega (arith, whole) in
    let found = line_behind ranges count n lent.fit few in
    let is_line : found.0 / 64 ≡ line = same_Some _ _ (sym (ap (option_map (λ address. address / 64)) found.1) ∙ is) in
    let begins : found.0 ≡ 64 * line = sym found.3 ∙ ap (λ k. 64 * k) is_line in
    let back = offset_of-place ranges (64 * n) found.0 lent.disjoint found.1 in
    let at : offset_of ranges (64 * line) ≡ Some (64 * n) = ap (offset_of ranges) (sym begins) ∙ back in
    ap (shown_by (total_of ranges) line) at ∙ omega arith

past-as : (ranges : List Span) (count n line : ℕ) → AreLent ranges count → total_of ranges ≤ 64 * n → past ranges n ≡ Some line → shown_as ranges line ≡ n
unfolding shown_as past
past-as ranges count n line lent over is =
    let k : ℕ = n - total_of ranges / 64 in
    let parts = beside-some k line (offset_of ranges (64 * k)) is in
    let none : offset_of ranges (64 * line) ≡ None = ap (λ l. offset_of ranges (64 * l)) (sym parts.1) ∙ parts.0 in
    ap (shown_by (total_of ranges) line) none ∙ ap (λ l. total_of ranges / 64 + l) (sym parts.1) ∙ sym (line_past ranges count n lent.fit over)

pub shown_as-is : (ranges : List Span) (count n line : ℕ) → AreLent ranges count → line_shown ranges n ≡ Some line → shown_as ranges line ≡ n
shown_as-is ranges count n line lent is =
    elim (cases_lt (64 * n) (total_of ranges)) as (λ _. shown_as ranges line ≡ n) [
      | inl within ↦ among-as ranges count n line lent within (sym (line_shown-within ranges n within) ∙ is)
      | inr over ↦ past-as ranges count n line lent over (sym (line_shown-past ranges n over) ∙ is)
    ]

-- and each line is shown
ahead-is : (ranges : List Span) (count line : ℕ) (o : Option ℕ) → AreLent ranges count → offset_of ranges (64 * line) ≡ o → line_shown ranges (shown_by (total_of ranges) line o) ≡ Some line
unfolding among past
ahead-is ranges count line None lent none =
    let n : ℕ = total_of ranges / 64 + line in
    let same : n - total_of ranges / 64 ≡ line = omega arith in
    let whole = total_of-lines ranges count lent.fit in
    line_shown-past ranges n (omega (arith, whole)) ∙ ap (λ l. beside l (offset_of ranges (64 * l))) same ∙ ap (beside line) none
ahead-is ranges count line (Some offset) lent found =
    let lines = line_ahead ranges count line offset lent.fit found in
    let n : ℕ = offset / 64 in
    let at = place-offset_of ranges (64 * line) offset found in
    line_shown-within ranges n lines.1
    ∙ ap (λ k. option_map (λ address. address / 64) (address_of ranges k)) lines.0
    ∙ ap (option_map (λ address. address / 64)) at
    ∙ ap (λ (k : ℕ). Some k) (omega arith)

pub shown_as-shown : (ranges : List Span) (count line : ℕ) → AreLent ranges count → line_shown ranges (shown_as ranges line) ≡ Some line
unfolding shown_as
shown_as-shown ranges count line lent = ahead-is ranges count line (offset_of ranges (64 * line)) lent refl

-- a mark that is changed at a line, and the words of a line
with_at-in : (f : ℕ → Bool) (n : ℕ) (v : Bool) → with_at f n v n ≡ v
with_at-in f n v = ap (λ b. if b then v else f n) (eq-eqb n n refl)

with_at-out : (f : ℕ → Bool) (n : ℕ) (v : Bool) (k : ℕ) → (k ≡ n → ⊥) → with_at f n v k ≡ f k
with_at-out f n v k other = ap (λ b. if b then v else f k) (ne_eqb k n other)

mark-out : (f : ℕ → Bool) (line : ℕ) (v : Bool) (o : Option ℕ) → (o ≡ Some line → ⊥) → mark_of (with_at f line v) o ≡ mark_of f o
mark-out f line v None other = refl
mark-out f line v (Some k) other = with_at-out f line v k (λ is. other (ap (λ (j : ℕ). Some j) is))

shown-with_at : (ranges : List Span) (count n line : ℕ) (f : ℕ → Bool) (v : Bool) (k : ℕ) → AreLent ranges count → line_shown ranges n ≡ Some line → mark_of (with_at f line v) (line_shown ranges k) ≡ with_at (λ j. mark_of f (line_shown ranges j)) n v k
shown-with_at ranges count n line f v k lent is =
    let marks : ℕ → Bool = λ j. mark_of f (line_shown ranges j) in
    elim (cases_eq k n) as (λ _. mark_of (with_at f line v) (line_shown ranges k) ≡ with_at marks n v k) [
      | inl same ↦
          ap (mark_of (with_at f line v)) (ap (line_shown ranges) same ∙ is) ∙ with_at-in f line v
          ∙ sym (ap (with_at marks n v) same ∙ with_at-in marks n v)
      | inr other ↦
          mark-out f line v (line_shown ranges k) (λ at. other (sym (shown_as-is ranges count k line lent at) ∙ shown_as-is ranges count n line lent is))
          ∙ sym (with_at-out marks n v k other)
    ]

history-out : (line : ℕ) (change : ℕ → List ℕ → List ℕ) (history : ℕ → List ℕ) (p : ℕ) (o : Option ℕ) → (o ≡ Some line → ⊥) → history_of (on_line line change history) (p % 8) o ≡ history_of history (p % 8) o
history-out line change history p None other = refl
history-out line change history p (Some k) other =
    on_line-out line change history (8 * k + p % 8) (λ is. other (ap (λ (j : ℕ). Some j) (sym (line_of_word k p) ∙ is)))

shown-on_line : (ranges : List Span) (count n line : ℕ) (change : ℕ → List ℕ → List ℕ) (history : ℕ → List ℕ) (p : ℕ) → AreLent ranges count → line_shown ranges n ≡ Some line → history_of (on_line line change history) (p % 8) (line_shown ranges (p / 8)) ≡ on_line n change (λ q. history_of history (q % 8) (line_shown ranges (q / 8))) p
shown-on_line ranges count n line change history p lent is =
    let words : ℕ → List ℕ = λ q. history_of history (q % 8) (line_shown ranges (q / 8)) in
    elim (cases_eq (p / 8) n) as (λ _. history_of (on_line line change history) (p % 8) (line_shown ranges (p / 8)) ≡ on_line n change words p) [
      | inl same ↦
          let at : line_shown ranges (p / 8) ≡ Some line = ap (line_shown ranges) same ∙ is in
          let q : ℕ = 8 * line + p % 8 in
          let word : q % 8 ≡ p % 8 = omega arith in
          ap (history_of (on_line line change history) (p % 8)) at
          ∙ on_line-in line change history q (line_of_word line p)
          ∙ ap (λ w. change w (history q)) word
          ∙ sym (on_line-in n change words p same ∙ ap (λ o. change (p % 8) (history_of history (p % 8) o)) at)
      | inr other ↦
          history-out line change history p (line_shown ranges (p / 8)) (λ at. other (sym (shown_as-is ranges count (p / 8) line lent at) ∙ shown_as-is ranges count n line lent is))
          ∙ sym (on_line-out n change words p other)
    ]

-- what is done to the line behind is done to the line that is shown
shown-changed : (ranges : List Span) (m : Medium) (n line : ℕ) (change : ℕ → List ℕ → List ℕ) → AreLent ranges m.count → line_shown ranges n ≡ Some line → shown ranges (record m { history = on_line line change m.history }) ≡ record (shown ranges m) { history = on_line n change (shown ranges m).history }
shown-changed ranges m n line change lent is =
    ap (λ (h : ℕ → List ℕ). record (shown ranges m) { history = h }) (λ i p. shown-on_line ranges m.count n line change m.history p lent is i)

shown-renewed : (ranges : List Span) (m : Medium) (n line : ℕ) (bad weak : Bool) (words : ℕ → List ℕ) → AreLent ranges m.count → line_shown ranges n ≡ Some line → shown ranges (renewed m line bad weak words) ≡ renewed (shown ranges m) n bad weak words
shown-renewed ranges m n line bad weak words lent is = λ i. record {
  count = shown_count ranges m.count;
  is_bad = λ k. shown-with_at ranges m.count n line m.is_bad bad k lent is i;
  is_weak = λ k. shown-with_at ranges m.count n line m.is_weak weak k lent is i;
  history = λ p. shown-on_line ranges m.count n line (λ w _. words w) m.history p lent is i;
}

mark-write_back : (old new : ℕ → Bool) (o : Option ℕ) → ((n : ℕ) → new n ≡ old n) → mark_of new o ≡ mark_of old o
mark-write_back old new None same = refl
mark-write_back old new (Some line) same = same line

history-write_back : (old new : Medium) (p : ℕ) (o : Option ℕ) → WritesBack old new → WordWritesBack (mark_of old.is_weak o) (history_of old.history (p % 8) o) (history_of new.history (p % 8) o)
history-write_back old new p None x = word_write_back-refl false []
history-write_back old new p (Some line) x =
    subst (λ n. WordWritesBack (old.is_weak n) (old.history (8 * line + p % 8)) (new.history (8 * line + p % 8))) (line_of_word line p) (x.word_write_back (8 * line + p % 8))

-- a device that is written back is shown as one
pub shown-write_back : (ranges : List Span) (old new : Medium) → WritesBack old new → WritesBack (shown ranges old) (shown ranges new)
shown-write_back ranges old new x = record {
  count = ap (shown_count ranges) x.count;
  bad = λ n. mark-write_back old.is_bad new.is_bad (line_shown ranges n) x.bad;
  weak = λ n. mark-write_back old.is_weak new.is_weak (line_shown ranges n) x.weak;
  word_write_back = λ p. history-write_back old new p (line_shown ranges (p / 8)) x;
}

effect-shown : (ranges : List Span) (a b new : Medium) → shown ranges a ≡ b → WritesBack a new → WritesBack b (shown ranges new)
effect-shown ranges a b new same x = subst (λ m. WritesBack m (shown ranges new)) same (shown-write_back ranges a new x)

-- the calls, each through the line behind
pub stored_shown : (ranges : List Span) (m new : Medium) (n line at : ℕ) (bytes : List ℕ) → n < shown_count ranges m.count → line_shown ranges n ≡ Some line → WritesBack (stored m line at bytes) new → WritesBack (stored (shown ranges m) n at bytes) (shown ranges new)
stored_shown ranges m new n line at bytes within is x =
    effect-shown ranges (stored m line at bytes) (stored (shown ranges m) n at bytes) new (shown-changed ranges m n line (word_stored at bytes) (shown-lent ranges m.count n within) is) x

pub poisoned_shown : (ranges : List Span) (m new : Medium) (n line : ℕ) → n < shown_count ranges m.count → line_shown ranges n ≡ Some line → WritesBack (poisoned m line) new → WritesBack (poisoned (shown ranges m) n) (shown ranges new)
poisoned_shown ranges m new n line within is x =
    effect-shown ranges (poisoned m line) (poisoned (shown ranges m) n) new (shown-renewed ranges m n line true false (λ _. []) (shown-lent ranges m.count n within) is) x

pub cleared_shown : (ranges : List Span) (m new : Medium) (n line : ℕ) → n < shown_count ranges m.count → line_shown ranges n ≡ Some line → WritesBack (cleared m line) new → WritesBack (cleared (shown ranges m) n) (shown ranges new)
cleared_shown ranges m new n line within is x =
    effect-shown ranges (cleared m line) (cleared (shown ranges m) n) new (shown-renewed ranges m n line false false (λ _. 0 ∷ []) (shown-lent ranges m.count n within) is) x

shown-persisted : (ranges : List Span) (m : Medium) (n line : ℕ) → AreLent ranges m.count → line_shown ranges n ≡ Some line → shown ranges (persisted m line) ≡ persisted (shown ranges m) n
shown-persisted ranges m n line lent is =
    let weak : (shown ranges m).is_weak n ≡ m.is_weak line = ap (mark_of m.is_weak) is in
    subst (λ w. shown ranges (persisted m line) ≡ (if w then poisoned (shown ranges m) n else flushed (shown ranges m) n)) (sym weak)
    (elim (m.is_weak line) as (λ w. shown ranges (if w then poisoned m line else flushed m line) ≡ (if w then poisoned (shown ranges m) n else flushed (shown ranges m) n)) [
      | true ↦ shown-renewed ranges m n line true false (λ _. []) lent is
      | false ↦ shown-changed ranges m n line (λ _ old. latest old) lent is
    ])

pub persisted_shown : (ranges : List Span) (m new : Medium) (n line : ℕ) → n < shown_count ranges m.count → line_shown ranges n ≡ Some line → WritesBack (persisted m line) new → WritesBack (persisted (shown ranges m) n) (shown ranges new)
persisted_shown ranges m new n line within is x =
    effect-shown ranges (persisted m line) (persisted (shown ranges m) n) new (shown-persisted ranges m n line (shown-lent ranges m.count n within) is) x

pub weakens_shown : (ranges : List Span) (old new : Medium) (n line : ℕ) → n < shown_count ranges old.count → line_shown ranges n ≡ Some line → Weakens line old new → Weakens n (shown ranges old) (shown ranges new)
weakens_shown ranges old new n line within is x =
    let v : Bool = not (old.is_bad line) in
    record {
      marks = λ k.
          mark-write_back (with_at old.is_weak line v) new.is_weak (line_shown ranges k) x.marks
          ∙ shown-with_at ranges old.count n line old.is_weak v k (shown-lent ranges old.count n within) is
          ∙ ap (λ o. with_at (shown ranges old).is_weak n (not (mark_of old.is_bad o)) k) (sym is);
      write_back = shown-write_back ranges old (record new { is_weak = old.is_weak }) x.write_back;
    }

-- marks of a line that is shown
pub bad_shown : (ranges : List Span) (m : Medium) (n line : ℕ) → line_shown ranges n ≡ Some line → (shown ranges m).is_bad n ≡ m.is_bad line
bad_shown ranges m n line is = ap (mark_of m.is_bad) is

pub weak_shown : (ranges : List Span) (m : Medium) (n line : ℕ) → line_shown ranges n ≡ Some line → (shown ranges m).is_weak n ≡ m.is_weak line
weak_shown ranges m n line is = ap (mark_of m.is_weak) is

-- the line behind a line that is shown, by the address of its first byte
pub behind-is : (ranges : List Span) (count n address : ℕ) → n < shown_count ranges count → Some address ≡ address_of ranges (64 * n) → IsBehind ranges count n (address / 64)
behind-is ranges count n address within found =
    let behind = line_shown-some ranges count n within in
    let few = subst (λ k. n < k) (shown_count-lent ranges count (shown-lent ranges count n within)) within in
    let at = line_shown-within ranges n (line_within ranges n few) in
    let is : behind.0 ≡ address / 64 = same_Some _ _ (sym behind.1.shown ∙ at ∙ among-at ranges n address (sym found)) in
    subst (IsBehind ranges count n) is behind.1

pub not_past : (ranges : List Span) (count n : ℕ) → n < shown_count ranges count → total_of ranges ≤ 64 * n → ⊥
not_past ranges count n within over =
    let few = subst (λ k. n < k) (shown_count-lent ranges count (shown-lent ranges count n within)) within in
    let here = line_within ranges n few in
    omega arith

-- the first byte of a line that is shown has a number
pub first_byte-fits : (ranges : List Span) (m : Medium) (n : ℕ) → IsSound m → n < shown_count ranges m.count → 64 * n < 2 ^ 64
first_byte-fits ranges m n sound within =
    let shown_sound = shown_sound ranges m sound in
    omega (arith, shown_sound.small)

-- how many lines are shown
pub shown_count_is : (ranges : List Span) (count : ℕ) → IsRangeSet ranges → fits ranges count ≡ true → total_of ranges / 64 ≡ shown_count ranges count
shown_count_is ranges count set fit = sym (shown_count-lent ranges count (record { disjoint = set.disjoint; fit = fit }))

pub shown_count_none : (ranges : List Span) (count : ℕ) → IsRangeSet ranges → fits ranges count ≡ false → 0 ≡ shown_count ranges count
unfolding shown_count
shown_count_none ranges count set not_lent =
    sym (ap (λ b. if b && fits ranges count then total_of ranges / 64 else 0) set.disjoint ∙ ap (λ b. if b then total_of ranges / 64 else 0) not_lent)

-- a fault of the line behind, named by the line that is shown
pub poison_shown : (ranges : List Span) (m : Medium) (n line : ℕ) (old new : DeviceFault) → line_shown ranges n ≡ Some line → IsPoison line (m.is_bad line) old → ((behind : ℕ) (bad : Bool) → IsPoison behind bad old → IsPoison n bad new) → IsPoison n (mark_of m.is_bad (line_shown ranges n)) new
poison_shown ranges m n line old new is poison renamed = subst (λ bad. IsPoison n bad new) (sym (bad_shown ranges m n line is)) (renamed line (m.is_bad line) poison)

pub weakening_shown : {A E : Type 0} (r : Result A E) (ranges : List Span) (old new : Medium) (n line : ℕ) → n < shown_count ranges old.count → line_shown ranges n ≡ Some line → MatchResult r (λ _. Weakens line old new) (λ _. WritesBack old new) → MatchResult r (λ _. Weakens n (shown ranges old) (shown ranges new)) (λ _. WritesBack (shown ranges old) (shown ranges new))
weakening_shown (Ok x) ranges old new n line within is lines = weakens_shown ranges old new n line within is lines
weakening_shown (Err e) ranges old new n line within is lines = shown-write_back ranges old new lines
