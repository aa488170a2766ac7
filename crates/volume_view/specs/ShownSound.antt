-- What is shown of sound lines is sound.
use Rattle.std.specs.Prelude.{◌≡◌, ◌+◌, ◌-◌, ◌*◌, ◌/◌, ◌%◌, ◌<◌, ◌≤◌, ◌&&◌, ◌^◌, ℕ, true, false, List, [], Option, Some, None, if◌then◌else◌, refl}
use Rattle.std.specs.Option.{option_map}
use Rattle.std.proofs.Math.Nat.{le_trans, mul_comm, mod-lt, not-suc-le-zero}
use Rattle.std.proofs.Common.{lit≤, lit<, sym, ◌∙◌, ap, subst, inl, inr}
use Rattle.std.proofs.lemmas.Nat.{div-mul-add}
use Rattle.std.proofs.lemmas.Bool.{false≢true, cases_Bool, and_parts, lt-ltb}
use Rattle.nvm_base.specs.declared.units.Span.{Span}
use Rattle.line_device.specs.History.{newest, IsIn}
use Rattle.line_device.specs.Medium.{Medium, IsSound}
use Rattle.range_sets.specs.Lines.{fits}
use Rattle.range_sets.specs.Ranges.{total_of, address_of, offset_of, is_disjoint}
use Rattle.range_sets.proofs.LineLemmas.{lines_in_all, line_within, line_behind}
use Rattle.volume_view.specs.Shown.{AreLent, shown, shown_count, line_shown, beside, mark_of, history_of}

-- a word of a line, and the line of it
pub line_of_word : (line p : ℕ) → (8 * line + p % 8) / 8 ≡ line
line_of_word line p = ap (λ n. (n + p % 8) / 8) (mul_comm 8 line) ∙ div-mul-add line 8 (p % 8) (mod-lt p {m = 8} (lit< tt))

pub shown_count-lent : (ranges : List Span) (count : ℕ) → AreLent ranges count → shown_count ranges count ≡ total_of ranges / 64
unfolding shown_count
shown_count-lent ranges count lent =
    ap (λ b. if b && fits ranges count then total_of ranges / 64 else 0) lent.disjoint ∙ ap (λ b. if b then total_of ranges / 64 else 0) lent.fit

shown_count-small : (ranges : List Span) (count : ℕ) → count ≤ 2 ^ 57 → shown_count ranges count ≤ 2 ^ 57
unfolding shown_count
shown_count-small ranges count small =
    elim (cases_Bool (is_disjoint ranges && fits ranges count)) as (λ _. (if is_disjoint ranges && fits ranges count then total_of ranges / 64 else 0) ≤ 2 ^ 57) [
      | inl is ↦
          let parts = and_parts (is_disjoint ranges) (fits ranges count) is in
          subst (λ b. (if b then total_of ranges / 64 else 0) ≤ 2 ^ 57) (sym is) (le_trans (lines_in_all ranges count parts.0 parts.1) small)
      | inr not_lent ↦ subst (λ b. (if b then total_of ranges / 64 else 0) ≤ 2 ^ 57) (sym not_lent) (lit≤ tt)
    ]

-- only lines of a set of whole lines are shown
pub shown-lent : (ranges : List Span) (count n : ℕ) → n < shown_count ranges count → AreLent ranges count
unfolding shown_count
shown-lent ranges count n within =
    elim (cases_Bool (is_disjoint ranges && fits ranges count)) as (λ _. AreLent ranges count) [
      | inl is ↦ let parts = and_parts (is_disjoint ranges) (fits ranges count) is in record { disjoint = parts.0; fit = parts.1 }
      | inr not_lent ↦ absurd (not-suc-le-zero (subst (λ b. n < (if b then total_of ranges / 64 else 0)) not_lent within))
    ]

-- this line of a device of so many is shown as line n
pub record IsBehind (ranges : List Span) (count n line : ℕ) : Type 0 where
  pub shown : line_shown ranges n ≡ Some line
  pub within : line < count

pub line_shown-some : (ranges : List Span) (count n : ℕ) → n < shown_count ranges count → (line : ℕ) × IsBehind ranges count n line
unfolding line_shown
line_shown-some ranges count n within =
    let lent = shown-lent ranges count n within in
    let few = subst (λ k. n < k) (shown_count-lent ranges count lent) within in
    let found = line_behind ranges count n lent.fit few in (
      found.0 / 64,
      record {
        shown =
            ap (λ b. if b then option_map (λ address. address / 64) (address_of ranges (64 * n)) else (let line = n - total_of ranges / 64 in beside line (offset_of ranges (64 * line)))) (lt-ltb (64 * n) (total_of ranges) (line_within ranges n few))
            ∙ ap (option_map (λ address. address / 64)) found.1;
        within = found.2;
      },
    )

history-lost : (m : Medium) (p : ℕ) (line : Option ℕ) → IsSound m → mark_of m.is_bad line ≡ true → history_of m.history (p % 8) line ≡ []
history-lost m p None sound bad = absurd (false≢true bad)
history-lost m p (Some line) sound bad = sound.lost (8 * line + p % 8) (ap m.is_bad (line_of_word line p) ∙ bad)

mark-none : (m : Medium) (line : Option ℕ) → IsSound m → mark_of m.is_bad line ≡ true → mark_of m.is_weak line ≡ false
mark-none m None sound bad = refl
mark-none m (Some line) sound bad = sound.unmarked line bad

pub shown_sound : (ranges : List Span) (m : Medium) → IsSound m → IsSound (shown ranges m)
shown_sound ranges m sound = record {
  small = shown_count-small ranges m.count sound.small;
  last = λ p healthy.
      let found = line_shown-some ranges m.count (p / 8) healthy.0 in
      let line = found.0 in
      let is = found.1.shown in
      let good : m.is_bad line ≡ false = sym (ap (mark_of m.is_bad) is) ∙ healthy.1 in
      let at = line_of_word line p in
      subst (λ o. IsIn (newest (history_of m.history (p % 8) o)) (history_of m.history (p % 8) o)) (sym is)
      (sound.last (8 * line + p % 8) (subst (λ n. n < m.count) (sym at) found.1.within, ap m.is_bad at ∙ good));
  lost = λ p bad. history-lost m p (line_shown ranges (p / 8)) sound bad;
  unmarked = λ n bad. mark-none m (line_shown ranges n) sound bad;
}
