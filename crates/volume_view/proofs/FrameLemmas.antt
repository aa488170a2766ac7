-- Frames of a view and of the device behind it.
use Rattle.std.proofs.Common.{◌≡◌, ◌+◌, ◌*◌, ◌/◌, ◌%◌, ◌≤◌, ℕ, Bool, true, false, List, [], Option, Some, None, refl, sym, ap, ◌∙◌, subst, arith}
use Rattle.nvm_base.specs.declared.units.Span.{Span}
use Rattle.line_device.specs.History.{WordWritesBack}
use Rattle.line_device.specs.Medium.{Medium, WritesBack}
use Rattle.line_device.proofs.HistoryLemmas.{word_write_back-refl}
use Rattle.line_words.specs.Words.{WritesBackBeside, WritesBackOutside}
use Rattle.range_sets.specs.Lines.{fits}
use Rattle.range_sets.specs.Ranges.{IsRangeSet, total_of, offset_of}
use Rattle.range_sets.proofs.LineLemmas.{line_ahead}
use Rattle.volume_view.specs.Shown.{AreLent, shown, shown_count, line_shown, shown_as, shown_by, mark_of, history_of}
use Rattle.volume_view.specs.ShownSound.{line_of_word, shown_count-lent}
use Rattle.volume_view.proofs.ShownLemmas.{shown_as-is, shown_as-shown}

pub are_lent : (ranges : List Span) (count : ℕ) → IsRangeSet ranges → fits ranges count ≡ true → AreLent ranges count
are_lent ranges count set fit = record { disjoint = set.disjoint; fit = fit }

-- the place at which a word of the device is shown
pub place_as : List Span → ℕ → ℕ
place_as ranges p = 8 * shown_as ranges (p / 8) + p % 8

-- a word of the device as it is shown
shown-mark : (ranges : List Span) (count : ℕ) (mark : ℕ → Bool) (line : ℕ) → AreLent ranges count → mark_of mark (line_shown ranges (shown_as ranges line)) ≡ mark line
shown-mark ranges count mark line lent = ap (mark_of mark) (shown_as-shown ranges count line lent)

shown-word : (ranges : List Span) (count : ℕ) (history : ℕ → List ℕ) (p : ℕ) → AreLent ranges count → history_of history (place_as ranges p % 8) (line_shown ranges (place_as ranges p / 8)) ≡ history p
unfolding place_as
shown-word ranges count history p lent =
    let line : ℕ = p / 8 in
    let word : (8 * shown_as ranges line + p % 8) % 8 ≡ p % 8 = omega arith in
    let on : (8 * shown_as ranges line + p % 8) / 8 ≡ shown_as ranges line = line_of_word (shown_as ranges line) p in
    let whole : 8 * (p / 8) + p % 8 ≡ p = omega arith in
    ap (λ w. history_of history w (line_shown ranges ((8 * shown_as ranges line + p % 8) / 8))) word
    ∙ ap (λ n. history_of history (p % 8) (line_shown ranges n)) on
    ∙ ap (history_of history (p % 8)) (shown_as-shown ranges count line lent)
    ∙ ap history whole

on_line_as : (ranges : List Span) (p : ℕ) → place_as ranges p / 8 ≡ shown_as ranges (p / 8)
unfolding place_as
on_line_as ranges p = line_of_word (shown_as ranges (p / 8)) p

word-behind : (ranges : List Span) (old new : Medium) (p : ℕ) → AreLent ranges old.count → WordWritesBack ((shown ranges old).is_weak (place_as ranges p / 8)) ((shown ranges old).history (place_as ranges p)) ((shown ranges new).history (place_as ranges p)) → WordWritesBack (old.is_weak (p / 8)) (old.history p) (new.history p)
word-behind ranges old new p lent x =
    let weak = ap (λ n. mark_of old.is_weak (line_shown ranges n)) (on_line_as ranges p) ∙ shown-mark ranges old.count old.is_weak (p / 8) lent in
    subst (λ w. WordWritesBack w (old.history p) (new.history p)) weak
    (subst (λ h. WordWritesBack ((shown ranges old).is_weak (place_as ranges p / 8)) h (new.history p)) (shown-word ranges old.count old.history p lent)
    (subst (λ h. WordWritesBack ((shown ranges old).is_weak (place_as ranges p / 8)) ((shown ranges old).history (place_as ranges p)) h) (shown-word ranges old.count new.history p lent) x))

mark-behind : (ranges : List Span) (count : ℕ) (old new : ℕ → Bool) (line : ℕ) → AreLent ranges count → mark_of new (line_shown ranges (shown_as ranges line)) ≡ mark_of old (line_shown ranges (shown_as ranges line)) → new line ≡ old line
mark-behind ranges count old new line lent same = sym (shown-mark ranges count new line lent) ∙ same ∙ shown-mark ranges count old line lent

mark-stays : (ranges : List Span) (count : ℕ) (old new : ℕ → Bool) (line : ℕ) → AreLent ranges count → (mark_of old (line_shown ranges (shown_as ranges line)) ≡ false → mark_of new (line_shown ranges (shown_as ranges line)) ≡ false) → old line ≡ false → new line ≡ false
mark-stays ranges count old new line lent stays was = sym (shown-mark ranges count new line lent) ∙ stays (shown-mark ranges count old line lent ∙ was)

-- what a view is told of is true of the device
pub write_back-behind : (ranges : List Span) (old new : Medium) → AreLent ranges old.count → new.count ≡ old.count → WritesBack (shown ranges old) (shown ranges new) → WritesBack old new
write_back-behind ranges old new lent count x = record {
  count = count;
  bad = λ line. mark-behind ranges old.count old.is_bad new.is_bad line lent (x.bad (shown_as ranges line));
  weak = λ line. mark-behind ranges old.count old.is_weak new.is_weak line lent (x.weak (shown_as ranges line));
  word_write_back = λ p. word-behind ranges old new p lent (x.word_write_back (place_as ranges p));
}

pub beside-behind : (lines : ℕ → Type 0) (ranges : List Span) (old new : Medium) → AreLent ranges old.count → new.count ≡ old.count → WritesBackBeside lines (shown ranges old) (shown ranges new) → WritesBackBeside (λ line. lines (shown_as ranges line)) old new
beside-behind lines ranges old new lent count x = record {
  count = count;
  stays_good = λ line. mark-stays ranges old.count old.is_bad new.is_bad line lent (x.stays_good (shown_as ranges line));
  stays_strong = λ line. mark-stays ranges old.count old.is_weak new.is_weak line lent (x.stays_strong (shown_as ranges line));
  bad = λ line out. mark-behind ranges old.count old.is_bad new.is_bad line lent (x.bad (shown_as ranges line) out);
  weak = λ line out. mark-behind ranges old.count old.is_weak new.is_weak line lent (x.weak (shown_as ranges line) out);
  word_write_back = λ p out. word-behind ranges old new p lent (x.word_write_back (place_as ranges p) (λ inside. out (subst lines (on_line_as ranges p) inside)));
}

pub outside-behind : (places : ℕ → Type 0) (ranges : List Span) (old new : Medium) → AreLent ranges old.count → new.count ≡ old.count → WritesBackOutside places (shown ranges old) (shown ranges new) → WritesBackOutside (λ p. places (place_as ranges p)) old new
outside-behind places ranges old new lent count x = record {
  count = count;
  bad = λ line. mark-behind ranges old.count old.is_bad new.is_bad line lent (x.bad (shown_as ranges line));
  weak = λ line. mark-behind ranges old.count old.is_weak new.is_weak line lent (x.weak (shown_as ranges line));
  word_write_back = λ p out. word-behind ranges old new p lent (x.word_write_back (place_as ranges p) out);
}

-- and the other way round
mark-same : (ranges : List Span) (count : ℕ) (lines : ℕ → Type 0) (old new : ℕ → Bool) (n : ℕ) (o : Option ℕ) → AreLent ranges count → line_shown ranges n ≡ o → ((line : ℕ) → (lines (shown_as ranges line) → ⊥) → new line ≡ old line) → (lines n → ⊥) → mark_of new o ≡ mark_of old o
mark-same ranges count lines old new n None lent is same out = refl
mark-same ranges count lines old new n (Some line) lent is same out = same line (λ inside. out (subst lines (shown_as-is ranges count n line lent is) inside))

mark-stays_shown : (old new : ℕ → Bool) (o : Option ℕ) → ((line : ℕ) → old line ≡ false → new line ≡ false) → mark_of old o ≡ false → mark_of new o ≡ false
mark-stays_shown old new None stays was = refl
mark-stays_shown old new (Some line) stays was = stays line was

word-same : (ranges : List Span) (lines : ℕ → Type 0) (old new : Medium) (p : ℕ) (o : Option ℕ) → AreLent ranges old.count → line_shown ranges (p / 8) ≡ o → WritesBackBeside (λ line. lines (shown_as ranges line)) old new → (lines (p / 8) → ⊥) → WordWritesBack (mark_of old.is_weak o) (history_of old.history (p % 8) o) (history_of new.history (p % 8) o)
word-same ranges lines old new p None lent is x out = word_write_back-refl false []
word-same ranges lines old new p (Some line) lent is x out =
    let q : ℕ = 8 * line + p % 8 in
    subst (λ n. WordWritesBack (old.is_weak n) (old.history q) (new.history q)) (line_of_word line p)
    (x.word_write_back q (λ inside. out (subst lines (ap (shown_as ranges) (line_of_word line p) ∙ shown_as-is ranges old.count (p / 8) line lent is) inside)))

pub beside-shown : (lines : ℕ → Type 0) (ranges : List Span) (old new : Medium) → AreLent ranges old.count → WritesBackBeside (λ line. lines (shown_as ranges line)) old new → WritesBackBeside lines (shown ranges old) (shown ranges new)
beside-shown lines ranges old new lent x = record {
  count = ap (shown_count ranges) x.count;
  stays_good = λ n. mark-stays_shown old.is_bad new.is_bad (line_shown ranges n) x.stays_good;
  stays_strong = λ n. mark-stays_shown old.is_weak new.is_weak (line_shown ranges n) x.stays_strong;
  bad = λ n out. mark-same ranges old.count lines old.is_bad new.is_bad n (line_shown ranges n) lent refl x.bad out;
  weak = λ n out. mark-same ranges old.count lines old.is_weak new.is_weak n (line_shown ranges n) lent refl x.weak out;
  word_write_back = λ p out. word-same ranges lines old new p (line_shown ranges (p / 8)) lent refl x out;
}

-- where lines of the ranges are shown, and where the others are
pub shown_as-inside : (ranges : List Span) (count line offset : ℕ) → AreLent ranges count → offset_of ranges (64 * line) ≡ Some offset → 64 * shown_as ranges line ≡ offset
unfolding shown_as
shown_as-inside ranges count line offset lent found =
    ap (λ o. 64 * shown_by (total_of ranges) line o) found ∙ (line_ahead ranges count line offset lent.fit found).0

pub shown_as-outside : (ranges : List Span) (count line : ℕ) → AreLent ranges count → offset_of ranges (64 * line) ≡ None → shown_count ranges count ≤ shown_as ranges line
unfolding shown_as
shown_as-outside ranges count line lent none =
    let few = shown_count-lent ranges count lent in
    subst (λ o. shown_count ranges count ≤ shown_by (total_of ranges) line o) (sym none) (omega (arith, few))
