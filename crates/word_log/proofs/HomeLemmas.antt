-- The home words line by line.
use Rattle.std.proofs.Common.{◌≡◌, inl, inr, ℕ, ◌+◌, ◌-◌, ◌*◌, ◌/◌, ◌%◌, ◌<◌, ◌++◌, List, length, get_or, ◌∙◌, ap, subst, arith}
use Rattle.std.proofs.lemmas.List.{get_or-append_right, get_or_append_left, length-append}
use Rattle.std.proofs.lemmas.Bool.{cases_lt}
use Rattle.line_device.specs.Medium.{Medium, IsHealthy, IsSound, WritesBack, last_image}
use Rattle.line_device.proofs.TornLemmas.{torn-word_write_back}
use Rattle.line_words.specs.Words.{WritesBackOutside}
use Rattle.word_log.specs.Rest.{EachImage, IsAtRest, IsReached}
use Rattle.word_log.proofs.FrameLemmas.{fits-outside, whole-outside}
use Rattle.word_log.proofs.RestLemmas.{rest-last_image}
use Rattle.word_log.specs.declared.area.LogArea.{LogArea}
use Rattle.word_log.specs.Area.{AreHomeWords, Fits, IsOf, IsWhole}
use Rattle.word_log.proofs.PhaseLemmas.{on_device}

-- a line that has a home word
pub home_line : (a : LogArea) (m : Medium) (k : ℕ) → Fits a m → IsWhole a m → a.home.start % 8 ≡ 0 → 8 * k < a.home.len → IsHealthy m (a.home.start / 8 + k)
home_line a m k fits whole first below =
    let of : IsOf a (a.home.start + 8 * k) = inr (omega arith, omega arith) in
    let line : (a.home.start + 8 * k) / 8 ≡ a.home.start / 8 + k = omega arith in
    subst (IsHealthy m) line (on_device a m (a.home.start + 8 * k) fits of, whole (a.home.start + 8 * k) of)

-- eight words more
pub line_more : (f : ℕ → ℕ) (k : ℕ) (xs ys : List ℕ) → length xs ≡ 8 * k → ((j : ℕ) → j < 8 * k → get_or xs j 0 ≡ f j) → length ys ≡ 8 → ((w : ℕ) → w < 8 → get_or ys w 0 ≡ f (8 * k + w)) → (length (xs ++ ys) ≡ 8 * (k + 1)) × ((j : ℕ) → j < 8 * (k + 1) → get_or (xs ++ ys) j 0 ≡ f j)
line_more f k xs ys all each eight more = (
  omega (arith, length-append xs ys, all, eight),
  λ j below. elim (cases_lt j (8 * k)) [
    | inl here ↦ get_or_append_left xs ys 0 j (omega (arith, all, here)) ∙ each j here
    | inr past ↦
        let at : 8 * k + (j - 8 * k) ≡ j = omega (arith, past) in
        get_or-append_right xs ys (8 * k) j 0 all past ∙ more (j - 8 * k) (omega (arith, below, past)) ∙ ap f at
  ],
)

-- what images say after loads
pub images-write_back : (a : LogArea) (old now new : Medium) → EachImage a now (IsReached a old) → WritesBack now new → EachImage a new (IsReached a old)
images-write_back a old now new images x image at = images image (λ p of. torn-word_write_back (now.is_weak (p / 8)) (image p) (now.history p) (new.history p) (x.word_write_back p) (at p of))

-- the words loaded from a log at rest
pub words_at_rest : (a : LogArea) (old now : Medium) (word : ℕ → ℕ) (words : List ℕ) → Fits a old → IsWhole a old → WritesBackOutside (IsOf a) old now → IsSound now → IsAtRest a now word → AreHomeWords a (last_image now) words → AreHomeWords a word words
words_at_rest a old now word words fits whole x sound rest are = record {
  all = are.all;
  each = λ k below. are.each k below ∙ rest-last_image a now word (a.home.start + k) (fits-outside a (IsOf a) old now fits x) (whole-outside a (IsOf a) old now whole x) sound rest (omega (arith, below), omega (arith, below));
}
