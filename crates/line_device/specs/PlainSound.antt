-- The lines of a plain device are sound.
use Rattle.std.specs.Prelude.{◌≡◌, ◌/◌, ◌<◌, ◌≤◌, ◌==◌, ℕ, true, false, List, [], ◌∷◌, Option, Some, None, length, slice_get, if◌then◌else◌, refl}
use Rattle.std.proofs.Math.Nat.{le_trans}
use Rattle.std.proofs.Common.{lit≤, sym, ◌∙◌, ap, subst, inl, inr}
use Rattle.std.proofs.lemmas.Bool.{false≢true}
use Rattle.std.proofs.lemmas.Option.{slice_get-get_or}
use Rattle.std.proofs.Common.{get_or}
use Rattle.line_device.specs.History.{newest, IsIn}
use Rattle.line_device.specs.Medium.{IsSound}
use Rattle.line_device.specs.Word.{word_at}
use Rattle.line_device.specs.Cells.{first_and_last, is_bad_mark, is_weak_mark, has_words, memory}
use Rattle.line_device.specs.Plain.{device_of}
use Rattle.line_device.specs.declared.plain.cells.Mark.{Mark}
use Rattle.line_device.specs.declared.plain.cells.Mark.TheVariants.{Healthy, Weak, Bad}
use Rattle.line_device.specs.declared.plain.Plain.{Plain}

has_words-good : (mark : Mark) → is_bad_mark (Some mark) ≡ false → has_words (Some mark) ≡ true
has_words-good Healthy good = refl
has_words-good Weak good = refl
has_words-good Bad good = sym good

last_is_in : (x y : ℕ) → IsIn (newest (first_and_last x y)) (first_and_last x y)
last_is_in x y = elim (x == y) as (λ b. IsIn (newest (if b then y ∷ [] else x ∷ y ∷ [])) (if b then y ∷ [] else x ∷ y ∷ [])) [ true ↦ inl refl | false ↦ inr (inl refl) ]

bad_has_none : (mark : Option Mark) (x y : ℕ) → is_bad_mark mark ≡ true → (if has_words mark then first_and_last x y else []) ≡ []
bad_has_none None x y bad = refl
bad_has_none (Some Healthy) x y bad = absurd (false≢true bad)
bad_has_none (Some Weak) x y bad = absurd (false≢true bad)
bad_has_none (Some Bad) x y bad = refl

bad_is_not_weak : (mark : Option Mark) → is_bad_mark mark ≡ true → is_weak_mark mark ≡ false
bad_is_not_weak None bad = refl
bad_is_not_weak (Some Healthy) bad = refl
bad_is_not_weak (Some Weak) bad = absurd (false≢true bad)
bad_is_not_weak (Some Bad) bad = refl

is_sound-memory : (count : ℕ) (marks : List Mark) (durable last : List ℕ) → count ≤ 118016 → length marks ≡ count → IsSound (memory count marks durable last)
is_sound-memory count marks durable last few long = record {
  small = le_trans few (lit≤ tt);
  last = λ p healthy.
      let x = word_at durable p in
      let y = word_at last p in
      let mark = get_or marks (p / 8) Healthy in
      let found : slice_get marks (p / 8) ≡ Some mark = slice_get-get_or marks (p / 8) Healthy (subst (λ n. p / 8 < n) (sym long) healthy.0) in
      let has : has_words (slice_get marks (p / 8)) ≡ true = ap has_words found ∙ has_words-good mark (sym (ap is_bad_mark found) ∙ healthy.1) in
      subst (λ b. IsIn (newest (if b then first_and_last x y else [])) (if b then first_and_last x y else [])) (sym has) (last_is_in x y);
  lost = λ p. bad_has_none (slice_get marks (p / 8)) (word_at durable p) (word_at last p);
  unmarked = λ n. bad_is_not_weak (slice_get marks n);
}

pub is_sound-plain : (p : Plain) → IsSound (device_of p).medium
is_sound-plain p =
    let c = p.cells in is_sound-memory c.marks.len c.marks.items c.durable.items c.last.items c.few (sym c.marks.ok.0)
