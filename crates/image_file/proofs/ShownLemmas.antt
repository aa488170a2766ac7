-- What a device that has just some lines shows, and what lines that were read out tell of a device.
use Rattle.std.proofs.Common.{◌≡◌, inl, ℕ, zero, suc, true, false, ◌+◌, ◌*◌, ◌/◌, ◌%◌, ◌<◌, ◌≤◌, List, [], ◌∷◌, length, get_or, Option, Some, None, refl, sym, ap, subst, ◌∙◌, arith}
use Rattle.std.specs.List.{slice_get, AllByRecursion}
use Rattle.std.proofs.lemmas.Bool.{false≢true}
use Rattle.std.proofs.lemmas.Option.{slice_get-get_or}
use Rattle.line_device.specs.Word.{word_at}
use Rattle.line_device.specs.History.{newest, IsIn}
use Rattle.line_device.specs.Medium.{Medium, IsLine, IsSound, Shows}
use Rattle.line_device.specs.Panel.{IsUnit}
use Rattle.line_device.specs.Device.{Depicts}
use Rattle.line_device.specs.declared.line.LineState.{LineState}
use Rattle.line_device.specs.declared.line.LineState.TheVariants.{Healthy, Weak, Bad}
use Rattle.image_file.specs.Text.{FitImage, IsImageLine, IsSnapshot}
use Rattle.image_file.specs.Devices.{DepictsLast, IsLastImage, image_of, is_told_bad, is_told_weak, medium_of, told_values, told_word}

-- a line within the list is there
there : (lines : List LineState) (n : ℕ) → n < length lines → slice_get lines n ≡ Some (get_or lines n Bad)
there lines n within = slice_get-get_or lines n Bad within

one_value : (line : LineState) (w : ℕ) → is_told_bad (Some line) ≡ false → told_values (Some line) w ≡ told_word (Some line) w ∷ []
one_value (Healthy bytes) w good = refl
one_value (Weak bytes) w good = refl
one_value Bad w good = absurd (false≢true (sym good))

no_value : (line : Option LineState) (w : ℕ) → is_told_bad line ≡ true → told_values line w ≡ []
no_value None w bad = refl
no_value (Some (Healthy bytes)) w bad = absurd (false≢true bad)
no_value (Some (Weak bytes)) w bad = absurd (false≢true bad)
no_value (Some Bad) w bad = refl

no_mark : (line : Option LineState) → is_told_bad line ≡ true → is_told_weak line ≡ false
no_mark None bad = refl
no_mark (Some (Healthy bytes)) bad = refl
no_mark (Some (Weak bytes)) bad = absurd (false≢true bad)
no_mark (Some Bad) bad = refl

pub depicted : (unit : ℕ) (lines : List LineState) → Depicts (medium_of lines) (image_of unit lines)
depicted unit lines = record {
  count = refl;
  bad = λ n _. refl;
  weak = λ n _. refl;
  words = λ p healthy.
      let line = get_or lines (p / 8) Bad in
      let found = there lines (p / 8) healthy.0 in
      ap (λ o. told_values o (p % 8)) found ∙ one_value line (p % 8) (sym (ap is_told_bad found) ∙ healthy.1) ∙ sym (ap (λ o. told_word o (p % 8) ∷ []) found);
}

pub sound : (lines : List LineState) → length lines ≤ 118016 → IsSound (medium_of lines)
sound lines few = record {
  small = omega (arith, few);
  last = λ p healthy. subst (λ h. IsIn (newest h) h) (sym ((depicted 8 lines).words p healthy)) (inl refl);
  lost = λ p. no_value (slice_get lines (p / 8)) (p % 8);
  unmarked = λ n. no_mark (slice_get lines n);
}

image_line : (lines : List LineState) (n : ℕ) (line : LineState) → AllByRecursion IsImageLine lines → slice_get lines n ≡ Some line → IsImageLine line
image_line [] n line all is = absurd (cc)
image_line (x ∷ lines) zero line all is = let same : x ≡ line = cc in subst IsImageLine same all.0
image_line (x ∷ lines) (suc n) line all is = image_line lines n line all.1 is

-- the words of a line with these values
bytes_shown : (lines : List LineState) (n : ℕ) (bytes : List ℕ) → ((w : ℕ) → told_values (slice_get lines n) w ≡ word_at bytes w ∷ []) → length bytes ≡ 64 → IsLine (medium_of lines) n bytes
bytes_shown lines n bytes is long = record {
  length = long;
  words = λ w below.
      let line : (8 * n + w) / 8 ≡ n = omega arith in
      let word : (8 * n + w) % 8 ≡ w = omega arith in
      ap (λ k. newest (told_values (slice_get lines k) ((8 * n + w) % 8))) line ∙ ap newest (is ((8 * n + w) % 8)) ∙ ap (word_at bytes) word;
}

line_shown : (lines : List LineState) (n : ℕ) (line : LineState) → slice_get lines n ≡ Some line → IsImageLine line → Shows (medium_of lines) n line
line_shown lines n (Healthy bytes) is long = (ap is_told_bad is, ap is_told_weak is, bytes_shown lines n bytes (λ w. ap (λ o. told_values o w) is) long)
line_shown lines n (Weak bytes) is long = (ap is_told_bad is, ap is_told_weak is, bytes_shown lines n bytes (λ w. ap (λ o. told_values o w) is) long)
line_shown lines n Bad is whole = ap is_told_bad is

pub back : (lines : List LineState) → AllByRecursion IsImageLine lines → IsLastImage (medium_of lines) lines
back lines all = record { count = refl; shows = λ n line is. line_shown lines n line is (image_line lines n line all is) }

-- what a line that is shown tells of the device
bad_shown : (m : Medium) (n : ℕ) (line : LineState) → Shows m n line → is_told_bad (Some line) ≡ m.is_bad n
bad_shown m n (Healthy bytes) s = sym s.0
bad_shown m n (Weak bytes) s = sym s.0
bad_shown m n Bad s = sym s

weak_shown : (m : Medium) (n : ℕ) (line : LineState) → IsSound m → Shows m n line → is_told_weak (Some line) ≡ m.is_weak n
weak_shown m n (Healthy bytes) sound s = sym s.1
weak_shown m n (Weak bytes) sound s = sym s.1
weak_shown m n Bad sound s = sym (sound.unmarked n s)

word_in : (m : Medium) (bytes : List ℕ) (p : ℕ) → IsLine m (p / 8) bytes → word_at bytes (p % 8) ≡ newest (m.history p)
word_in m bytes p is =
    let place : 8 * (p / 8) + p % 8 ≡ p = omega arith in
    sym (is.words (p % 8) (omega arith)) ∙ ap (λ q. newest (m.history q)) place

word_shown : (m : Medium) (p : ℕ) (line : LineState) → Shows m (p / 8) line → m.is_bad (p / 8) ≡ false → told_word (Some line) (p % 8) ≡ newest (m.history p)
word_shown m p (Healthy bytes) s good = word_in m bytes p s.2
word_shown m p (Weak bytes) s good = word_in m bytes p s.2
word_shown m p Bad s good = absurd (false≢true (sym good ∙ s))

pub depicted_last : (m : Medium) (unit : ℕ) (lines : List LineState) → IsSound m → IsLastImage m lines → DepictsLast m (image_of unit lines)
depicted_last m unit lines sound l = record {
  count = l.count;
  bad = λ n within.
      let found = there lines n (subst (λ c. n < c) (sym l.count) within) in
      ap is_told_bad found ∙ bad_shown m n (get_or lines n Bad) (l.shows n _ found);
  weak = λ n within.
      let found = there lines n (subst (λ c. n < c) (sym l.count) within) in
      ap is_told_weak found ∙ weak_shown m n (get_or lines n Bad) sound (l.shows n _ found);
  words = λ p healthy.
      let found = there lines (p / 8) (subst (λ c. p / 8 < c) (sym l.count) healthy.0) in
      ap (λ o. told_word o (p % 8)) found ∙ word_shown m p (get_or lines (p / 8) Bad) (l.shows (p / 8) _ found) healthy.1;
}

allowed_shown : (m : Medium) (n : ℕ) (line : LineState) → Shows m n line → IsImageLine line
allowed_shown m n (Healthy bytes) s = s.2.length
allowed_shown m n (Weak bytes) s = s.2.length
allowed_shown m n Bad s = tt

all_image_lines : (lines : List LineState) → ((n : ℕ) (line : LineState) → slice_get lines n ≡ Some line → IsImageLine line) → AllByRecursion IsImageLine lines
all_image_lines [] each = tt
all_image_lines (x ∷ lines) each = (each 0 x refl, all_image_lines lines (λ n line is. each (suc n) line is))

pub snapshot_last : (m : Medium) (unit : ℕ) (lines : List LineState) → IsUnit unit → FitImage m.count → IsLastImage m lines → IsSnapshot (record { unit = unit; lines = lines })
snapshot_last m unit lines known fit l = record {
  unit = known;
  count = subst FitImage (sym l.count) fit;
  whole = all_image_lines lines (λ n line is. allowed_shown m n line (l.shows n line is));
}
