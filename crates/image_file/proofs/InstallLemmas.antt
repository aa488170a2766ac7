-- Lines that are made those of an image, one after another.
use Rattle.std.proofs.Common.{◌≡◌, inl, inr, ℕ, Bool, true, false, ◌+◌, ◌/◌, ◌%◌, ◌<◌, ◌≤◌, ◌==◌, nat_lt, List, [], ◌∷◌, length, get_or, replicate, Option, Some, None, if◌then◌else◌, refl, sym, ap, subst, ◌∙◌, arith}
use Rattle.std.specs.List.{slice_get}
use Rattle.std.proofs.lemmas.Bool.{cases_eq, cases_lt, eq-eqb, ne_eqb, lt-ltb, le-ltb}
use Rattle.std.proofs.lemmas.Option.{slice_get-get_or, slice_get_past}
use Rattle.line_device.specs.Word.{word_at}
use Rattle.line_device.specs.History.{WordWritesBack}
use Rattle.line_device.specs.Medium.{Medium, WritesBack, installed, renewed, with_at, zeros}
use Rattle.line_device.specs.declared.line.LineState.{LineState}
use Rattle.line_device.specs.declared.line.LineState.TheVariants.{Healthy, Weak, Bad}
use Rattle.line_device.proofs.CellsLemmas.{same_medium, word_at-zeros}
use Rattle.image_file.specs.Devices.{is_told_bad, is_told_weak, told_values, medium_of}

-- so many lines, by what each of them is
abbrev pub medium_by : ℕ → (ℕ → Option LineState) → Medium
medium_by count line = record {
  count = count;
  is_bad = λ n. is_told_bad (line n);
  is_weak = λ n. is_told_weak (line n);
  history = λ p. told_values (line (p / 8)) (p % 8);
}

medium_by-same : (count : ℕ) (f g : ℕ → Option LineState) → ((n : ℕ) → f n ≡ g n) → medium_by count f ≡ medium_by count g
medium_by-same count f g same = λ i. medium_by count (λ n. same n i)

-- a word of one value or none has nothing to write back
one_stays : (weak : Bool) (x : ℕ) (new : List ℕ) → WordWritesBack weak (x ∷ []) new → new ≡ x ∷ []
one_stays weak x [] w = absurd (let e = w.last in cc)
one_stays weak x (y ∷ []) w = w.last
one_stays weak x (y ∷ z ∷ ys) w = absurd (elim w.part as (λ _. ⊥) [ inl p ↦ p.1 | inr q ↦ q ])

none_stays : (weak : Bool) (new : List ℕ) → WordWritesBack weak [] new → new ≡ []
none_stays weak [] w = refl
none_stays weak (y ∷ ys) w = absurd w.part

values_stay : (line : Option LineState) (w : ℕ) (weak : Bool) (new : List ℕ) → WordWritesBack weak (told_values line w) new → new ≡ told_values line w
values_stay None w weak new x = none_stays weak new x
values_stay (Some (Healthy bytes)) w weak new x = one_stays weak (word_at bytes w) new x
values_stay (Some (Weak bytes)) w weak new x = one_stays weak (word_at bytes w) new x
values_stay (Some Bad) w weak new x = none_stays weak new x

lines_stay : (count : ℕ) (line : ℕ → Option LineState) (new : Medium) → WritesBack (medium_by count line) new → new ≡ medium_by count line
lines_stay count line new x =
    same_medium new (medium_by count line) x.count x.bad x.weak (λ p. values_stay (line (p / 8)) (p % 8) (is_told_weak (line (p / 8))) (new.history p) (x.word_write_back p))

-- one line is made what is told
renewed_line : (count n : ℕ) (line : ℕ → Option LineState) (told : LineState) → renewed (medium_by count line) n (is_told_bad (Some told)) (is_told_weak (Some told)) (told_values (Some told)) ≡ medium_by count (with_at line n (Some told))
renewed_line count n line told =
    same_medium (renewed (medium_by count line) n (is_told_bad (Some told)) (is_told_weak (Some told)) (told_values (Some told))) (medium_by count (with_at line n (Some told))) refl
    (λ k. elim (k == n) as (λ b. (if b then is_told_bad (Some told) else is_told_bad (line k)) ≡ is_told_bad (if b then Some told else line k)) [ true ↦ refl | false ↦ refl ])
    (λ k. elim (k == n) as (λ b. (if b then is_told_weak (Some told) else is_told_weak (line k)) ≡ is_told_weak (if b then Some told else line k)) [ true ↦ refl | false ↦ refl ])
    (λ p. elim (p / 8 == n) as (λ b. (if b then told_values (Some told) (p % 8) else told_values (line (p / 8)) (p % 8)) ≡ told_values (if b then Some told else line (p / 8)) (p % 8)) [ true ↦ refl | false ↦ refl ])

installed_line : (count n : ℕ) (line : ℕ → Option LineState) (told : LineState) → installed (medium_by count line) n told ≡ medium_by count (with_at line n (Some told))
installed_line count n line (Healthy bytes) = renewed_line count n line (Healthy bytes)
installed_line count n line (Weak bytes) = renewed_line count n line (Weak bytes)
installed_line count n line Bad = renewed_line count n line Bad

-- what each line is once so many are installed: the others are zeros
abbrev pub partly : List LineState → ℕ → ℕ → Option LineState
partly lines k n = if nat_lt n k then slice_get lines n else (if nat_lt n (length lines) then Some (Healthy (replicate 64 0)) else None)

zero_lines : (count : ℕ) → zeros count ≡ medium_by count (λ n. if nat_lt n count then Some (Healthy (replicate 64 0)) else None)
zero_lines count =
    same_medium (zeros count) (medium_by count (λ n. if nat_lt n count then Some (Healthy (replicate 64 0)) else None)) refl
    (λ n. elim (nat_lt n count) as (λ b. false ≡ is_told_bad (if b then Some (Healthy (replicate 64 0)) else None)) [ true ↦ refl | false ↦ refl ])
    (λ n. elim (nat_lt n count) as (λ b. false ≡ is_told_weak (if b then Some (Healthy (replicate 64 0)) else None)) [ true ↦ refl | false ↦ refl ])
    (λ p. elim (nat_lt (p / 8) count) as (λ b. (if b then 0 ∷ [] else []) ≡ told_values (if b then Some (Healthy (replicate 64 0)) else None) (p % 8)) [
      | true ↦ ap (λ x. x ∷ []) (sym (word_at-zeros 64 (p % 8)))
      | false ↦ refl
    ])

-- none is installed yet
pub partly-starts : (lines : List LineState) (count : ℕ) (new : Medium) → count ≡ length lines → WritesBack (zeros count) new → new ≡ medium_by (length lines) (partly lines 0)
partly-starts lines count new is x =
    lines_stay (length lines) (λ n. if nat_lt n (length lines) then Some (Healthy (replicate 64 0)) else None) new (subst (λ m. WritesBack m new) (ap zeros is ∙ zero_lines (length lines)) x)
    ∙ medium_by-same (length lines) (λ n. if nat_lt n (length lines) then Some (Healthy (replicate 64 0)) else None) (partly lines 0)
    (λ n. sym (ap (λ b. if b then slice_get lines n else (if nat_lt n (length lines) then Some (Healthy (replicate 64 0)) else None)) (le-ltb n 0 (omega arith))))

partly_more : (lines : List LineState) (k : ℕ) (told : LineState) → slice_get lines k ≡ Some told → (n : ℕ) → with_at (partly lines k) k (Some told) n ≡ partly lines (k + 1) n
partly_more lines k told here n =
    let others = if nat_lt n (length lines) then Some (Healthy (replicate 64 0)) else None in
    elim (cases_eq n k) as (λ _. with_at (partly lines k) k (Some told) n ≡ partly lines (k + 1) n) [
      | inl is ↦
          ap (λ b. if b then Some told else partly lines k n) (eq-eqb n k is)
          ∙ sym (ap (λ b. if b then slice_get lines n else others) (lt-ltb n (k + 1) (omega arith)) ∙ ap (slice_get lines) is ∙ here)
      | inr other ↦
          ap (λ b. if b then Some told else partly lines k n) (ne_eqb n k other)
          ∙ (elim (cases_lt n k) as (λ _. partly lines k n ≡ partly lines (k + 1) n) [
            | inl below ↦
                ap (λ b. if b then slice_get lines n else others) (lt-ltb n k below)
                ∙ sym (ap (λ b. if b then slice_get lines n else others) (lt-ltb n (k + 1) (omega arith)))
            | inr above ↦
                ap (λ b. if b then slice_get lines n else others) (le-ltb n k above)
                ∙ sym (ap (λ b. if b then slice_get lines n else others) (le-ltb n (k + 1) (omega (arith, above, other))))
          ])
    ]

-- a line of what was lent is the list's
pub line_lent : (lines lent : List LineState) (n : ℕ) (d : LineState) → lent ≡ lines → n < length lent → slice_get lines n ≡ Some (get_or lent n d)
line_lent lines lent n d same within = subst (λ l. slice_get l n ≡ Some (get_or lent n d)) same (slice_get-get_or lent n d within)

-- one more is
pub partly-next : (lines : List LineState) (k : ℕ) (told : LineState) (now new : Medium) → slice_get lines k ≡ Some told → now ≡ medium_by (length lines) (partly lines k) → WritesBack (installed now k told) new → new ≡ medium_by (length lines) (partly lines (k + 1))
partly-next lines k told now new here is x =
    let same : installed now k told ≡ medium_by (length lines) (partly lines (k + 1)) =
    ap (λ m. installed m k told) is ∙ installed_line (length lines) k (partly lines k) told ∙ medium_by-same (length lines) (with_at (partly lines k) k (Some told)) (partly lines (k + 1)) (partly_more lines k told here) in
    lines_stay (length lines) (partly lines (k + 1)) new (subst (λ m. WritesBack m new) same x)

-- all are
pub partly-all : (lines : List LineState) (k : ℕ) (now : Medium) → length lines ≤ k → now ≡ medium_by (length lines) (partly lines k) → now ≡ medium_of lines
partly-all lines k now all is =
    is
    ∙ medium_by-same (length lines) (partly lines k) (slice_get lines)
    (λ n.
    let others = if nat_lt n (length lines) then Some (Healthy (replicate 64 0)) else None in
    elim (cases_lt n k) as (λ _. partly lines k n ≡ slice_get lines n) [
      | inl below ↦ ap (λ b. if b then slice_get lines n else others) (lt-ltb n k below)
      | inr above ↦
          ap (λ b. if b then slice_get lines n else others) (le-ltb n k above)
          ∙ ap (λ b. if b then Some (Healthy (replicate 64 0)) else None) (le-ltb n (length lines) (omega (arith, above, all)))
          ∙ sym (slice_get_past lines n (omega (arith, above, all)))
    ])
