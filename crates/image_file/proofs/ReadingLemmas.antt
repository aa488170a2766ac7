-- Reading lines one by one.
use Rattle.std.proofs.Common.{◌≡◌, ℕ, suc, ◌+◌, ◌-◌, ◌<◌, ◌≤◌, List, [], ◌∷◌, ◌++◌, length, drop, Some, refl, sym, ap, ◌∙◌, arith, append_assoc, append-nil, length-append, length-drop}
use Rattle.std.specs.List.{flat_map, AllByRecursion}
use Rattle.std.proofs.lemmas.Grind.{flat_map-append}
use Rattle.std.proofs.lemmas.List.Concat.{flat_map-cons}
use Rattle.line_device.specs.declared.line.LineState.{LineState}
use Rattle.image_file.specs.Text.{IsImageLine, line_text}
use Rattle.image_file.specs.WrongField.{wrong_in_lines}
use Rattle.image_file.proofs.LineLemmas.{line_right}

-- So many of the lines are read. The file is these and a rest, which is as wrong as the file.
pub record Reading (count done : ℕ) (file : List ℕ) (lines : List LineState) (rest : List ℕ) : Type 0 where
  pub parts : drop 24 file ≡ flat_map line_text lines ++ rest
  pub within : length rest ≤ length file
  pub number : length lines ≡ done
  pub whole : AllByRecursion IsImageLine lines
  pub wrong : wrong_in_lines count 24 (drop 24 file) ≡ wrong_in_lines (count - done) (length file - length rest) rest

pub Reading-starts : (count : ℕ) (file : List ℕ) (lines : List LineState) (rest : List ℕ) → 24 ≤ length file → lines ≡ [] → rest ≡ drop 24 file → Reading count 0 file lines rest
Reading-starts count file lines rest long none is =
    let at : length file - length (drop 24 file) ≡ 24 = omega (arith, length-drop 24 file) in
    let all : count - 0 ≡ count = omega arith in
    rw (none, is) (record { parts = refl; within = omega (arith, length-drop 24 file); number = refl; whole = tt; wrong = rw (at, all) refl })

whole_more : (lines : List LineState) (line : LineState) → AllByRecursion IsImageLine lines → IsImageLine line → AllByRecursion IsImageLine (lines ++ line ∷ [])
whole_more [] line whole one = (one, tt)
whole_more (x ∷ lines) line whole one = (whole.0, whole_more lines line whole.1 one)

texts_more : (lines : List LineState) (line : LineState) → flat_map line_text (lines ++ line ∷ []) ≡ flat_map line_text lines ++ line_text line
texts_more lines line =
    flat_map-append line_text lines (line ∷ []) ∙ ap (λ t. flat_map line_text lines ++ t) (flat_map-cons line_text line [] ∙ append-nil (line_text line))

pub Reading-more : (count done : ℕ) (file : List ℕ) (lines : List LineState) (line : LineState) (rest after : List ℕ) → done < count → rest ≡ line_text line ++ after → IsImageLine line
    → Reading count done file lines rest → Reading count (done + 1) file (lines ++ line ∷ []) after
Reading-more count done file lines line rest after some is one r =
    let len : length rest ≡ length (line_text line) + length after = ap length is ∙ length-append (line_text line) after in
    let left : count - done ≡ suc (count - (done + 1)) = omega arith in
    let within = r.within in
    let at : length file - length rest + length (line_text line) ≡ length file - length after = omega (arith, len, within) in
    record {
      parts = r.parts ∙ ap (λ t. flat_map line_text lines ++ t) is ∙ sym (append_assoc (flat_map line_text lines) (line_text line) after) ∙ ap (λ t. t ++ after) (sym (texts_more lines line));
      within = omega (arith, len, within);
      number = length-append lines (line ∷ []) ∙ ap (λ n. n + 1) r.number;
      whole = whole_more lines line r.whole one;
      wrong =
          r.wrong ∙ ap (λ n. wrong_in_lines n (length file - length rest) rest) left ∙ ap (wrong_in_lines (suc (count - (done + 1))) (length file - length rest)) is
          ∙ line_right (count - (done + 1)) (length file - length rest) line after one ∙ ap (λ n. wrong_in_lines (count - (done + 1)) n after) at;
    }

-- a wrong line is where the file is wrong
pub Reading-stops : (count done skip : ℕ) (file : List ℕ) (lines : List LineState) (rest : List ℕ) → done < count → ((more offset : ℕ) → wrong_in_lines (suc more) offset rest ≡ Some (offset + skip))
    → Reading count done file lines rest → wrong_in_lines count 24 (drop 24 file) ≡ Some (length file - length rest + skip)
Reading-stops count done skip file lines rest some wrong r =
    let left : count - done ≡ suc (count - (done + 1)) = omega arith in
    r.wrong ∙ ap (λ n. wrong_in_lines n (length file - length rest) rest) left ∙ wrong (count - (done + 1)) (length file - length rest)

past_end : (offset : ℕ) (rest : List ℕ) → (length rest ≡ 0 → ⊥) → wrong_in_lines 0 offset rest ≡ Some offset
unfolding wrong_in_lines
past_end offset [] some = absurd (some refl)
past_end offset (byte ∷ rest) some = refl

-- bytes after the last line are where the file is wrong
pub Reading-past : (count done : ℕ) (file : List ℕ) (lines : List LineState) (rest : List ℕ) → count ≤ done → (length rest ≡ 0 → ⊥) → Reading count done file lines rest → wrong_in_lines count 24 (drop 24 file) ≡ Some (length file - length rest)
Reading-past count done file lines rest all some r =
    let none : count - done ≡ 0 = omega arith in
    r.wrong ∙ ap (λ n. wrong_in_lines n (length file - length rest) rest) none ∙ past_end (length file - length rest) rest some
