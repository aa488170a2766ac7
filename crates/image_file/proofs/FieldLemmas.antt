-- Lines field by field.
use Rattle.std.proofs.Common.{◌≡◌, ℕ, zero, suc, ◌+◌, ◌==◌, ◌<◌, ◌≤◌, Bool, true, false, nat_lt, List, [], ◌∷◌, ◌++◌, length, take, drop, replicate, Some, if◌then◌else◌, refl, sym, ap, subst, ◌∙◌, arith, append_assoc, append-nil, length-append, length-take}
use Rattle.std.specs.List.{concat, flat_map, AllByRecursion}
use Rattle.std.proofs.lemmas.Bool.{ltb-true, ltb-false}
use Rattle.std.proofs.lemmas.List.Concat.{flat_map-cons}
use Rattle.std.proofs.lemmas.List.Folds.{concat-append}
use Rattle.line_device.specs.declared.line.LineState.{LineState}
use Rattle.line_device.specs.declared.line.LineState.TheVariants.{Healthy, Weak, Bad}
use Rattle.image_file.specs.Text.{IsImageLine, line_text}
use Rattle.image_file.specs.WrongField.{wrong_in_lines}
use Rattle.image_file.specs.Fields.{line_fields}
use Rattle.image_file.proofs.LineLemmas.{HasBytes, healthy_bytes, weak_bytes, line_made, line_right}

-- the text of lines is their fields
pub line_joined : (line : LineState) → line_text line ≡ concat (line_fields line)
line_joined (Healthy bytes) = ap (λ t. 0 ∷ t) (sym (append-nil bytes))
line_joined (Weak bytes) = ap (λ t. 1 ∷ t) (sym (append-nil bytes))
line_joined Bad = refl

pub lines_joined : (lines : List LineState) → flat_map line_text lines ≡ concat (flat_map line_fields lines)
lines_joined [] = refl
lines_joined (line ∷ lines) =
    flat_map-cons line_text line lines ∙ ap (λ t. t ++ flat_map line_text lines) (line_joined line) ∙ ap (λ t. concat (line_fields line) ++ t) (lines_joined lines)
    ∙ sym (ap concat (flat_map-cons line_fields line lines) ∙ concat-append (line_fields line) (flat_map line_fields lines))

-- some lines, so many of them, have these as their first fields
pub record BeginsLines (lines : ℕ) (fields : List (List ℕ)) : Type 0 where
  pub all : List LineState
  pub whole : AllByRecursion IsImageLine all
  pub count : length all ≡ lines
  pub more : List (List ℕ)
  pub is : flat_map line_fields all ≡ fields ++ more

-- the same of lines from a place on, of which the first wrong field is at another
pub record WrongLines (lines : ℕ) (bytes : List ℕ) (start offset : ℕ) : Type 0 where
  pub fields : List (List ℕ)
  pub rest : List ℕ
  pub parts : bytes ≡ concat fields ++ rest
  pub here : offset ≡ start + length (concat fields)
  pub begun : BeginsLines lines fields
  pub ended : (field after : List ℕ) → rest ≡ field ++ after → BeginsLines lines (fields ++ field ∷ []) → ⊥

-- so many lines of zeros
abbrev zero_lines : ℕ → List LineState
zero_lines n = replicate n (Healthy (replicate 64 0))

zeros_whole : (n : ℕ) → AllByRecursion IsImageLine (zero_lines n)
zeros_whole zero = tt
zeros_whole (suc n) = (refl, zeros_whole n)

zeros_count : (n : ℕ) → length (zero_lines n) ≡ n
zeros_count zero = refl
zeros_count (suc n) = ap suc (zeros_count n)

begins_nothing : (lines : ℕ) → BeginsLines lines []
begins_nothing lines = record { all = zero_lines lines; whole = zeros_whole lines; count = zeros_count lines; more = flat_map line_fields (zero_lines lines); is = refl }

none_left : (field : List ℕ) → BeginsLines 0 (field ∷ []) → ⊥
none_left field b = go b.all b.count b.is
  where
    go : (all : List LineState) → length all ≡ 0 → flat_map line_fields all ≡ field ∷ b.more → ⊥
    go [] n e = absurd (cc)
    go (x ∷ xs) n e = absurd (cc)

-- a field of one byte, which is at most 2
record IsTag (field : List ℕ) : Type 0 where
  pub tag : ℕ
  pub few : tag ≤ 2
  pub is : field ≡ tag ∷ []

-- the first of these
first_is : (a b : List ℕ) (r s : List (List ℕ)) → a ∷ r ≡ b ∷ s → b ≡ a
first_is a b r s e = cc

-- a line's first field is its tag
line_tag : (x : LineState) (others : List (List ℕ)) (field : List ℕ) (more : List (List ℕ)) → line_fields x ++ others ≡ field ∷ more → IsTag field
line_tag (Healthy bytes) others field more e = record { tag = 0; few = omega arith; is = first_is _ _ _ _ e }
line_tag (Weak bytes) others field more e = record { tag = 1; few = omega arith; is = first_is _ _ _ _ e }
line_tag Bad others field more e = record { tag = 2; few = omega arith; is = first_is _ _ _ _ e }

first_tag : (lines : ℕ) (field : List ℕ) → BeginsLines (suc lines) (field ∷ []) → IsTag field
first_tag lines field b = go b.all b.count b.is
  where
    go : (all : List LineState) → length all ≡ suc lines → flat_map line_fields all ≡ field ∷ b.more → IsTag field
    go [] n e = absurd (cc)
    go (x ∷ xs) n e = line_tag x (flat_map line_fields xs) field b.more (sym (flat_map-cons line_fields x xs) ∙ e)

-- no such tag is there
no_tag : (lines start : ℕ) (bytes : List ℕ) → ((tag : ℕ) (after : List ℕ) → tag ≤ 2 → bytes ≡ tag ∷ after → ⊥) → WrongLines (suc lines) bytes start start
no_tag lines start bytes none = record {
  fields = [];
  rest = bytes;
  parts = refl;
  here = omega arith;
  begun = begins_nothing (suc lines);
  ended = λ field after e b. let t = first_tag lines field b in none t.tag after t.few (e ∙ ap (λ f. f ++ after) t.is);
}

-- the fields behind a line's
abbrev first_byte : List (List ℕ) → ℕ
first_byte [] = 0
first_byte ([] ∷ fields) = 0
first_byte ((byte ∷ bytes) ∷ fields) = byte

abbrev behind_line : List (List ℕ) → List (List ℕ)
behind_line fields = if first_byte fields == 2 then drop 1 fields else drop 2 fields

behind_fields : (x : LineState) (r : List (List ℕ)) → behind_line (line_fields x ++ r) ≡ r
behind_fields (Healthy bytes) r = refl
behind_fields (Weak bytes) r = refl
behind_fields Bad r = refl

-- a line's fields end by themselves
fields_parts : (x y : LineState) (r s : List (List ℕ)) → line_fields x ++ r ≡ line_fields y ++ s → r ≡ s
fields_parts x y r s e = sym (behind_fields x r) ∙ ap behind_line e ∙ behind_fields y s

begins_later : (lines : ℕ) (line : LineState) (fields : List (List ℕ)) → BeginsLines (suc lines) (line_fields line ++ fields) → BeginsLines lines fields
begins_later lines line fields b = go b.all b.whole b.count b.is
  where
    go : (all : List LineState) → AllByRecursion IsImageLine all → length all ≡ suc lines → flat_map line_fields all ≡ (line_fields line ++ fields) ++ b.more → BeginsLines lines fields
    go [] w n e = absurd (cc)
    go (x ∷ xs) w n e = record {
      all = xs;
      whole = w.1;
      count = cc;
      more = b.more;
      is = fields_parts x line (flat_map line_fields xs) (fields ++ b.more) (sym (flat_map-cons line_fields x xs) ∙ e ∙ append_assoc (line_fields line) fields b.more);
    }

begins_earlier : (lines : ℕ) (line : LineState) (fields : List (List ℕ)) → IsImageLine line → BeginsLines lines fields → BeginsLines (suc lines) (line_fields line ++ fields)
begins_earlier lines line fields whole b = record {
  all = line ∷ b.all;
  whole = (whole, b.whole);
  count = ap suc b.count;
  more = b.more;
  is = flat_map-cons line_fields line b.all ∙ ap (λ t. line_fields line ++ t) b.is ∙ sym (append_assoc (line_fields line) fields b.more);
}

-- a whole line before
one_before : (lines start from offset : ℕ) (line : LineState) (bytes rest : List ℕ) → IsImageLine line → bytes ≡ line_text line ++ rest → from ≡ start + length (line_text line)
    → WrongLines lines rest from offset → WrongLines (suc lines) bytes start offset
one_before lines start from offset line bytes rest whole is after w =
    let text : concat (line_fields line ++ w.fields) ≡ line_text line ++ concat w.fields = concat-append (line_fields line) w.fields ∙ ap (λ t. t ++ concat w.fields) (sym (line_joined line)) in
    record {
      fields = line_fields line ++ w.fields;
      rest = w.rest;
      parts = is ∙ ap (λ t. line_text line ++ t) w.parts ∙ sym (append_assoc (line_text line) (concat w.fields) w.rest) ∙ ap (λ t. t ++ w.rest) (sym text);
      here = omega (arith, w.here, after, ap length text, length-append (line_text line) (concat w.fields));
      begun = begins_earlier lines line w.fields whole w.begun;
      ended = λ field after e b. w.ended field after e (begins_later lines line (w.fields ++ field ∷ []) (subst (BeginsLines (suc lines)) (append_assoc (line_fields line) w.fields (field ∷ [])) b));
    }

-- the field behind the tag has 64 bytes, unless the line is bad
second_is : (t : List ℕ) (a b : List ℕ) (u : List ℕ) (r s : List (List ℕ)) → t ∷ a ∷ r ≡ u ∷ b ∷ s → a ≡ b
second_is t a b u r s e = cc

body_long : (tag : ℕ) (x : LineState) (others : List (List ℕ)) (field : List ℕ) (more : List (List ℕ)) → tag < 2 → IsImageLine x → line_fields x ++ others ≡ (tag ∷ []) ∷ field ∷ more → length field ≡ 64
body_long tag (Healthy bytes) others field more few whole e = ap length (sym (second_is _ _ _ _ _ _ e)) ∙ whole
body_long tag (Weak bytes) others field more few whole e = ap length (sym (second_is _ _ _ _ _ _ e)) ∙ whole
body_long tag Bad others field more few whole e = let same : 2 ≡ tag = ap first_byte e in absurd (omega (arith, same, few))

second_long : (tag lines : ℕ) (field : List ℕ) → tag < 2 → BeginsLines (suc lines) ((tag ∷ []) ∷ field ∷ []) → length field ≡ 64
second_long tag lines field few b = go b.all b.whole b.count b.is
  where
    go : (all : List LineState) → AllByRecursion IsImageLine all → length all ≡ suc lines → flat_map line_fields all ≡ (tag ∷ []) ∷ field ∷ b.more → length field ≡ 64
    go [] w n e = absurd (cc)
    go (x ∷ xs) w n e = body_long tag x (flat_map line_fields xs) field b.more few w.0 (sym (flat_map-cons line_fields x xs) ∙ e)

-- fewer bytes than the tag asks for
cut_short : (tag : ℕ) (make : List ℕ → LineState) (lines start : ℕ) (bytes : List ℕ) → tag < 2 → HasBytes tag make → length bytes < 64 → WrongLines (suc lines) (tag ∷ bytes) start (start + 1)
cut_short tag make lines start bytes few h short = record {
  fields = (tag ∷ []) ∷ [];
  rest = bytes;
  parts = refl;
  here = refl;
  begun = record {
    all = make (replicate 64 0) ∷ zero_lines lines;
    whole = (h.whole (replicate 64 0) refl, zeros_whole lines);
    count = ap suc (zeros_count lines);
    more = replicate 64 0 ∷ flat_map line_fields (zero_lines lines);
    is = flat_map-cons line_fields (make (replicate 64 0)) (zero_lines lines) ∙ ap (λ t. t ++ flat_map line_fields (zero_lines lines)) (h.fields (replicate 64 0));
  };
  ended = λ field after e b. omega (arith, ap length e, length-append field after, second_long tag lines field few b);
}

-- a tag that asks for 64 bytes, and what follows it
asked : (tag : ℕ) (make : List ℕ → LineState) (lines start offset : ℕ) (bytes : List ℕ) → tag < 2 → HasBytes tag make
    → ((rest : List ℕ) (from : ℕ) → wrong_in_lines lines from rest ≡ Some offset → WrongLines lines rest from offset)
    → (if nat_lt (length bytes) 64 then Some (start + 1) else wrong_in_lines lines (start + 1 + 64) (drop 64 bytes)) ≡ Some offset → WrongLines (suc lines) (tag ∷ bytes) start offset
asked tag make lines start offset bytes few h next e = go (nat_lt (length bytes) 64) refl e
  where
    go : (b : Bool) → nat_lt (length bytes) 64 ≡ b → (if b then Some (start + 1) else wrong_in_lines lines (start + 1 + 64) (drop 64 bytes)) ≡ Some offset → WrongLines (suc lines) (tag ∷ bytes) start offset
    go true t e = let same : start + 1 ≡ offset = cc in subst (WrongLines (suc lines) (tag ∷ bytes) start) same (cut_short tag make lines start bytes few h (ltb-true _ _ t))
    go false t e =
        let len : length (take 64 bytes) ≡ 64 = omega (arith, ltb-false _ _ t, length-take 64 bytes) in
        one_before lines start (start + 1 + 64) offset (make (take 64 bytes)) (tag ∷ bytes) (drop 64 bytes) (h.whole (take 64 bytes) len) (line_made tag make bytes h)
        (omega (arith, ap length (h.text (take 64 bytes)), len)) (next (drop 64 bytes) (start + 1 + 64) e)

-- where lines are wrong, the first wrong field begins
pub lines_first : (lines start offset : ℕ) (bytes : List ℕ) → wrong_in_lines lines start bytes ≡ Some offset → WrongLines lines bytes start offset
unfolding wrong_in_lines
lines_first zero start offset [] e = absurd (cc)
lines_first zero start offset (byte ∷ bytes) e =
    let same : start ≡ offset = cc in
    subst (WrongLines 0 (byte ∷ bytes) start) same (record { fields = []; rest = byte ∷ bytes; parts = refl; here = omega arith; begun = begins_nothing 0; ended = λ field after e b. none_left field b })
lines_first (suc lines) start offset [] e =
    let same : start ≡ offset = cc in
    subst (WrongLines (suc lines) [] start) same (no_tag lines start [] (λ tag after few e. absurd (cc)))
lines_first (suc lines) start offset (zero ∷ bytes) e = asked 0 Healthy lines start offset bytes (omega arith) healthy_bytes (λ rest from h. lines_first lines from offset rest h) e
lines_first (suc lines) start offset (suc zero ∷ bytes) e = asked 1 Weak lines start offset bytes (omega arith) weak_bytes (λ rest from h. lines_first lines from offset rest h) e
lines_first (suc lines) start offset (suc (suc zero) ∷ bytes) e =
    one_before lines start (start + 1) offset Bad (2 ∷ bytes) bytes tt refl refl (lines_first lines (start + 1) offset bytes (sym (line_right lines start Bad bytes tt) ∙ e))
lines_first (suc lines) start offset (suc (suc (suc tag)) ∷ bytes) e =
    let same : start ≡ offset = cc in
    subst (WrongLines (suc lines) (suc (suc (suc tag)) ∷ bytes) start) same (no_tag lines start (suc (suc (suc tag)) ∷ bytes) (λ other after few e. let equal : suc (suc (suc tag)) ≡ other = cc in omega (arith, equal, few)))
