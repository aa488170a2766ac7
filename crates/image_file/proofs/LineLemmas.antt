-- Lines one after another.
use Rattle.std.proofs.Common.{◌≡◌, ℕ, zero, suc, ◌+◌, ◌==◌, ◌<◌, ◌≤◌, Bool, true, false, nat_lt, List, [], ◌∷◌, ◌++◌, length, take, drop, Option, Some, None, if◌then◌else◌, refl, sym, ap, ◌∙◌, arith, length-append}
use Rattle.std.specs.List.{flat_map, AllByRecursion}
use Rattle.std.specs.Option.{MatchOption}
use Rattle.std.specs.Borrow.{Bor}
use Rattle.std.proofs.lemmas.Bool.{le-ltb, ltb-false}
use Rattle.std.proofs.lemmas.List.Concat.{flat_map-cons}
use Rattle.std.proofs.lemmas.List.{take_at, drop_at, take-append-drop, length-take, length-drop}
use Rattle.line_device.specs.declared.line.LineState.{LineState}
use Rattle.line_device.specs.declared.line.LineState.TheVariants.{Healthy, Weak, Bad}
use Rattle.image_file.specs.Text.{IsImageLine, line_text}
use Rattle.image_file.specs.WrongField.{wrong_in_lines}
use Rattle.image_file.specs.Fields.{line_fields}

-- so many bytes behind a tag are right
behind_tag : (lines offset len : ℕ) (bytes rest : List ℕ) → length bytes ≡ len → (if nat_lt (length (bytes ++ rest)) len then Some (offset + 1) else wrong_in_lines lines (offset + 1 + len) (drop len (bytes ++ rest))) ≡ wrong_in_lines lines (offset + suc (length bytes)) rest
behind_tag lines offset len bytes rest is =
    let long : nat_lt (length (bytes ++ rest)) len ≡ false = le-ltb _ _ (omega (arith, is, length-append bytes rest)) in
    let next : offset + 1 + len ≡ offset + suc (length bytes) = omega (arith, is) in
    rw (long, drop_at bytes rest len is, next) refl

-- a whole line is right
pub line_right : (lines offset : ℕ) (line : LineState) (rest : List ℕ) → IsImageLine line → wrong_in_lines (suc lines) offset (line_text line ++ rest) ≡ wrong_in_lines lines (offset + length (line_text line)) rest
unfolding wrong_in_lines
line_right lines offset (Healthy bytes) rest len = behind_tag lines offset 64 bytes rest len
line_right lines offset (Weak bytes) rest len = behind_tag lines offset 64 bytes rest len
line_right lines offset Bad rest whole = behind_tag lines offset 0 [] rest refl

-- whole lines and nothing else are right
pub lines_right : (offset : ℕ) (lines : List LineState) → AllByRecursion IsImageLine lines → wrong_in_lines (length lines) offset (flat_map line_text lines) ≡ None
unfolding wrong_in_lines
lines_right offset [] whole = refl
lines_right offset (line ∷ lines) whole =
    ap (wrong_in_lines (suc (length lines)) offset) (flat_map-cons line_text line lines) ∙ line_right (length lines) offset line (flat_map line_text lines) whole.0 ∙ lines_right (offset + length (line_text line)) lines whole.1

-- the line at the front of bytes that begin with one, and what follows it
abbrev by_tag : Bool → Bool → List ℕ → LineState × List ℕ
by_tag healthy weak bytes =
    if healthy then (Healthy (take 64 bytes), drop 64 bytes) else (if weak then (Weak (take 64 bytes), drop 64 bytes) else (Bad, bytes))

abbrev front_line : List ℕ → LineState × List ℕ
front_line [] = (Bad, [])
front_line (tag ∷ bytes) = by_tag (tag == 0) (tag == 1) bytes

front_again : (x : LineState) (r : List ℕ) → IsImageLine x → front_line (line_text x ++ r) ≡ (x, r)
front_again (Healthy a) r len = ap (λ b. (Healthy b, drop 64 (a ++ r))) (take_at a r 64 len) ∙ ap (λ s. (Healthy a, s)) (drop_at a r 64 len)
front_again (Weak a) r len = ap (λ b. (Weak b, drop 64 (a ++ r))) (take_at a r 64 len) ∙ ap (λ s. (Weak a, s)) (drop_at a r 64 len)
front_again Bad r whole = refl

-- a line ends by itself: no line's text begins another's
line_parts : (x y : LineState) (r s : List ℕ) → IsImageLine x → IsImageLine y → line_text x ++ r ≡ line_text y ++ s → (x ≡ y) × (r ≡ s)
line_parts x y r s p q e =
    let same = sym (front_again x r p) ∙ ap front_line e ∙ front_again y s q in
    (ap (λ f. f.0) same, ap (λ f. f.1) same)

line_some : (x : LineState) (r : List ℕ) → line_text x ++ r ≡ [] → ⊥
line_some (Healthy a) r e = absurd (cc)
line_some (Weak a) r e = absurd (cc)
line_some Bad r e = absurd (cc)

pub lines_same : (a b : List LineState) → AllByRecursion IsImageLine a → AllByRecursion IsImageLine b → flat_map line_text a ≡ flat_map line_text b → a ≡ b
lines_same [] [] p q e = refl
lines_same [] (y ∷ b) p q e = absurd (line_some y (flat_map line_text b) (sym (e ∙ flat_map-cons line_text y b)))
lines_same (x ∷ a) [] p q e = absurd (line_some x (flat_map line_text a) (sym (flat_map-cons line_text x a) ∙ e))
lines_same (x ∷ a) (y ∷ b) p q e =
    let same = line_parts x y (flat_map line_text a) (flat_map line_text b) p.0 q.0 (sym (flat_map-cons line_text x a) ∙ e ∙ flat_map-cons line_text y b) in
    let others : a ≡ b = lines_same a b p.1 q.1 same.1 in
    ap (λ l. l ∷ a) same.0 ∙ ap (λ ls. y ∷ ls) others

-- bytes of which nothing is wrong are so many whole lines
pub record Lined (lines : ℕ) (bytes : List ℕ) : Type 0 where
  pub all : List LineState
  pub whole : AllByRecursion IsImageLine all
  pub count : length all ≡ lines
  pub is : bytes ≡ flat_map line_text all

lined_more : (line : LineState) (lines : ℕ) (bytes rest : List ℕ) → IsImageLine line → bytes ≡ line_text line ++ rest → Lined lines rest → Lined (suc lines) bytes
lined_more line lines bytes rest whole is l = record {
  all = line ∷ l.all;
  whole = (whole, l.whole);
  count = ap suc l.count;
  is = is ∙ ap (λ t. line_text line ++ t) l.is ∙ sym (flat_map-cons line_text line l.all);
}

-- lines of this tag are made of 64 bytes
pub record HasBytes (tag : ℕ) (make : List ℕ → LineState) : Type 0 where
  pub text : (bytes : List ℕ) → line_text (make bytes) ≡ tag ∷ bytes
  pub fields : (bytes : List ℕ) → line_fields (make bytes) ≡ (tag ∷ []) ∷ bytes ∷ []
  pub whole : (bytes : List ℕ) → length bytes ≡ 64 → IsImageLine (make bytes)

pub healthy_bytes : HasBytes 0 Healthy
healthy_bytes = record { text = λ bytes. refl; fields = λ bytes. refl; whole = λ bytes len. len }

pub weak_bytes : HasBytes 1 Weak
weak_bytes = record { text = λ bytes. refl; fields = λ bytes. refl; whole = λ bytes len. len }

-- the 64 bytes behind a tag are a line's
pub line_made : (tag : ℕ) (make : List ℕ → LineState) (bytes : List ℕ) → HasBytes tag make → tag ∷ bytes ≡ line_text (make (take 64 bytes)) ++ drop 64 bytes
line_made tag make bytes h = ap (λ b. tag ∷ b) (sym (take-append-drop 64 bytes)) ∙ ap (λ t. t ++ drop 64 bytes) (sym (h.text (take 64 bytes)))

-- the 64 bytes behind a tag, and the lines after them
lined_behind : (tag : ℕ) (make : List ℕ → LineState) (lines offset : ℕ) (bytes : List ℕ) → HasBytes tag make → ((rest : List ℕ) (at : ℕ) → wrong_in_lines lines at rest ≡ None → Lined lines rest)
    → (if nat_lt (length bytes) 64 then Some (offset + 1) else wrong_in_lines lines (offset + 1 + 64) (drop 64 bytes)) ≡ None → Lined (suc lines) (tag ∷ bytes)
lined_behind tag make lines offset bytes h next e = go (nat_lt (length bytes) 64) refl e
  where
    go : (b : Bool) → nat_lt (length bytes) 64 ≡ b → (if b then Some (offset + 1) else wrong_in_lines lines (offset + 1 + 64) (drop 64 bytes)) ≡ None → Lined (suc lines) (tag ∷ bytes)
    go true t e = absurd (cc)
    go false t e =
        let long : 64 ≤ length bytes = ltb-false _ _ t in
        lined_more (make (take 64 bytes)) lines (tag ∷ bytes) (drop 64 bytes) (h.whole (take 64 bytes) (omega (arith, length-take 64 bytes))) (line_made tag make bytes h) (next (drop 64 bytes) (offset + 1 + 64) e)

pub lines_lined : (lines offset : ℕ) (bytes : List ℕ) → wrong_in_lines lines offset bytes ≡ None → Lined lines bytes
unfolding wrong_in_lines
lines_lined zero offset [] e = record { all = []; whole = tt; count = refl; is = refl }
lines_lined zero offset (byte ∷ bytes) e = absurd (cc)
lines_lined (suc lines) offset [] e = absurd (cc)
lines_lined (suc lines) offset (zero ∷ bytes) e = lined_behind 0 Healthy lines offset bytes healthy_bytes (λ rest at h. lines_lined lines at rest h) e
lines_lined (suc lines) offset (suc zero ∷ bytes) e = lined_behind 1 Weak lines offset bytes weak_bytes (λ rest at h. lines_lined lines at rest h) e
lines_lined (suc lines) offset (suc (suc zero) ∷ bytes) e =
    lined_more Bad lines (2 ∷ bytes) bytes tt refl (lines_lined lines (offset + 1) bytes (sym (line_right lines offset Bad bytes tt) ∙ e))
lines_lined (suc lines) offset (suc (suc (suc tag)) ∷ bytes) e = absurd (cc)

-- the first 64 bytes
pub front_taken : (bytes : List ℕ) (o : Option (Bor (List ℕ) × Bor (List ℕ))) → MatchOption o (length bytes < 64) (λ p. (p.0.now ≡ take 64 bytes) × (p.1.now ≡ drop 64 bytes) × (length p.1.now + 64 ≡ length bytes))
    → MatchOption o (length bytes < 64) (λ p. (bytes ≡ p.0.now ++ p.1.now) × (length p.0.now ≡ 64))
front_taken bytes None h = h
front_taken bytes (Some p) h = (rw (h.0, h.1) (sym (take-append-drop 64 bytes)), rw h.0 (omega (arith, length-take 64 bytes, h.2, ap length h.1, length-drop 64 bytes)))
