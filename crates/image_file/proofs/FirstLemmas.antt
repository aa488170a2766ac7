-- Where bytes are wrong, the first wrong field begins.
use Rattle.std.proofs.Common.{◌≡◌, inl, ℕ, ◌+◌, ◌^◌, ◌<◌, ◌≤◌, Bool, true, false, nat_eq, List, [], ◌∷◌, ◌++◌, length, take, drop, replicate, Option, Some, None, refl, sym, ap, subst, ◌∙◌, arith, length-append, length-drop}
use Rattle.std.specs.List.{concat, flat_map, starts_with}
use Rattle.std.proofs.lemmas.List.{take-append-drop, drop-drop}
use Rattle.std.proofs.lemmas.Slice.Eq.{bytes_eq-Decides}
use Rattle.byteorder.specs.Endian.{little_number}
use Rattle.byteorder.specs.Numbers.{little_number-reads_back}
use Rattle.line_device.specs.declared.line.LineState.TheVariants.{Healthy}
use Rattle.image_file.specs.Text.{AreFileBytes, FitImage, IsSnapshot, Snapshot, TakesUnit, image_head, image_magic, image_text, number_text}
use Rattle.image_file.specs.WrongField.{field_number, first_wrong_offset, unit_number}
use Rattle.image_file.specs.declared.Units.{Units}
use Rattle.image_file.specs.Fields.{BeginsImage, IsFirstWrong, image_fields, line_fields}
use Rattle.image_file.proofs.FieldLemmas.{WrongLines, lines_first, lines_joined}
use Rattle.image_file.proofs.HeaderLemmas.{UnitIs, eight_taken, head_read, taken_known, unit_found, unit_is, wrong_by}
use Rattle.image_file.proofs.TextLemmas.{found, unit_back, unit_taken}

-- an image of one line of zeros
abbrev zero_image : Snapshot
zero_image = record { unit = 8; lines = Healthy (replicate 64 0) ∷ [] }

zero_right : IsSnapshot zero_image
zero_right = record { unit = inl refl; count = (omega arith, omega arith); whole = (refl, tt) }

-- the first fields of equal rows
first_same : (a b : List ℕ) (r s : List (List ℕ)) → a ∷ r ≡ b ∷ s → a ≡ b
first_same a b r s e = cc

later_same : (a b : List ℕ) (r s : List (List ℕ)) → a ∷ r ≡ b ∷ s → r ≡ s
later_same a b r s e = cc

wrong_magic : (units : Units) (bytes : List ℕ) → starts_with nat_eq bytes image_magic ≡ false → IsFirstWrong units bytes 0
wrong_magic units bytes magic = record {
  fields = [];
  rest = bytes;
  parts = refl;
  here = refl;
  begun = record { m = zero_image; right = zero_right; taken = eight_taken units; more = image_fields zero_image; is = refl };
  ended = λ field after e b.
      let same : image_magic ≡ field = first_same _ _ _ _ b.is in
      let is : bytes ≡ image_magic ++ after = e ∙ ap (λ f. f ++ after) (sym same) in
      let both : false ≡ true = sym magic ∙ ap (λ t. starts_with nat_eq t image_magic) is in
      absurd (cc);
}

-- a number that stands at an offset and fits is found there
stands : (bytes after : List ℕ) (offset least most n : ℕ) → drop offset bytes ≡ number_text n ++ after → n < 2 ^ 64 → least ≤ n → n ≤ most → field_number bytes offset least most ≡ None → ⊥
stands bytes after offset least most n is small above below none =
    let there : offset + 8 ≤ length bytes = omega (arith, ap length is, length-append (number_text n) after, length-drop offset bytes) in
    let number : little_number 8 (drop offset bytes) ≡ n = ap (little_number 8) is ∙ little_number-reads_back 8 n after small in
    let both : None ≡ Some n = sym none ∙ found bytes offset least most n there number above below in
    absurd (cc)

wrong_unit : (units : Units) (bytes : List ℕ) → take 8 bytes ≡ image_magic → unit_number units bytes ≡ None → IsFirstWrong units bytes 8
wrong_unit units bytes magic none = record {
  fields = image_magic ∷ [];
  rest = drop 8 bytes;
  parts = sym (take-append-drop 8 bytes) ∙ ap (λ t. t ++ drop 8 bytes) magic;
  here = refl;
  begun = record { m = zero_image; right = zero_right; taken = eight_taken units; more = drop 1 (image_fields zero_image); is = refl };
  ended = λ field after e b.
      let same : number_text b.m.unit ≡ field = first_same _ _ _ _ (later_same _ _ _ _ b.is) in
      let is : drop 8 bytes ≡ number_text b.m.unit ++ after = e ∙ ap (λ f. f ++ after) (sym same) in
      let long : 16 ≤ length bytes = omega (arith, ap length is, length-append (number_text b.m.unit) after, length-drop 8 bytes) in
      let number : little_number 8 (drop 8 bytes) ≡ b.m.unit = ap (little_number 8) is ∙ unit_back b.m.unit after b.right.unit in
      let both : None ≡ Some b.m.unit = sym none ∙ unit_taken units bytes b.m.unit long number b.taken in
      absurd (cc);
}

front_is : (units : Units) (bytes : List ℕ) (unit : ℕ) → AreFileBytes bytes → take 8 bytes ≡ image_magic → UnitIs units bytes unit → bytes ≡ image_magic ++ (number_text unit ++ drop 16 bytes)
front_is units bytes unit fit magic u =
    sym (take-append-drop 8 bytes) ∙ ap (λ t. t ++ drop 8 bytes) magic
    ∙ ap (λ t. image_magic ++ t) (sym (take-append-drop 8 (drop 8 bytes)) ∙ ap (λ t. t ++ drop 8 (drop 8 bytes)) (unit_is units bytes unit fit u) ∙ ap (λ t. number_text unit ++ t) (drop-drop 8 8 bytes))

-- an image of one line of zeros, of a unit that is taken
begins_with : (units : Units) (unit : ℕ) → TakesUnit units unit → BeginsImage units (image_magic ∷ number_text unit ∷ [])
begins_with units unit taken = record {
  m = record { unit = unit; lines = Healthy (replicate 64 0) ∷ [] };
  right = record { unit = taken_known units unit taken; count = (omega arith, omega arith); whole = (refl, tt) };
  taken = taken;
  more = drop 2 (image_fields zero_image);
  is = refl;
}

wrong_count : (units : Units) (bytes : List ℕ) (unit : ℕ) → AreFileBytes bytes → take 8 bytes ≡ image_magic → UnitIs units bytes unit → field_number bytes 16 1 118016 ≡ None → IsFirstWrong units bytes 16
wrong_count units bytes unit fit magic u none = record {
  fields = image_magic ∷ number_text unit ∷ [];
  rest = drop 16 bytes;
  parts = front_is units bytes unit fit magic u;
  here = refl;
  begun = begins_with units unit u.taken;
  ended = λ field after e b.
      let count : FitImage (length b.m.lines) = b.right.count in
      let same : number_text (length b.m.lines) ≡ field = first_same _ _ _ _ (later_same _ _ _ _ (later_same _ _ _ _ b.is)) in
      let is : drop 16 bytes ≡ number_text (length b.m.lines) ++ after = e ∙ ap (λ f. f ++ after) (sym same) in
      stands bytes after 16 1 118016 (length b.m.lines) is (omega (arith, count.1)) count.0 count.1 none;
}

counts_same : (j k : ℕ) → j ≤ 118016 → k ≤ 118016 → number_text j ≡ number_text k → j ≡ k
counts_same j k p q e =
    sym (little_number-reads_back 8 j [] (omega (arith, p))) ∙ ap (λ t. little_number 8 (t ++ [])) e ∙ little_number-reads_back 8 k [] (omega (arith, q))

wrong_line : (units : Units) (bytes : List ℕ) (unit count offset : ℕ) → TakesUnit units unit → FitImage count → bytes ≡ image_head unit count ++ drop 24 bytes → WrongLines count (drop 24 bytes) 24 offset → IsFirstWrong units bytes offset
wrong_line units bytes unit count offset taken fit is w = record {
  fields = image_magic ∷ number_text unit ∷ number_text count ∷ w.fields;
  rest = w.rest;
  parts = is ∙ ap (λ t. image_head unit count ++ t) w.parts;
  here = omega (arith, w.here, length-append (image_head unit count) (concat w.fields));
  begun = record {
    m = record { unit = unit; lines = w.begun.all };
    right = record { unit = taken_known units unit taken; count = rw w.begun.count fit; whole = w.begun.whole };
    taken = taken;
    more = w.begun.more;
    is = ap (λ k. image_magic ∷ number_text unit ∷ number_text k ∷ flat_map line_fields w.begun.all) w.begun.count ∙ ap (λ t. image_magic ∷ number_text unit ∷ number_text count ∷ t) w.begun.is;
  };
  ended = λ field after e b.
      let behind = later_same _ _ _ _ (later_same _ _ _ _ b.is) in
      w.ended field after e (record {
        all = b.m.lines;
        whole = b.right.whole;
        count = counts_same (length b.m.lines) count b.right.count.1 fit.1 (first_same _ _ _ _ behind);
        more = b.more;
        is = later_same _ _ _ _ behind;
      });
}

pub wrong_is_first : (units : Units) (bytes : List ℕ) (offset : ℕ) → AreFileBytes bytes → first_wrong_offset units bytes ≡ Some offset → IsFirstWrong units bytes offset
unfolding first_wrong_offset
wrong_is_first units bytes offset fit e = go (starts_with nat_eq bytes image_magic) (unit_number units bytes) (field_number bytes 16 1 118016) refl refl refl e
  where
    begins : starts_with nat_eq bytes image_magic ≡ true → take 8 bytes ≡ image_magic
    begins p = sym ((bytes_eq-Decides image_magic (take 8 bytes)).0 p)

    go : (magic : Bool) (unit lines : Option ℕ) → starts_with nat_eq bytes image_magic ≡ magic → unit_number units bytes ≡ unit → field_number bytes 16 1 118016 ≡ lines
        → wrong_by magic unit lines bytes ≡ Some offset → IsFirstWrong units bytes offset
    go false unit lines p q r e = let same : 0 ≡ offset = cc in subst (IsFirstWrong units bytes) same (wrong_magic units bytes p)
    go true None lines p q r e = let same : 8 ≡ offset = cc in subst (IsFirstWrong units bytes) same (wrong_unit units bytes (begins p) q)
    go true (Some u) None p q r e = let same : 16 ≡ offset = cc in subst (IsFirstWrong units bytes) same (wrong_count units bytes u fit (begins p) (unit_found units bytes u q) r)
    go true (Some u) (Some n) p q r e =
        let read = head_read units bytes u n fit p q r in
        wrong_line units bytes u n offset read.0 read.1 read.3 (lines_first n 24 offset (drop 24 bytes) e)

-- an image's bytes are its fields
pub fields_joined : (m : Snapshot) → image_text m ≡ concat (image_fields m)
unfolding image_text
fields_joined m = ap (λ t. image_head m.unit (length m.lines) ++ t) (lines_joined m.lines)
