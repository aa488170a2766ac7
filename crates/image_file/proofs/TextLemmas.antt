-- Whole images.
use Rattle.std.proofs.Common.{◌≡◌, inl, inr, ℕ, ◌+◌, ◌^◌, ◌<◌, ◌≤◌, ◌&&◌, true, false, nat_le, if◌then◌else◌, List, [], ◌++◌, length, drop, Some, None, Result, Ok, Err, refl, sym, ap, subst, ◌∙◌, arith, length-append}
use Rattle.std.specs.List.{AllByRecursion, flat_map}
use Rattle.std.proofs.lemmas.Bool.{le-leb, lt-leb}
use Rattle.byteorder.specs.Endian.{little_number}
use Rattle.byteorder.specs.Numbers.{little_number-reads_back}
use Rattle.line_device.specs.Panel.{IsUnit}
use Rattle.line_device.specs.declared.line.LineState.{LineState}
use Rattle.image_file.specs.Text.{FitImage, IsImageLine, IsSnapshot, Snapshot, TakesUnit, image_head, image_magic, image_text, line_text, number_text, snapshot_of}
use Rattle.image_file.specs.WrongField.{field_number, first_wrong_offset, unit_number, wrong_in_lines}
use Rattle.image_file.specs.declared.Units.{Units}
use Rattle.image_file.specs.declared.Units.TheVariants.{Words, All}
use Rattle.nvm_base.specs.Stock.{Stock}
use Rattle.image_file.specs.declared.Image.{Image}
use Rattle.image_file.specs.declared.fault.ImageFault.{ImageFault}
use Rattle.image_file.specs.declared.fault.ImageFault.TheVariants as faults
use Rattle.image_file.specs.Results.{GivesImage, ReadsHead, ReadsImage, ReadsLines}
use Rattle.image_file.proofs.LineLemmas.{lines_right, lines_same}
use Rattle.image_file.proofs.HeaderLemmas.{taken_known}

-- the number at an offset is there and within the bounds
pub found : (bytes : List ℕ) (offset least most n : ℕ) → offset + 8 ≤ length bytes → little_number 8 (drop offset bytes) ≡ n → least ≤ n → n ≤ most → field_number bytes offset least most ≡ Some n
found bytes offset least most n there is above below =
    rw (is, le-leb _ _ there, le-leb _ _ above, le-leb _ _ below) refl

-- a number below the bounds is not found
pub not_found : (bytes : List ℕ) (offset least most n : ℕ) → little_number 8 (drop offset bytes) ≡ n → n < least → field_number bytes offset least most ≡ None
not_found bytes offset least most n is below = elim (nat_le (offset + 8) (length bytes)) as (λ b. (if b && nat_le least (little_number 8 (drop offset bytes)) && nat_le (little_number 8 (drop offset bytes)) most then Some (little_number 8 (drop offset bytes)) else None) ≡ None) [
  | true ↦ rw (is, lt-leb _ _ below) refl
  | false ↦ refl
]

-- a unit that is taken, in the second eight bytes
pub unit_taken : (units : Units) (bytes : List ℕ) (unit : ℕ) → 16 ≤ length bytes → little_number 8 (drop 8 bytes) ≡ unit → TakesUnit units unit → unit_number units bytes ≡ Some unit
unit_taken Words bytes unit there is taken = found bytes 8 8 8 unit there is (omega (arith, taken)) (omega (arith, taken))
unit_taken All bytes unit there is (inl word) = rw (found bytes 8 8 8 unit there is (omega (arith, word)) (omega (arith, word))) refl
unit_taken All bytes unit there is (inr byte) = rw (not_found bytes 8 8 8 unit is (omega (arith, byte)), found bytes 8 1 1 unit there is (omega (arith, byte)) (omega (arith, byte))) refl

head_long : (unit lines : ℕ) (rest : List ℕ) → 24 ≤ length (image_head unit lines ++ rest)
head_long unit lines rest = omega (arith, length-append (image_head unit lines) rest)

unit_small : (unit : ℕ) → IsUnit unit → unit < 2 ^ 64
unit_small unit (inl word) = omega (arith, word)
unit_small unit (inr byte) = omega (arith, byte)

pub unit_back : (unit : ℕ) (rest : List ℕ) → IsUnit unit → little_number 8 (number_text unit ++ rest) ≡ unit
unit_back unit rest known = little_number-reads_back 8 unit rest (unit_small unit known)

count_back : (unit lines : ℕ) (rest : List ℕ) → lines ≤ 118016 → little_number 8 (drop 16 (image_head unit lines ++ rest)) ≡ lines
count_back unit lines rest few = little_number-reads_back 8 lines rest (omega arith)

-- behind a right header only lines can be wrong
head_right : (units : Units) (unit lines : ℕ) (rest : List ℕ) → IsUnit unit → TakesUnit units unit → FitImage lines → first_wrong_offset units (image_head unit lines ++ rest) ≡ wrong_in_lines lines 24 rest
unfolding first_wrong_offset
head_right units unit lines rest known taken fit =
    let bytes = image_head unit lines ++ rest in
    let long = head_long unit lines rest in
    let e8 : unit_number units bytes ≡ Some unit = unit_taken units bytes unit (omega (arith, long)) (unit_back unit (number_text lines ++ rest) known) taken in
    let e16 : field_number bytes 16 1 118016 ≡ Some lines = found bytes 16 1 118016 lines (omega (arith, long)) (count_back unit lines rest fit.1) fit.0 fit.1 in
    rw (e8, e16) refl

pub snapshot_right : (units : Units) (m : Snapshot) → IsSnapshot m → TakesUnit units m.unit → first_wrong_offset units (image_text m) ≡ None
unfolding image_text
snapshot_right units m right taken =
    head_right units m.unit (length m.lines) (flat_map line_text m.lines) right.unit taken right.count ∙ lines_right 24 m.lines right.whole

-- an image's bytes tell it
pub snapshots_same : (m n : Snapshot) → IsSnapshot m → IsSnapshot n → image_text m ≡ image_text n → m ≡ n
unfolding image_text
snapshots_same m n p q e =
    let after = number_text (length m.lines) ++ flat_map line_text m.lines in
    let others = number_text (length n.lines) ++ flat_map line_text n.lines in
    let unit : m.unit ≡ n.unit = sym (unit_back m.unit after p.unit) ∙ ap (λ t. little_number 8 (drop 8 t)) e ∙ unit_back n.unit others q.unit in
    let body : flat_map line_text m.lines ≡ flat_map line_text n.lines = ap (drop 24) e in
    let lines : m.lines ≡ n.lines = lines_same m.lines n.lines p.whole q.whole body in
    ap (λ u. record { unit = u; lines = m.lines }) unit ∙ ap (λ ls. record { unit = n.unit; lines = ls }) lines

-- a header and its lines are an image
pub whole_read : (units : Units) (bytes : List ℕ) (unit count : ℕ) (lines : Stock LineState) → ReadsHead units bytes (Ok (unit, count)) → ReadsLines count bytes (Ok lines) → ReadsImage units bytes (Ok (record { unit = unit; lines = lines }))
unfolding image_text
whole_read units bytes unit count lines h l = (
  record { unit = taken_known units unit h.0; count = rw l.1 h.1; whole = l.2 },
  h.0,
  h.3 ∙ ap (λ t. image_head unit count ++ t) l.0 ∙ ap (λ k. image_head unit k ++ flat_map line_text lines.items) (sym l.1),
)

-- what is wrong with the lines is wrong with the file
pub lines_wrong : (units : Units) (bytes : List ℕ) (unit count : ℕ) (fault : ImageFault) → ReadsHead units bytes (Ok (unit, count)) → ReadsLines count bytes (Err fault) → ReadsImage units bytes (Err fault)
lines_wrong units bytes unit count (faults.Bad offset) h l = h.4 ∙ l
lines_wrong units bytes unit count faults.Memory h l = tt

-- where the bytes are an image's, nothing else is read
pub image_only : (units : Units) (bytes : List ℕ) (r : Result Image ImageFault) → ReadsImage units bytes r → (m : Snapshot) → IsSnapshot m → TakesUnit units m.unit → bytes ≡ image_text m → GivesImage m r
image_only units bytes (Ok image) h m right taken is = snapshots_same (snapshot_of image) m h.0 right (sym h.2 ∙ is)
image_only units bytes (Err (faults.Bad offset)) h m right taken is =
    let none : None ≡ Some offset = sym (snapshot_right units m right taken) ∙ ap (first_wrong_offset units) (sym is) ∙ h in absurd (cc)
image_only units bytes (Err faults.Memory) h m right taken is = tt

-- lines that are an image's, so many, and the unit
pub snapshot_allowed : (m : Snapshot) (lines : List LineState) → IsUnit m.unit → FitImage (length m.lines) → lines ≡ m.lines → AllByRecursion IsImageLine lines → IsSnapshot m
snapshot_allowed m lines unit fit same whole = record { unit = unit; count = fit; whole = subst (AllByRecursion IsImageLine) same whole }

-- the fields one after another
pub written : (m : Snapshot) (none magic unit count out : List ℕ) (n : ℕ) (lines : List LineState) → none ≡ [] → magic ≡ none ++ image_magic → unit ≡ magic ++ number_text m.unit → n ≡ length m.lines → count ≡ unit ++ number_text n
    → lines ≡ m.lines → out ≡ count ++ flat_map line_text lines → out ≡ image_text m
unfolding image_text
written m none magic unit count out n lines e0 e1 e2 en e3 el e4 =
    e4 ∙ ap (λ ls. count ++ flat_map line_text ls) el
    ∙ ap (λ t. t ++ flat_map line_text m.lines) (e3 ∙ ap (λ k. unit ++ number_text k) en ∙ ap (λ t. t ++ number_text (length m.lines)) (e2 ∙ ap (λ t. t ++ number_text m.unit) (e1 ∙ ap (λ t. t ++ image_magic) e0)))
