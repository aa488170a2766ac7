-- Bytes of a line that a load lent, as bytes of a span.
use Rattle.std.proofs.Common.{◌≡◌, ℕ, ◌+◌, ◌*◌, ◌/◌, ◌%◌, ◌<◌, ◌≤◌, List, length, get_or, take, drop, sym, ap, ◌∙◌, arith, length-take, length-drop, replicate, Option, Some, None, zero, suc, ◌∷◌, refl}
use Rattle.std.proofs.lemmas.List.{get_or-take, get_or-drop}
use Rattle.std.specs.Int.{byte_at}
use Rattle.line_device.specs.History.{newest}
use Rattle.line_device.specs.Medium.{Medium, IsLine, WritesBack}
use Rattle.line_device.proofs.WordLemmas.{byte_at-word_from}
use Rattle.line_device.proofs.WriteBackLemmas.{newest-write_back}
use Rattle.nvm_model.specs.Numbered.{list_from}
use Rattle.page_lines.specs.Shown.{byte_in_line, byte_on, placed_byte}
use Rattle.nvm_model.specs.Lines.{shown_byte}
use Rattle.nvm_model.proofs.NumberedLemmas.{list_from-is, list_from-same}

-- bytes that spell words, one by one
pub byte_in_line-is : (bytes : List ℕ) (i : ℕ) → ((k : ℕ) → get_or bytes k 0 < 256) → get_or bytes i 0 ≡ byte_in_line bytes i
byte_in_line-is bytes i small =
    sym (byte_at-word_from (λ k. get_or bytes (8 * (i / 8) + k) 0) (i % 8) (λ k _. small (8 * (i / 8) + k)) (omega arith) ∙ ap (λ k. get_or bytes k 0) here)
  where
    here : 8 * (i / 8) + i % 8 ≡ i
    here = omega arith

-- a stretch of them
pub list_from-line : (bytes : List ℕ) (start len : ℕ) → start + len ≤ length bytes → ((k : ℕ) → get_or bytes k 0 < 256)
    → take len (drop start bytes) ≡ list_from (byte_in_line bytes) start len
list_from-line bytes start len fits small = list_from-is (byte_in_line bytes) start _ each ∙ ap (list_from (byte_in_line bytes) start) size
  where
    size : length (take len (drop start bytes)) ≡ len
    size = omega (arith, length-take {A = ℕ}, length-drop {A = ℕ})

    each : (k : ℕ) → k < length (take len (drop start bytes)) → get_or (take len (drop start bytes)) k 0 ≡ byte_in_line bytes (start + k)
    each k lt = get_or-take len (drop start bytes) k 0 (omega (arith, size)) ∙ get_or-drop start bytes k 0 ∙ byte_in_line-is bytes (start + k) small

-- bytes of a line as those of the device
pub device-line : (m : Medium) (line start len : ℕ) (bytes : List ℕ) → IsLine m line bytes → start + len ≤ 64
    → list_from (byte_in_line bytes) start len ≡ list_from (shown_byte m) (64 * line + start) len
device-line m line start len bytes is fits = list_from-same (byte_in_line bytes) (shown_byte m) start (64 * line + start) len each
  where
    each : (k : ℕ) → k < len → byte_in_line bytes (start + k) ≡ shown_byte m (64 * line + start + k)
    each k lt =
        let i : (start + k) % 8 ≡ (64 * line + start + k) % 8 = omega arith in
        let p : 8 * line + (start + k) / 8 ≡ (64 * line + start + k) / 8 = omega arith in
        ap (byte_at ((start + k) % 8)) (sym (is.words ((start + k) / 8) (omega (arith, lt, fits))))
        ∙ ap (λ q. byte_at ((start + k) % 8) (newest (m.history q))) p
        ∙ ap (λ j. byte_at j (newest (m.history ((64 * line + start + k) / 8)))) i

-- those of a line of the storage
pub placed-line : (place : ℕ → Option ℕ) (m : Medium) (start len line : ℕ) → place (start / 64) ≡ Some line → start % 64 + len ≤ 64
    → list_from (shown_byte m) (64 * line + start % 64) len ≡ list_from (placed_byte place m) start len
placed-line place m start len line is fits = list_from-same (shown_byte m) (placed_byte place m) (64 * line + start % 64) start len each
  where
    each : (k : ℕ) → k < len → shown_byte m (64 * line + start % 64 + k) ≡ placed_byte place m (start + k)
    each k lt =
        let n : start / 64 ≡ (start + k) / 64 = omega (arith, lt, fits) in
        let i : 64 * line + start % 64 + k ≡ 64 * line + (start + k) % 64 = omega (arith, lt, fits) in
        ap (shown_byte m) i ∙ sym (ap (byte_on m (start + k)) (ap place (sym n) ∙ is))

list_from-zeros : (f : ℕ → ℕ) (start len : ℕ) → ((k : ℕ) → start ≤ k → k < start + len → f k ≡ 0) → replicate len 0 ≡ list_from f start len
list_from-zeros f start zero none = refl
list_from-zeros f start (suc len) none =
    ap (λ x. x ∷ replicate len 0) (sym (none start (omega arith) (omega arith)))
    ∙ ap (λ xs. f start ∷ xs) (list_from-zeros f (suc start) len (λ k from below. none k (omega (arith, from)) (omega (arith, below))))

pub placed-nowhere : (place : ℕ → Option ℕ) (m : Medium) (start len : ℕ) → place (start / 64) ≡ None → start % 64 + len ≤ 64
    → replicate len 0 ≡ list_from (placed_byte place m) start len
placed-nowhere place m start len is fits =
    list_from-zeros (placed_byte place m) start len (λ k from below.
    let n : k / 64 ≡ start / 64 = omega (arith, from, below, fits) in
    ap (byte_on m k) (ap place n ∙ is))

byte_on-write_back : (a b : Medium) (i : ℕ) (at : Option ℕ) → WritesBack a b → byte_on b i at ≡ byte_on a i at
byte_on-write_back a b i None w = refl
byte_on-write_back a b i (Some line) w = ap (byte_at ((64 * line + i % 64) % 8)) (newest-write_back a b w ((64 * line + i % 64) / 8))

pub placed-write_back : (place : ℕ → Option ℕ) (a b : Medium) (start len : ℕ) → WritesBack a b → list_from (placed_byte place b) start len ≡ list_from (placed_byte place a) start len
placed-write_back place a b start len w =
    list_from-same (placed_byte place b) (placed_byte place a) start start len (λ k lt. byte_on-write_back a b (start + k) (place ((start + k) / 64)) w)

-- bytes of one line, which lies at the same line of the device
pub placed-same : (a b : ℕ → Option ℕ) (m : Medium) (n start len : ℕ) → a n ≡ b n → start / 64 ≡ n → start % 64 + len ≤ 64
    → list_from (placed_byte a m) start len ≡ list_from (placed_byte b m) start len
placed-same a b m n start len same here fits =
    list_from-same (placed_byte a m) (placed_byte b m) start start len (λ k lt.
    let on : (start + k) / 64 ≡ n = omega (arith, here, lt, fits) in
    ap (byte_on m (start + k)) (ap a on ∙ same ∙ sym (ap b on)))
