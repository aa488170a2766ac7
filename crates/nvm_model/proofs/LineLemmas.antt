-- The bytes that a load gives, as the bytes of the medium.
use Rattle.std.proofs.Common.{◌≡◌, ℕ, ◌+◌, ◌*◌, ◌/◌, ◌%◌, ◌<◌, List, length, get_or, sym, ap, ◌∙◌, arith}
use Rattle.std.specs.Int.{byte_at}
use Rattle.line_device.specs.Word.{word_at}
use Rattle.line_device.specs.History.{newest}
use Rattle.line_device.specs.Medium.{Medium, IsLine}
use Rattle.line_device.proofs.WordLemmas.{byte_at-word_from}
use Rattle.nvm_model.specs.Numbered.{list_from}
use Rattle.nvm_model.specs.Lines.{shown_byte, span_shown}
use Rattle.nvm_model.proofs.NumberedLemmas.{list_from-is}

-- a byte by its word
pub byte_spelled : (bytes : List ℕ) (i : ℕ) → ((k : ℕ) → get_or bytes k 0 < 256) → byte_at (i % 8) (word_at bytes (i / 8)) ≡ get_or bytes i 0
byte_spelled bytes i small =
    let here : 8 * (i / 8) + i % 8 ≡ i = omega arith in
    byte_at-word_from (λ k. get_or bytes (8 * (i / 8) + k) 0) (i % 8) (λ k _. small (8 * (i / 8) + k)) (omega arith) ∙ ap (λ k. get_or bytes k 0) here

-- a whole line
pub line_shown : (m : Medium) (line : ℕ) (bytes : List ℕ) → IsLine m line bytes → ((k : ℕ) → get_or bytes k 0 < 256) → bytes ≡ span_shown m (64 * line) 64
line_shown m line bytes is small = list_from-is (shown_byte m) (64 * line) bytes each ∙ ap (list_from (shown_byte m) (64 * line)) is.length
  where
    each : (k : ℕ) → k < length bytes → get_or bytes k 0 ≡ shown_byte m (64 * line + k)
    each k lt =
        let i : k % 8 ≡ (64 * line + k) % 8 = omega arith in
        let p : 8 * line + k / 8 ≡ (64 * line + k) / 8 = omega arith in
        sym (byte_spelled bytes k small)
        ∙ ap (byte_at (k % 8)) (sym (is.words (k / 8) (omega (arith, is.length))))
        ∙ ap (λ q. byte_at (k % 8) (newest (m.history q))) p
        ∙ ap (λ j. byte_at j (newest (m.history ((64 * line + k) / 8)))) i
