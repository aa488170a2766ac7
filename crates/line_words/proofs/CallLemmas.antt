-- A word stored or read through the bytes of its line.
use Rattle.std.proofs.Common.{◌≡◌, ℕ, ◌*◌, ◌/◌, ◌%◌, ◌^◌, ◌<◌, List, [], ◌∷◌, ◌++◌, if◌then◌else◌, refl, sym, ◌∙◌, ap, subst, arith, inl, inr}
use Rattle.std.proofs.lemmas.Bool.{cases_eq}
use Rattle.std.specs.Int.{w64, to_le_bytes}
use Rattle.line_device.specs.Word.{word_over}
use Rattle.line_device.specs.History.{newest, WordWritesBack}
use Rattle.line_device.specs.Medium.{Medium, WritesBack, stored, on_line, word_stored}
use Rattle.line_device.proofs.WriteBackLemmas.{on_line-in, on_line-out}
use Rattle.line_device.proofs.WordLemmas.{word_over-word, reaches-word, reaches-other_word}
use Rattle.line_words.specs.Words.{with_word}
use Rattle.line_words.proofs.FrameLemmas.{with_word-in, with_word-out}

-- the eight bytes of a word, stored at its offset, are one more value of that word alone
stored-word : (m : Medium) (place value p : ℕ) → value < 2 ^ 64 → (stored m (place / 8) (8 * (place % 8)) (to_le_bytes w64 value)).history p ≡ (with_word m place value).history p
stored-word m place value p small =
    let bytes = to_le_bytes w64 value in
    let change = word_stored (8 * (place % 8)) bytes in
    elim (cases_eq (p / 8) (place / 8)) as (λ _. on_line (place / 8) change m.history p ≡ (with_word m place value).history p) [
      | inl on ↦
          elim (cases_eq (p % 8) (place % 8)) as (λ _. on_line (place / 8) change m.history p ≡ (with_word m place value).history p) [
            | inl is ↦
                let same : p ≡ place = omega arith in
                subst (λ q. on_line (place / 8) change m.history q ≡ (with_word m place value).history q) (sym same)
                (on_line-in (place / 8) change m.history place refl
                ∙ ap (λ b. if b then m.history place ++ word_over (8 * (place % 8)) bytes (place % 8) (newest (m.history place)) ∷ [] else m.history place) (reaches-word (place % 8))
                ∙ ap (λ v. m.history place ++ v ∷ []) (word_over-word (place % 8) value (newest (m.history place)) small)
                ∙ sym (with_word-in m place value))
            | inr other ↦
                let out : p ≡ place → ⊥ = λ e. other (ap (λ q. q % 8) e) in
                on_line-in (place / 8) change m.history p on
                ∙ ap (λ b. if b then m.history p ++ word_over (8 * (place % 8)) bytes (p % 8) (newest (m.history p)) ∷ [] else m.history p) (reaches-other_word (place % 8) (p % 8) (λ e. other (sym e)))
                ∙ sym (with_word-out m place value p out)
          ]
      | inr off ↦
          let out : p ≡ place → ⊥ = λ e. off (ap (λ q. q / 8) e) in
          on_line-out (place / 8) change m.history p off ∙ sym (with_word-out m place value p out)
    ]

pub write_back-stored_word : (m new : Medium) (place value : ℕ) (bytes : List ℕ) → value < 2 ^ 64 → bytes ≡ to_le_bytes w64 value → WritesBack (stored m (place / 8) (8 * (place % 8)) bytes) new → WritesBack (with_word m place value) new
write_back-stored_word m new place value bytes small is x = record {
  count = x.count;
  bad = x.bad;
  weak = x.weak;
  word_write_back = λ p.
      subst (λ h. WordWritesBack (m.is_weak (p / 8)) h (new.history p))
      (ap (λ b. (stored m (place / 8) (8 * (place % 8)) b).history p) is ∙ stored-word m place value p small)
      (x.word_write_back p);
}
