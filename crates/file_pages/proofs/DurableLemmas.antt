-- A line whose bytes were all stored and then made durable, as a cell.
use Rattle.std.proofs.Common.{◌≡◌, ℕ, ◌+◌, ◌*◌, ◌-◌, ◌/◌, ◌%◌, ◌<◌, false, List, [], ◌∷◌, ◌++◌, Result, Ok, Err, MatchResult, OnOk, length, get_or, if◌then◌else◌, refl, sym, ap, subst, ◌∙◌, arith}
use Rattle.std.proofs.lemmas.Option.{same_Some, slice_get_within}
use Rattle.line_device.specs.History.{WordWritesBack, latest, newest}
use Rattle.line_device.specs.Medium.{Medium, WritesBack, flushed, stored, word_stored}
use Rattle.line_device.specs.Word.{word_at, word_over}
use Rattle.line_device.proofs.WordLemmas.{reaches-in, word_from-cong, word_over-whole}
use Rattle.line_device.proofs.WriteBackLemmas.{on_line-in}
use Rattle.line_words.specs.Words.{IsGoodLine}
use Rattle.nvm_model.specs.Cell.{CellStands}
use Rattle.nvm_model.specs.Numbered.{list_from}
use Rattle.nvm_model.proofs.NumberedLemmas.{length-list_from, slice_get-list_from}
use Rattle.nvm_model.proofs.StandLemmas.{word_write_back-strong}
use Rattle.file_pages.specs.Fresh.{durable_cell}

latest-pushed : (h : List ℕ) (v : ℕ) → latest (h ++ v ∷ []) ≡ v ∷ []
latest-pushed [] v = refl
latest-pushed (x ∷ []) v = refl
latest-pushed (x ∷ y ∷ h) v = latest-pushed (y ∷ h) v

-- a word of a line whose bytes were all stored
latest-line : (m new : Medium) (line w : ℕ) (bytes : List ℕ) → length bytes ≡ 64 → w < 8 → WritesBack (stored m line 0 bytes) new → latest (new.history (8 * line + w)) ≡ word_at bytes w ∷ []
latest-line m new line w bytes whole below x =
    let p : ℕ = 8 * line + w in
    let on : p / 8 ≡ line = omega (arith, below) in
    let at : p % 8 ≡ w = omega (arith, below) in
    let old : ℕ = newest (m.history p) in
    (x.word_write_back p).last
    ∙ ap latest (on_line-in line (word_stored 0 bytes) m.history p on)
    ∙ ap (λ v. latest (word_stored 0 bytes v (m.history p))) at
    ∙ ap (λ b. latest (if b then m.history p ++ word_over 0 bytes w old ∷ [] else m.history p)) (reaches-in 0 (length bytes) w (omega (arith, whole, below)) (omega (arith, whole, below)))
    ∙ latest-pushed (m.history p) (word_over 0 bytes w old)
    ∙ ap (λ v. v ∷ [])
    (word_over-whole 0 w old bytes (omega arith) (omega (arith, whole, below))
    ∙ word_from-cong (λ k. get_or bytes (8 * w + k - 0) 0) (λ k. get_or bytes (8 * w + k) 0) (λ k _. let same : 8 * w + k - 0 ≡ 8 * w + k = omega arith in ap (λ i. get_or bytes i 0) same))

stands-persisted : (a b c : Medium) (line : ℕ) (bytes : List ℕ) → IsGoodLine a line → length bytes ≡ 64 → WritesBack (stored a line 0 bytes) b → WritesBack (flushed b line) c → CellStands c line (durable_cell bytes)
stands-persisted a b c line bytes good whole x y = (
  y.bad line ∙ x.bad line ∙ good.healthy.1,
  y.weak line ∙ x.weak line ∙ good.strong,
  length-list_from (λ w. word_at bytes w ∷ []) 0 8,
  λ w history is.
      let words : List (List ℕ) = list_from (λ w. word_at bytes w ∷ []) 0 8 in
      let below : w < 8 = omega (arith, slice_get_within words w history is, length-list_from (λ w. word_at bytes w ∷ []) 0 8) in
      let e : 0 + w ≡ w = omega arith in
      let here : word_at bytes w ∷ [] ≡ history = ap (λ v. word_at bytes v ∷ []) (sym e) ∙ same_Some _ _ (sym (slice_get-list_from (λ v. word_at bytes v ∷ []) 0 8 w below) ∙ is) in
      let p : ℕ = 8 * line + w in
      let on : p / 8 ≡ line = omega (arith, below) in
      subst (λ h. WordWritesBack false h (c.history p)) (on_line-in line (λ _ old. latest old) b.history p on ∙ latest-line a b line w bytes whole below x ∙ here)
      (word_write_back-strong (b.is_weak (p / 8)) _ _ (y.word_write_back p)),
)

pub stands-persist : {A E : Type 0} (r : Result A E) (a b c : Medium) (line : ℕ) (bytes : List ℕ) → IsGoodLine a line → length bytes ≡ 64 → WritesBack (stored a line 0 bytes) b
    → MatchResult r (λ _. WritesBack (flushed b line) c) (λ _. WritesBack b c) → OnOk r (CellStands c line (durable_cell bytes))
stands-persist (Ok x) a b c line bytes good whole before y = stands-persisted a b c line bytes good whole before y
stands-persist (Err e) a b c line bytes good whole before y = tt
