-- Eight bytes that become a word.
use Rattle.std.proofs.Common.{◌≡◌, ℕ, ◌+◌, ◌*◌, List, [], ◌∷◌, get_or, sym, ◌∙◌, ap, add-zero}
use Rattle.std.specs.Int.{w64, to_le_bytes, byte_at}
use Rattle.line_device.specs.Word.{word_at, byte_over, word_over}
use Rattle.line_device.proofs.WordLemmas.{below_eight, word_from-cong}

pub put_eight : (at w old : ℕ) (bytes l : List ℕ) (a b c d e f g h : ℕ) → l ≡ to_le_bytes w64 old
    → a ≡ byte_over at bytes (8 * w) (get_or l 0 0)
    → b ≡ byte_over at bytes (8 * w + 1) (get_or l 1 0)
    → c ≡ byte_over at bytes (8 * w + 2) (get_or l 2 0)
    → d ≡ byte_over at bytes (8 * w + 3) (get_or l 3 0)
    → e ≡ byte_over at bytes (8 * w + 4) (get_or l 4 0)
    → f ≡ byte_over at bytes (8 * w + 5) (get_or l 5 0)
    → g ≡ byte_over at bytes (8 * w + 6) (get_or l 6 0)
    → h ≡ byte_over at bytes (8 * w + 7) (get_or l 7 0)
    → word_at (a ∷ b ∷ c ∷ d ∷ e ∷ f ∷ g ∷ h ∷ []) 0 ≡ word_over at bytes w old
unfolding word_over
put_eight at w old bytes l a b c d e f g h is pa pb pc pd pe pf pg ph =
    let put = a ∷ b ∷ c ∷ d ∷ e ∷ f ∷ g ∷ h ∷ [] in
    let over = λ (k : ℕ). ap (λ m. byte_over at bytes (8 * w + k) (get_or m k 0)) is in
    let zeroth = ap (λ i. byte_over at bytes i (get_or l 0 0)) (sym (add-zero (8 * w))) in
    word_from-cong (λ k. get_or put (8 * 0 + k) 0) (λ k. byte_over at bytes (8 * w + k) (byte_at k old))
    (below_eight (λ k. get_or put (8 * 0 + k) 0 ≡ byte_over at bytes (8 * w + k) (byte_at k old))
    (pa ∙ zeroth ∙ over 0)
    (pb ∙ over 1)
    (pc ∙ over 2)
    (pd ∙ over 3)
    (pe ∙ over 4)
    (pf ∙ over 5)
    (pg ∙ over 6)
    (ph ∙ over 7))
