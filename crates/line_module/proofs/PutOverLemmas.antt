-- Bytes that are put over a line: what its words have then, and that what is held stays right.
use Rattle.std.proofs.Common.{◌≡◌, ◌⊎◌, inl, inr, ℕ, Bool, true, false, not, ◌+◌, ◌*◌, ◌/◌, ◌<◌, ◌≤◌, ◌||◌, List, [], ◌∷◌, ◌++◌, length, get_or, set, take, drop, nat_lt, if◌then◌else◌, refl, sym, ◌∙◌, ap, arith}
use Rattle.std.specs.Prelude.{Option, Some, slice_get}
use Rattle.std.proofs.lemmas.List.{length-set}
use Rattle.line_device.specs.Word.{word_at, word_over, reaches, IsPut}
use Rattle.line_device.specs.History.{newest}
use Rattle.line_device.specs.Medium.{IsLine}
use Rattle.line_device.proofs.HistoryLemmas.{newest-push}
use Rattle.line_device.proofs.WordLemmas.{word_at-over, word_at-cong, byte_over-out, reaches-in, reaches-false}
use Rattle.line_module.specs.Memory.{has, one_more, word_put}
use Rattle.line_module.specs.Chains.{after_durable, is_more, is_dirty, is_weak_state, is_listed, grown_word}
use Rattle.line_module.specs.Held.{history_in, lines_in}
use Rattle.line_module.specs.Keeps.{KeepsLines}
use Rattle.line_module.specs.declared.state.State.{State}
use Rattle.line_module.proofs.WordsLemmas.{true_is_not_false, any_below-at}
use Rattle.line_module.proofs.ChainLemmas.{slice_get-set_same, slice_get-set_other, grown_word-in, grown_word-out}
use Rattle.line_module.proofs.OrderLemmas.{has-push_same, has-push_other}
use Rattle.line_module.proofs.HeldLemmas.{Line, history-line, weak-unlisted}
use Rattle.line_module.proofs.ChangeLemmas.{keeps_lines-but, keeps_line-moved}

-- a history with one value more has the first of it, some of the others, and then that one
one_more-is : (first : ℕ) (h : List ℕ) (v : ℕ) → (t : List ℕ) × (one_more (first ∷ h) v ≡ first ∷ (t ++ v ∷ []))
one_more-is first h v = decide (nat_lt (length (first ∷ h)) 16)
  where
    decide : (b : Bool) → (t : List ℕ) × ((if b then (first ∷ h) ++ v ∷ [] else take 1 (first ∷ h) ++ drop 2 (first ∷ h) ++ v ∷ []) ≡ first ∷ (t ++ v ∷ []))
    decide true = (h, refl)
    decide false = (drop 2 (first ∷ h), refl)

pub newest-one_more : (first : ℕ) (h : List ℕ) (v : ℕ) → newest (one_more (first ∷ h) v) ≡ v
newest-one_more first h v = let is = one_more-is first h v in ap newest is.1 ∙ newest-push (first ∷ is.0) v

abbrev after_first : List ℕ → List ℕ
after_first [] = []
after_first (x ∷ xs) = xs

more-push : (t : List ℕ) (v : ℕ) → is_more (t ++ v ∷ []) ≡ true
more-push [] v = refl
more-push (x ∷ xs) v = refl

more-grown : (first : ℕ) (h h' : List ℕ) (v : ℕ) → first ∷ h' ≡ one_more (first ∷ h) v → is_more h' ≡ true
more-grown first h h' v grown =
    let is = one_more-is first h v in ap (λ l. is_more (after_first l)) (grown ∙ is.1) ∙ more-push is.0 v

-- a word of the line once bytes are put over it
pub word-put : (at w : ℕ) (bytes old new : List ℕ) → ((k : ℕ) → get_or old k 0 < 256) → IsPut at bytes old new → word_at new w ≡ word_over at bytes w (word_at old w)
word-put at w bytes old new small put = word_at-over at w bytes old new (λ k _. small (8 * w + k)) (λ k _. put (8 * w + k))

pub word-past : (at w : ℕ) (bytes old new : List ℕ) → IsPut at bytes old new → reaches at (length bytes) w ≡ false → word_at new w ≡ word_at old w
word-past at w bytes old new put past =
    let out = reaches-false at (length bytes) w past in
    word_at-cong new old w w
    (λ k below.
    put (8 * w + k)
    ∙ byte_over-out at (8 * w + k) (get_or old (8 * w + k) 0) bytes
    (elim out as (λ _. (8 * w + k < at) ⊎ (at + length bytes ≤ 8 * w + k)) [ inl before ↦ inl (omega arith) | inr after ↦ inr (omega arith) ]))

-- the values of a word that grew are those of the store
pub grown-put : (at w : ℕ) (bytes line h : List ℕ) → word_at line w ≡ word_over at bytes w (newest h) → grown_word at (length bytes) line w h ≡ word_put at bytes w h
grown-put at w bytes line h value = ap (λ v. if reaches at (length bytes) w then one_more h v else h) value

-- the last value of a word that grew is in the line
newest-grown : (at w first : ℕ) (bytes old new h h' : List ℕ) → IsPut at bytes old new → newest (first ∷ h) ≡ word_at old w → first ∷ h' ≡ grown_word at (length bytes) new w (first ∷ h) → word_at new w ≡ newest (first ∷ h')
newest-grown at w first bytes old new h h' put was grown = decide (reaches at (length bytes) w) refl
  where
    decide : (b : Bool) → reaches at (length bytes) w ≡ b → word_at new w ≡ newest (first ∷ h')
    decide true reached = sym (ap newest (grown ∙ grown_word-in at (length bytes) new w (first ∷ h) reached) ∙ newest-one_more first h (word_at new w))
    decide false past = word-past at w bytes old new put past ∙ sym was ∙ sym (ap newest (grown ∙ grown_word-out at (length bytes) new w (first ∷ h) past))

listed_or_not : (order : List ℕ) (line : ℕ) (weak listed : Bool) → has line order ≡ listed → (weak ≡ true → listed ≡ false) → has line (if weak || listed then order else order ++ line ∷ []) ≡ not weak
listed_or_not order line true listed is strong = is ∙ strong refl
listed_or_not order line false true is strong = is
listed_or_not order line false false is strong = has-push_same line order

others_listed : (order : List ℕ) (line n : ℕ) (b : Bool) → (n ≡ line → ⊥) → has n (if b then order else order ++ line ∷ []) ≡ has n order
others_listed order line n true other = refl
others_listed order line n false other = has-push_other n line order other

pub keeps_lines-put : (durable cached : List (Option (List ℕ))) (states : List State) (order order' : List ℕ) (line at : ℕ) (state : State) (held old new bytes : List ℕ) → KeepsLines durable cached states order → line < length durable → slice_get durable line ≡ Some (Some held) → IsLine (lines_in durable states) line old → IsPut at bytes old new → 0 < length bytes → at + length bytes ≤ 64 → ((w first : ℕ) → first ∷ after_durable (Some state) w ≡ grown_word at (length bytes) new w (first ∷ after_durable (slice_get states line) w)) → is_listed (Some state) ≡ not (is_weak_state (slice_get states line)) → order' ≡ (if is_weak_state (slice_get states line) || has line order then order else order ++ line ∷ []) → KeepsLines durable (set cached line (Some new)) (set states line state) order'
keeps_lines-put durable cached states order order' line at state held old new bytes keeps within has_bytes is_line put some fits grown listed gone =
    let was = keeps.each line in
    let weak = is_weak_state (slice_get states line) in
    let is = slice_get-set_same states line state (omega (arith, keeps.states_each)) in
    let cache = slice_get-set_same cached line (Some new) (omega (arith, keeps.caches)) in
    let first = at / 8 in
    let dirty : is_dirty (Some state) ≡ true =
    any_below-at (λ w. is_more (after_durable (Some state) w)) 8 first (omega arith)
    (more-grown 0 (after_durable (slice_get states line) first) (after_durable (Some state) first) (word_at new first)
    (grown first 0 ∙ grown_word-in at (length bytes) new first (0 ∷ after_durable (slice_get states line) first) (reaches-in at (length bytes) first (omega arith) (omega arith)))) in
    let in_order : has line order' ≡ is_listed (Some state) =
    ap (has line) gone ∙ listed_or_not order line weak (has line order) refl (λ w. was.in_order ∙ weak-unlisted (slice_get states line) w) ∙ sym listed in
    keeps_lines-but line durable cached durable (set cached line (Some new)) states (set states line state) order order' keeps
    (record {
      durable_len = refl;
      cached_len = length-set cached line (Some new);
      states_len = length-set states line state;
      durable_same = λ n other. refl;
      cached_same = λ n other. slice_get-set_other cached line n (Some new) other;
      states_same = λ n other. slice_get-set_other states line n state other;
      order_same = λ n other. ap (has n) gone ∙ others_listed order line n (weak || has line order) other;
    })
    (keeps_line-moved (Some (Some held)) (slice_get durable line) (Some (Some new)) (slice_get (set cached line (Some new)) line) (Some state) (slice_get (set states line state) line) (is_listed (Some state)) (has line order') has_bytes cache is in_order
    (record {
      held = sym dirty;
      in_order = refl;
      dirty = λ _. dirty;
      lost = λ lost. absurd (true_is_not_false (sym lost));
      last = λ b same w below.
          let before : newest (word_at held w ∷ after_durable (slice_get states line) w) ≡ word_at old w =
          sym (ap (λ d. newest (history_in d (slice_get states line) w)) has_bytes) ∙ sym (ap newest (history-line durable states line w below)) ∙ is_line.words w below in
          sym (ap (λ l. word_at l w) (same_bytes b same)) ∙ newest-grown at w (word_at held w) bytes old new (after_durable (slice_get states line) w) (after_durable (Some state) w) put before (grown w (word_at held w));
    }))
  where
    same_bytes : (b : List ℕ) → ◌≡◌ {A = Line} (Some (Some new)) (Some (Some b)) → new ≡ b
    same_bytes b e = cc
