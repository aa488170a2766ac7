-- What is kept when one line changes, and what is seen then.
use Rattle.std.proofs.Common.{◌≡◌, inl, inr, ℕ, Bool, true, false, not, ◌+◌, ◌*◌, ◌/◌, ◌%◌, ◌<◌, ◌==◌, List, [], ◌∷◌, length, set, if◌then◌else◌, refl, sym, ◌∙◌, ap, subst, arith}
use Rattle.std.specs.Prelude.{Option, Some, None, slice_get, is_none}
use Rattle.std.proofs.lemmas.Bool.{cases_eq, eq-eqb, ne_eqb}
use Rattle.std.proofs.lemmas.List.{length-set}
use Rattle.line_device.specs.Word.{word_at}
use Rattle.line_device.specs.History.{newest}
use Rattle.line_device.specs.Medium.{Medium, with_at, on_line, renewed}
use Rattle.line_device.specs.Cells.{weakened}
use Rattle.line_device.proofs.WriteBackLemmas.{on_line-in, on_line-out}
use Rattle.line_module.specs.Memory.{has, without}
use Rattle.line_module.specs.Chains.{after_durable, is_more, is_dirty, is_clean, is_weak_state, is_listed, is_weak_next, is_clean_next}
use Rattle.line_module.specs.Held.{is_bare, history_in, lines_in, words_of}
use Rattle.line_module.specs.Keeps.{KeepsLine, KeepsLines}
use Rattle.line_module.specs.declared.state.State.{State}
use Rattle.line_module.specs.declared.state.Next.{Next}
use Rattle.line_module.specs.declared.state.Next.TheVariants as next
use Rattle.line_module.proofs.WordsLemmas.{true_is_not_false, any_below-none, any_below-cong}
use Rattle.line_module.proofs.ChainLemmas.{slice_get-set_same, slice_get-set_other}
use Rattle.line_module.proofs.OrderLemmas.{has-without_same, has-without_other}
use Rattle.line_module.proofs.HeldLemmas.{Line, weak-unlisted}
pub use Rattle.line_device.proofs.CellsLemmas.{same_medium}

-- what is seen of each line, where one is new
pub seen_at : {X : Type 0} → (f : X → Bool) (new old : ℕ → X) (line : ℕ) (v : Bool) → f (new line) ≡ v → ((n : ℕ) → (n ≡ line → ⊥) → new n ≡ old n) → (n : ℕ) → f (new n) ≡ with_at (λ k. f (old k)) line v n
seen_at f new old line v here same n =
    elim (cases_eq n line) as (λ _. f (new n) ≡ (if n == line then v else f (old n))) [
      | inl is ↦ ap (λ k. f (new k)) is ∙ here ∙ sym (ap (λ b. if b then v else f (old n)) (eq-eqb n line is))
      | inr other ↦ ap f (same n other) ∙ sym (ap (λ b. if b then v else f (old n)) (ne_eqb n line other))
    ]

-- nothing changes but one line
pub record SameBut (line : ℕ) (durable cached durable' cached' : List (Option (List ℕ))) (states states' : List State) (order order' : List ℕ) : Type 0 where
  pub durable_len : length durable' ≡ length durable
  pub cached_len : length cached' ≡ length cached
  pub states_len : length states' ≡ length states
  pub durable_same : (n : ℕ) → (n ≡ line → ⊥) → slice_get durable' n ≡ slice_get durable n
  pub cached_same : (n : ℕ) → (n ≡ line → ⊥) → slice_get cached' n ≡ slice_get cached n
  pub states_same : (n : ℕ) → (n ≡ line → ⊥) → slice_get states' n ≡ slice_get states n
  pub order_same : (n : ℕ) → (n ≡ line → ⊥) → has n order' ≡ has n order

pub keeps_line-moved : (d d' c c' : Line) (s s' : Option State) (l l' : Bool) → d' ≡ d → c' ≡ c → s' ≡ s → l' ≡ l → KeepsLine d c s l → KeepsLine d' c' s' l'
keeps_line-moved d d' c c' s s' l l' ed ec es el keeps =
    subst (λ x. KeepsLine x c' s' l') (sym ed) (subst (λ x. KeepsLine d x s' l') (sym ec) (subst (λ x. KeepsLine d c x l') (sym es) (subst (λ x. KeepsLine d c s x) (sym el) keeps)))

pub keeps_lines-but : (line : ℕ) (durable cached durable' cached' : List (Option (List ℕ))) (states states' : List State) (order order' : List ℕ) → KeepsLines durable cached states order → SameBut line durable cached durable' cached' states states' order order' → KeepsLine (slice_get durable' line) (slice_get cached' line) (slice_get states' line) (has line order') → KeepsLines durable' cached' states' order'
keeps_lines-but line durable cached durable' cached' states states' order order' keeps same here = record {
  caches = same.cached_len ∙ keeps.caches ∙ sym same.durable_len;
  states_each = same.states_len ∙ keeps.states_each ∙ sym same.durable_len;
  each = λ n.
      elim (cases_eq n line) as (λ _. KeepsLine (slice_get durable' n) (slice_get cached' n) (slice_get states' n) (has n order')) [
        | inl is ↦ subst (λ k. KeepsLine (slice_get durable' k) (slice_get cached' k) (slice_get states' k) (has k order')) (sym is) here
        | inr other ↦
            keeps_line-moved (slice_get durable n) (slice_get durable' n) (slice_get cached n) (slice_get cached' n) (slice_get states n) (slice_get states' n) (has n order) (has n order')
            (same.durable_same n other)
            (same.cached_same n other)
            (same.states_same n other)
            (same.order_same n other)
            (keeps.each n)
      ];
}

-- the lines, of which one is seen anew
pub lines-but : (line : ℕ) (durable durable' : List (Option (List ℕ))) (states states' : List State) (bad weak : Bool) (change : ℕ → List ℕ → List ℕ) → length durable' ≡ length durable → ((n : ℕ) → (n ≡ line → ⊥) → slice_get durable' n ≡ slice_get durable n) → ((n : ℕ) → (n ≡ line → ⊥) → slice_get states' n ≡ slice_get states n) → is_bare (slice_get durable' line) ≡ bad → is_weak_state (slice_get states' line) ≡ weak → ((w : ℕ) → w < 8 → history_in (slice_get durable' line) (slice_get states' line) w ≡ change w (history_in (slice_get durable line) (slice_get states line) w)) → lines_in durable' states' ≡ record { count = length durable; is_bad = with_at (lines_in durable states).is_bad line bad; is_weak = with_at (lines_in durable states).is_weak line weak; history = on_line line change (lines_in durable states).history }
lines-but line durable durable' states states' bad weak change count same_durable same_states is_bad is_weak on =
    let old = lines_in durable states in
    let new = lines_in durable' states' in
    same_medium new (record { count = length durable; is_bad = with_at old.is_bad line bad; is_weak = with_at old.is_weak line weak; history = on_line line change old.history }) count
    (seen_at is_bare (slice_get durable') (slice_get durable) line bad is_bad same_durable)
    (seen_at is_weak_state (slice_get states') (slice_get states) line weak is_weak same_states)
    (λ p. elim (cases_eq (p / 8) line) as (λ _. new.history p ≡ on_line line change old.history p) [
      | inl is ↦
          ap (λ k. history_in (slice_get durable' k) (slice_get states' k) (p % 8)) is
          ∙ on (p % 8) (omega arith)
          ∙ sym (ap (λ k. change (p % 8) (history_in (slice_get durable k) (slice_get states k) (p % 8))) is)
          ∙ sym (on_line-in line change old.history p is)
      | inr other ↦
          ap (λ d. history_in d (slice_get states' (p / 8)) (p % 8)) (same_durable (p / 8) other)
          ∙ ap (λ s. history_in (slice_get durable (p / 8)) s (p % 8)) (same_states (p / 8) other)
          ∙ sym (on_line-out line change old.history p other)
    ])

is_bare-some : (bytes : Option (List ℕ)) → is_bare (Some bytes) ≡ is_none bytes
is_bare-some None = refl
is_bare-some (Some b) = refl

history-renewed : (bytes : Option (List ℕ)) (state : Option State) (w : ℕ) → after_durable state w ≡ [] → history_in (Some bytes) state w ≡ words_of bytes w
history-renewed None state w none = refl
history-renewed (Some b) state w none = ap (λ h. word_at b w ∷ h) none

-- a line has other bytes, or none, and no values after them
pub lines-renewed : (durable : List (Option (List ℕ))) (states : List State) (line : ℕ) (bytes : Option (List ℕ)) (state : State) → line < length durable → length states ≡ length durable → ((w : ℕ) → after_durable (Some state) w ≡ []) → lines_in (set durable line bytes) (set states line state) ≡ renewed (lines_in durable states) line (is_none bytes) (is_weak_state (Some state)) (words_of bytes)
lines-renewed durable states line bytes state within long none =
    let held = slice_get-set_same durable line bytes within in
    let is = slice_get-set_same states line state (omega arith) in
    lines-but line durable (set durable line bytes) states (set states line state) (is_none bytes) (is_weak_state (Some state)) (λ w _. words_of bytes w) (length-set durable line bytes)
    (λ n other. slice_get-set_other durable line n bytes other)
    (λ n other. slice_get-set_other states line n state other)
    (ap is_bare held ∙ is_bare-some bytes)
    (ap is_weak_state is)
    (λ w below. ap (λ d. history_in d (slice_get (set states line state) line) w) held ∙ ap (λ s. history_in (Some bytes) s w) is ∙ history-renewed bytes (Some state) w (none w))

pub keeps_lines-renewed : (durable cached : List (Option (List ℕ))) (states : List State) (order order' : List ℕ) (line : ℕ) (bytes : Option (List ℕ)) (state : State) → KeepsLines durable cached states order → line < length durable → ((w : ℕ) → after_durable (Some state) w ≡ []) → is_listed (Some state) ≡ false → (is_none bytes ≡ true → is_clean (Some state) ≡ true) → order' ≡ without line order → KeepsLines (set durable line bytes) (set cached line None) (set states line state) order'
keeps_lines-renewed durable cached states order order' line bytes state keeps within none not_listed clean gone =
    let held = slice_get-set_same durable line bytes within in
    let bare = slice_get-set_same cached line None (omega (arith, keeps.caches)) in
    let is = slice_get-set_same states line state (omega (arith, keeps.states_each)) in
    let quiet : is_dirty (Some state) ≡ false = any_below-none (λ w. is_more (after_durable (Some state) w)) 8 (λ w below. ap is_more (none w)) in
    keeps_lines-but line durable cached (set durable line bytes) (set cached line None) states (set states line state) order order' keeps
    (record {
      durable_len = length-set durable line bytes;
      cached_len = length-set cached line None;
      states_len = length-set states line state;
      durable_same = λ n other. slice_get-set_other durable line n bytes other;
      cached_same = λ n other. slice_get-set_other cached line n None other;
      states_same = λ n other. slice_get-set_other states line n state other;
      order_same = λ n other. ap (has n) gone ∙ has-without_other n line order other;
    })
    (keeps_line-moved (Some bytes) (slice_get (set durable line bytes) line) (Some None) (slice_get (set cached line None) line) (Some state) (slice_get (set states line state) line) false (has line order') held bare is (ap (has line) gone ∙ has-without_same line order)
    (record {
      held = sym quiet;
      in_order = sym not_listed;
      dirty = λ listed. absurd (true_is_not_false (sym listed ∙ not_listed));
      lost = λ lost. clean (sym (is_bare-some bytes) ∙ lost);
      last = λ b at. absurd (none_is_not_some b at);
    }))
  where
    none_is_not_some : (b : List ℕ) → ◌≡◌ {A = Line} (Some None) (Some (Some b)) → ⊥
    none_is_not_some b e = cc

pub clean_next : (n : Next) (weak : Bool) → is_clean_next n ≡ true → is_weak_next n weak ≡ false
clean_next next.Clean weak clean = refl
clean_next (next.Weak k) weak clean = absurd (true_is_not_false (sym clean))
clean_next next.Same weak clean = absurd (true_is_not_false (sym clean))

-- a line each word of which is down to one value
pub on_line-renewed : (m : Medium) (line : ℕ) (bytes : List ℕ) (change : ℕ → List ℕ → List ℕ) → m.is_bad line ≡ false → ((w : ℕ) → w < 8 → change w (m.history (8 * line + w)) ≡ word_at bytes w ∷ []) → renewed m line false (m.is_weak line) (words_of (Some bytes)) ≡ record m { history = on_line line change m.history }
on_line-renewed m line bytes change good some =
    same_medium (renewed m line false (m.is_weak line) (words_of (Some bytes))) (record m { history = on_line line change m.history }) refl
    (λ n. sym (seen_at (λ k. k) m.is_bad m.is_bad line false good (λ k _. refl) n))
    (λ n. sym (seen_at (λ k. k) m.is_weak m.is_weak line (m.is_weak line) refl (λ k _. refl) n))
    (λ p. elim (cases_eq (p / 8) line) as (λ _. on_line line (λ w _. words_of (Some bytes) w) m.history p ≡ on_line line change m.history p) [
      | inl on ↦
          let place : 8 * line + p % 8 ≡ p = omega arith in
          on_line-in line (λ w _. words_of (Some bytes) w) m.history p on
          ∙ sym (some (p % 8) (omega arith))
          ∙ ap (λ q. change (p % 8) (m.history q)) place
          ∙ sym (on_line-in line change m.history p on)
      | inr out ↦ on_line-out line (λ w _. words_of (Some bytes) w) m.history p out ∙ sym (on_line-out line change m.history p out)
    ])

-- a line that is marked: nothing else is seen
pub lines-marked : (durable : List (Option (List ℕ))) (states : List State) (line : ℕ) (state : State) → line < length durable → length states ≡ length durable → is_bare (slice_get durable line) ≡ false → is_weak_state (Some state) ≡ true → ((w : ℕ) → after_durable (Some state) w ≡ after_durable (slice_get states line) w) → lines_in durable (set states line state) ≡ weakened (lines_in durable states) line
lines-marked durable states line state within long good weak same =
    let is = slice_get-set_same states line state (omega arith) in
    let old = lines_in durable states in
    let mark : not (old.is_bad line) ≡ true = ap not good in
    same_medium (lines_in durable (set states line state)) (weakened old line) refl
    (λ n. refl)
    (seen_at is_weak_state (slice_get (set states line state)) (slice_get states) line (not (old.is_bad line)) (ap is_weak_state is ∙ weak ∙ sym mark) (λ n other. slice_get-set_other states line n state other))
    (λ p. elim (cases_eq (p / 8) line) as (λ _. (lines_in durable (set states line state)).history p ≡ old.history p) [
      | inl on ↦
          ap (λ s. history_in (slice_get durable (p / 8)) s (p % 8)) (ap (slice_get (set states line state)) on ∙ is)
          ∙ history-after (slice_get durable (p / 8)) (Some state) (slice_get states line) (p % 8) (same (p % 8))
          ∙ sym (ap (λ n. history_in (slice_get durable (p / 8)) (slice_get states n) (p % 8)) on)
      | inr other ↦ ap (λ s. history_in (slice_get durable (p / 8)) s (p % 8)) (slice_get-set_other states line (p / 8) state other)
    ])
  where
    history-after : (d : Line) (s t : Option State) (w : ℕ) → after_durable s w ≡ after_durable t w → history_in d s w ≡ history_in d t w
    history-after None s t w e = refl
    history-after (Some None) s t w e = refl
    history-after (Some (Some b)) s t w e = ap (λ h. word_at b w ∷ h) e

pub keeps_lines-marked : (durable cached : List (Option (List ℕ))) (states : List State) (order order' : List ℕ) (line : ℕ) (state : State) → KeepsLines durable cached states order → line < length durable → is_bare (slice_get durable line) ≡ false → is_weak_state (Some state) ≡ true → ((w : ℕ) → after_durable (Some state) w ≡ after_durable (slice_get states line) w) → order' ≡ without line order → KeepsLines durable cached (set states line state) order'
keeps_lines-marked durable cached states order order' line state keeps within good weak same gone =
    let is = slice_get-set_same states line state (omega (arith, keeps.states_each)) in
    let was = keeps.each line in
    let not_listed : is_listed (Some state) ≡ false = weak-unlisted (Some state) weak in
    keeps_lines-but line durable cached durable cached states (set states line state) order order' keeps
    (record {
      durable_len = refl;
      cached_len = refl;
      states_len = length-set states line state;
      durable_same = λ n other. refl;
      cached_same = λ n other. refl;
      states_same = λ n other. slice_get-set_other states line n state other;
      order_same = λ n other. ap (has n) gone ∙ has-without_other n line order other;
    })
    (keeps_line-moved (slice_get durable line) (slice_get durable line) (slice_get cached line) (slice_get cached line) (Some state) (slice_get (set states line state) line) false (has line order') refl refl is (ap (has line) gone ∙ has-without_same line order)
    (record {
      held = was.held ∙ sym (any_below-cong (λ w. is_more (after_durable (Some state) w)) (λ w. is_more (after_durable (slice_get states line) w)) 8 (λ w below. ap is_more (same w)));
      in_order = sym not_listed;
      dirty = λ listed. absurd (true_is_not_false (sym listed ∙ not_listed));
      lost = λ lost. absurd (true_is_not_false (sym lost ∙ good));
      last = λ b at w below. was.last b at w below ∙ sym (newest-after (slice_get durable line) w);
    }))
  where
    newest-after : (d : Line) (w : ℕ) → newest (history_in d (Some state) w) ≡ newest (history_in d (slice_get states line) w)
    newest-after None w = refl
    newest-after (Some None) w = refl
    newest-after (Some (Some b)) w = ap (λ h. newest (word_at b w ∷ h)) (same w)

-- a line's values change, and nothing else is seen
pub lines-grown : (durable : List (Option (List ℕ))) (states : List State) (line : ℕ) (state : State) (bytes : List ℕ) (change : ℕ → List ℕ → List ℕ) → line < length durable → length states ≡ length durable → slice_get durable line ≡ Some (Some bytes) → is_weak_state (Some state) ≡ is_weak_state (slice_get states line) → ((w : ℕ) → w < 8 → word_at bytes w ∷ after_durable (Some state) w ≡ change w (word_at bytes w ∷ after_durable (slice_get states line) w)) → lines_in durable (set states line state) ≡ record (lines_in durable states) { history = on_line line change (lines_in durable states).history }
lines-grown durable states line state bytes change within long held weak grown =
    let old = lines_in durable states in
    let is = slice_get-set_same states line state (omega arith) in
    let shown : history_in (slice_get durable line) (slice_get states line) ≡ history_in (Some (Some bytes)) (slice_get states line) = ap (λ d. history_in d (slice_get states line)) held in
    lines-but line durable durable states (set states line state) (old.is_bad line) (old.is_weak line) change refl (λ n other. refl) (λ n other. slice_get-set_other states line n state other) refl
    (ap is_weak_state is ∙ weak)
    (λ w below.
    ap (λ d. history_in d (slice_get (set states line state) line) w) held
    ∙ ap (λ s. history_in (Some (Some bytes)) s w) is
    ∙ grown w below
    ∙ sym (ap (λ h. change w (h w)) shown))
    ∙ same_medium (record { count = length durable; is_bad = with_at old.is_bad line (old.is_bad line); is_weak = with_at old.is_weak line (old.is_weak line); history = on_line line change old.history }) (record old { history = on_line line change old.history }) refl
    (λ n. sym (seen_at (λ b. b) old.is_bad old.is_bad line (old.is_bad line) refl (λ k _. refl) n))
    (λ n. sym (seen_at (λ b. b) old.is_weak old.is_weak line (old.is_weak line) refl (λ k _. refl) n))
    (λ p. refl)
