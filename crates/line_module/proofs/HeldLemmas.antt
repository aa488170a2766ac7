-- What is seen of a line that is held in some way.
use Rattle.std.proofs.Common.{◌≡◌, ℕ, suc, Bool, true, false, not, ◌+◌, ◌*◌, ◌/◌, ◌%◌, ◌<◌, ◌==◌, ◌&&◌, List, [], ◌∷◌, length, nat_lt, if◌then◌else◌, refl, sym, ◌∙◌, ap, arith}
use Rattle.std.specs.Prelude.{Option, Some, None, slice_get}
use Rattle.std.proofs.lemmas.Bool.{lt-ltb}
use Rattle.std.proofs.lemmas.Option.{slice_get-get_or}
use Rattle.std.proofs.Common.{get_or}
use Rattle.line_device.specs.Word.{word_at, reaches}
use Rattle.line_device.specs.History.{newest, latest}
use Rattle.line_device.specs.Medium.{IsLine}
use Rattle.line_device.proofs.HistoryLemmas.{latest-cons}
use Rattle.line_module.specs.Memory.{Memory, has, is_dirty_line, is_full, is_full_at, in_the_way}
use Rattle.line_module.specs.Chains.{after_durable, is_more, is_dirty, is_clean, is_weak_state, is_listed}
use Rattle.line_module.specs.Held.{is_bare, history_in, lines_in}
use Rattle.line_module.specs.Keeps.{KeepsLine}
use Rattle.line_module.specs.declared.state.State.{State}
use Rattle.line_module.specs.declared.state.State.TheVariants.{Clean, Dirty, Weak}
use Rattle.line_module.proofs.WordsLemmas.{true_is_not_false, any_below-cong, any_below-none, any_below-not}

-- of each line its bytes, if it is not bare
abbrev pub Line : Type 0
Line = Option (Option (List ℕ))

-- the words of a line
pub history-line : (durable : List (Option (List ℕ))) (states : List State) (line w : ℕ) → w < 8 → (lines_in durable states).history (8 * line + w) ≡ history_in (slice_get durable line) (slice_get states line) w
history-line durable states line w below =
    let place : (8 * line + w) / 8 ≡ line = omega arith in
    let word : (8 * line + w) % 8 ≡ w = omega arith in
    (λ i. history_in (slice_get durable (place i)) (slice_get states (place i)) (word i))

-- a line that is not bad has bytes
pub held_bytes : (durable : List (Option (List ℕ))) (line : ℕ) → line < length durable → is_bare (slice_get durable line) ≡ false → (bytes : List ℕ) × (slice_get durable line ≡ Some (Some bytes))
held_bytes durable line within good = found (get_or durable line None) (slice_get-get_or durable line None within)
  where
    found : (d : Option (List ℕ)) → slice_get durable line ≡ Some d → (bytes : List ℕ) × (slice_get durable line ≡ Some (Some bytes))
    found None at = absurd (true_is_not_false (sym (ap is_bare at) ∙ good))
    found (Some bytes) at = (bytes, at)

pub clean-none : (state : Option State) (w : ℕ) → is_clean state ≡ true → after_durable state w ≡ []
clean-none None w clean = refl
clean-none (Some Clean) w clean = refl
clean-none (Some (Dirty k)) w clean = absurd (true_is_not_false (sym clean))
clean-none (Some (Weak k)) w clean = absurd (true_is_not_false (sym clean))

pub clean-strong : (state : Option State) → is_clean state ≡ true → is_weak_state state ≡ false
clean-strong None clean = refl
clean-strong (Some Clean) clean = refl
clean-strong (Some (Dirty k)) clean = absurd (true_is_not_false (sym clean))
clean-strong (Some (Weak k)) clean = absurd (true_is_not_false (sym clean))

pub clean-unlisted : (state : Option State) → is_clean state ≡ true → is_listed state ≡ false
clean-unlisted None clean = refl
clean-unlisted (Some Clean) clean = refl
clean-unlisted (Some (Dirty k)) clean = absurd (true_is_not_false (sym clean))
clean-unlisted (Some (Weak k)) clean = absurd (true_is_not_false (sym clean))

pub weak-unlisted : (state : Option State) → is_weak_state state ≡ true → is_listed state ≡ false
weak-unlisted None weak = refl
weak-unlisted (Some Clean) weak = refl
weak-unlisted (Some (Dirty k)) weak = absurd (true_is_not_false (sym weak))
weak-unlisted (Some (Weak k)) weak = refl

more-none : (h : List ℕ) → is_more h ≡ false → h ≡ []
more-none [] less = refl
more-none (v ∷ vs) less = absurd (true_is_not_false less)

-- a word of a line that is not dirty has its durable value alone
pub quiet-none : (state : Option State) (w : ℕ) → is_dirty state ≡ false → w < 8 → after_durable state w ≡ []
quiet-none state w quiet below = more-none (after_durable state w) (any_below-not (λ v. is_more (after_durable state v)) 8 w quiet below)

pub clean-quiet : (state : Option State) → is_clean state ≡ true → is_dirty state ≡ false
clean-quiet state clean = any_below-none (λ w. is_more (after_durable state w)) 8 (λ w below. ap is_more (clean-none state w clean))

-- a line without a cache line is as its durable bytes have it
pub is_line-quiet : (durable : List (Option (List ℕ))) (states : List State) (line : ℕ) (bytes : List ℕ) → slice_get durable line ≡ Some (Some bytes) → is_dirty (slice_get states line) ≡ false → length bytes ≡ 64 → IsLine (lines_in durable states) line bytes
is_line-quiet durable states line bytes at quiet whole = record {
  length = whole;
  words = λ w below.
      ap newest (history-line durable states line w below)
      ∙ ap (λ d. newest (history_in d (slice_get states line) w)) at
      ∙ ap (λ h. newest (word_at bytes w ∷ h)) (quiet-none (slice_get states line) w quiet below);
}

-- a line with one has the last values there
pub is_line-cached : (durable : List (Option (List ℕ))) (cached : Line) (states : List State) (line : ℕ) (listed : Bool) (bytes : List ℕ) → KeepsLine (slice_get durable line) cached (slice_get states line) listed → cached ≡ Some (Some bytes) → length bytes ≡ 64 → IsLine (lines_in durable states) line bytes
is_line-cached durable cached states line listed bytes keeps at whole = record {
  length = whole;
  words = λ w below. ap newest (history-line durable states line w below) ∙ sym (keeps.last bytes at w below);
}

more_than_one : (first : ℕ) (h : List ℕ) → nat_lt 1 (length (first ∷ h)) ≡ is_more h
more_than_one first [] = refl
more_than_one first (v ∷ vs) = lt-ltb 1 (suc (suc (length vs))) (omega arith)

-- a line is dirty where its state has values after the durable ones
pub dirty-line : (durable : List (Option (List ℕ))) (states : List State) (line : ℕ) → line < length durable → (is_bare (slice_get durable line) ≡ true → is_clean (slice_get states line) ≡ true) → is_dirty_line (lines_in durable states) line ≡ is_dirty (slice_get states line)
dirty-line durable states line within lost = decide (get_or durable line None) (slice_get-get_or durable line None within)
  where
    state : Option State
    state = slice_get states line

    decide : (d : Option (List ℕ)) → slice_get durable line ≡ Some d → is_dirty_line (lines_in durable states) line ≡ is_dirty state
    decide None at =
        any_below-none (λ w. nat_lt 1 (length ((lines_in durable states).history (8 * line + w)))) 8
        (λ w below. ap (λ h. nat_lt 1 (length h)) (history-line durable states line w below ∙ ap (λ d. history_in d state w) at))
        ∙ sym (clean-quiet state (lost (ap is_bare at)))
    decide (Some bytes) at =
        any_below-cong (λ w. nat_lt 1 (length ((lines_in durable states).history (8 * line + w)))) (λ w. is_more (after_durable state w)) 8
        (λ w below. ap (λ h. nat_lt 1 (length h)) (history-line durable states line w below ∙ ap (λ d. history_in d state w) at) ∙ more_than_one (word_at bytes w) (after_durable state w))

-- a line is full where its state is
pub full-line : (durable : List (Option (List ℕ))) (states : List State) (line at len : ℕ) (bytes : List ℕ) → slice_get durable line ≡ Some (Some bytes) → is_full (lines_in durable states) line at len ≡ is_full_at (λ w. word_at bytes w ∷ after_durable (slice_get states line) w) at len
full-line durable states line at len bytes held =
    any_below-cong (λ w. reaches at len w && (length ((lines_in durable states).history (8 * line + w)) == 16)) (λ w. reaches at len w && (length (word_at bytes w ∷ after_durable (slice_get states line) w) == 16)) 8
    (λ w below. ap (λ h. reaches at len w && (length h == 16)) (history-line durable states line w below ∙ ap (λ d. history_in d (slice_get states line) w) held))

and_false : (b : Bool) → (b && false) ≡ false
and_false true = refl
and_false false = refl

-- a word with one value is not full
pub one_is_not_full : (first : ℕ → ℕ) (state : Option State) (at len : ℕ) → is_clean state ≡ true → is_full_at (λ w. first w ∷ after_durable state w) at len ≡ false
one_is_not_full first state at len clean =
    any_below-none (λ w. reaches at len w && (length (first w ∷ after_durable state w) == 16)) 8
    (λ w below. ap (λ h. reaches at len w && (length (first w ∷ h) == 16)) (clean-none state w clean) ∙ and_false (reaches at len w))

-- what is in the way of a line that is listed, and of one that is not
pub way-listed : (s : Memory) (line at len : ℕ) (full : Bool) → s.medium.is_weak line ≡ false → is_full s.medium line at len ≡ full → has line s.order ≡ true → in_the_way s line at len ≡ (if full then Some line else None)
way-listed s line at len full strong is_it there =
    let last = if not (has line s.order) && (length s.order == 1024) then slice_get s.order 0 else None in
    ap (λ b. if b then None else (if is_full s.medium line at len then Some line else last)) strong
    ∙ ap (λ b. if b then Some line else last) is_it
    ∙ ap (λ b. if full then Some line else (if not b && (length s.order == 1024) then slice_get s.order 0 else None)) there

pub way-clean : (s : Memory) (line at len : ℕ) → s.medium.is_weak line ≡ false → is_full s.medium line at len ≡ false → has line s.order ≡ false → in_the_way s line at len ≡ (if length s.order == 1024 then slice_get s.order 0 else None)
way-clean s line at len strong not_full new =
    let last = if not (has line s.order) && (length s.order == 1024) then slice_get s.order 0 else None in
    ap (λ b. if b then None else (if is_full s.medium line at len then Some line else last)) strong
    ∙ ap (λ b. if b then Some line else last) not_full
    ∙ ap (λ b. if not b && (length s.order == 1024) then slice_get s.order 0 else None) new

-- the durable and the last value of a word of a line that is not bad
pub word-held : (durable : List (Option (List ℕ))) (states : List State) (line w : ℕ) (bytes : List ℕ) → slice_get durable line ≡ Some (Some bytes) → w < 8 → (lines_in durable states).history (8 * line + w) ≡ word_at bytes w ∷ after_durable (slice_get states line) w
word-held durable states line w bytes held below = history-line durable states line w below ∙ ap (λ d. history_in d (slice_get states line) w) held

pub latest-line : (durable : List (Option (List ℕ))) (states : List State) (line : ℕ) (bytes : List ℕ) → line < length durable → is_bare (slice_get durable line) ≡ false → IsLine (lines_in durable states) line bytes → (w : ℕ) → w < 8 → latest ((lines_in durable states).history (8 * line + w)) ≡ word_at bytes w ∷ []
latest-line durable states line bytes within good is w below =
    let held = held_bytes durable line within good in
    let shown = word-held durable states line w held.0 held.1 below in
    ap latest shown
    ∙ latest-cons (word_at held.0 w) (after_durable (slice_get states line) w)
    ∙ sym (ap (λ h. newest h ∷ []) shown)
    ∙ ap (λ v. v ∷ []) (is.words w below)
