-- Restarts: words that keep one of their values.
use Rattle.std.proofs.Common.{◌≡◌, inl, inr, ℕ, Bool, false, ◌+◌, ◌*◌, ◌/◌, ◌%◌, ◌<◌, ◌==◌, ◌≤◌, ◌||◌, List, [], ◌∷◌, take, nat_lt, if◌then◌else◌, refl, sym, ◌∙◌, ap, arith}
use Rattle.std.proofs.lemmas.Bool.{cases_eq, cases_lt, eq-eqb, lt-ltb, le-ltb}
use Rattle.std.specs.Prelude.{Option, Some, None}
use Rattle.line_device.specs.Word.{word_at}
use Rattle.line_device.specs.Medium.{Medium, on_line, zeros}
use Rattle.line_device.specs.declared.line.Choice.{Choice}
use Rattle.line_device.specs.declared.line.Choice.TheVariants.{Firsts, Lasts, Seed}
use Rattle.line_device.proofs.WriteBackLemmas.{on_line-in, on_line-out}
use Rattle.line_device.proofs.TornLemmas.{may_keep-one}
use Rattle.line_module.specs.Survivors.{drawn_word, survivor_of}
use Rattle.line_module.specs.Memory.{has, memory_after_reset, memory_after_restart}
use Rattle.line_module.specs.Chains.{after_durable, is_dirty}
use Rattle.line_module.specs.Held.{history_in}
use Rattle.line_module.specs.declared.state.State.{State}
use Rattle.line_module.proofs.WordsLemmas.{true_is_not_false}
use Rattle.line_module.proofs.MixedLemmas.{drawn-kept}
use Rattle.line_module.proofs.HeldLemmas.{Line, quiet-none}
use Rattle.line_module.proofs.ChangeLemmas.{same_medium}

-- a word without values keeps none, and one with one value that one
pub survivor-none : (unit : ℕ) (choice : Choice) (place : ℕ) → survivor_of unit choice place [] ≡ []
survivor-none unit Firsts place = refl
survivor-none unit Lasts place = refl
survivor-none unit (Seed seed) place = refl

pub survivor-one : (unit : ℕ) (choice : Choice) (place v : ℕ) → survivor_of unit choice place (v ∷ []) ≡ v ∷ []
survivor-one unit Firsts place v = refl
survivor-one unit Lasts place v = refl
survivor-one unit (Seed seed) place v = ap (λ x. x ∷ []) (may_keep-one unit (drawn_word (unit == 1) seed place v []) v (drawn-kept unit seed place v []))

-- nor does a word of a line that is not dirty change
pub quiet_kept : (d : Line) (state : Option State) (w place unit : ℕ) (choice : Choice) → is_dirty state ≡ false → w < 8 → survivor_of unit choice place (history_in d state w) ≡ history_in d state w
quiet_kept None state w place unit choice quiet below = survivor-none unit choice place
quiet_kept (Some None) state w place unit choice quiet below = survivor-none unit choice place
quiet_kept (Some (Some b)) state w place unit choice quiet below =
    let one : history_in (Some (Some b)) state w ≡ word_at b w ∷ [] = ap (λ h. word_at b w ∷ h) (quiet-none state w quiet below) in
    ap (survivor_of unit choice place) one ∙ survivor-one unit choice place (word_at b w) ∙ sym one

-- a word keeps by a seed what is drawn of its durable value and those after it
pub drawn-line : (unit seed place first result : ℕ) (d : Line) (state : Option State) (w : ℕ) (h : List ℕ) → h ≡ history_in d state w → take 1 h ≡ first ∷ []
    → result ≡ drawn_word (unit == 1) seed place first (after_durable state w) → survivor_of unit (Seed seed) place h ≡ result ∷ []
drawn-line unit seed place first result d state w h is durable drew = ap (survivor_of unit (Seed seed) place) is ∙ by_line d (sym (ap (take 1) is) ∙ durable)
  where
    by_line : (d : Line) → take 1 (history_in d state w) ≡ first ∷ [] → survivor_of unit (Seed seed) place (history_in d state w) ≡ result ∷ []
    by_line None none = cc
    by_line (Some None) none = cc
    by_line (Some (Some b)) one =
        let same : word_at b w ≡ first = cc in
        ap (λ x. drawn_word (unit == 1) seed place x (after_durable state w) ∷ []) same ∙ ap (λ x. x ∷ []) (sym drew)

-- lines below a number have restarted, and the others not yet
abbrev pub restarted_below : ℕ → Choice → ℕ → Medium → Medium
restarted_below unit choice n m = record m { history = λ p. if nat_lt (p / 8) n then survivor_of unit choice p (m.history p) else m.history p }

pub restarted_below-none : (unit : ℕ) (choice : Choice) (m : Medium) → m ≡ restarted_below unit choice 0 m
restarted_below-none unit choice m = same_medium m (restarted_below unit choice 0 m) refl (λ n. refl) (λ n. refl) (λ p. sym (ap (λ b. if b then survivor_of unit choice p (m.history p) else m.history p) (le-ltb (p / 8) 0 (omega arith))))

pub restarted_below-one : (unit : ℕ) (choice : Choice) (m : Medium) (n : ℕ) → record (restarted_below unit choice n m) { history = on_line n (λ w h. survivor_of unit choice (8 * n + w) h) (restarted_below unit choice n m).history } ≡ restarted_below unit choice (n + 1) m
restarted_below-one unit choice m n =
    let before = restarted_below unit choice n m in
    let change = λ (w : ℕ) (h : List ℕ). survivor_of unit choice (8 * n + w) h in
    let pick = λ (p : ℕ) (b : Bool). if b then survivor_of unit choice p (m.history p) else m.history p in
    same_medium (record before { history = on_line n change before.history }) (restarted_below unit choice (n + 1) m) refl (λ k. refl) (λ k. refl)
    (λ p. elim (cases_eq (p / 8) n) as (λ _. on_line n change before.history p ≡ pick p (nat_lt (p / 8) (n + 1))) [
      | inl on ↦
          let place : 8 * n + p % 8 ≡ p = omega arith in
          on_line-in n change before.history p on
          ∙ ap (λ q. survivor_of unit choice q (before.history p)) place
          ∙ ap (λ b. survivor_of unit choice p (pick p b)) (le-ltb (p / 8) n (omega arith))
          ∙ sym (ap (pick p) (lt-ltb (p / 8) (n + 1) (omega arith)))
      | inr out ↦
          on_line-out n change before.history p out
          ∙ elim (cases_lt (p / 8) n) as (λ _. pick p (nat_lt (p / 8) n) ≡ pick p (nat_lt (p / 8) (n + 1))) [
            | inl less ↦ ap (pick p) (lt-ltb (p / 8) n less) ∙ sym (ap (pick p) (lt-ltb (p / 8) (n + 1) (omega arith)))
            | inr more ↦ ap (pick p) (le-ltb (p / 8) n more) ∙ sym (ap (pick p) (le-ltb (p / 8) (n + 1) (omega arith)))
          ]
    ])

-- nor do lines change whose words have one value at most
pub restarted_below-on : (unit : ℕ) (choice : Choice) (m : Medium) (n next : ℕ) → n ≤ next → ((p : ℕ) → n ≤ p / 8 → p / 8 < next → survivor_of unit choice p (m.history p) ≡ m.history p) → restarted_below unit choice n m ≡ restarted_below unit choice next m
restarted_below-on unit choice m n next up kept =
    let pick = λ (p : ℕ) (b : Bool). if b then survivor_of unit choice p (m.history p) else m.history p in
    same_medium (restarted_below unit choice n m) (restarted_below unit choice next m) refl (λ k. refl) (λ k. refl)
    (λ p. elim (cases_lt (p / 8) n) as (λ _. pick p (nat_lt (p / 8) n) ≡ pick p (nat_lt (p / 8) next)) [
      | inl before ↦ ap (pick p) (lt-ltb (p / 8) n before) ∙ sym (ap (pick p) (lt-ltb (p / 8) next (omega arith)))
      | inr from ↦
          ap (pick p) (le-ltb (p / 8) n from)
          ∙ elim (cases_lt (p / 8) next) as (λ _. m.history p ≡ pick p (nat_lt (p / 8) next)) [
            | inl below ↦ sym (ap (pick p) (lt-ltb (p / 8) next below) ∙ kept p from below)
            | inr past ↦ sym (ap (pick p) (le-ltb (p / 8) next past))
          ]
    ])

pub restarted_below-all : (unit : ℕ) (choice : Choice) (m : Medium) (n : ℕ) → ((p : ℕ) → n ≤ p / 8 → m.history p ≡ []) → restarted_below unit choice n m ≡ record m { history = λ p. survivor_of unit choice p (m.history p) }
restarted_below-all unit choice m n past =
    same_medium (restarted_below unit choice n m) (record m { history = λ p. survivor_of unit choice p (m.history p) }) refl (λ k. refl) (λ k. refl)
    (λ p. elim (cases_lt (p / 8) n) as (λ _. (if nat_lt (p / 8) n then survivor_of unit choice p (m.history p) else m.history p) ≡ survivor_of unit choice p (m.history p)) [
      | inl below ↦ ap (λ b. if b then survivor_of unit choice p (m.history p) else m.history p) (lt-ltb (p / 8) n below)
      | inr from ↦
          ap (λ b. if b then survivor_of unit choice p (m.history p) else m.history p) (le-ltb (p / 8) n from)
          ∙ past p from
          ∙ sym (ap (survivor_of unit choice p) (past p from) ∙ survivor-none unit choice p)
    ])

-- a list that has no line is empty
pub has_none : (xs : List ℕ) → ((n : ℕ) → has n xs ≡ false) → xs ≡ []
has_none [] none = refl
has_none (x ∷ xs) none = absurd (true_is_not_false (sym (ap (λ b. b || has x xs) (eq-eqb x x refl)) ∙ none x))

-- a line whose words have one value at most keeps them
pub on_line-same : (m : Medium) (line : ℕ) (change : ℕ → List ℕ → List ℕ) → ((w : ℕ) → w < 8 → change w (m.history (8 * line + w)) ≡ m.history (8 * line + w)) → m ≡ record m { history = on_line line change m.history }
on_line-same m line change same =
    same_medium m (record m { history = on_line line change m.history }) refl (λ n. refl) (λ n. refl)
    (λ p. elim (cases_eq (p / 8) line) as (λ _. m.history p ≡ on_line line change m.history p) [
      | inl on ↦
          let place : 8 * line + p % 8 ≡ p = omega arith in
          sym (on_line-in line change m.history p on ∙ ap (λ q. change (p % 8) (m.history q)) (sym place) ∙ same (p % 8) (omega arith) ∙ ap m.history place)
      | inr out ↦ sym (on_line-out line change m.history p out)
    ])

-- a memory without lines stays one
pub restart-zeros : (unit : ℕ) (choice : Choice) → (memory_after_reset 0).medium ≡ (memory_after_restart unit (memory_after_reset 0) choice).medium
restart-zeros unit choice =
    same_medium (zeros 0) (record (zeros 0) { history = λ p. survivor_of unit choice p ((zeros 0).history p) }) refl (λ n. refl) (λ n. refl)
    (λ p. sym (ap (survivor_of unit choice p) (none p) ∙ survivor-none unit choice p ∙ sym (none p)))
  where
    none : (p : ℕ) → (zeros 0).history p ≡ []
    none p = ap (λ b. if b then 0 ∷ [] else []) (le-ltb (p / 8) 0 (omega arith))
