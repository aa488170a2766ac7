-- The values of one word in a log.
use Rattle.std.proofs.Common.{◌≡◌, ◌==◌, ◌&&◌, ◌||◌, ℕ, true, false, Bool, ◌+◌, ◌*◌, ◌<◌, List, [], ◌∷◌, ◌++◌, length, take, get_or, set, inl, inr, if◌then◌else◌, refl, sym, ◌∙◌, ap, eq-eqb, arith}
use Rattle.std.proofs.lemmas.Bool.{ne_eqb, cases_eq, cases_lt}
use Rattle.std.proofs.lemmas.Bool.Decides.{nat_tests}
use Rattle.std.proofs.lemmas.List.{take_more, get_or-set_same, get_or-set_other}
use Rattle.std.specs.List.{list_any}
use Rattle.line_device.specs.History.{newest}
use Rattle.line_device.specs.Word.{reaches, word_over}
use Rattle.line_device.specs.Medium.{word_stored}
use Rattle.nvm_model.specs.Cell.{touches}
use Rattle.line_device.proofs.WordLemmas.{reaches-out}
use Rattle.line_device.proofs.HistoryLemmas.{newest-push}
use Rattle.line_histories.specs.Log.{history_in}
use Rattle.line_histories.specs.declared.log.Stored.{Stored}

-- one more value of the word, and one of another word
pub history_in-push_same : (log : List Stored) (stored : Stored) (w : ℕ) → (stored.word == w) ≡ true → history_in (log ++ stored ∷ []) w ≡ history_in log w ++ stored.value ∷ []
history_in-push_same [] stored w is = ap (λ b. if b then stored.value ∷ [] else []) is
history_in-push_same (first ∷ log) stored w is = decide (first.word == w) (history_in-push_same log stored w is)
  where
    decide : (b : Bool) → history_in (log ++ stored ∷ []) w ≡ history_in log w ++ stored.value ∷ [] → (if b then first.value ∷ history_in (log ++ stored ∷ []) w else history_in (log ++ stored ∷ []) w) ≡ (if b then first.value ∷ history_in log w else history_in log w) ++ stored.value ∷ []
    decide true rest = ap (λ l. first.value ∷ l) rest
    decide false rest = rest

pub history_in-push_other : (log : List Stored) (stored : Stored) (w : ℕ) → (stored.word == w) ≡ false → history_in (log ++ stored ∷ []) w ≡ history_in log w
history_in-push_other [] stored w is = ap (λ b. if b then stored.value ∷ [] else []) is
history_in-push_other (first ∷ log) stored w is = ap (λ l. if first.word == w then first.value ∷ l else l) (history_in-push_other log stored w is)

-- the last value, as a walk over the log goes on
pub newest-more_same : (durable : ℕ) (log : List Stored) (i w : ℕ) (d : Stored) → i < length log → (get_or log i d).word ≡ w → (get_or log i d).value ≡ newest (durable ∷ history_in (take (i + 1) log) w)
newest-more_same durable log i w d below is =
    sym (ap (λ l. newest (durable ∷ history_in l w)) (take_more log i d below)
    ∙ ap (λ h. newest (durable ∷ h)) (history_in-push_same (take i log) (get_or log i d) w (eq-eqb (get_or log i d).word w is))
    ∙ newest-push (durable ∷ history_in (take i log) w) (get_or log i d).value)

pub newest-more_other : (durable : ℕ) (log : List Stored) (i w : ℕ) (d : Stored) → i < length log → ((get_or log i d).word ≡ w → ⊥) → newest (durable ∷ history_in (take i log) w) ≡ newest (durable ∷ history_in (take (i + 1) log) w)
newest-more_other durable log i w d below is =
    sym (ap (λ l. newest (durable ∷ history_in l w)) (take_more log i d below)
    ∙ ap (λ h. newest (durable ∷ h)) (history_in-push_other (take i log) (get_or log i d) w (ne_eqb (get_or log i d).word w is)))

-- the durable values, as they become those last ones
pub settled-put : (durable : List ℕ) (log : List Stored) (i k first : ℕ) (d : Stored) → (get_or log i d).word < length durable → i < length log → get_or durable k 0 ≡ newest (first ∷ history_in (take i log) k)
    → get_or (set durable (get_or log i d).word (get_or log i d).value) k 0 ≡ newest (first ∷ history_in (take (i + 1) log) k)
settled-put durable log i k first d within below was =
    let w = (get_or log i d).word in
    let v = (get_or log i d).value in
    elim (cases_eq w k) as (λ _. get_or (set durable w v) k 0 ≡ newest (first ∷ history_in (take (i + 1) log) k)) [
      | inl same ↦ ap (λ j. get_or (set durable w v) j 0) (sym same) ∙ get_or-set_same durable w v 0 within ∙ newest-more_same first log i k d below same
      | inr other ↦ get_or-set_other durable w k v 0 (λ e. other (sym e)) ∙ was ∙ newest-more_other first log i k d below other
    ]

-- a word that stored bytes reach has one value more in the log
pub logged : (durable at place w value : ℕ) (bytes : List ℕ) (log : List Stored) → reaches at (length bytes) place ≡ true → value ≡ word_over at bytes place (newest (durable ∷ history_in log w))
    → durable ∷ history_in (log ++ record { word = w; value = value } ∷ []) w ≡ word_stored at bytes place (durable ∷ history_in log w)
logged durable at place w value bytes log reached is =
    let old = durable ∷ history_in log w in
    ap (λ h. durable ∷ h) (history_in-push_same log (record { word = w; value = value }) w (eq-eqb w w refl))
    ∙ ap (λ v. old ++ v ∷ []) is
    ∙ sym (ap (λ b. if b then old ++ word_over at bytes place (newest old) ∷ [] else old) reached)

pub logged-other : (w value other : ℕ) (log : List Stored) → (other ≡ w → ⊥) → history_in (log ++ record { word = w; value = value } ∷ []) other ≡ history_in log other
logged-other w value other log is = history_in-push_other log (record { word = w; value = value }) other (ne_eqb w other (λ e. is (sym e)))

-- bytes that don't touch the line reach none of its words
reaches-past : (at len n w : ℕ) → touches at len n ≡ false → w < 8 → reaches at len (8 * n + w) ≡ false
reaches-past at len n w past below =
    elim (cases_lt at (64 * n + 64)) as (λ _. reaches at len (8 * n + w) ≡ false) [
      | inl from ↦
          elim (cases_lt (64 * n) (at + len)) as (λ _. reaches at len (8 * n + w) ≡ false) [
            | inl to ↦ absurd (contrary (sym (touching at len n from to) ∙ past))
            | inr before ↦ reaches-out at len (8 * n + w) (inr (omega arith))
          ]
      | inr after ↦ reaches-out at len (8 * n + w) (inl (omega arith))
    ]
  where
    touching : (at len n : ℕ) → at < 64 * n + 64 → 64 * n < at + len → touches at len n ≡ true
    touching at len n from to = grind (arith, nat_tests)

    contrary : true ≡ false → ⊥
    contrary e = cc

pub untouched : (at n w : ℕ) (bytes old : List ℕ) → touches at (length bytes) n ≡ false → w < 8 → old ≡ word_stored at bytes (8 * n + w) old
untouched at n w bytes old past below =
    let place = 8 * n + w in
    sym (ap (λ b. if b then old ++ word_over at bytes place (newest old) ∷ [] else old) (reaches-past at (length bytes) n w past below))

-- a test of the values of a word is one of the log
any-one : (p : ℕ → Bool) (mine : Bool) (value : ℕ) (values : List ℕ) (rest : Bool) → list_any p values ≡ rest → list_any p (if mine then value ∷ values else values) ≡ ((mine && p value) || rest)
any-one p true value values rest is = ap (λ b. p value || b) is
any-one p false value values rest is = is

pub any-history_in : (p : ℕ → Bool) (log : List Stored) (w : ℕ) → list_any p (history_in log w) ≡ list_any (λ (stored : Stored). (stored.word == w) && p stored.value) log
any-history_in p [] w = refl
any-history_in p (stored ∷ log) w = any-one p (stored.word == w) stored.value (history_in log w) (list_any (λ (s : Stored). (s.word == w) && p s.value) log) (any-history_in p log w)
