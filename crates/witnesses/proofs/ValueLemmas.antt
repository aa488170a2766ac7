-- The values of a word, by what is kept of its line.
use Rattle.std.proofs.Common.{◌≡◌, ◌==◌, ◌&&◌, ◌||◌, ◌+◌, ◌*◌, ℕ, Bool, true, false, cond, not, Option, Some, None, List, [], ◌∷◌, find, unwrap_or, refl, sym, ap, ◌∙◌}
use Rattle.std.specs.List.{list_any}
use Rattle.nvm_model.specs.Cell.{Cell}
use Rattle.nvm_model.specs.Cell.Cell.{Bad, Kept}
use Rattle.cut_places.specs.Outcomes.Pages.{PageRead, all_agree}
use Rattle.line_histories.specs.declared.log.Stored.{Stored}
use Rattle.line_histories.specs.Held.{HasHistory}
use Rattle.line_histories.specs.Log.{history_in}
use Rattle.line_histories.proofs.LogLemmas.{any-history_in}
use Rattle.witnesses.specs.Lines.{HasOther, IsAgreed, first_agreed}

-- the value that was stored, 0 where none was
abbrev pub value_of : Option Stored → ℕ
value_of None = 0
value_of (Some stored) = stored.value

-- the first of a log's values of a word that passes
pub find-history_in : (test : ℕ → Bool) (log : List Stored) (w : ℕ)
    → value_of (find (λ (stored : Stored). (stored.word == w) && test stored.value) log) ≡ unwrap_or (find test (history_in log w)) 0
find-history_in test [] w = refl
find-history_in test (s ∷ log) w = by_word (s.word == w) (test s.value) refl (find-history_in test log w)
  where
    by_word : (b t : Bool) → test s.value ≡ t → value_of (find (λ (stored : Stored). (stored.word == w) && test stored.value) log) ≡ unwrap_or (find test (history_in log w)) 0
        → value_of (cond (b && t) (Some s) (find (λ (stored : Stored). (stored.word == w) && test stored.value) log))
        ≡ unwrap_or (find test (cond b (s.value ∷ history_in log w) (history_in log w))) 0
    by_word true true is rest = sym (ap (λ b. unwrap_or (cond b (Some s.value) (find test (history_in log w))) 0) is)
    by_word true false is rest = rest ∙ sym (ap (λ b. unwrap_or (cond b (Some s.value) (find test (history_in log w))) 0) is)
    by_word false t is rest = rest

-- a word's first value that agrees is one of the log, where its durable one does not
pub agreed_by : (reads : List PageRead) (n w durable value : ℕ) (log : List Stored) (cell : Cell) → HasHistory cell w (durable ∷ history_in log w) → all_agree reads (8 * n + w) durable ≡ false
    → value ≡ value_of (find (λ (stored : Stored). (stored.word == w) && all_agree reads (8 * n + w) stored.value) log) → IsAgreed reads n w cell value
agreed_by reads n w durable value log Bad has none is = tt
agreed_by reads n w durable value log (Kept weak words) has none is =
    is ∙ find-history_in (all_agree reads (8 * n + w)) log w
    ∙ sym (ap (λ b. unwrap_or (cond b (Some durable) (find (all_agree reads (8 * n + w)) (history_in log w))) 0) none)
    ∙ sym (ap (first_agreed reads (8 * n + w)) has)

-- a word has another value where the durable one, or one of the log, is another
pub other_by : (w durable value : ℕ) (log : List Stored) (cell : Cell) (has : Bool) → HasHistory cell w (durable ∷ history_in log w) → (durable == value) ≡ true
    → has ≡ list_any (λ (stored : Stored). (stored.word == w) && not (stored.value == value)) log → HasOther cell w value has
other_by w durable value log Bad has history same is = tt
other_by w durable value log (Kept weak words) has history same is =
    is ∙ sym (any-history_in (λ v. not (v == value)) log w) ∙ ap (λ b. not b || list_any (λ v. not (v == value)) (history_in log w)) (sym same) ∙ sym (ap (list_any (λ v. not (v == value))) history)
