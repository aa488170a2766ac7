-- Questions are comments.
use Rattle.std.proofs.Common.{◌≡◌, ◌≢◌, ◌==◌, ℕ, Bool, true, false, List, [], ◌∷◌, length, nat_lt, if◌then◌else◌, codes, refl, ap}
use Rattle.std.specs.Str.{bytes_eq}
use Rattle.std.specs.Io.BufRead.{strip_last}
use Rattle.std.proofs.lemmas.Slice.Eq.{bytes_eq-Decides}
use Rattle.script_text.specs.Script.{asked, command_action, is_comment, words_of, words_input, line_input}
use Rattle.script_text.specs.Script.Input.{Skipped, Overlong}
use Rattle.questions.specs.Question.{comment_question, marked_question, near_question, words_question, question_line}
use Rattle.questions.specs.Question.QuestionLine.{Plain}

marked_skipped : (mark : List ℕ) (words : List (List ℕ)) → marked_question mark words ≢ Plain → words_input (mark ∷ words) ≡ Skipped
marked_skipped [] words asks = absurd (asks refl)
marked_skipped (c ∷ word) words asks = go (c == 35) asks
  where
    go : (b : Bool) → (if b then near_question word words else Plain) ≢ Plain → (if b then Skipped else asked (command_action (c ∷ word) words)) ≡ Skipped
    go true asks = refl
    go false asks = absurd (asks refl)

words_skipped : (words : List (List ℕ)) → words_question words ≢ Plain → words_input words ≡ Skipped
words_skipped [] asks = refl
words_skipped (mark ∷ words) asks = go (bytes_eq mark (codes "#")) refl asks
  where
    go : (b : Bool) → bytes_eq mark (codes "#") ≡ b → (if b then comment_question words else marked_question mark words) ≢ Plain → words_input (mark ∷ words) ≡ Skipped
    go true e asks =
        let is : mark ≡ codes "#" = (bytes_eq-Decides mark (codes "#")).0 e in
        ap (λ word. if is_comment word then Skipped else asked (command_action mark words)) is
    go false e asks = marked_skipped mark words asks

pub question-skipped : (line : List ℕ) → question_line line ≢ Plain → line_input line ≡ Skipped
unfolding question_line line_input
question-skipped line asks = go (nat_lt 65536 (length line)) asks
  where
    go : (b : Bool) → (if b then Plain else words_question (words_of (strip_last 13 line))) ≢ Plain
        → (if b then Overlong else words_input (words_of (strip_last 13 line))) ≡ Skipped
    go true asks = absurd (asks refl)
    go false asks = words_skipped (words_of (strip_last 13 line)) asks
