-- What parts ask, one after the other.
use Rattle.std.proofs.Common.{◌≡◌, ℕ, ◌+◌, ◌<◌, List, [], ◌∷◌, ◌++◌, map, length, Option, Some, None, option_map, Bor, Result, Ok, Err, MatchOption, refl, sym, ap, ◌∙◌, arith, append_assoc, length-append}
use Rattle.std.proofs.lemmas.List.{map-append}
use Rattle.reply_text.specs.Answer.{Answer}
use Rattle.script_text.specs.Script.{words_of}
use Rattle.questions.specs.declared.reply.AskedReply.{AskedReply}
use Rattle.questions.specs.Asked.{answer_asked, part_asked}
use Rattle.questions.specs.Parts.{parts_of, part_of, after_bar}
use Rattle.questions.specs.Question.{parts_asked, with_reply}
use Rattle.questions.proofs.PartLemmas.{parts_after, parts_of-first, after_bar-shorter, words_left, left_count}

-- these replies before others
abbrev pub before : List (Option Answer) → Result (List (Option Answer)) ℕ → Result (List (Option Answer)) ℕ
before first (Ok more) = Ok (first ++ more)
before first (Err k) = Err k

before-more : (k : ℕ) (first : List (Option Answer)) (reply : Option Answer) (more : Result (List (Option Answer)) ℕ)
    → before first (with_reply k (Some reply) more) ≡ before (first ++ reply ∷ []) more
before-more k first reply (Err n) = refl
before-more k first reply (Ok replies) = ap Ok (sym (append_assoc first (reply ∷ []) replies))

pub before-none : (more : Result (List (Option Answer)) ℕ) → more ≡ before [] more
before-none (Ok more) = refl
before-none (Err k) = refl

-- the answers of replies
abbrev pub answers : List (Option AskedReply) → List (Option Answer)
answers replies = map (option_map answer_asked) replies

-- what words and those behind them ask is what these replies do, and then the parts that are left
abbrev pub AsksRest : List (List ℕ) → List (Option AskedReply) → Option (List (List ℕ)) → Type 0
AsksRest words replies left = parts_asked 1 (parts_of words) ≡ before (answers replies) (parts_asked (length replies + 1) (parts_after left))

-- one part is read, and what is after it is left
pub read_more : (all : List (List ℕ)) (replies pushed : List (Option AskedReply)) (reply : Option AskedReply) (words : List (List ℕ)) (left : Option (List (List ℕ)))
    → AsksRest all replies (Some words) → part_asked (part_of words) ≡ Some (option_map answer_asked reply)
    → pushed ≡ replies ++ reply ∷ [] → after_bar words ≡ left → AsksRest all pushed left
read_more all replies pushed reply words left so asks is rest =
    let n = length replies + 1 in
    let more : parts_asked n (parts_of words) ≡ with_reply n (Some (option_map answer_asked reply)) (parts_asked (n + 1) (parts_after left)) = simp (parts_of-first words, rest, asks) refl in
    let longer : answers pushed ≡ answers replies ++ option_map answer_asked reply ∷ [] = ap answers is ∙ map-append (option_map answer_asked) replies (reply ∷ []) in
    let count : n + 1 ≡ length pushed + 1 = omega (arith, ap length is, length-append replies (reply ∷ [])) in
    so ∙ ap (before (answers replies)) more ∙ before-more n (answers replies) (option_map answer_asked reply) _
    ∙ ap (λ first. before first (parts_asked (n + 1) (parts_after left))) (sym longer) ∙ ap (λ k. before (answers pushed) (parts_asked k (parts_after left))) count

-- a part that is not read
pub read_over : (all : List (List ℕ)) (replies : List (Option AskedReply)) (words : List (List ℕ)) (k : ℕ)
    → AsksRest all replies (Some words) → part_asked (part_of words) ≡ None → k ≡ length replies + 1 → parts_asked 1 (parts_of all) ≡ Err k
read_over all replies words k so asks is =
    let none : parts_asked (length replies + 1) (parts_of words) ≡ Err (length replies + 1) = simp (parts_of-first words, asks) refl in
    so ∙ ap (before (answers replies)) none ∙ ap Err (sym is)

-- what is left behind a bar
pub words_left-is : (rest : Option (Bor (List ℕ))) (words : List (List ℕ)) → MatchOption rest (after_bar words ≡ None) (λ text. after_bar words ≡ Some (words_of text.now))
    → after_bar words ≡ words_left rest
words_left-is None words e = e
words_left-is (Some text) words e = e

-- there is less of it
pub left_count-falls : (words : List (List ℕ)) (left : Option (List (List ℕ))) → after_bar words ≡ left → left_count left < left_count (Some words)
left_count-falls words None e = omega arith
left_count-falls words (Some rest) e = omega (arith, after_bar-shorter words rest e)
