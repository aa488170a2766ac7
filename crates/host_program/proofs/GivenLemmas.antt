-- The bytes of the lines that were given of a script.
use Rattle.std.proofs.Common.{◌≡◌, ◌⊎◌, inl, inr, ℕ, ◌==◌, ◌≤◌, List, [], ◌∷◌, ◌++◌, length, Option, Some, None, Ok, refl, sym, ap, subst, ◌∙◌, append_assoc}
use Rattle.std.specs.Prelude.{IfSome, IsSomeAnd, IsTrue, IsFalse}
use Rattle.std.specs.Io.KnownBytes.{IsAtEnd}
use Rattle.std.specs.List.{onto_first}
use Rattle.std.proofs.lemmas.Bool.{cases_Bool, eqb-true, true≢false}
use Rattle.script_text.specs.Script.{lines_of}
use Rattle.script_text.specs.Streaming.{HasGiven, IsFirstLine, LongLine, ReadsLine, Stream}
use Rattle.script_text.specs.declared.next_line.NextLine.{NextLine}
use Rattle.script_text.specs.declared.next_line.NextLine.TheVariants.{Line, TooLong, End}
use Rattle.program_base.specs.Writing.{IsFront}
use Rattle.host_program.specs.Whole.{bytes_of}
use Rattle.program_base.specs.Ending.{line}

-- a line before whose first byte another stands
bytes-onto : (c : ℕ) (lines : List (List ℕ)) (rest : List ℕ) → bytes_of lines ≡ rest ++ 10 ∷ [] → bytes_of (onto_first c lines) ≡ c ∷ rest ++ 10 ∷ []
bytes-onto c [] [] is = cc is
bytes-onto c [] (r ∷ rest) is = cc is
bytes-onto c (text ∷ lines) rest is = ap (λ bytes. c ∷ bytes) is

-- the lines of bytes that end in a newline have these bytes
bytes-lines : (script : List ℕ) → bytes_of (lines_of (script ++ 10 ∷ [])) ≡ script ++ 10 ∷ []
unfolding lines_of
bytes-lines [] = refl
bytes-lines (c ∷ cs) = elim (cases_Bool (c == 10)) as (λ _. bytes_of (lines_of (c ∷ cs ++ 10 ∷ [])) ≡ c ∷ cs ++ 10 ∷ []) [
  | inl is ↦ rw (is, lines_of) (ap (λ bytes. 10 ∷ bytes) (bytes-lines cs) ∙ ap (λ b. b ∷ cs ++ 10 ∷ []) (sym (eqb-true c 10 is)))
  | inr other ↦ rw (other, lines_of) (bytes-onto c (lines_of (cs ++ 10 ∷ [])) cs (bytes-lines cs))
]

pub bytes-append : (xs ys : List (List ℕ)) → bytes_of (xs ++ ys) ≡ bytes_of xs ++ bytes_of ys
bytes-append [] ys = refl
bytes-append (x ∷ xs) ys = ap (λ bytes. line x ++ bytes) (bytes-append xs ys) ∙ sym (append_assoc (line x) (bytes_of xs) (bytes_of ys))

-- the same bytes at the end, the same before them
pub same_before : (xs ys : List ℕ) → xs ++ 10 ∷ [] ≡ ys ++ 10 ∷ [] → xs ≡ ys
same_before [] [] is = refl
same_before [] (y ∷ []) is = cc is
same_before [] (y ∷ z ∷ ys) is = cc is
same_before (x ∷ []) [] is = cc is
same_before (x ∷ z ∷ xs) [] is = cc is
same_before (x ∷ xs) (y ∷ ys) is = let tail : xs ++ 10 ∷ [] ≡ ys ++ 10 ∷ [] = cc is in let head : x ≡ y = cc is in ap (λ b. b ∷ xs) head ∙ ap (λ l. y ∷ l) (same_before xs ys tail)

pub some_before : (xs : List ℕ) → xs ++ 10 ∷ [] ≡ [] → ⊥
some_before [] is = cc is
some_before (x ∷ xs) is = cc is

-- Before the source's end the lines that were given, and what waits, are what was taken.
pub given-whole : (script : List ℕ) (given : List (List ℕ)) (now : Stream) → HasGiven script given now → IsFalse now.ended → bytes_of given ++ now.waiting ≡ script
given-whole script given now has going =
    let ends = has (10 ∷ []) (λ is. absurd (true≢false (sym is ∙ going))) in
    sym (same_before script (bytes_of given ++ now.waiting)
    (sym (bytes-lines script) ∙ ap bytes_of ends ∙ bytes-append given (lines_of (now.waiting ++ 10 ∷ [])) ∙ ap (λ bytes. bytes_of given ++ bytes) (bytes-lines now.waiting)
    ∙ sym (append_assoc (bytes_of given) now.waiting (10 ∷ []))))

-- none of them was cut short
pub given-front : (script taken : List ℕ) (given : List (List ℕ)) (now : Stream) (left : Option (List ℕ)) → HasGiven script given now → (IsTrue now.ended → IsAtEnd left)
    → IsFront (bytes_of given) (script ++ taken) ⊎ IsAtEnd left
given-front script taken given now left has ends = elim (cases_Bool now.ended) as (λ _. IsFront (bytes_of given) (script ++ taken) ⊎ IsAtEnd left) [
  | inl ended ↦ inr (ends ended)
  | inr going ↦ inl (record { rest = now.waiting ++ taken; joined = sym (append_assoc (bytes_of given) now.waiting taken) ∙ ap (λ bytes. bytes ++ taken) (given-whole script given now has going) })
]

-- a line that was given is the first one
pub line_read : (old new : Stream) (a b : Option (List ℕ)) (next : NextLine) (reads : ReadsLine old new a b (Ok next)) → next ≡ Line → (text : List ℕ) → IfSome new.line (λ line. text ≡ line)
    → IsFirstLine new.ended (old.waiting ++ reads.taken) text new.waiting
line_read old new a b Line reads is text same = by_line new.line reads.gives same
  where
    by_line : (o : Option (List ℕ)) → IsSomeAnd o (λ line. (length line ≤ 65536) × IsFirstLine new.ended (old.waiting ++ reads.taken) line new.waiting) → IfSome o (λ line. text ≡ line)
        → IsFirstLine new.ended (old.waiting ++ reads.taken) text new.waiting
    by_line None gives same = absurd gives
    by_line (Some line) gives same = subst (λ l. IsFirstLine new.ended (old.waiting ++ reads.taken) l new.waiting) (sym same) gives.1
line_read old new a b TooLong reads is text same = cc is
line_read old new a b End reads is text same = cc is

pub long_read : (old new : Stream) (a b : Option (List ℕ)) (next : NextLine) (reads : ReadsLine old new a b (Ok next)) → next ≡ TooLong → LongLine (old.waiting ++ reads.taken) new
long_read old new a b Line reads is = cc is
long_read old new a b TooLong reads is = reads.gives
long_read old new a b End reads is = cc is
