-- A script of which line after line is given.
use Rattle.std.proofs.Common.{◌≡◌, ◌≢◌, ◌⊎◌, inl, inr, ◌+◌, ◌<◌, ◌≤◌, List, ℕ, [], ◌∷◌, ◌++◌, Option, Some, None, Ok, length, length-append, append_assoc, append-nil, arith, refl, ap, sym, ◌∙◌, subst}
use Rattle.std.specs.Prelude.{IsTrue, IsSomeAnd}
use Rattle.std.specs.Io.KnownBytes.{Consumes, IsAtEnd}
use Rattle.std.proofs.KnownBytes.{Consumes-nil, Consumes-trans}
use Rattle.std.proofs.lemmas.Bool.{true≢false}
use Rattle.script_text.specs.declared.next_line.NextLine.{NextLine}
use Rattle.script_text.specs.declared.next_line.NextLine.TheVariants.{Line, TooLong, End}
use Rattle.script_text.specs.Script.{lines_of}
use Rattle.script_text.specs.Streaming.{Stream, CountsLines, HasGiven, ahead, IsFirstLine, ReadsLine, stream_start}

pub given-start : HasGiven [] [] stream_start
given-start more _ = refl

-- one more line
pub given-line : (script taken line : List ℕ) (given : List (List ℕ)) (old new : Stream) → HasGiven script given old → (IsTrue old.ended → (taken ≡ []) × IsTrue new.ended)
    → IsFirstLine new.ended (old.waiting ++ taken) line new.waiting → HasGiven (script ++ taken) (given ++ line ∷ []) new
given-line script taken line given old new before stays first more over =
    let none : IsTrue old.ended → taken ++ more ≡ [] = λ is. ap (λ l. l ++ more) (stays is).0 ∙ over (stays is).1 in
    ap lines_of (append_assoc script taken more) ∙ before (taken ++ more) none ∙ ap (λ l. given ++ lines_of l) (sym (append_assoc old.waiting taken more))
    ∙ ap (λ l. given ++ l) (first more over) ∙ sym (append_assoc given (line ∷ []) (lines_of (new.waiting ++ more)))

-- at the end all lines were given
pub given-end : (script taken : List ℕ) (given : List (List ℕ)) (old : Stream) → HasGiven script given old → (IsTrue old.ended → taken ≡ []) → old.waiting ++ taken ≡ []
    → lines_of (script ++ taken) ≡ given
unfolding lines_of
given-end script taken given old before stays none = before taken stays ∙ ap (λ l. given ++ lines_of l) none ∙ append-nil given

-- a script of which so many lines were given
pub record Counted (left_old left_now : Option (List ℕ)) (now : Stream) (count : ℕ) : Type 0 where
  pub script : List ℕ
  pub given : List (List ℕ)
  pub read : Consumes left_old left_now script
  pub has : HasGiven script given now
  pub counted : count ≡ length given
  pub few : count + ahead now ≤ 1073807360
  pub ends : IsTrue now.ended → IsAtEnd left_now

pub counted-start : (now : Stream) (left : Option (List ℕ)) → now ≡ stream_start → Counted left left now 0
counted-start now left is = subst (λ s. Counted left left s 0) (sym is) (record {
  script = [];
  given = [];
  read = Consumes-nil left;
  has = given-start;
  counted = refl;
  few = omega arith;
  ends = λ ended. absurd (true≢false (sym ended));
})

counted-more : (a b c : Option (List ℕ)) (old new : Stream) (n : ℕ) (taken line : List ℕ) → Counted a b old n → Consumes b c taken → (IsTrue old.ended → (taken ≡ []) × IsTrue new.ended)
    → ((IsTrue old.ended → IsAtEnd b) → IsTrue new.ended → IsAtEnd c) → IsFirstLine new.ended (old.waiting ++ taken) line new.waiting → ahead new < ahead old → Counted a c new (n + 1)
counted-more a b c old new n taken line before read stays ends first fewer = record {
  script = before.script ++ taken;
  given = before.given ++ line ∷ [];
  read = Consumes-trans a b c before.script taken before.read read;
  has = given-line before.script taken line before.given old new before.has stays first;
  counted = omega (arith, before.counted, length-append before.given (line ∷ []));
  few = omega (arith, before.few, fewer);
  ends = ends before.ends;
}

some-line : (read : Option (List ℕ)) (P : List ℕ → Type 0) → IsSomeAnd read (λ line. (length line ≤ 65536) × P line) → (line : List ℕ) × P line
some-line None P holds = absurd holds
some-line (Some line) P holds = (line, holds.1)

counted-line : (a b c : Option (List ℕ)) (old new : Stream) (n : ℕ) → Counted a b old n → ReadsLine old new b c (Ok Line) → ahead new < ahead old → Counted a c new (n + 1)
counted-line a b c old new n before reads fewer =
    let line = some-line new.line (λ line. IsFirstLine new.ended (old.waiting ++ reads.taken) line new.waiting) reads.gives in
    counted-more a b c old new n reads.taken line.0 before reads.read reads.stays reads.ends line.1 fewer

counted-long : (a b c : Option (List ℕ)) (old new : Stream) (n : ℕ) → Counted a b old n → ReadsLine old new b c (Ok TooLong) → ahead new < ahead old → Counted a c new (n + 1)
counted-long a b c old new n before reads fewer =
    counted-more a b c old new n reads.taken reads.gives.line before reads.read reads.stays reads.ends reads.gives.first fewer

pub counted-next : (a b c : Option (List ℕ)) (old new : Stream) (n : ℕ) (next : NextLine) → Counted a b old n → ReadsLine old new b c (Ok next) → (next ≢ End → ahead new < ahead old)
    → (next ≡ Line) ⊎ (next ≡ TooLong) → Counted a c new (n + 1)
counted-next a b c old new n next before reads fewer (inl is) = counted-line a b c old new n before (rw is at reads) (fewer (grind (arith, is)))
counted-next a b c old new n next before reads fewer (inr is) = counted-long a b c old new n before (rw is at reads) (fewer (grind (arith, is)))

pub counted-end : (a b c : Option (List ℕ)) (old new : Stream) (n : ℕ) → Counted a b old n → ReadsLine old new b c (Ok End) → CountsLines a c n
counted-end a b c old new n before reads = record {
  script = before.script ++ reads.taken;
  read = Consumes-trans a b c before.script reads.taken before.read reads.read;
  at_end = reads.ends before.ends reads.gives.2;
  lines = before.counted ∙ ap length (sym (given-end before.script reads.taken before.given old before.has (λ is. (reads.stays is).0) reads.gives.0));
}
