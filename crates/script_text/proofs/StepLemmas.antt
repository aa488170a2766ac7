-- Reading a line step by step.
use Rattle.std.proofs.Common.{◌≡◌, ◌≢◌, ℕ, ◌+◌, true, false, List, [], ◌++◌, Option, Some, Ok, length, length-append, append_assoc, append-nil, refl, ap, sym, ◌∙◌, subst, arith}
use Rattle.std.specs.Prelude.{IsTrue}
use Rattle.std.specs.Io.KnownBytes.{Consumes, IsAtEnd}
use Rattle.std.proofs.KnownBytes.{Consumes-nil, Consumes-trans}
use Rattle.std.proofs.lemmas.Bool.{true≢false}
use Rattle.std.proofs.lemmas.List.Elements.{All-nil}
use Rattle.script_text.specs.Streaming.{Stream, IsUnbroken, kept}
use Rattle.script_text.specs.StreamSteps.{ReadsOn, TakesPart}
use Rattle.script_text.proofs.StreamLemmas.{kept-some, unbroken-append}

-- a line that was begun: what was taken and what waited of it
pub record Reading (old now : Stream) (left_old left_now : Option (List ℕ)) : Type 0 where
  pub taken : List ℕ
  pub begun : List ℕ
  pub read : Consumes left_old left_now taken
  pub count : now.taken ≡ old.taken + length taken
  pub split : old.waiting ++ taken ≡ begun ++ now.waiting
  pub unbroken : IsUnbroken begun
  pub line : now.line ≡ kept begun
  pub stays : IsTrue old.ended → (taken ≡ []) × IsTrue now.ended
  pub ends : (IsTrue old.ended → IsAtEnd left_old) → IsTrue now.ended → IsAtEnd left_now

pub reading-start : (old now : Stream) (left : Option (List ℕ)) → now.line ≡ Some [] → now.waiting ≡ old.waiting → now.taken ≡ old.taken → now.ended ≡ old.ended
    → Reading old now left left
reading-start old now left line waiting taken ended = record {
  taken = [];
  begun = [];
  read = Consumes-nil left;
  count = omega (arith, taken);
  split = append-nil old.waiting ∙ sym waiting;
  unbroken = All-nil (λ (b : ℕ). b ≢ 10);
  line = line ∙ sym (kept-some [] (omega arith));
  stays = λ is. (refl, ended ∙ is);
  ends = λ at_end is. at_end (sym ended ∙ is);
}

-- all that waited was of the line
pub reading-part : (old now new : Stream) (a b : Option (List ℕ)) → Reading old now a b → TakesPart now new false → Reading old new a b
reading-part old now new a b before part = record {
  taken = before.taken;
  begun = before.begun ++ part.part;
  read = before.read;
  count = part.taken ∙ before.count;
  split = before.split ∙ ap (λ l. before.begun ++ l) part.split.0 ∙ sym (append-nil (before.begun ++ part.part)) ∙ ap (λ l. (before.begun ++ part.part) ++ l) (sym part.split.1);
  unbroken = unbroken-append before.begun part.part before.unbroken part.unbroken;
  line = part.line before.begun before.line;
  stays = λ is. ((before.stays is).0, part.ended ∙ (before.stays is).1);
  ends = λ at_end is. before.ends at_end (sym part.ended ∙ is);
}

-- what is taken behind a begun line of which nothing waits
pub split-on : (old begun now taken more waiting : List ℕ) → old ++ taken ≡ begun ++ now → now ≡ [] → waiting ≡ more → old ++ (taken ++ more) ≡ begun ++ waiting
split-on old begun now taken more waiting split none is =
    sym (append_assoc old taken more) ∙ ap (λ l. l ++ more) (split ∙ ap (λ l. begun ++ l) none ∙ append-nil begun) ∙ ap (λ l. begun ++ l) (sym is)

pub reading-more : (old now new : Stream) (a b c : Option (List ℕ)) → Reading old now a b → now.waiting ≡ [] → ReadsOn now new b c (Ok true) → Reading old new a c
reading-more old now new a b c before none on = record {
  taken = before.taken ++ on.taken;
  begun = before.begun;
  read = Consumes-trans a b c before.taken on.taken before.read on.read;
  count = omega (arith, on.count, before.count, length-append before.taken on.taken);
  split = split-on old.waiting before.begun now.waiting before.taken on.taken new.waiting before.split none on.waiting;
  unbroken = before.unbroken;
  line = on.line ∙ before.line;
  stays = λ is. absurd (true≢false (sym (before.stays is).1 ∙ on.brings.1));
  ends = λ at_end is. on.ends (before.ends at_end) is;
}

-- a whole line waited, so no more was needed
pub unbroken-waiting : (waited : List ℕ) (now new : Stream) → now.waiting ≡ waited → TakesPart now new false → IsUnbroken waited
unbroken-waiting waited now new same part = subst IsUnbroken (sym part.split.0 ∙ same) part.unbroken
