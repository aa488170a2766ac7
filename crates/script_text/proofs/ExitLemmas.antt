-- How reading a line ends.
use Rattle.std.proofs.Common.{◌≡◌, ◌≢◌, ℕ, ◌<◌, ◌≤◌, Bool, true, false, not, List, [], ◌∷◌, ◌++◌, Option, Some, None, Ok, Err, length, length-append, append_assoc, append-nil, refl, ap, sym, ◌∙◌, subst, arith}
use Rattle.std.specs.Prelude.{◌↔◌, IsTrue, IsSomeAnd}
use Rattle.std.proofs.KnownBytes.{Consumes-trans}
use Rattle.std.proofs.lemmas.Bool.{true≢false}
use Rattle.script_text.specs.declared.next_line.InputFault.{InputFault}
use Rattle.script_text.specs.declared.next_line.InputFault.TheVariants.{Failed, TooLarge}
use Rattle.script_text.specs.declared.next_line.NextLine.TheVariants.{Line, TooLong}
use Rattle.script_text.specs.Script.{lines_of}
use Rattle.script_text.specs.Streaming.{Stream, IsFirstLine, IsUnbroken, ReadsLine, ahead, kept}
use Rattle.script_text.specs.StreamSteps.{GivesOut, ReadsOn, ReadsOut, TakesPart}
use Rattle.script_text.proofs.StepLemmas.{Reading, split-on}
use Rattle.script_text.proofs.StreamLemmas.{from_kept-none, from_kept-some, kept-some, lines_of-ended, lines_of-unended, unbroken-append}

-- ended by its newline
whole-first : (ended : Bool) (bytes begun now part rest : List ℕ) → bytes ≡ begun ++ now → now ≡ part ++ 10 ∷ rest → IsUnbroken begun → IsUnbroken part
    → IsFirstLine ended bytes (begun ++ part) rest
whole-first ended bytes begun now part rest split newline a b more _ =
    let is : bytes ++ more ≡ (begun ++ part) ++ 10 ∷ (rest ++ more) =
    ap (λ l. l ++ more) (split ∙ ap (λ l. begun ++ l) newline ∙ sym (append_assoc begun part (10 ∷ rest))) ∙ append_assoc (begun ++ part) (10 ∷ rest) more in
    ap lines_of is ∙ lines_of-ended (begun ++ part) (rest ++ more) (unbroken-append begun part a b)

whole-shorter : (bytes begun now part rest : List ℕ) → bytes ≡ begun ++ now → now ≡ part ++ 10 ∷ rest → length rest < length bytes
whole-shorter bytes begun now part rest split newline =
    omega (arith, ap length split, ap length newline, length-append begun now, length-append part (10 ∷ rest))

pub reads-whole : (old now new : Stream) (a b : Option (List ℕ)) → Reading old now a b → TakesPart now new true → ReadsOut old new a b (Ok true)
reads-whole old now new a b before part = record {
  taken = before.taken;
  read = before.read;
  count = part.taken ∙ before.count;
  gives = record {
    line = before.begun ++ part.part;
    first = whole-first new.ended _ before.begun now.waiting part.part new.waiting before.split part.split before.unbroken part.unbroken;
    kept = part.line before.begun before.line;
    shorter = whole-shorter _ before.begun now.waiting part.part new.waiting before.split part.split;
  };
  stays = λ is. ((before.stays is).0, part.ended ∙ (before.stays is).1);
  ends = λ at_end is. before.ends at_end (sym part.ended ∙ is);
}

-- ended by the script's end
last-first : (ended : Bool) (bytes line rest : List ℕ) → bytes ≡ line ++ rest → rest ≡ [] → IsUnbroken line → 0 < length line → IsTrue ended → IsFirstLine ended bytes line rest
unfolding lines_of
last-first ended bytes line rest split none unbroken some is more over =
    let nothing = over is in
    let all : bytes ++ more ≡ line = ap (λ l. bytes ++ l) nothing ∙ append-nil bytes ∙ split ∙ ap (λ l. line ++ l) none ∙ append-nil line in
    let others : rest ++ more ≡ [] = ap (λ l. rest ++ l) nothing ∙ append-nil rest ∙ none in
    ap lines_of all ∙ lines_of-unended line unbroken some ∙ ap (λ l. line ∷ lines_of l) (sym others)

begun-some : (begun : List ℕ) → kept begun ≢ Some [] → 0 < length begun
begun-some [] ne = absurd (ne (kept-some [] (omega arith)))
begun-some (c ∷ cs) ne = omega arith

-- what is given at the end: the begun line, where it has a byte
gives-last : (bytes begun : List ℕ) (new : Stream) (empty : Bool) → bytes ≡ begun ++ new.waiting → new.waiting ≡ [] → IsUnbroken begun → new.line ≡ kept begun → IsTrue new.ended
    → new.taken < 1073741824 → (IsTrue empty ↔ (new.line ≡ Some [])) → GivesOut bytes new (Ok (not empty))
gives-last bytes begun new true split none unbroken line ended most e =
    let nothing : begun ≡ [] = sym (from_kept-some [] begun (sym (e.0 refl) ∙ line)).0 in
    (split ∙ ap (λ l. begun ++ l) none ∙ append-nil begun ∙ nothing, none, ended, most)
gives-last bytes begun new false split none unbroken line ended most e =
    let some : 0 < length begun = begun-some begun (λ is. true≢false (sym (e.1 (line ∙ is)))) in
    record {
      line = begun;
      first = last-first new.ended bytes begun new.waiting split none unbroken some ended;
      kept = line;
      shorter = omega (arith, some, ap length split, length-append begun new.waiting);
    }

-- no more comes after the begun line
pub reads-last : (old now new : Stream) (a b c : Option (List ℕ)) (empty : Bool) → Reading old now a b → now.waiting ≡ [] → ReadsOn now new b c (Ok false)
    → (IsTrue empty ↔ (new.line ≡ Some [])) → ReadsOut old new a c (Ok (not empty))
reads-last old now new a b c empty before none on e =
    let split = split-on old.waiting before.begun now.waiting before.taken on.taken new.waiting before.split none on.waiting in
    record {
      taken = before.taken ++ on.taken;
      read = Consumes-trans a b c before.taken on.taken before.read on.read;
      count = omega (arith, on.count, before.count, length-append before.taken on.taken);
      gives = gives-last _ before.begun new empty split (on.waiting ∙ on.brings.0) before.unbroken (on.line ∙ before.line) on.brings.1 on.brings.2 e;
      stays = λ is. (ap (λ l. l ++ on.taken) (before.stays is).0 ∙ on.brings.0, on.brings.1);
      ends = λ at_end is. on.ends (before.ends at_end) is;
    }

-- a fault: of the begun line there is no more
unended : (bytes begun waiting : List ℕ) → bytes ≡ begun ++ waiting → waiting ≡ [] → IsUnbroken begun → IsUnbroken bytes
unended bytes begun waiting split none unbroken = subst IsUnbroken (sym (split ∙ ap (λ l. begun ++ l) none ∙ append-nil begun)) unbroken

pub reads-faulty : (old now new : Stream) (a b c : Option (List ℕ)) (fault : InputFault) → Reading old now a b → now.waiting ≡ [] → ReadsOn now new b c (Err fault) → ReadsOut old new a c (Err fault)
reads-faulty old now new a b c Failed before none on =
    let split = split-on old.waiting before.begun now.waiting before.taken on.taken new.waiting before.split none on.waiting in
    record {
      taken = before.taken ++ on.taken;
      read = Consumes-trans a b c before.taken on.taken before.read on.read;
      count = omega (arith, on.count, before.count, length-append before.taken on.taken);
      gives = (unended _ before.begun new.waiting split (on.waiting ∙ on.brings.0) before.unbroken, on.brings.2, omega (arith, on.count, on.brings.3, ap length on.brings.0));
      stays = λ is. absurd (true≢false (sym (before.stays is).1 ∙ on.brings.1));
      ends = λ at_end is. on.ends (before.ends at_end) is;
    }
reads-faulty old now new a b c TooLarge before none on =
    let split = split-on old.waiting before.begun now.waiting before.taken on.taken new.waiting before.split none on.waiting in
    record {
      taken = before.taken ++ on.taken;
      read = Consumes-trans a b c before.taken on.taken before.read on.read;
      count = omega (arith, on.count, before.count, length-append before.taken on.taken);
      gives = (unended _ before.begun new.waiting split (on.waiting ∙ on.brings.0) before.unbroken, on.brings.2, omega (arith, on.count, on.brings.3));
      stays = λ is. absurd (true≢false (sym (before.stays is).1 ∙ on.brings.1));
      ends = λ at_end is. on.ends (before.ends at_end) is;
    }

-- a line read out is given, unless it is too long
kept-line : (read : Option (List ℕ)) (line : List ℕ) (P : List ℕ → Type 0) → read ≡ kept line → read ≢ None → P line → IsSomeAnd read (λ l. (length l ≤ 65536) × P l)
kept-line None line P is some holds = absurd (some refl)
kept-line (Some items) line P is some holds =
    let whole = from_kept-some items line is in
    (omega (arith, ap length whole.0, whole.1), subst P (sym whole.0) holds)

pub next-line : (old new : Stream) (a b : Option (List ℕ)) → ReadsOut old new a b (Ok true) → new.line ≢ None → ReadsLine old new a b (Ok Line)
next-line old new a b out some = record {
  taken = out.taken;
  read = out.read;
  count = out.count;
  gives = kept-line new.line out.gives.line (λ line. IsFirstLine new.ended (old.waiting ++ out.taken) line new.waiting) out.gives.kept some out.gives.first;
  stays = out.stays;
  ends = out.ends;
}

pub next-long : (old new : Stream) (a b : Option (List ℕ)) → ReadsOut old new a b (Ok true) → new.line ≡ None → ReadsLine old new a b (Ok TooLong)
next-long old new a b out none = record {
  taken = out.taken;
  read = out.read;
  count = out.count;
  gives = record {
    line = out.gives.line;
    long = from_kept-none out.gives.line (sym none ∙ out.gives.kept);
    first = out.gives.first;
  };
  stays = out.stays;
  ends = out.ends;
}

-- one line fewer can come
pub ahead-fewer : (old new : Stream) (a b : Option (List ℕ)) → ReadsOut old new a b (Ok true) → new.taken < 1073807360 → ahead new < ahead old
ahead-fewer old new a b out most = omega (arith, most, out.count, out.gives.shorter, length-append old.waiting out.taken)
