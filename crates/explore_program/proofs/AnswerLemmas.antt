-- Questions that are answered one after another.
use Rattle.std.proofs.Common.{◌≡◌, ◌≤◌, ◌<◌, ◌+◌, ◌||◌, ℕ, zero, suc, Bool, true, false, List, [], ◌∷◌, ◌++◌, length, take, drop, Option, Some, None, is_some, slice_get, get_or, Result, Ok, Err, refl, sym, ap, ap₂, subst, ◌∙◌, append_assoc, append-nil, arith}
use Rattle.std.proofs.lemmas.List.{take-append-drop}
use Rattle.std.specs.Prelude.{IfOk, MatchResult}
use Rattle.std.specs.Io.KnownBytes.{Appends}
use Rattle.nvm_base.specs.Counts.{Rose}
use Rattle.nvm_base.specs.Stock.{Stock}
use Rattle.host_io.specs.Writing.{WritesAll}
use Rattle.host_io.specs.declared.sink.WriteFault.{WriteFault}
use Rattle.host_io.specs.declared.sink.WriteFault.TheVariants as write
use Rattle.line_device.specs.Panel.{Panel}
use Rattle.word_tables.specs.declared.geometry.Geometry.{Geometry}
use Rattle.outcome_lists.specs.AskedReads.declared.read.Read.{Read}
use Rattle.outcome_lists.specs.OutcomeTest.Seen.{Seen}
use Rattle.exploration.specs.declared.asking.Asking.{Asking}
use Rattle.exploration.specs.declared.asking.Wanted.{Wanted}
use Rattle.exploration.specs.declared.asking.Wanted.TheVariants as wanted
use Rattle.exploration.specs.Exploration.{Asked}
use Rattle.outcome_lists.specs.AskedReads.Asking.{IsLook, files_asked, may_be_replies, volume_asked}
use Rattle.outcome_lists.specs.AskedReads.declared.question.Question.{Question}
use Rattle.exploration.specs.Reading.{AskOf, IsAsking}
use Rattle.outcome_lists.specs.Explorer.Stopping.{NoneFell}
use Rattle.outcome_lists.specs.CutPlaces.Places.{Stop}
use Rattle.outcome_lists.specs.Explorer.Finding.{IsFound}
use Rattle.outcome_lists.specs.Explorer.Tabulating.{LooksAt, LooksWithin, looked}
use Rattle.outcome_lists.specs.Explorer.declared.found.Found.{Found}
use Rattle.program_base.specs.Writing.{WritesFront}
use Rattle.program_base.proofs.BytesLemmas.{appends-none, appends_then}
use Rattle.program_base.proofs.WritingLemmas.{told_all, told_front}
use Rattle.explore_program.specs.Calls.{AllAskOf, AnswersAll, AreAnswered, FirstAnswered, IsUnanswered}
use Rattle.explore_program.specs.declared.stop.Stop.{Stop as Stopped}
use Rattle.explore_program.specs.declared.stop.Stop.TheVariants as stops
use Rattle.program_base.specs.declared.ending.Ending.TheVariants as endings
use Rattle.explore_program.specs.Stops.{of_write}
use Rattle.explore_program.proofs.CauseLemmas.{fell_on, unanswered_later, unanswered_write}
use Rattle.explore_program.specs.Telling.{answer_line, answer_text, is_any_missed, is_missed}

-- a question by its number
pub asked_at : (questions : List Asking) (i : ℕ) (q : Asking) → i < length questions → q ≡ get_or questions i q → slice_get questions i ≡ Some q
asked_at [] i q below is = absurd (omega (arith, below))
asked_at (x ∷ questions) zero q below is = ap Some (sym is)
asked_at (x ∷ questions) (suc i) q below is = asked_at questions i q (omega (arith, below)) is

-- a question as the script has it
pub asked_as : (asked : List Asked) (questions : List Asking) (i : ℕ) (q : Asking) → AskOf asked questions → slice_get questions i ≡ Some q
    → (a : Asked) × (slice_get asked i ≡ Some a) × IsAsking a q
asked_as [] [] i q ask at = absurd (cc at)
asked_as [] (x ∷ questions) i q ask at = absurd ask
asked_as (a ∷ asked) [] i q ask at = absurd ask
asked_as (a ∷ asked) (x ∷ questions) zero q ask at = let same : x ≡ q = cc at in (a, refl, subst (IsAsking a) same ask.0)
asked_as (a ∷ asked) (x ∷ questions) (suc i) q ask at = asked_as asked questions i q ask.1 at

pub as_many : (asked : List Asked) (questions : List Asking) → AskOf asked questions → length asked ≡ length questions
as_many [] [] ask = refl
as_many [] (x ∷ questions) ask = absurd ask
as_many (a ∷ asked) [] ask = absurd ask
as_many (a ∷ asked) (x ∷ questions) ask = ap suc (as_many asked questions ask.1)

-- what was found is as it is told: something, or nothing
pub some_found : (all look : List Seen) (stop : Option Stop) (found : Option Found) → IsFound all look stop found → is_some found ≡ is_some stop
some_found all look None None is = refl
some_found all look None (Some found) is = absurd is
some_found all look (Some stop) None is = absurd is
some_found all look (Some stop) (Some found) is = refl

-- and so it is answered as it is to be, or not
pub missed_found : (how : Wanted) (all look : List Seen) (stop : Option Stop) (found : Option Found) → IsFound all look stop found → is_missed how found ≡ is_missed how stop
missed_found wanted.Never all look stop found is = some_found all look stop found is
missed_found wanted.May all look None None is = refl
missed_found wanted.May all look None (Some found) is = absurd is
missed_found wanted.May all look (Some stop) None is = absurd is
missed_found wanted.May all look (Some stop) (Some found) is = refl

-- the line of an answer, by the reads that look at all
pub spelled_by : {E : Type 0} (all : List Seen) (q : Question) (found : Option Found) (line : Result (Stock ℕ) E) → IsLook all q
    → IfOk line (λ l. l.items ≡ answer_text (volume_asked q) (files_asked q) found) → IfOk line (λ l. l.items ≡ answer_line all found)
spelled_by all q found (Ok l) is told = told ∙ sym (ap₂ (λ pages files. answer_text pages files found) is.volume is.files)
spelled_by all q found (Err e) is told = tt

-- what is looked at, of a device of the image's sizes
pub looked_asks : {geo sizes : Geometry} {reads : List Read} {q : Question} → sizes ≡ geo → LooksAt geo reads q → IsLook (looked sizes reads) q
looked_asks {reads = reads} {q = q} same looks = subst (λ g. IsLook (looked g reads) q) (sym same) looks.asks

pub looked_replies : {geo sizes : Geometry} {reads : List Read} {q : Question} → sizes ≡ geo → LooksAt geo reads q → may_be_replies sizes q ≡ true
looked_replies {q = q} same looks = subst (λ g. may_be_replies g q ≡ true) (sym same) looks.replies

-- the look of a question by its number is within what is looked at
within_at : (geo : Geometry) (reads : List Read) (asked : List Asked) (i : ℕ) (a : Asked) → AllAskOf geo reads asked → slice_get asked i ≡ Some a → LooksWithin (looked geo reads) a.look
within_at geo reads [] i a under at = absurd (cc at)
within_at geo reads (x ∷ asked) zero a under at = let same : x ≡ a = cc at in subst (λ (l : Asked). LooksWithin (looked geo reads) l.look) same under.0
within_at geo reads (x ∷ asked) (suc i) a under at = within_at geo reads asked i a under.1 at

module _ (geo : Geometry) (reads : List Read) (tell : List Seen → Option Stop) where
  abbrev all : List Seen
  all = looked geo reads

  -- what was written once the first i are answered, and whether one of them is not answered as it is to be
  pub record Answered (asked : List Asked) (i : ℕ) (missed : Bool) (old now : Option (List ℕ)) : Type 0 where
    pub text : List ℕ
    pub are : AreAnswered all tell (take i asked) text
    pub found : missed ≡ is_any_missed tell (take i asked)
    pub wrote : Appends old now text

  pub answered_none : (asked : List Asked) (old : Option (List ℕ)) → Answered asked 0 false old old
  answered_none asked old = record { text = []; are = refl; found = refl; wrote = appends-none old }

  are-more : (asked : List Asked) (i : ℕ) (a : Asked) (text : List ℕ) (found : Option Found) → slice_get asked i ≡ Some a → AreAnswered all tell (take i asked) text
      → IsFound all a.look (tell a.look) found → AreAnswered all tell (take (suc i) asked) (text ++ answer_line all found)
  are-more [] i a text found at are is = absurd (cc at)
  are-more (x ∷ asked) zero a text found at are is =
      let same : a ≡ x = cc at in
      (found, [], subst (λ (l : Asked). IsFound all l.look (tell l.look) found) same is, ap (λ t. t ++ answer_line all found) are ∙ sym (append-nil (answer_line all found)), refl)
  are-more (x ∷ asked) (suc i) a text found at are is = (
    are.0,
    are.1 ++ answer_line all found,
    are.2,
    ap (λ t. t ++ answer_line all found) are.3 ∙ append_assoc (answer_line all are.0) are.1 (answer_line all found),
    are-more asked i a are.1 found at are.4 is,
  )

  any-more : (asked : List Asked) (i : ℕ) (a : Asked) → slice_get asked i ≡ Some a
      → is_any_missed tell (take (suc i) asked) ≡ (is_any_missed tell (take i asked) || is_missed a.wanted (tell a.look))
  any-more [] i a at = absurd (cc at)
  any-more (x ∷ asked) zero a at = let same : x ≡ a = cc at in by_one (is_missed x.wanted (tell x.look)) ∙ ap (λ (l : Asked). is_missed l.wanted (tell l.look)) same
    where
      by_one : (b : Bool) → (b || false) ≡ b
      by_one true = refl
      by_one false = refl
  any-more (x ∷ asked) (suc i) a at = by_first (is_missed x.wanted (tell x.look)) (any-more asked i a at)
    where
      by_first : (b : Bool) → is_any_missed tell (take (suc i) asked) ≡ (is_any_missed tell (take i asked) || is_missed a.wanted (tell a.look))
          → (b || is_any_missed tell (take (suc i) asked)) ≡ ((b || is_any_missed tell (take i asked)) || is_missed a.wanted (tell a.look))
      by_first true rest = refl
      by_first false rest = rest

  -- one question more
  pub answered_more : (asked : List Asked) (i : ℕ) (a : Asked) (how : Wanted) (found : Option Found) (missed next : Bool) (old now new : Option (List ℕ)) → slice_get asked i ≡ Some a
      → how ≡ a.wanted → IsFound all a.look (tell a.look) found → Answered asked i missed old now → Appends now new (answer_line all found) → next ≡ (missed || is_missed how found)
      → Answered asked (suc i) next old new
  answered_more asked i a how found missed next old now new at same is so_far line says = record {
    text = so_far.text ++ answer_line all found;
    are = are-more asked i a so_far.text found at so_far.are is;
    found = says ∙ ap₂ (λ m f. m || f) so_far.found (ap (λ w. is_missed w found) same ∙ missed_found a.wanted all a.look (tell a.look) found is) ∙ sym (any-more asked i a at);
    wrote = appends_then old now new so_far.text (answer_line all found) so_far.wrote line;
  }

  -- the first answers alone
  pub first_answers : (asked : List Asked) (i : ℕ) (missed : Bool) (old now : Option (List ℕ)) → Answered asked i missed old now
      → (text : List ℕ) × FirstAnswered all tell asked text × WritesFront text old now
  first_answers asked i missed old now so_far = (
    so_far.text,
    record { first = take i asked; later = drop i asked; joined = take-append-drop i asked; answered = so_far.are },
    record { part = so_far.text; front = record { rest = []; joined = append-nil so_far.text }; wrote = so_far.wrote },
  )

  -- and a part of the next
  pub part_answers : (asked : List Asked) (i : ℕ) (a : Asked) (found : Option Found) (missed : Bool) (old now new : Option (List ℕ)) → slice_get asked i ≡ Some a
      → IsFound all a.look (tell a.look) found → Answered asked i missed old now → WritesFront (answer_line all found) now new → (text : List ℕ) × FirstAnswered all tell asked text × WritesFront text old new
  part_answers asked i a found missed old now new at is so_far line = (
    so_far.text ++ answer_line all found,
    record {
      first = take (suc i) asked;
      later = drop (suc i) asked;
      joined = take-append-drop (suc i) asked;
      answered = are-more asked i a so_far.text found at so_far.are is;
    },
    record {
      part = so_far.text ++ line.part;
      front = record {
        rest = line.front.rest;
        joined = append_assoc so_far.text line.part line.front.rest ∙ ap (λ text. so_far.text ++ text) line.front.joined;
      };
      wrote = appends_then old now new so_far.text line.part so_far.wrote line.wrote;
    },
  )

  take_all : (asked : List Asked) (i : ℕ) → length asked ≤ i → take i asked ≡ asked
  take_all [] zero past = refl
  take_all [] (suc i) past = refl
  take_all (x ∷ asked) zero past = absurd (omega (arith, past))
  take_all (x ∷ asked) (suc i) past = ap (λ l. x ∷ l) (take_all asked i (omega (arith, past)))

  -- all of them
  pub all_answers : (asked : List Asked) (i : ℕ) (missed : Bool) (old now : Option (List ℕ)) → length asked ≤ i → Answered asked i missed old now
      → (missed ≡ is_any_missed tell asked) × (text : List ℕ) × AreAnswered all tell asked text × Appends old now text
  all_answers asked i missed old now past so_far =
      let whole = take_all asked i past in (
        so_far.found ∙ ap (λ l. is_any_missed tell l) whole,
        so_far.text,
        subst (λ l. AreAnswered all tell l so_far.text) whole so_far.are,
        so_far.wrote,
      )

  -- the first i of these questions were answered, and no count of what fails fell
  pub record Goes (questions : List Asking) (i : ℕ) (missed : Bool) (old now : Option (List ℕ)) (counted counts : ℕ) (began at : Panel) : Type 0 where
    pub later : counted ≤ counts
    pub device : NoneFell began at
    pub answered : (asked : List Asked) → AskOf asked questions → AllAskOf geo reads asked → Answered asked i missed old now

module _ (geo : Geometry) (reads : List Read) (tell : List Seen → Option Stop) (questions : List Asking) (i : ℕ) (q : Asking) (missed : Bool) (old now new : Option (List ℕ)) (counted between counts : ℕ) (began was is : Panel)
    (at : slice_get questions i ≡ Some q) (goes : Goes geo reads tell questions i missed old now counted between began was) where
  -- one question more
  pub goes_more : {E : Type 0} (found : Option Found) (next : Bool) (line : Result (Stock ℕ) E) (told : Result (Unit {0}) WriteFault) (x : Unit {0})
      → ((look : List Seen) → IsLook look q.question → LooksWithin (looked geo reads) look → IsFound (looked geo reads) look (tell look) found)
      → NoneFell was is → IfOk line (λ l. l.items ≡ answer_line (looked geo reads) found) → MatchResult line (λ l. WritesAll l.items told now new) (λ _. (told ≡ Err write.Memory) × (new ≡ now)) → told ≡ Ok x
      → between ≤ counts → next ≡ (missed || is_missed q.wanted found) → Goes geo reads tell questions (i + 1) next old new counted counts began is
  goes_more found next line told x finds fell spelled wrote ok later says = record {
    later = omega (arith, goes.later, later);
    device = fell_on began was is goes.device fell;
    answered = λ asked ask under.
        let a = asked_as asked questions i q ask at in
        let next_is : suc i ≡ i + 1 = omega arith in
        subst (λ k. Answered geo reads tell asked k next old new) next_is
        (answered_more geo reads tell asked i a.0 q.wanted found missed next old now new a.1 a.2.wanted (finds a.0.look a.2.look (within_at geo reads asked i a.0 under a.1)) (goes.answered asked ask under)
        (told_all line told (answer_line (looked geo reads) found) now new x spelled wrote ok) says);
  }

  -- what came in the way of its exploration, or of its line
  pub goes_unfound : (stop : Stopped) → ((counted counts : ℕ) → IsUnanswered stop counted counts was is) → (asked : List Asked) → AskOf asked questions → AllAskOf geo reads asked
      → AnswersAll (looked geo reads) [] tell asked (Err stop) old now counted counts began is
  goes_unfound stop cause asked ask under =
      let first = first_answers geo reads tell asked i missed old now (goes.answered asked ask under) in
      (unanswered_later stop counted counts began was is goes.device (cause counted counts), first.0, first.1, first.2)

  pub goes_untold : {E : Type 0} (fault : WriteFault) (found : Option Found) (line : Result (Stock ℕ) E) (told : Result (Unit {0}) WriteFault) → ((look : List Seen) → IsLook look q.question → LooksWithin (looked geo reads) look → IsFound (looked geo reads) look (tell look) found)
      → IfOk line (λ l. l.items ≡ answer_line (looked geo reads) found) → MatchResult line (λ l. WritesAll l.items told now new) (λ _. (told ≡ Err write.Memory) × (new ≡ now))
      → (fault ≡ write.Failed → Rose between counts) → (asked : List Asked) → AskOf asked questions → AllAskOf geo reads asked → AnswersAll (looked geo reads) [] tell asked (Err (of_write fault)) old new counted counts began is
  goes_untold fault found line told finds spelled wrote rose asked ask under =
      let a = asked_as asked questions i q ask at in
      let part = part_answers geo reads tell asked i a.0 found missed old now new a.1 (finds a.0.look a.2.look (within_at geo reads asked i a.0 under a.1)) (goes.answered asked ask under)
      (told_front line told (answer_line (looked geo reads) found) now new spelled wrote) in
      (unanswered_write fault counted between counts began is goes.later rose, part.0, part.1, part.2)

-- or nothing is answered yet
pub goes_unlooked : (geo : Geometry) (reads : List Read) (tell : List Seen → Option Stop) (asked : List Asked) (old : Option (List ℕ)) (counted counts : ℕ) (began at : Panel)
    → AnswersAll (looked geo reads) [] tell asked (Err (stops.Early endings.Memory)) old old counted counts began at
goes_unlooked geo reads tell asked old counted counts began at =
    let first = first_answers geo reads tell asked 0 false old old (answered_none geo reads tell asked old) in
    (tt, first.0, first.1, first.2)

-- at the end all are answered
pub goes_through : (geo : Geometry) (reads : List Read) (tell : List Seen → Option Stop) (questions : List Asking) (i : ℕ) (missed : Bool) (old now : Option (List ℕ)) (counted counts : ℕ) (began at : Panel) → length questions ≤ i
    → Goes geo reads tell questions i missed old now counted counts began at → (asked : List Asked) → AskOf asked questions → AllAskOf geo reads asked → AnswersAll (looked geo reads) [] tell asked (Ok missed) old now counted counts began at
goes_through geo reads tell questions i missed old now counted counts began at past goes asked ask under =
    all_answers geo reads tell asked i missed old now (omega (arith, past, as_many asked questions ask)) (goes.answered asked ask under)
