-- A look that was read up to some line.
use Rattle.std.proofs.Common.{◌≡◌, ℕ, Bool, true, false, ◌==◌, ◌+◌, ◌<◌, ◌≤◌, List, [], ◌∷◌, ◌++◌, map, Option, Some, None, Result, Ok, Err, length, refl, ap, sym, ◌∙◌, arith}
use Rattle.std.specs.Prelude.{suc, not, ◌||◌, IsOkAnd, IsSomeAnd, if◌then◌else◌}
use Rattle.std.proofs.lemmas.List.{length-map}
use Rattle.script_text.specs.Script.{lines_of}
use Rattle.reply_text.specs.Answer.{Answer}
use Rattle.script_text.specs.Action.{Action}
use Rattle.asked_reads.specs.Looking.{read_action}
use Rattle.exploration.specs.declared.asking.Asking.{Asking}
use Rattle.exploration.specs.declared.asking.Wanted.{Wanted}
use Rattle.exploration.specs.declared.look.Look.{Look as LookHeld}
use Rattle.exploration.specs.declared.stop.LineStop.{LineStop}
use Rattle.exploration.specs.declared.stop.LineStop.TheVariants.{Memory, Untaken}
use Rattle.word_tables.specs.declared.geometry.Geometry.{Geometry}
use Rattle.exploration.specs.declared.exploration.ScriptFault.TheVariants.{Line}
use Rattle.exploration.specs.declared.reason.Reason.{Reason}
use Rattle.exploration.specs.declared.reason.Reason.TheVariants.{NothingAsked}
use Rattle.exploration.specs.Exploration.{Asked, Look, asking_of, asks_of_reads, is_asked, look_from, look_start, with_taken}
use Rattle.exploration.specs.Program.{go_on}
use Rattle.exploration.specs.Lines.{LookLine, look_line}
use Rattle.exploration.specs.Lines.LookLine.{Asks}
use Rattle.exploration.specs.Reading.{AskOf, IsAsking}
use Rattle.exploration.specs.Steps.{IsHeld, ReadsLook, TakesLine, fault_at}

pub some_and : {A : Type 0} (o : Option A) (P : A → Type 0) → IsSomeAnd o P → (x : A) × (o ≡ Some x) × P x
some_and None P holds = absurd holds
some_and (Some x) P holds = (x, refl, holds)

pub ok_and : {A E : Type 0} (r : Result A E) (P : A → Type 0) → IsOkAnd r P → (x : A) × (r ≡ Ok x) × P x
ok_and (Err e) P holds = absurd holds
ok_and (Ok x) P holds = (x, refl, holds)

-- what was read, and what of the text is left from line n on
pub record LookUpTo (geo : Geometry) (text : List ℕ) (first : ℕ) (held : LookHeld) (n : ℕ) (rest : List ℕ) : Type 0 where
  pub look : Look
  pub is : IsHeld look held
  pub goes : look_from geo first look_start (lines_of text) ≡ look_from geo n look (lines_of rest)
  pub room : n + length rest ≤ first + length text

pub look_up_to-start : (geo : Geometry) (text : List ℕ) (first : ℕ) (held : LookHeld) → held.reads.items ≡ [] → held.table ≡ false → held.list ≡ false → held.questions.items ≡ [] → LookUpTo geo text first held first text
look_up_to-start geo text first held reads table list questions = record {
  look = look_start;
  is = record { reads = rw reads refl; table = table; list = list; questions = rw questions tt };
  goes = refl;
  room = omega arith;
}

-- one line more, where it is taken
pub look_up_to-more : (geo : Geometry) (text : List ℕ) (first : ℕ) (old new : LookHeld) (n : ℕ) (rest line others : List ℕ) → LookUpTo geo text first old n rest
    → lines_of rest ≡ line ∷ lines_of others → length others < length rest
    → ((look : Look) → IsHeld look old → IsOkAnd (with_taken geo look (look_line line)) (λ next. IsHeld next new))
    → LookUpTo geo text first new (n + 1) others
look_up_to-more geo text first old new n rest line others up cut fewer takes =
    let next = ok_and (with_taken geo up.look (look_line line)) (λ next. IsHeld next new) (takes up.look up.is) in
    record {
      look = next.0;
      is = next.2;
      goes = up.goes ∙ ap (look_from geo n up.look) cut ∙ ap (go_on n (λ (l : Look). look_from geo (n + 1) l (lines_of others))) next.1;
      room = omega (arith, up.room);
    }

-- or the script stops there
pub look_up_to-stops : (geo : Geometry) (text : List ℕ) (first : ℕ) (old new : LookHeld) (n : ℕ) (rest line others : List ℕ) (stop : LineStop) → LookUpTo geo text first old n rest
    → lines_of rest ≡ line ∷ lines_of others
    → ((look : Look) → IsHeld look old → TakesLine (with_taken geo look (look_line line)) new (Err stop))
    → ReadsLook (look_from geo first look_start (lines_of text)) (Err (fault_at n stop))
look_up_to-stops geo text first old new n rest line others (Untaken why) up cut takes =
    up.goes ∙ ap (look_from geo n up.look) cut ∙ ap (go_on n (λ (l : Look). look_from geo (n + 1) l (lines_of others))) (takes up.look up.is)
look_up_to-stops geo text first old new n rest line others Memory up cut takes = tt

-- at the end all was read, and something has to be asked
pub look_up_to-end : (geo : Geometry) (text : List ℕ) (first : ℕ) (held : LookHeld) (n : ℕ) (rest : List ℕ) (asks : Bool) → LookUpTo geo text first held n rest → lines_of rest ≡ []
    → ((look : Look) → IsHeld look held → asks ≡ asks_of_reads look) → asks ≡ true → ReadsLook (look_from geo first look_start (lines_of text)) (Ok held)
look_up_to-end geo text first held n rest asks up over is some =
    let test : asks_of_reads up.look ≡ true = sym (is up.look up.is) ∙ some in
    let e = up.goes ∙ ap (look_from geo n up.look) over in
    rw (e, test) up.is

pub look_up_to-nothing : (geo : Geometry) (text : List ℕ) (first : ℕ) (held : LookHeld) (n : ℕ) (rest : List ℕ) (asks : Bool) → LookUpTo geo text first held n rest → lines_of rest ≡ []
    → ((look : Look) → IsHeld look held → asks ≡ asks_of_reads look) → asks ≡ false → ReadsLook (look_from geo first look_start (lines_of text)) (Err (Line n NothingAsked))
look_up_to-nothing geo text first held n rest asks up over is none =
    let test : asks_of_reads up.look ≡ false = sym (is up.look up.is) ∙ none in
    let e = up.goes ∙ ap (look_from geo n up.look) over in
    rw (e, test) refl

-- as many questions are asked as are held
asked-count : (looks : List Asked) (qs : List Asking) → AskOf looks qs → length looks ≡ length qs
asked-count [] [] asked = refl
asked-count [] (q ∷ qs) asked = absurd asked
asked-count (look ∷ looks) [] asked = absurd asked
asked-count (look ∷ looks) (q ∷ qs) asked = ap suc (asked-count looks qs asked.1)

-- whether something is asked, by what is held
pub held_asked : (look : Look) (held : LookHeld) → IsHeld look held → is_asked look ≡ held.table || held.list || not (length held.questions.items == 0)
held_asked look held is = rw (is.table, is.list, asked-count look.questions held.questions.items is.questions) refl

-- there are as many reads
pub held_reads : (look : Look) (held : LookHeld) → IsHeld look held → length look.reads ≡ length held.reads.items
held_reads look held is = sym (ap length is.reads) ∙ length-map held.reads.items read_action

asked-more : (looks : List Asked) (qs : List Asking) (look : Asked) (q : Asking) → AskOf looks qs → IsAsking look q → AskOf (looks ++ look ∷ []) (qs ++ q ∷ [])
asked-more [] [] look q asked is = (is, tt)
asked-more [] (r ∷ qs) look q asked is = absurd asked
asked-more (l ∷ looks) [] look q asked is = absurd asked
asked-more (l ∷ looks) (r ∷ qs) look q asked is = (asked.0, asked-more looks qs look q asked.1 is)

-- one question more
pub held-asks : (geo : Geometry) (look : Look) (old new : LookHeld) (kind : Result LookLine Reason) (wanted : Wanted) (replies : List (Option Answer)) (reads : List Action) (q : Asking) (ok : Bool) → IsHeld look old
    → kind ≡ Ok (Asks wanted replies) → reads ≡ map read_action old.reads.items → IsOkAnd (asking_of geo reads wanted replies) (λ asked. IsAsking asked q)
    → new.questions.items ≡ (if ok then old.questions.items ++ q ∷ [] else old.questions.items) → ok ≡ true → new.reads.items ≡ old.reads.items → new.table ≡ old.table → new.list ≡ old.list
    → IsOkAnd (with_taken geo look kind) (λ next. IsHeld next new)
held-asks geo look old new kind wanted replies reads q ok is asks all finds questions done same table list =
    let asked = ok_and (asking_of geo reads wanted replies) (λ asked. IsAsking asked q) finds in
    let found : asking_of geo look.reads wanted replies ≡ Ok asked.0 = ap (λ rs. asking_of geo rs wanted replies) (sym (all ∙ is.reads)) ∙ asked.1 in
    let grown : new.questions.items ≡ old.questions.items ++ q ∷ [] = questions ∙ ap (λ b. if b then old.questions.items ++ q ∷ [] else old.questions.items) done in
    rw (asks, found) (record { reads = ap (map read_action) same ∙ is.reads; table = table ∙ is.table; list = list ∙ is.list; questions = rw grown (asked-more look.questions old.questions.items asked.0 q is.questions asked.2) })
