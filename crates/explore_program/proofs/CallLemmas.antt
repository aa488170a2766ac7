-- A call once its image is mounted: what came of its script.
use Rattle.std.proofs.Common.{◌≡◌, ◌<◌, ◌≤◌, ◌==◌, ◌||◌, not, ℕ, Bool, List, [], ◌∷◌, ◌++◌, length, map, Option, None, Result, Ok, Err, inl, inr, refl, sym, ap, ap₂, subst, ◌∙◌, append_assoc, append-nil, if◌then◌else◌, arith}
use Rattle.std.specs.Prelude.{IfErr}
use Rattle.std.specs.Io.KnownBytes.{Appends, Consumes, IsAtEnd}
use Rattle.nvm_base.specs.Counts.{Rose}
use Rattle.host_io.specs.Writing.{WritesAll}
use Rattle.host_io.specs.declared.sink.WriteFault.{WriteFault}
use Rattle.host_io.specs.declared.sink.WriteFault.TheVariants as write
use Rattle.image_file.specs.Devices.{medium_of}
use Rattle.line_device.specs.Panel.{Panel}
use Rattle.recovery.specs.Findings.{first_finding}
use Rattle.word_tables.specs.declared.geometry.Geometry.{Geometry}
use Rattle.outcome_lists.specs.MachineModel.Machine.{Machine}
use Rattle.outcome_lists.specs.OutcomeTest.Seen.{Seen}
use Rattle.outcome_lists.specs.OutcomeTest.Stops.{IsProgram}
use Rattle.outcome_lists.specs.AskedReads.Looking.{read_action}
use Rattle.outcome_lists.specs.AskedReads.Program.{asks_for, inputs_of_lines}
use Rattle.outcome_lists.specs.AskedReads.declared.read.Read.{Read as ReadOfLook}
use Rattle.outcome_lists.specs.AskedReads.declared.read.Read.TheVariants as looks
use Rattle.exploration.specs.Exploration.{Asked, Exploration, Script, script_of}
use Rattle.exploration.specs.Exploration.Script.{StopsAt, Taken}
use Rattle.exploration.specs.Reading.{AskOf, Holds, IsExplored, ReadsScript}
use Rattle.exploration.specs.declared.exploration.Exploration.{Exploration as Read}
use Rattle.exploration.specs.declared.exploration.ScriptFault.{ScriptFault}
use Rattle.exploration.specs.declared.exploration.ScriptFault.TheVariants as script
use Rattle.outcome_lists.specs.Explorer.Stopping.{NoneFell}
use Rattle.outcome_lists.specs.CutPlaces.Places.{Stop as Place, found_stop}
use Rattle.outcome_lists.specs.Explorer.Tabulating.{looked}
use Rattle.exploration.proofs.AnswerableLemmas.{all_seen}
use Rattle.image_file.specs.Text.{Snapshot}
use Rattle.image_file.specs.declared.Units.TheVariants.{Words}
use Rattle.program_base.specs.Ending.{status}
use Rattle.program_base.specs.Opening.{FailsToOpen, IsHeld, opened}
use Rattle.program_base.specs.World.{World}
use Rattle.program_base.specs.Writing.{WritesFront, WritesLine}
use Rattle.program_base.proofs.BytesLemmas.{appends_then}
use Rattle.program_base.specs.declared.ending.Ending.{Ending}
use Rattle.program_base.specs.declared.ending.Ending.TheVariants as endings
use Rattle.explore_program.specs.Calls.{AllAskOf, AnswersAll, AreCommands, AreTheorems, Fails, Halts, IsCaused, IsTaken, IsUnanswered, IsUnread, LeavesImages, Outcome, asked_first, begun, found, looked_at, most, reads_of, refused_text}
use Rattle.explore_program.specs.Showing.{begun_at, refusals, shown}
use Rattle.explore_program.specs.Stops.{of_script, stop_status}
use Rattle.explore_program.specs.declared.stop.Stop.{Stop}
use Rattle.explore_program.specs.declared.stop.Stop.TheVariants as stops
use Rattle.explore_program.proofs.AskingLemmas.{all_ask}
use Rattle.explore_program.proofs.CauseLemmas.{unanswered_later}
use Rattle.explore_program.proofs.ProgramLemmas.{same_inputs}
use Rattle.explore_program.proofs.ReadingLemmas.{rose-from}

-- what came in the way, as a cause of the call's end
caused_unread : (geo : Geometry) (ending : Ending) (taken : List ℕ) (old new : World) → IsUnread ending old.left old.reads new.reads → IsCaused geo (stops.Early ending) taken old new
caused_unread geo endings.Read taken old new cause = cause
caused_unread geo endings.Script taken old new cause = cause
caused_unread geo endings.Memory taken old new cause = tt
caused_unread geo endings.Usage taken old new cause = cause
caused_unread geo (endings.Image offset) taken old new cause = cause
caused_unread geo (endings.Layout place) taken old new cause = cause
caused_unread geo (endings.Meta line) taken old new cause = cause
caused_unread geo endings.Write taken old new cause = absurd cause
caused_unread geo endings.Device taken old new cause = absurd cause

caused_untaken : (geo : Geometry) (fault : ScriptFault) (text : List ℕ) (old new : World) → IsAtEnd new.left → ReadsScript (script_of geo text) (Err fault) → IsCaused geo (of_script fault) text old new
caused_untaken geo (script.Line n why) text old new ended is = (ended, is)
caused_untaken geo script.Memory text old new ended is = tt

caused_unanswered : (geo : Geometry) (stop : Stop) (text : List ℕ) (old new : World) → IsUnanswered stop old.writes new.writes old.device.panel new.device.panel → IsCaused geo stop text old new
caused_unanswered geo (stops.Early endings.Write) text old new cause = cause
caused_unanswered geo (stops.Early endings.Memory) text old new cause = tt
caused_unanswered geo (stops.Early endings.Device) text old new cause = cause
caused_unanswered geo (stops.Early endings.Read) text old new cause = absurd cause
caused_unanswered geo (stops.Early endings.Script) text old new cause = absurd cause
caused_unanswered geo (stops.Early endings.Usage) text old new cause = cause
caused_unanswered geo (stops.Early (endings.Image offset)) text old new cause = cause
caused_unanswered geo (stops.Early (endings.Layout place)) text old new cause = cause
caused_unanswered geo (stops.Early (endings.Meta line)) text old new cause = cause
caused_unanswered geo (stops.Script n why) text old new cause = absurd cause
caused_unanswered geo stops.Usage text old new cause = cause

-- what is reported of the commands of a script that was read, and what is shown, is what the script asks for
abbrev pub read_refused : Machine → Read → List ℕ
read_refused h x = refusals h (inputs_of_lines x.first.items) (inputs_of_lines x.program.items) x.refused.items

abbrev pub read_shown : Machine → Read → List ℕ
read_shown h x = shown x.table x.list (begun_at h (inputs_of_lines x.first.items)) (inputs_of_lines x.program.items) x.reads.items

abbrev pub read_found : Machine → Read → List Seen → Option Place
read_found h x = found_stop (begun_at h (inputs_of_lines x.first.items)) (inputs_of_lines x.program.items)

reads_are : (reads : List ReadOfLook) → reads_of (map read_action reads) ≡ reads
reads_are [] = refl
reads_are (looks.Volume start len ∷ reads) = ap (λ rs. looks.Volume start len ∷ rs) (reads_are reads)
reads_are (looks.Blocks first count ∷ reads) = ap (λ rs. looks.Blocks first count ∷ rs) (reads_are reads)
reads_are (looks.File name start len ∷ reads) = ap (λ rs. looks.File name start len ∷ rs) (reads_are reads)

module _ (h : Machine) (x : Read) (e : Exploration) (holds : IsExplored e x) where
  first_is : inputs_of_lines x.first.items ≡ map asks_for e.first
  first_is = same_inputs x.first.items e.first holds.first

  program_is : inputs_of_lines x.program.items ≡ map asks_for e.program
  program_is = same_inputs x.program.items e.program holds.program

  same_refused : read_refused h x ≡ refused_text h e
  same_refused =
      ap₂ (λ f p. refusals h f p x.refused.items) first_is program_is ∙ ap (refusals h (map asks_for e.first) (map asks_for e.program)) holds.refused

  same_shown : read_shown h x ≡ shown e.table e.list (begun h e) (map asks_for e.program) (reads_of e.reads)
  same_shown =
      ap₂ (λ t l. shown t l (begun_at h (inputs_of_lines x.first.items)) (inputs_of_lines x.program.items) x.reads.items) holds.table holds.list
      ∙ ap₂ (λ f p. shown e.table e.list (begun_at h f) p x.reads.items) first_is program_is
      ∙ ap (shown e.table e.list (begun h e) (map asks_for e.program)) (sym (reads_are x.reads.items) ∙ ap reads_of holds.reads)

  same_first : read_refused h x ++ read_shown h x ≡ asked_first h e
  same_first = ap₂ (λ r t. r ++ t) same_refused same_shown

  reads_same : x.reads.items ≡ reads_of e.reads
  reads_same = sym (reads_are x.reads.items) ∙ ap reads_of holds.reads

  same_looked : looked h.geometry x.reads.items ≡ looked_at h e
  same_looked = ap (looked h.geometry) reads_same

  same_found : read_found h x ≡ found h e
  same_found = ap₂ (λ f p. found_stop (begun_at h f) p) first_is program_is

-- why questions were not answered, told by an earlier count of writes
unanswered_counted : (stop : Stop) (a b c : ℕ) (old new : Panel) → a ≤ b → IsUnanswered stop b c old new → IsUnanswered stop a c old new
unanswered_counted (stops.Early endings.Write) a b c old new later cause = rose-from a b c later cause
unanswered_counted (stops.Early endings.Memory) a b c old new later cause = tt
unanswered_counted (stops.Early endings.Device) a b c old new later cause = cause
unanswered_counted (stops.Early endings.Read) a b c old new later cause = cause
unanswered_counted (stops.Early endings.Script) a b c old new later cause = cause
unanswered_counted (stops.Early endings.Usage) a b c old new later cause = cause
unanswered_counted (stops.Early (endings.Image offset)) a b c old new later cause = cause
unanswered_counted (stops.Early (endings.Layout place)) a b c old new later cause = cause
unanswered_counted (stops.Early (endings.Meta line)) a b c old new later cause = cause
unanswered_counted (stops.Script n why) a b c old new later cause = cause
unanswered_counted stops.Usage a b c old new later cause = cause

-- answers behind a text
pub behind_shown : (table front : List ℕ) (all : List Seen) (tell : List Seen → Option Place) (asked : List Asked) (result : Result Bool Stop) (old mid new : Option (List ℕ)) (a b c : ℕ) (began at end : Panel)
    → Appends old mid table → a ≤ b → NoneFell began at → AnswersAll all front tell asked result mid new b c at end → AnswersAll all (table ++ front) tell asked result old new a c began end
behind_shown table front all tell asked (Ok missed) old mid new a b c began at end wrote later fell told = (
  told.0,
  told.1,
  told.2,
  subst (Appends old new) (sym (append_assoc table front told.1)) (appends_then old mid new table (front ++ told.1) wrote told.3),
)
behind_shown table front all tell asked (Err stop) old mid new a b c began at end wrote later fell told = (
  unanswered_counted stop a b c began end later (unanswered_later stop b c began at end fell told.0),
  told.1,
  told.2,
  record {
    part = table ++ told.3.part;
    front = record {
      rest = told.3.front.rest;
      joined = append_assoc table told.3.part told.3.front.rest ∙ ap (λ text. table ++ text) told.3.front.joined ∙ sym (append_assoc table front told.1);
    };
    wrote = appends_then old mid new table told.3.part wrote told.3.wrote;
  },
)

-- and behind nothing else
pub behind_first : (table : List ℕ) (all : List Seen) (tell : List Seen → Option Place) (asked : List Asked) (result : Result Bool Stop) (old mid new : Option (List ℕ)) (a b c : ℕ) (began at end : Panel)
    → Appends old mid table → a ≤ b → NoneFell began at → AnswersAll all [] tell asked result mid new b c at end → AnswersAll all table tell asked result old new a c began end
behind_first table all tell asked result old mid new a b c began at end wrote later fell told =
    subst (λ front. AnswersAll all front tell asked result old new a c began end) (append-nil table) (behind_shown table [] all tell asked result old mid new a b c began at end wrote later fell told)

-- and none, where not all of what comes first was written
pub no_shown : (table rest : List ℕ) (all : List Seen) (tell : List Seen → Option Place) (asked : List Asked) (stop : Stop) (old new : Option (List ℕ)) (a c : ℕ) (began end : Panel)
    → IsUnanswered stop a c began end × WritesFront table old new → AnswersAll all (table ++ rest) tell asked (Err stop) old new a c began end
no_shown table rest all tell asked stop old new a c began end told = (
  told.0,
  [],
  record { first = []; later = asked; joined = refl; answered = refl },
  record {
    part = told.1.part;
    front = record {
      rest = told.1.front.rest ++ rest;
      joined = sym (append_assoc told.1.part told.1.front.rest rest) ∙ ap (λ t. t ++ rest) told.1.front.joined ∙ sym (append-nil (table ++ rest));
    };
    wrote = told.1.wrote;
  },
)

-- the call's result, by whether refusals were reported
abbrev pub ended : Bool → Result Bool Stop → Result Bool Stop
ended refused (Ok missed) = Ok (refused || missed)
ended refused (Err stop) = Err stop

module _ (name : List ℕ) (image : Snapshot) (old new : World) (there : IsHeld Words name old.held image) (right : first_finding (medium_of image.lines) ≡ None) (images : LeavesImages old new) where
  -- the script was not read to its end
  pub halts_unread : (ending : Ending) → (taken : List ℕ) × Consumes old.left new.left taken × IsUnread ending old.left old.reads new.reads → new.written ≡ old.written → Halts name (stops.Early ending) old new
  halts_unread ending unread none = record {
    image = image;
    there = there;
    right = right;
    script = unread.0;
    read = unread.1;
    cause = caused_unread (opened image).geometry ending unread.0 old new unread.2;
    wrote = inl none;
    images = images;
  }

  -- a line of it is not taken
  pub halts_untaken : (fault : ScriptFault) (text : List ℕ) → Consumes old.left new.left text → IsAtEnd new.left → ReadsScript (script_of (opened image).geometry text) (Err fault) → new.written ≡ old.written
      → Halts name (of_script fault) old new
  halts_untaken fault text read ended is none = record {
    image = image;
    there = there;
    right = right;
    script = text;
    read = read;
    cause = caused_untaken (opened image).geometry fault text old new ended is;
    wrote = inl none;
    images = images;
  }

  module _ (text : List ℕ) (e : Exploration) (taken : IsTaken (opened image).geometry text e old new) (theorems : AreTheorems (begun (opened image) e) (map asks_for e.program)) (started : Panel) (fell : NoneFell old.device.panel started)
      (refused : Bool) (are : refused ≡ not (length (refused_text (opened image) e) == 0)) where
    outcome_taken : (result : Result Bool Stop) → AnswersAll (looked_at (opened image) e) (asked_first (opened image) e) (found (opened image) e) e.questions result old.written new.written old.writes new.writes started new.device.panel
        → Outcome name (ended refused result) old new
    outcome_taken (Ok missed) told = record {
      image = image;
      there = there;
      right = right;
      script = text;
      exploration = e;
      taken = taken;
      status = ap₂ (λ r m. if r || m then 1 else 0) are told.0;
      text = told.1;
      answered = told.2;
      wrote = told.3;
      theorems = theorems;
      images = images;
    }
    outcome_taken (Err stop) told = inr (record {
      image = image;
      there = there;
      right = right;
      script = text;
      read = taken.read;
      cause = caused_unanswered (opened image).geometry stop text old new (unanswered_later stop old.writes new.writes old.device.panel started new.device.panel fell told.0);
      wrote = inr (e, taken, told.1, told.2, told.3);
      images = images;
    })

  -- the script was read and taken
  pub outcome_read : (text : List ℕ) (x : Read) (result : Result Bool Stop) (refused : Bool) (started : Panel) → NoneFell old.device.panel started → Consumes old.left new.left text → IsAtEnd new.left → length text < most
      → ReadsScript (script_of (opened image).geometry text) (Ok x) → AreCommands x.first.items → AreCommands x.program.items
      → ((e : Exploration) → script_of (opened image).geometry text ≡ Taken e → IsProgram (map asks_for e.first) → IsProgram (map asks_for e.program) → AreTheorems (begun (opened image) e) (map asks_for e.program))
      → refused ≡ not (length (read_refused (opened image) x) == 0)
      → ((asked : List Asked) → AskOf asked x.questions.items → AllAskOf (opened image).geometry x.reads.items asked
      → AnswersAll (looked (opened image).geometry x.reads.items) (read_refused (opened image) x ++ read_shown (opened image) x) (read_found (opened image) x) asked result old.written new.written old.writes new.writes started new.device.panel)
      → Outcome name (ended refused result) old new
  outcome_read text x result refused started fell read at_end short is first program theorems are tells = by_script (script_of (opened image).geometry text) refl is
    where
      by_script : (s : Script) → script_of (opened image).geometry text ≡ s → Holds s x → Outcome name (ended refused result) old new
      by_script (Taken e) told holds =
          outcome_taken text e (record { read = read; ended = at_end; short = short; is = told })
          (theorems e told (subst IsProgram (first_is (opened image) x e holds) first.program) (subst IsProgram (program_is (opened image) x e holds) program.program))
          started fell refused (are ∙ ap (λ t. not (length t == 0)) (same_refused (opened image) x e holds)) result
          (subst (λ all. AnswersAll all (asked_first (opened image) e) (found (opened image) e) e.questions result old.written new.written old.writes new.writes started new.device.panel) (same_looked (opened image) x e holds)
          (subst (λ front. AnswersAll (looked (opened image).geometry x.reads.items) front (found (opened image) e) e.questions result old.written new.written old.writes new.writes started new.device.panel) (same_first (opened image) x e holds)
          (subst (λ (tell : List Seen → Option Place). AnswersAll (looked (opened image).geometry x.reads.items) (read_refused (opened image) x ++ read_shown (opened image) x) tell e.questions result old.written new.written old.writes new.writes started new.device.panel)
          (same_found (opened image) x e holds)
          (tells e.questions holds.questions
          (subst (λ rs. AllAskOf (opened image).geometry rs e.questions) (sym (reads_same (opened image) x e holds)) (all_ask (opened image).geometry e.reads e.questions (all_seen (opened image).geometry text e told)))))))
      by_script (StopsAt n why) told holds = absurd holds

-- words of which there is one name it
pub one_word : {A : Type 0} (f : A → List ℕ) (words : List A) → 1 ≤ length words → length words < 2 → ((name : List ℕ) → map f words ≡ name ∷ [] → ⊥) → ⊥
one_word f [] some few none = omega (arith, some)
one_word f (word ∷ []) some few none = none (f word) refl
one_word f (word ∷ other ∷ words) some few none = omega (arith, few)

-- a line that was to be written
pub line_written : (text : List ℕ) (r : Result (Unit {0}) WriteFault) (old new : Option (List ℕ)) (counted counts : ℕ) → WritesAll text r old new → IfErr r (λ e. e ≡ write.Failed → Rose counted counts)
    → WritesLine text counted counts old new
line_written text r old new counted counts wrote cause = record { outcome = r; wrote = wrote; cause = by_result r cause }
  where
    by_result : (r : Result (Unit {0}) WriteFault) → IfErr r (λ e. e ≡ write.Failed → Rose counted counts) → r ≡ Err write.Failed → Rose counted counts
    by_result (Ok x) rose is = absurd (cc is)
    by_result (Err e) rose is = rose (cc is)

-- a call with one word does not end as one with none
unopened_usage : (name : List ℕ) (ending : Ending) (old new : World) → FailsToOpen Words name ending old new → status ending ≡ 2 → ⊥
unopened_usage name endings.Usage old new fails is = fails.cause
unopened_usage name (endings.Image offset) old new fails is = cc is
unopened_usage name (endings.Layout place) old new fails is = cc is
unopened_usage name (endings.Meta line) old new fails is = cc is
unopened_usage name endings.Read old new fails is = cc is
unopened_usage name endings.Write old new fails is = cc is
unopened_usage name endings.Memory old new fails is = cc is
unopened_usage name endings.Script old new fails is = cc is
unopened_usage name endings.Device old new fails is = cc is

caused_usage : (geo : Geometry) (stop : Stop) (text : List ℕ) (old new : World) → IsCaused geo stop text old new → stop_status stop ≡ 2 → ⊥
caused_usage geo stops.Usage text old new cause is = cause
caused_usage geo (stops.Script n why) text old new cause is = cc is
caused_usage geo (stops.Early endings.Usage) text old new cause is = cause
caused_usage geo (stops.Early (endings.Image offset)) text old new cause is = cc is
caused_usage geo (stops.Early (endings.Layout place)) text old new cause is = cc is
caused_usage geo (stops.Early (endings.Meta line)) text old new cause is = cc is
caused_usage geo (stops.Early endings.Read) text old new cause is = cc is
caused_usage geo (stops.Early endings.Write) text old new cause is = cc is
caused_usage geo (stops.Early endings.Memory) text old new cause is = cc is
caused_usage geo (stops.Early endings.Script) text old new cause is = cc is
caused_usage geo (stops.Early endings.Device) text old new cause is = cc is

pub no_usage : (name : List ℕ) (stop : Stop) (old new : World) → Fails name stop old new → stop_status stop ≡ 2 → ⊥
no_usage name stop old new (inl (ending, same, fails)) is = unopened_usage name ending old new fails (sym (ap stop_status same) ∙ is)
no_usage name stop old new (inr halts) is = caused_usage (opened halts.image).geometry stop halts.script old new halts.cause is
