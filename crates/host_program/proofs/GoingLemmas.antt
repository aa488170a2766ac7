-- A script that is performed line by line, its replies written now and then.
use Rattle.std.proofs.Common.{◌≡◌, ◌≢◌, ◌≤◌, ◌<◌, ◌⊎◌, inl, inr, ℕ, zero, suc, ◌+◌, true, false, List, [], ◌∷◌, ◌++◌, length, take, drop, Option, Result, Ok, Err, refl, sym, ap, subst, ◌∙◌, append_assoc, append-nil, length-append, arith}
use Rattle.std.specs.Prelude.{IsTrue}
use Rattle.std.proofs.lemmas.Bool.{false_from_ne_true, true≢false}
use Rattle.std.proofs.lemmas.List.{take-append-drop}
use Rattle.std.proofs.lemmas.List.Elements.{All-nil, All-cons, All-head, All-tail}
use Rattle.std.specs.Io.KnownBytes.{Appends, Consumes, IsAtEnd}
use Rattle.line_device.specs.Device.{Device}
use Rattle.host_io.specs.Writing.{AppendsSome}
use Rattle.host_io.specs.declared.sink.WriteFault.{WriteFault}
use Rattle.host_io.specs.declared.sink.WriteFault.TheVariants as write
use Rattle.reply_text.specs.Answer.{reply_text}
use Rattle.script_text.specs.Script.{line_input, inputs_of, lines_of}
use Rattle.script_text.specs.Streaming.{Gives, HasGiven, IsUnbroken, ReadsLine, Stream, stream_start}
use Rattle.script_text.specs.declared.next_line.InputFault.{InputFault}
use Rattle.script_text.specs.declared.next_line.InputFault.TheVariants.{Failed, TooLarge}
use Rattle.script_text.specs.declared.next_line.NextLine.{NextLine}
use Rattle.script_text.specs.declared.next_line.NextLine.TheVariants.{Line, TooLong, End}
use Rattle.script_text.proofs.GivenLemmas.{given-end, given-line, given-start}
use Rattle.machine_host.specs.Machine.{Machine}
use Rattle.machine_host.specs.Run.{Transcript, Run, followed_by, silence}
use Rattle.machine_host.specs.Telling.{Tells}
use Rattle.machine_host.specs.Stands.{DeviceStands, HostState, Stands}
use Rattle.machine_host.proofs.RunLemmas.{run_of_one, run_then, reply_text-append, tells_silence, tells_then}
use Rattle.program_base.specs.Ending.{of_write}
use Rattle.program_base.specs.declared.ending.Ending.{Ending}
use Rattle.program_base.specs.declared.ending.Ending.TheVariants.{Usage, Image, Layout, Meta, Read, Write, Memory, Script}
use Rattle.program_base.specs.declared.ending.Ending.TheVariants as endings
use Rattle.host_program.specs.Whole.{GoesUnanswered, bytes_of}
use Rattle.host_program.specs.Running.{AnswersNext, Comes, Flushes, LineGoes, Performs}
use Rattle.program_base.proofs.BytesLemmas.{appends-none, appends_then, consumes-none, consumes_then}
use Rattle.host_program.proofs.GivenLemmas.{given-front, given-whole}
use Rattle.host_program.proofs.TellLemmas.{unanswered-none}

-- what was said so far: some of the answers' text is written, the rest waits
pub record Said (first : Machine) (lines : List (List ℕ)) (host : HostState) (out : List ℕ) (written_old written : Option (List ℕ)) (old now : Device) : Type 0 where
  pub said : Transcript
  pub state : Machine
  pub part : List ℕ
  pub run : Run first (inputs_of lines) said state
  pub wrote : Appends written_old written part
  pub text : part ++ out ≡ reply_text said.answers
  pub tells : Tells said old.panel now.panel
  pub stands : Stands host now state

-- the lines that were given of what was taken are performed, from the host that was there first
pub record Going (reader : Stream) (left_old left : Option (List ℕ)) (before host : HostState) (out : List ℕ) (written_old written : Option (List ℕ)) (old now : Device) : Type 0 where
  pub script : List ℕ
  pub lines : List (List ℕ)
  pub read : Consumes left_old left script
  pub has : HasGiven script lines reader
  pub count : reader.taken ≡ length script
  pub ends : IsTrue reader.ended → IsAtEnd left
  pub says : (first : Machine) → Stands before old first → Said first lines host out written_old written old now

pub inputs_of-append : (x y : List (List ℕ)) → inputs_of (x ++ y) ≡ inputs_of x ++ inputs_of y
inputs_of-append [] y = refl
inputs_of-append (line ∷ x) y = ap (λ inputs. line_input line ∷ inputs) (inputs_of-append x y)

-- nothing yet
pub going-start : (reader : Stream) (left : Option (List ℕ)) (host : HostState) (out : List ℕ) (written : Option (List ℕ)) (d : Device) → reader ≡ stream_start → out ≡ []
    → Going reader left left host host out written written d d
going-start reader left host out written d is empty = subst (λ s. Going s left left host host out written written d d) (sym is) (record {
  script = [];
  lines = [];
  read = consumes-none left;
  has = given-start;
  count = refl;
  ends = λ ended. absurd (true≢false (sym ended));
  says = λ first stands. record {
    said = silence;
    state = first;
    part = [];
    run = (refl, refl);
    wrote = appends-none written;
    text = empty;
    tells = tells_silence d.panel;
    stands = stands;
  };
})

-- one line more was said
said-line : (first : Machine) (lines : List (List ℕ)) (line : List ℕ) (host host' : HostState) (out out' : List ℕ) (written_old written : Option (List ℕ)) (old now next : Device)
    → Said first lines host out written_old written old now → ((h : Machine) → Stands host now h → LineGoes h (line_input line) out out' host' now next)
    → Said first (lines ++ line ∷ []) host' out' written_old written old next
said-line first lines line host host' out out' written_old written old now next was goes =
    let step = goes was.state was.stands in
    record {
      said = followed_by was.said step.said;
      state = step.next;
      part = was.part;
      run = subst (λ i. Run first i (followed_by was.said step.said) step.next) (sym (inputs_of-append lines (line ∷ [])))
          (run_then first was.state step.next (inputs_of lines) (line_input line ∷ []) was.said step.said was.run (run_of_one was.state step.next (line_input line) step.said step.hears));
      wrote = was.wrote;
      text = ap (λ t. was.part ++ t) step.text ∙ sym (append_assoc was.part out (reply_text step.said.answers)) ∙ ap (λ t. t ++ reply_text step.said.answers) was.text
          ∙ sym (reply_text-append was.said.answers step.said.answers);
      tells = tells_then was.said step.said old.panel now.panel next.panel was.tells step.tells;
      stands = step.stands;
    }

-- one line more
pub going-line : (reader reader' : Stream) (a b c : Option (List ℕ)) (before host host' : HostState) (out out' : List ℕ) (written_old written : Option (List ℕ)) (old now next : Device)
    → Going reader a b before host out written_old written old now → AnswersNext reader reader' b c (Ok true) host host' out out' now next
    → Going reader' a c before host' out' written_old written old next
going-line reader reader' a b c before host host' out out' written_old written old now next going answers =
    let reads = answers.reads in
    let goes = answers.comes in
    record {
      script = going.script ++ reads.taken;
      lines = going.lines ++ goes.line ∷ [];
      read = consumes_then a b c going.script reads.taken going.read reads.read;
      has = given-line going.script reads.taken goes.line going.lines reader reader' going.has reads.stays goes.first;
      count = omega (arith, reads.count, going.count, length-append going.script reads.taken);
      ends = reads.ends going.ends;
      says = λ first stands. said-line first going.lines goes.line host host' out out' written_old written old now next (going.says first stands) goes.goes;
    }

-- waiting replies written
pub going-flush : (reader : Stream) (a b : Option (List ℕ)) (before host : HostState) (out out' : List ℕ) (written_old written written' : Option (List ℕ)) (old now : Device)
    → Going reader a b before host out written_old written old now → Flushes out out' written written' → Going reader a b before host out' written_old written' old now
going-flush reader a b before host out out' written_old written written' old now going flushes = record {
  script = going.script;
  lines = going.lines;
  read = going.read;
  has = going.has;
  count = going.count;
  ends = going.ends;
  says = λ first stands.
      let was = going.says first stands in
      record {
        said = was.said;
        state = was.state;
        part = was.part ++ flushes.part;
        run = was.run;
        wrote = appends_then written_old written written' was.part flushes.part was.wrote flushes.wrote;
        text = append_assoc was.part flushes.part out' ∙ ap (λ t. was.part ++ t) flushes.kept ∙ was.text;
        tells = was.tells;
        stands = was.stands;
      };
}

-- what the source's end says
end_read : (reader reader' : Stream) (b c : Option (List ℕ)) (next : Result NextLine InputFault) (reads : ReadsLine reader reader' b c next) → next ≡ Ok End
    → (reader.waiting ++ reads.taken ≡ []) × IsTrue reader'.ended × (reader'.taken < 1073741824)
end_read reader reader' b c (Ok Line) reads is = cc is
end_read reader reader' b c (Ok TooLong) reads is = cc is
end_read reader reader' b c (Ok End) reads is = (reads.gives.0, reads.gives.2, reads.gives.3)
end_read reader reader' b c (Err e) reads is = cc is

none_before : (xs ys : List ℕ) → xs ++ ys ≡ [] → xs ≡ []
none_before [] ys is = refl
none_before (x ∷ xs) ys is = cc is

-- the script's end, with nothing waiting
pub going-end : (reader reader' : Stream) (a b c : Option (List ℕ)) (before host after : HostState) (out out' : List ℕ) (written_old written : Option (List ℕ)) (old now next : Device)
    → Going reader a b before host out written_old written old now → AnswersNext reader reader' b c (Ok false) host after out out' now next → (IsUnbroken reader.waiting → out ≡ [])
    → Performs before after (Ok tt) a c written_old written old next
going-end reader reader' a b c before host after out out' written_old written old now next going answers waits =
    subst (λ (d : Device). Performs before after (Ok tt) a c written_old written old d) (sym answers.comes.1.same_device)
    (subst (λ (h : HostState). Performs before h (Ok tt) a c written_old written old now) (sym answers.comes.1.same_host) ended)
  where
    ended : Performs before host (Ok tt) a c written_old written old now
    ended =
        let reads = answers.reads in
        let over = end_read reader reader' b c answers.next reads answers.comes.0 in
        let nothing : reader.waiting ≡ [] = none_before reader.waiting reads.taken over.0 in
        let empty : out ≡ [] = waits (subst IsUnbroken (sym nothing) (All-nil (λ (c : ℕ). c ≢ 10))) in
        record {
          says = λ first stands.
              let was = going.says first stands in
              let all : was.part ≡ reply_text was.said.answers = sym (append-nil was.part) ∙ ap (λ o. was.part ++ o) (sym empty) ∙ was.text in
              let script = going.script ++ reads.taken in
              let at_end = reads.ends going.ends over.1 in
              record {
                script = script;
                lines = going.lines;
                others = [];
                said = was.said;
                end = was.state;
                part = was.part;
                read = consumes_then a b c going.script reads.taken going.read reads.read;
                split = given-end going.script reads.taken going.lines reader going.has (λ is. (reads.stays is).0) over.0 ∙ sym (append-nil going.lines);
                whole = inr at_end;
                run = was.run;
                front = record { rest = []; joined = append-nil was.part ∙ all };
                wrote = was.wrote;
                outcome = record {
                  all = all;
                  none_left = refl;
                  ended = at_end;
                  short = omega (arith, over.2, reads.count, going.count, length-append going.script reads.taken);
                  tells = was.tells;
                  stands = was.stands;
                };
              };
        }

unbroken-front : (xs ys : List ℕ) → IsUnbroken (xs ++ ys) → IsUnbroken xs
unbroken-front [] ys u = All-nil (λ (c : ℕ). c ≢ 10)
unbroken-front (x ∷ xs) ys u = All-cons (λ (c : ℕ). c ≢ 10) x xs (All-head (λ (c : ℕ). c ≢ 10) x (xs ++ ys) u) (unbroken-front xs ys (All-tail (λ (c : ℕ). c ≢ 10) x (xs ++ ys) u))

take_nil : (n : ℕ) → take {A = ℕ} n [] ≡ []
take_nil zero = refl
take_nil (suc n) = refl

-- what a run says that ended early, and by the source only with nothing waiting
pub record Breaks (ending : Ending) (bytes : List ℕ) (reader reader' : Stream) (out : List ℕ) (now next : Device) : Type 0 where
  pub source : (ending ≡ Read) ⊎ (ending ≡ Script) → IsUnbroken bytes × (reader.ended ≡ false) × (out ≡ [])
  pub long : ending ≡ Script → 1073741824 ≤ reader'.taken
  pub short : ending ≡ Read → reader'.taken < 1073741824
  pub still : (ending ≡ Read) ⊎ (ending ≡ Script) ⊎ (ending ≡ Write) → next ≡ now

-- an end before the end: some of the replies that wait may be written, and a command may be left without its answer
pub going-broken : (reader reader' : Stream) (a b c : Option (List ℕ)) (taken : List ℕ) (before host : HostState) (out : List ℕ) (written_old written written' : Option (List ℕ)) (old now next : Device)
    (ending : Ending) (after : HostState) → Going reader a b before host out written_old written old now → Consumes b c taken → reader'.taken ≡ reader.taken + length taken
    → (IsTrue reader.ended → (taken ≡ []) × IsTrue reader'.ended) → ((IsTrue reader.ended → IsAtEnd b) → IsTrue reader'.ended → IsAtEnd c)
    → GoesUnanswered now.panel next.panel → AppendsSome out written written' → Breaks ending (reader.waiting ++ taken) reader reader' out now next
    → Performs before after (Err ending) a c written_old written' old next
going-broken reader reader' a b c taken before host out written_old written written' old now next ending after going read counts stays ends left some breaks = record {
  says = λ first stands.
      let was = going.says first stands in
      let script = going.script ++ taken in
      record {
        script = script;
        lines = going.lines;
        others = lines_of (reader.waiting ++ taken);
        said = was.said;
        end = was.state;
        part = was.part ++ take some.count out;
        read = consumes_then a b c going.script taken going.read read;
        split = going.has taken (λ is. (stays is).0);
        whole = given-front going.script taken going.lines reader c going.has (λ is. ends going.ends (stays is).1);
        run = was.run;
        front = record {
          rest = drop some.count out;
          joined = append_assoc was.part (take some.count out) (drop some.count out) ∙ ap (λ t. was.part ++ t) (take-append-drop some.count out) ∙ was.text;
        };
        wrote = appends_then written_old written written' was.part (take some.count out) was.wrote some.part;
        outcome = record {
          tells = record {
            between = now.panel;
            tells = was.tells;
            cut_armed = was.stands.device.cut_armed;
            fail_armed = was.stands.device.fail_armed;
            left = left;
          };
          answered = λ by.
              let source = breaks.source by in
              record {
                rest = reader.waiting ++ taken;
                taken = sym (append_assoc (bytes_of going.lines) reader.waiting taken) ∙ ap (λ bytes. bytes ++ taken) (given-whole going.script going.lines reader going.has source.1);
                unbroken = source.0;
                all = ap (λ t. was.part ++ t) (none-taken some.count out source.2) ∙ ap (λ t. was.part ++ t) (sym source.2) ∙ was.text;
              };
          long = λ is. omega (arith, breaks.long is, counts, going.count, length-append going.script taken);
          short = λ is. omega (arith, breaks.short is, counts, going.count, length-append going.script taken);
          stands = λ by. subst (λ (d : Device). DeviceStands d was.state) (sym (breaks.still by)) was.stands.device;
        };
      };
}
  where
    none-taken : (n : ℕ) (bytes : List ℕ) → bytes ≡ [] → take n bytes ≡ []
    none-taken n [] is = take_nil n
    none-taken n (x ∷ bytes) is = cc is

pub appends_some-none : (out : List ℕ) (written : Option (List ℕ)) → AppendsSome out written written
appends_some-none out written = record { count = 0; within = omega arith; part = appends-none written }

-- nothing more was taken, and where a write failed nothing done
broken-still : (reader : Stream) (a b : Option (List ℕ)) (before host : HostState) (out : List ℕ) (written_old written written' : Option (List ℕ)) (old now next : Device)
    (ending : Ending) (after : HostState) → Going reader a b before host out written_old written old now → GoesUnanswered now.panel next.panel → AppendsSome out written written'
    → (ending ≡ Write) ⊎ (ending ≡ Memory) → (ending ≡ Write → next ≡ now) → Performs before after (Err ending) a b written_old written' old next
broken-still reader a b before host out written_old written written' old now next ending after going left some which same =
    going-broken reader reader a b b [] before host out written_old written written' old now next ending after going (consumes-none b) (omega arith) (λ is. (refl, is)) (λ before is. before is) left some
    (record {
      source = λ by. absurd (not_source which by);
      long = λ is. absurd (not_source which (inr is));
      short = λ is. absurd (not_source which (inl is));
      still = still;
    })
  where
    not_source : (ending ≡ Write) ⊎ (ending ≡ Memory) → (ending ≡ Read) ⊎ (ending ≡ Script) → ⊥
    not_source (inl x) (inl y) = cc (x, y)
    not_source (inl x) (inr y) = cc (x, y)
    not_source (inr x) (inl y) = cc (x, y)
    not_source (inr x) (inr y) = cc (x, y)

    still : (ending ≡ Read) ⊎ (ending ≡ Script) ⊎ (ending ≡ Write) → next ≡ now
    still (inl is) = absurd (not_source which (inl is))
    still (inr (inl is)) = absurd (not_source which (inr is))
    still (inr (inr is)) = same is

-- there was no memory to begin
pub going-unbegun : (left : Option (List ℕ)) (host : HostState) (written : Option (List ℕ)) (d : Device) → Performs host host (Err Memory) left left written written d d
going-unbegun left host written d =
    broken-still stream_start left left host host [] written written written d d d Memory host (going-start stream_start left host [] written d refl refl) (unanswered-none d.panel) (appends_some-none [] written) (inr refl) (λ _. refl)

-- the replies that wait were not written
pub going-unwritten : (reader : Stream) (a b : Option (List ℕ)) (before host : HostState) (out : List ℕ) (written_old written written' : Option (List ℕ)) (old now : Device) (fault : WriteFault)
    → Going reader a b before host out written_old written old now → AppendsSome out written written' → Performs before host (Err (of_write fault)) a b written_old written' old now
going-unwritten reader a b before host out written_old written written' old now fault going some =
    broken-still reader a b before host out written_old written written' old now now (of_write fault) host going (unanswered-none now.panel) some (of_fault fault) (λ _. refl)
  where
    of_fault : (f : WriteFault) → (of_write f ≡ Write) ⊎ (of_write f ≡ Memory)
    of_fault write.Failed = inl refl
    of_fault write.Memory = inr refl

-- the source gave no more: all replies were written before it was asked
source_broken : (reader reader' : Stream) (b c : Option (List ℕ)) (next : Result NextLine InputFault) (fault : InputFault) (out : List ℕ) (reads : ReadsLine reader reader' b c next)
    → next ≡ Err fault → (IsUnbroken reader.waiting → out ≡ []) → IsUnbroken (reader.waiting ++ reads.taken) × (reader.ended ≡ false) × (out ≡ [])
source_broken reader reader' b c next fault out reads is waits =
    let given = faulty next reads.gives fault is in
    (given.0, false_from_ne_true reader.ended (λ is. true≢false (sym (reads.stays is).1 ∙ given.1)), waits (unbroken-front reader.waiting reads.taken given.0))
  where
    faulty : (n : Result NextLine InputFault) → Gives (reader.waiting ++ reads.taken) reader' n → (f : InputFault) → n ≡ Err f → IsUnbroken (reader.waiting ++ reads.taken) × (reader'.ended ≡ false)
    faulty (Ok line) gives f is = cc is
    faulty (Err Failed) gives f is = (gives.0, gives.1)
    faulty (Err TooLarge) gives f is = (gives.0, gives.1)

-- and so many bytes were taken
source_large : (reader reader' : Stream) (b c : Option (List ℕ)) (next : Result NextLine InputFault) (reads : ReadsLine reader reader' b c next) → next ≡ Err TooLarge → 1073741824 ≤ reader'.taken
source_large reader reader' b c (Ok line) reads is = cc is
source_large reader reader' b c (Err Failed) reads is = cc is
source_large reader reader' b c (Err TooLarge) reads is = reads.gives.2

-- fewer were taken where it failed
source_small : (reader reader' : Stream) (b c : Option (List ℕ)) (next : Result NextLine InputFault) (reads : ReadsLine reader reader' b c next) → next ≡ Err Failed → reader'.taken < 1073741824
source_small reader reader' b c (Ok line) reads is = cc is
source_small reader reader' b c (Err Failed) reads is = reads.gives.2
source_small reader reader' b c (Err TooLarge) reads is = cc is

memory_not_ended : (Memory ≡ Read) ⊎ (Memory ≡ Script) ⊎ (Memory ≡ Write) → ⊥
memory_not_ended (inl is) = cc is
memory_not_ended (inr (inl is)) = cc is
memory_not_ended (inr (inr is)) = cc is

pub memory_not_write : Memory ≡ Write → ⊥
memory_not_write is = cc is

pub memory_not_source : (Memory ≡ Read) ⊎ (Memory ≡ Script) → ⊥
memory_not_source (inl is) = cc is
memory_not_source (inr is) = cc is

-- the next line was not read or not performed
pub going-stopped : (reader reader' : Stream) (a b c : Option (List ℕ)) (before host : HostState) (out out' : List ℕ) (written_old written : Option (List ℕ)) (old now next : Device)
    (ending : Ending) (after : HostState) → Going reader a b before host out written_old written old now → AnswersNext reader reader' b c (Err ending) host after out out' now next
    → (IsUnbroken reader.waiting → out ≡ []) → Performs before after (Err ending) a c written_old written old next
going-stopped reader reader' a b c before host out out' written_old written old now next ending after going answers waits =
    going-broken reader reader' a b c answers.reads.taken before host out written_old written written old now next ending after going answers.reads.read answers.reads.count answers.reads.stays
    answers.reads.ends (stopped ending answers.comes).1 (appends_some-none out written) (stopped ending answers.comes).0
  where
    still : next ≡ now → GoesUnanswered now.panel next.panel
    still is = subst (λ (d : Device). GoesUnanswered now.panel d.panel) (sym is) (unanswered-none now.panel)

    by_source : (fault : InputFault) → answers.next ≡ Err fault → IsUnbroken (reader.waiting ++ answers.reads.taken) × (reader.ended ≡ false) × (out ≡ [])
    by_source fault is = source_broken reader reader' b c answers.next fault out answers.reads is waits

    stopped : (e : Ending) → Comes answers.next (reader.waiting ++ answers.reads.taken) reader' (Err e) host after out out' now next
        → Breaks e (reader.waiting ++ answers.reads.taken) reader reader' out now next × GoesUnanswered now.panel next.panel
    stopped Read comes = (
      record {
        source = λ _. by_source Failed comes.0;
        long = λ is. cc is;
        short = λ _. source_small reader reader' b c answers.next answers.reads comes.0;
        still = λ _. comes.1.same_device;
      },
      still comes.1.same_device,
    )
    stopped Script comes = (
      record {
        source = λ _. by_source TooLarge comes.0;
        long = λ _. source_large reader reader' b c answers.next answers.reads comes.0;
        short = λ is. cc is;
        still = λ _. comes.1.same_device;
      },
      still comes.1.same_device,
    )
    stopped Memory comes = (
      record { source = λ by. absurd (memory_not_source by); long = λ is. cc is; short = λ is. cc is; still = λ by. absurd (memory_not_ended by) },
      comes.left,
    )
    stopped Write comes = absurd comes
    stopped Usage comes = absurd comes
    stopped (Image offset) comes = absurd comes
    stopped (Layout place) comes = absurd comes
    stopped (Meta line) comes = absurd comes
    stopped endings.Device comes = absurd comes
