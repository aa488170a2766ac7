-- Runs, one input after another.
use Rattle.std.proofs.Common.{◌≡◌, ◌≤◌, ℕ, inl, Option, Some, None, List, [], ◌∷◌, ◌++◌, refl, sym, ap, subst, ◌∙◌, append_assoc, append-nil, arith}
use Rattle.nvm_base.specs.Counts.{raised}
use Rattle.line_device.specs.Panel.{Panel, Start, told, ordered}
use Rattle.line_device.specs.declared.order.Order.{Order}
use Rattle.line_device.specs.declared.line.Choice.{Choice}
use Rattle.reply_text.specs.declared.reply.Why.TheVariants.{Syntax, TooLong}
use Rattle.reply_text.specs.Answer.{Answer, answer_line, reply_text}
use Rattle.reply_text.specs.Answer.Answer.{Done, Refused}
use Rattle.script_text.specs.Script.{Input}
use Rattle.script_text.specs.Script.Input.{Skipped, Malformed, Overlong, Asked}
use Rattle.machine_model.specs.Machine.{Machine, Fate}
use Rattle.machine_model.specs.Commands.{fate, spending}
use Rattle.machine_model.specs.Machine.Fate.{Gives, Works, Orders, Cuts, Restarts, Recovers}
use Rattle.machine_model.specs.Restarting.{RestartMayLeave, mounted_answer, restarted}
use Rattle.machine_model.specs.Run.{Transcript, Hears, Run, Takes, answered, followed_by, silence, with_cut, with_order, with_start, worked}
use Rattle.machine_model.specs.Performing.{Performance, Allows, after, perform}
use Rattle.machine_model.specs.Interrupted.{stop_in}
use Rattle.machine_model.specs.Telling.{Tells, arms_after, bumped_by, counted_by, cuts_after, evicts_after, faults_after, last_of, ordered_by}
use Rattle.line_words.specs.declared.interruption.Interruption.{Interruption}
use Rattle.line_words.specs.declared.interruption.Interruption.TheVariants.{Failed, PowerLost}
use Rattle.script_text.specs.Action.{Action}

-- transcripts that are the same in each part
same_said : (a b : Transcript) → a.starts ≡ b.starts → a.orders ≡ b.orders → a.cuts ≡ b.cuts → a.spent.calls ≡ b.spent.calls → a.spent.persists ≡ b.spent.persists → a.answers ≡ b.answers → a ≡ b
same_said a b starts orders cuts calls persists answers =
    λ i. record { starts = starts i; orders = orders i; cuts = cuts i; spent = record { calls = calls i; persists = persists i }; answers = answers i }

-- one transcript after another
followed_by-nil : (a : Transcript) → followed_by a silence ≡ a
followed_by-nil a = same_said (followed_by a silence) a (append-nil a.starts) (append-nil a.orders) (omega arith) (omega arith) (omega arith) (append-nil a.answers)

pub followed_by-silence : (a : Transcript) → followed_by silence a ≡ a
followed_by-silence a = same_said (followed_by silence a) a refl refl (omega arith) (omega arith) (omega arith) refl

followed_by-assoc : (a b c : Transcript) → followed_by (followed_by a b) c ≡ followed_by a (followed_by b c)
followed_by-assoc a b c =
    same_said (followed_by (followed_by a b) c) (followed_by a (followed_by b c)) (append_assoc a.starts b.starts c.starts) (append_assoc a.orders b.orders c.orders)
    (omega arith) (omega arith) (omega arith) (append_assoc a.answers b.answers c.answers)

-- a run, and a run from there on
pub run_then : (h m e : Machine) (x y : List Input) (s t : Transcript) → Run h x s m → Run m y t e → Run h (x ++ y) (followed_by s t) e
run_then h m e [] y s t first second =
    subst (λ k. Run h y (followed_by k t) e) (sym first.0) (subst (λ k. Run h y k e) (sym (followed_by-silence t)) (subst (λ k. Run k y t e) first.1 second))
run_then h m e (input ∷ x) y s t first second = (
  first.0,
  followed_by first.1 t,
  first.2,
  ap (λ k. followed_by k t) first.3 ∙ followed_by-assoc first.0 first.1 t,
  first.4,
  run_then first.2 m e x y first.1 t first.5 second,
)

pub run_of_one : (h next : Machine) (input : Input) (said : Transcript) → Hears h input said next → Run h (input ∷ []) said next
run_of_one h next input said hears = (said, silence, next, sym (followed_by-nil said), hears, (refl, refl))

-- what follows a restart, and what is asked of what it left
abbrev pub gone_on : Machine → Action → List Input → List Start → Performance
gone_on h action inputs starts = elim starts [
  | [] ↦ record { said = silence; state = h }
  | start ∷ others ↦ after (with_start (spending h action) start (mounted_answer (restarted h start.image))) (perform (restarted h start.image) inputs others)
]

abbrev allows_on : Machine → List Input → Choice → List Start → Type 0
allows_on h inputs choice starts = elim starts as (λ _. Type 0) [
  | [] ↦ ⊥
  | start ∷ others ↦ (start.choice ≡ choice) × RestartMayLeave choice start.image h × Allows (restarted h start.image) inputs others
]

-- what follows a command
abbrev pub performed : Machine → Action → Fate → List Input → List Start → Performance
performed h action f inputs starts = elim f [
  | Gives answer next ↦ after (answered answer) (perform next inputs starts)
  | Works answer next ↦ after (worked (spending h action) answer) (perform next inputs starts)
  | Orders order next ↦ after (with_order order Done) (perform next inputs starts)
  | Cuts next ↦ after (with_cut Done) (perform next inputs starts)
  | Restarts choice ↦ gone_on h action inputs starts
  | Recovers ↦ record { said = silence; state = h }
]

abbrev allowed : Machine → Fate → List Input → List Start → Type 0
allowed h f inputs starts = elim f as (λ _. Type 0) [
  | Gives answer next ↦ Allows next inputs starts
  | Works answer next ↦ Allows next inputs starts
  | Orders order next ↦ Allows next inputs starts
  | Cuts next ↦ Allows next inputs starts
  | Restarts choice ↦ allows_on h inputs choice starts
  | Recovers ↦ ⊥
]

-- what nothing interrupts is a run
pub run_performed : (h : Machine) (inputs : List Input) (starts : List Start) → Allows h inputs starts → Run h inputs (perform h inputs starts).said (perform h inputs starts).state
run_performed h [] starts ok = (refl, refl)
run_performed h (Skipped ∷ inputs) starts ok =
    (silence, (perform h inputs starts).said, h, sym (followed_by-silence (perform h inputs starts).said), (refl, refl), run_performed h inputs starts ok)
run_performed h (Malformed ∷ inputs) starts ok =
    (answered (Refused Syntax), (perform h inputs starts).said, h, refl, (refl, refl), run_performed h inputs starts ok)
run_performed h (Overlong ∷ inputs) starts ok =
    (answered (Refused TooLong), (perform h inputs starts).said, h, refl, (refl, refl), run_performed h inputs starts ok)
run_performed h (Asked action ∷ inputs) starts ok = by_fate (λ k others. run_performed k inputs others) (fate h action) refl ok
  where
    by_start : ((k : Machine) (others : List Start) → Allows k inputs others → Run k inputs (perform k inputs others).said (perform k inputs others).state)
        → (choice : Choice) (all : List Start) → fate h action ≡ Restarts choice → allows_on h inputs choice all
        → Run h (Asked action ∷ inputs) (gone_on h action inputs all).said (gone_on h action inputs all).state
    by_start rest choice [] is ok = absurd ok
    by_start rest choice (start ∷ others) is ok = (
      with_start (spending h action) start (mounted_answer (restarted h start.image)),
      (perform (restarted h start.image) inputs others).said,
      restarted h start.image,
      refl,
      subst (λ f. Takes h action f (with_start (spending h action) start (mounted_answer (restarted h start.image))) (restarted h start.image)) (sym is)
          (start, mounted_answer (restarted h start.image), refl, ok.0, ok.1, inl (refl, refl)),
      rest (restarted h start.image) others ok.2,
    )

    by_fate : ((k : Machine) (others : List Start) → Allows k inputs others → Run k inputs (perform k inputs others).said (perform k inputs others).state)
        → (f : Fate) → fate h action ≡ f → allowed h f inputs starts → Run h (Asked action ∷ inputs) (performed h action f inputs starts).said (performed h action f inputs starts).state
    by_fate rest (Gives answer next) is ok =
        (answered answer, (perform next inputs starts).said, next, refl, subst (λ f. Takes h action f (answered answer) next) (sym is) (refl, refl), rest next starts ok)
    by_fate rest (Works answer next) is ok = (
      worked (spending h action) answer,
      (perform next inputs starts).said,
      next,
      refl,
      subst (λ f. Takes h action f (worked (spending h action) answer) next) (sym is) (answer, refl, inl (refl, refl)),
      rest next starts ok,
    )
    by_fate rest (Orders order next) is ok =
        (with_order order Done, (perform next inputs starts).said, next, refl, subst (λ f. Takes h action f (with_order order Done) next) (sym is) (refl, refl), rest next starts ok)
    by_fate rest (Cuts next) is ok =
        (with_cut Done, (perform next inputs starts).said, next, refl, subst (λ f. Takes h action f (with_cut Done) next) (sym is) (refl, refl), rest next starts ok)
    by_fate rest (Restarts choice) is ok = by_start rest choice starts is ok
    by_fate rest Recovers is ok = absurd ok

-- the lines of answers, one stretch after another
pub reply_text-append : (x y : List Answer) → reply_text (x ++ y) ≡ reply_text x ++ reply_text y
reply_text-append [] y = refl
reply_text-append (answer ∷ x) y = ap (λ t. answer_line answer ++ t) (reply_text-append x y) ∙ sym (append_assoc (answer_line answer) (reply_text x) (reply_text y))

-- what was told in two stretches
told-append : (before : Option (List Start)) (s t : List Start) → told before (s ++ t) ≡ told (told before s) t
told-append before [] t = refl
told-append before (start ∷ s) t = told-append _ s t

bumped_by-append : {A : Type 0} (s t : List A) (n : ℕ) → bumped_by (s ++ t) n ≡ bumped_by t (bumped_by s n)
bumped_by-append [] t n = refl
bumped_by-append (x ∷ s) t n = bumped_by-append s t (raised n)

ordered_by-append : (after : Order → ℕ → ℕ) (s t : List Order) (n : ℕ) → ordered_by after (s ++ t) n ≡ ordered_by after t (ordered_by after s n)
ordered_by-append after [] t n = refl
ordered_by-append after (order ∷ s) t n = ordered_by-append after s t (after order n)

last_of-append : (s t : List Order) (before : Option (Option Order)) → last_of (s ++ t) before ≡ last_of t (last_of s before)
last_of-append [] t before = refl
last_of-append (order ∷ s) t before = last_of-append s t (ordered before order)

-- counts that answers tell, in two stretches and from a higher count
counted_by-append : (after : Option Interruption → ℕ → ℕ) (s t : List Answer) (n : ℕ) → counted_by after (s ++ t) n ≡ counted_by after t (counted_by after s n)
counted_by-append after [] t n = refl
counted_by-append after (answer ∷ s) t n = counted_by-append after s t (after (stop_in answer) n)

counted_by-higher : (after : Option Interruption → ℕ → ℕ) → ((o : Option Interruption) (m n : ℕ) → m ≤ n → after o m ≤ after o n)
    → (answers : List Answer) (m n : ℕ) → m ≤ n → counted_by after answers m ≤ counted_by after answers n
counted_by-higher after higher [] m n le = le
counted_by-higher after higher (answer ∷ answers) m n le = counted_by-higher after higher answers _ _ (higher (stop_in answer) m n le)

faults_higher : (o : Option Interruption) (m n : ℕ) → m ≤ n → faults_after o m ≤ faults_after o n
faults_higher None m n le = le
faults_higher (Some Failed) m n le = omega (arith, le)
faults_higher (Some PowerLost) m n le = le

cuts_higher : (o : Option Interruption) (m n : ℕ) → m ≤ n → cuts_after o m ≤ cuts_after o n
cuts_higher None m n le = le
cuts_higher (Some Failed) m n le = le
cuts_higher (Some PowerLost) m n le = omega (arith, le)

counted_then : (after : Option Interruption → ℕ → ℕ) → ((o : Option Interruption) (m n : ℕ) → m ≤ n → after o m ≤ after o n) → (s t : List Answer) (p q r : ℕ)
    → counted_by after s p ≤ q → counted_by after t q ≤ r → counted_by after (s ++ t) p ≤ r
counted_then after higher s t p q r one two =
    let more = counted_by-higher after higher t (counted_by after s p) q one in omega (arith, counted_by-append after s t p, more, two)

pub tells_silence : (p : Panel) → Tells silence p p
tells_silence p = record {
  starts = refl;
  restarts = refl;
  orders = refl;
  arms = refl;
  offs = omega arith;
  faults = omega arith;
  cuts = omega arith;
  calls = omega arith;
  persists = omega arith;
  evicts = refl;
  setups = omega arith;
  disarms = refl;
}

pub tells_then : (s t : Transcript) (p q r : Panel) → Tells s p q → Tells t q r → Tells (followed_by s t) p r
tells_then s t p q r a b = record {
  starts = b.starts ∙ ap (λ before. told before t.starts) a.starts ∙ sym (told-append p.starts s.starts t.starts);
  restarts = b.restarts ∙ ap (bumped_by t.starts) a.restarts ∙ sym (bumped_by-append s.starts t.starts p.counts.restarts);
  orders = b.orders ∙ ap (last_of t.orders) a.orders ∙ sym (last_of-append s.orders t.orders p.last_order);
  arms = b.arms ∙ ap (ordered_by arms_after t.orders) a.arms ∙ sym (ordered_by-append arms_after s.orders t.orders p.counts.arms);
  offs = omega (arith, a.offs, b.offs);
  faults = counted_then faults_after faults_higher s.answers t.answers _ _ _ a.faults b.faults;
  cuts = counted_then cuts_after cuts_higher s.answers t.answers _ _ _ a.cuts b.cuts;
  calls = omega (arith, a.calls, b.calls);
  persists = omega (arith, a.persists, b.persists);
  evicts = b.evicts ∙ ap (ordered_by evicts_after t.orders) a.evicts ∙ sym (ordered_by-append evicts_after s.orders t.orders p.counts.evicts);
  setups = omega (arith, a.setups, b.setups);
  disarms = b.disarms ∙ a.disarms;
}
