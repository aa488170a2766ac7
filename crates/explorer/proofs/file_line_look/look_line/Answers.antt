use Rattle.std.proofs.Common.{◌≡◌, ◌≢◌, ◌*◌, ◌/◌, ◌<◌, ◌≤◌, List, ℕ, length, take, refl, sym, ap, rules, subst, ◌∙◌, arith}
use Rattle.std.proofs.lemmas.List.{length-take-le}
use Rattle.reply_text.specs.Answer.{answer_of}
use Rattle.reply_text.specs.declared.reply.Reply.TheVariants as reply
use Rattle.script_text.specs.Action.Action.{FRead}
use Rattle.machine_host.specs.declared.outcome.Outcome.TheVariants.{Read, Reply as Replied}
use Rattle.cut_places.specs.MachineModel.Commands.{fate}
use Rattle.cut_places.specs.MachineModel.Machine.{Machine}
use Rattle.machine_host.specs.Responding.{IsWithin, outcome_answer}
use Rattle.machine_host.specs.Stands.{Comes}
use Rattle.explorer.specs.Coming.{came_of}
use Rattle.explorer.proofs.FileLookLemmas.{no_file_line_told, read_on, told_file_poison, told_file_read}
use Rattle.explorer.proofs.LookLemmas.{told_done}
use Rattle.explorer.proofs.UntoldLemmas.{not_bytes, not_file_poison}
use Rattle.explorer.proofs.file_line_look.look_line.Goals as goal

head : (work old : List ℕ) → length work ≡ length old → length old ≡ 65536 → length (take 64 work) ≡ 64
head work old same wide = length-take-le 64 work (omega (arith, same, wide))

-- a line below the end
has_line : (n line pages length : ℕ) → line ≡ n → line / 64 < pages → pages ≡ length → n / 64 < length
has_line n line pages length same below are = subst (λ k. n / 64 < k) are (subst (λ k. k / 64 < pages) same below)

pub answer-requires-clause-bounded : goal.answer-requires-clause-bounded
answer-requires-clause-bounded g c =
    let pages : c.args.entry.now.pages ≤ 256 = c.requires.small in
    let within = c.if-line-entry.false in
    (c.bytes-is_name.ensures.name, omega (arith, pages, within), omega arith)

pub is_weak_in_file-weak-requires-clause-on : goal.is_weak_in_file-weak-requires-clause-on
is_weak_in_file-weak-requires-clause-on g c =
    let known = c.requires.known in
    let work = c.answer.new.work in
    let action = FRead c.args.entry.now.name (64 * c.from-line.result) 64 in
    let comes = c.in_ok-answer.ensures.step known.state known.stands in
    let told = told_done c.answer.new.self known.state action (outcome_answer work c.in_ok-answer.field-0) (g.D.Lines.state c.args.device.now) (g.D.Lines.state c.answer.new.device) refl comes
    (ap (λ o. came_of (outcome_answer work o)) c.in-Read.is) in
    comes.stands.mode ∙ ap (λ (h : Machine). h.mode) told.1.1 ∙ read_on known.state c.args.entry.now.name (64 * c.from-line.result) 64 told.0

pub slice_bounds-of_bytes-end-in-Read : goal.slice_bounds-of_bytes-end-in-Read
slice_bounds-of_bytes-end-in-Read g c = sym (head c.answer.new.work c.args.work.now c.answer.auto.work c.requires.wide)

pub of_bytes-requires : goal.of_bytes-requires
of_bytes-requires g c = head c.answer.new.work c.args.work.now c.answer.auto.work c.requires.wide

pub returns-in-Read-clause-sees : goal.returns-in-Read-clause-sees
returns-in-Read-clause-sees g c = λ h file stands begins listed.
    let name = c.args.entry.now.name in
    let n = c.args.n in
    let work = c.answer.new.work in
    let answer = outcome_answer work c.in_ok-answer.field-0 in
    let old = g.D.Lines.state c.args.device.now in
    let new = g.D.Lines.state c.answer.new.device in
    let comes = subst (λ k. Comes h (FRead name (64 * k) 64) (fate h (FRead name (64 * k) 64)) answer c.answer.new.self old new) c.from-line.ensures (c.in_ok-answer.ensures.step h stands) in
    let within : n / 64 < length file.pages = has_line n c.from-line.result c.args.entry.now.pages (length file.pages) c.from-line.ensures c.if-line-entry.false listed.size in
    let told = told_file_read c.answer.new.self h name n file answer old new begins listed.found within comes c.is_weak_in_file-weak.result work c.in-Read.field-0
    (λ again. c.is_weak_in_file-weak.ensures h again) (ap (outcome_answer work) c.in-Read.is) (subst (IsWithin work) c.in-Read.is c.in_ok-answer.ensures.within) in
    (c.of_bytes.ensures ∙ told.0, told.1)

pub returns-in-Reply-PoisonFile-clause-sees : goal.returns-in-Reply-PoisonFile-clause-sees
returns-in-Reply-PoisonFile-clause-sees g c = λ h file stands begins listed.
    let name = c.args.entry.now.name in
    let n = c.args.n in
    let work = c.answer.new.work in
    let answer = outcome_answer work c.in_ok-answer.field-0 in
    let old = g.D.Lines.state c.args.device.now in
    let new = g.D.Lines.state c.answer.new.device in
    let comes = subst (λ k. Comes h (FRead name (64 * k) 64) (fate h (FRead name (64 * k) 64)) answer c.answer.new.self old new) c.from-line.ensures (c.in_ok-answer.ensures.step h stands) in
    let within : n / 64 < length file.pages = has_line n c.from-line.result c.args.entry.now.pages (length file.pages) c.from-line.ensures c.if-line-entry.false listed.size in
    let told = told_file_poison c.answer.new.self h name n file answer old new begins listed.found within comes c.in-Reply-PoisonFile.field-0-0 c.in-Reply-PoisonFile.field-0-1
    (ap (outcome_answer work) c.in-Reply-PoisonFile.is ∙ ap answer_of c.in-Reply-PoisonFile.field-0-is) in
    (c.bad.ensures ∙ told.0, told.1)

pub returns : goal.returns
returns g c = record {
  sees = λ h file stands begins listed. tt;
  geometry = tt;
  known = tt;
  counts = tt;
  cause = λ h file stands begins listed is.
      let name = c.args.entry.now.name in
      let n = c.args.n in
      let work = c.answer.new.work in
      let outcome = c.in_ok-answer.field-0 in
      let old = g.D.Lines.state c.args.device.now in
      let new = g.D.Lines.state c.answer.new.device in
      let comes = subst (λ k. Comes h (FRead name (64 * k) 64) (fate h (FRead name (64 * k) 64)) (outcome_answer work outcome) c.answer.new.self old new) c.from-line.ensures (c.in_ok-answer.ensures.step h stands) in
      let within : n / 64 < length file.pages = has_line n c.from-line.result c.args.entry.now.pages (length file.pages) c.from-line.ensures c.if-line-entry.false listed.size in
      let unread : (n : ℕ) → outcome ≢ Read n = search rules in
      let other : (name : List ℕ) (n : ℕ) → outcome ≢ Replied (reply.PoisonFile name n) = search rules in
      no_file_line_told c.answer.new.self h name n file (outcome_answer work outcome) old new begins listed.found within comes
      (not_bytes work outcome unread) (not_file_poison work outcome other);
}
