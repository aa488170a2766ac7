use Rattle.std.proofs.Common.{◌≡◌, ◌≤◌, Ok, Err, length, take, drop, sym, ap, subst, ◌∙◌, arith, refl}
use Rattle.reply_text.specs.Answer.{IsPrintable}
use Rattle.reply_text.specs.Answer.Answer.{Bytes, Done}
use Rattle.reply_text.specs.Room.{most_of}
use Rattle.nvm_model.specs.Page.{look}
use Rattle.pm_volume.specs.Refusals.{load_refusal, volume_says}
use Rattle.line_words.specs.Told.{Answers}
use Rattle.machine_model.specs.OnVolume.{volume_answer}
use Rattle.machine_host.specs.Faults.{volume_fault_mode}
use Rattle.machine_host.proofs.CallLemmas.{printable_told, short_told}
use Rattle.machine_host.proofs.LoadLemmas.{load_answered}
use Rattle.machine_host.proofs.VolumeCallLemmas.{volume_part}
use Rattle.machine_host.proofs.WorkLemmas.{head_is, head_length, head_short, head_within}
use Rattle.machine_host.proofs.InsideLemmas.{left_of}
use Rattle.machine_host.proofs.host.Performer.vload.Goals as goal

pub returns-in-Ok : goal.returns-in-Ok
returns-in-Ok g c =
    let said = c.in-Ok.ensures in
    let now = c.args.self.now in
    let host = left_of c.self.view_is in
    let old = g.D.Lines.state c.args.device.now in
    let new = g.D.Lines.state c.load_into.new.dev in
    let asked : length (take c.args.len c.args.work.now) ≡ c.args.len = head_length c.args.len c.args.work.now c.requires.wide c.requires.few in
    let out = c.load_into.new.out in
    let rest = drop c.args.len c.args.work.now in
    let long : length out ≡ c.args.len = c.load_into.auto.out ∙ asked in (
      load_answered now host _ c.load_into.new.self (Ok tt) c.args.offset c.args.len _ (Unit {0}) old new c.self.view_is
          (ap (λ m. record { geometry = c.self.inside.geometry; unit = c.self.inside.unit; mode = m; blocks = c.self.inside.blocks; volume = c.load_into.new.self; files = c.self.inside.files }) (ap (λ k. k.mode) c.self.view_is ∙ c.requires.on))
          c.requires.on c.requires.serves (omega (arith, asked)) tt said.loads.lines said.serves said.object said.loads.runs _ c.requires.some c.requires.within c.requires.few
          (λ pages holds. subst (λ n. Answers volume_says (load_refusal host.volume pages c.args.offset n) (Ok tt)) asked (said.refused pages holds))
          (λ h holds. ap (λ bytes. Bytes bytes) (head_is c.args.len out rest long ∙ said.loads.ok h.volume holds ∙ ap (look h.volume c.args.offset) asked))
          (record { good = _; accepts = refl; is = refl }) tt (head_short c.args.len out rest long),
      head_within c.args.len out rest long,
    )

pub returns-in-Err : goal.returns-in-Err
returns-in-Err g c =
    let said = c.in-Err.ensures in
    let now = c.args.self.now in
    let host = left_of c.self.view_is in
    let old = g.D.Lines.state c.args.device.now in
    let new = g.D.Lines.state c.load_into.new.dev in
    let asked : length (take c.args.len c.args.work.now) ≡ c.args.len = head_length c.args.len c.args.work.now c.requires.wide c.requires.few in
    let told = sym c.volume_fault.ensures.answer in (
      load_answered now host _ c.load_into.new.self (Err c.in-Err.fault) c.args.offset c.args.len _ _ old new c.self.view_is
          (c.volume_fault.ensures.state ∙ ap (λ m. record { geometry = c.self.inside.geometry; unit = c.self.inside.unit; mode = volume_fault_mode m c.in-Err.fault; blocks = c.self.inside.blocks; volume = c.load_into.new.self; files = c.self.inside.files }) (ap (λ k. k.mode) c.self.view_is ∙ c.requires.on))
          c.requires.on c.requires.serves (omega (arith, asked))
          (λ refused. let same = said.untouched refused in (same.0, ap (λ d. g.D.Lines.state d) same.1)) said.loads.lines said.serves said.object said.loads.runs _ c.requires.some c.requires.within c.requires.few
          (λ pages holds. subst (λ n. Answers {T = Unit {0}} volume_says (load_refusal host.volume pages c.args.offset n) (Err c.in-Err.fault)) asked (said.refused pages holds))
          (λ h holds. c.volume_fault.ensures.answer) (record { good = Done; accepts = refl; is = c.volume_fault.ensures.answer })
          (subst IsPrintable told (printable_told volume_answer volume_part.printable (volume_says c.in-Err.fault)))
          (let short = subst (λ a. most_of a ≤ 72) told (short_told volume_answer volume_part.short (volume_says c.in-Err.fault)) in omega (arith, short)),
      tt,
    )
