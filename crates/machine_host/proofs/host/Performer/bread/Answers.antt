use Rattle.std.proofs.Common.{◌≡◌, ◌*◌, ◌/◌, ℕ, Ok, Err, length, take, drop, ap, ◌∙◌, arith, refl}
use Rattle.block_device.specs.Object.{blocks_of}
use Rattle.nvm_model.specs.Blocks.{look_blocks}
use Rattle.reply_text.specs.Answer.Answer.{Bytes, Done}
use Rattle.machine_host.specs.Faults.{fault_mode}
use Rattle.machine_host.proofs.BlockReadLemmas.{length-look, printable_fault, read_answered, room_of_fault}
use Rattle.machine_host.proofs.WorkLemmas.{head_is, head_length, head_short, head_within}
use Rattle.machine_host.proofs.host.Performer.bread.Goals as goal

pub returns-in-Ok : goal.returns-in-Ok
returns-in-Ok g c =
    let said = c.in-Ok.ensures in
    let on = ap (λ k. k.mode) c.self.view_is ∙ c.requires.on in
    let n : ℕ = 512 * c.args.count in
    let size : length (take n c.args.work.now) ≡ n = head_length n c.args.work.now c.requires.wide (omega (arith, c.requires.few)) in
    let blocks = blocks_of c.self.inside.blocks (g.D.Lines.state c.args.device.now).medium in
    let many : length (take n c.args.work.now) / 512 ≡ c.args.count = omega (arith, size) in
    let out = c.read_into.new.out in
    let rest = drop n c.args.work.now in
    let same : out ≡ look_blocks blocks c.args.block c.args.count = said.fills.ok ∙ ap (look_blocks blocks c.args.block) many in
    let long : length out ≡ n = ap length same ∙ length-look blocks c.args.block c.args.count in (
      read_answered _ _ _ _ (Ok tt) c.args.block c.args.count _ _ (Unit {0}) _ _ c.self.view_is (ap (λ m. record { geometry = c.self.inside.geometry; unit = c.self.inside.unit; mode = m; blocks = c.read_into.new.self; volume = c.self.inside.volume; files = c.self.inside.files }) on)
          c.requires.on c.requires.serves (omega (arith, size)) size tt said.fills.lines said.serves said.object said.fills.runs _ c.requires.some c.requires.few c.requires.within said.refused
          (λ h stays. ap (λ bytes. Bytes bytes) (head_is n out rest long ∙ same ∙ ap (λ bs. look_blocks bs c.args.block c.args.count) stays))
          (record { good = _; accepts = refl; is = refl }) (head_short n out rest long) tt,
      head_within n out rest long,
    )

pub returns-in-Err : goal.returns-in-Err
returns-in-Err g c =
    let said = c.in-Err.ensures in
    let on = ap (λ k. k.mode) c.self.view_is ∙ c.requires.on in
    let n : ℕ = 512 * c.args.count in
    let size : length (take n c.args.work.now) ≡ n = head_length n c.args.work.now c.requires.wide (omega (arith, c.requires.few)) in (
      read_answered _ _ _ _ (Err c.in-Err.fault) c.args.block c.args.count _ _ _ _ _ c.self.view_is (c.fault.ensures.state ∙ ap (λ m. record { geometry = c.self.inside.geometry; unit = c.self.inside.unit; mode = fault_mode m c.in-Err.fault; blocks = c.read_into.new.self; volume = c.self.inside.volume; files = c.self.inside.files }) on)
          c.requires.on c.requires.serves (omega (arith, size)) size
          (λ told. let same = said.untouched told in (same.0, ap (λ d. g.D.Lines.state d) same.1)) said.fills.lines said.serves said.object said.fills.runs _ c.requires.some c.requires.few c.requires.within said.refused
          (λ _ _. c.fault.ensures.answer) (record { good = Done; accepts = refl; is = c.fault.ensures.answer }) (room_of_fault c.in-Err.fault _ c.args.count c.fault.ensures.answer) (printable_fault c.in-Err.fault _ c.fault.ensures.answer),
      tt,
    )
