use Rattle.std.proofs.Common.{◌≡◌, ◌+◌, ◌*◌, ◌≤◌, Ok, Err, Some, length, take, drop, sym, ap, subst, ◌∙◌, arith, refl}
use Rattle.inode_table.specs.Slots.{inode_of, pages_at}
use Rattle.line_words.specs.Told.{Answers}
use Rattle.nvm_base.specs.Units.{units_of}
use Rattle.nvm_model.specs.Page.{look}
use Rattle.page_lines.proofs.CountLemmas.{there_in_most}
use Rattle.file_pages.specs.Costs.{lines_there}
use Rattle.file_pages.specs.Object.{file_place}
use Rattle.file_pages.specs.Refusals.{page_says, read_refusal}
use Rattle.reply_text.specs.Answer.{IsPrintable}
use Rattle.reply_text.specs.Answer.Answer.{Bytes, Done}
use Rattle.reply_text.specs.Room.{most_of}
use Rattle.machine_host.specs.Faults.{page_fault_mode}
use Rattle.machine_model.specs.OnPages.{page_answer}
use Rattle.machine_host.specs.Stands.{HostState}
use Rattle.machine_host.proofs.CallLemmas.{printable_told, short_told}
use Rattle.machine_host.proofs.FilePageLemmas.{pages_part, read_answered}
use Rattle.machine_host.proofs.WorkLemmas.{head_is, head_length, head_short, head_within}
use Rattle.machine_host.proofs.InsideLemmas.{left_of}
use Rattle.machine_host.proofs.host.Performer.fread_within.Goals as goal

pub returns-in-Ok : goal.returns-in-Ok
returns-in-Ok g c =
    let said = c.in-Ok.ensures in
    let now = c.args.self.now in
    let host = left_of c.self.view_is in
    let name = c.args.name.now in
    let asked : length (take c.args.len c.args.work.now) ≡ c.args.len = head_length c.args.len c.args.work.now c.requires.wide c.requires.few in
    let here : inode_of name host.files.pages.journal.tables.files ≡ Some c.args.inode = ap (λ (k : HostState). inode_of name k.files.pages.journal.tables.files) c.self.view_is ∙ c.requires.named in
    let few : lines_there host.files.pages.journal c.args.inode c.args.offset c.args.len ≤ (units_of 64 (record { start = c.args.offset; len = c.args.len })).len =
    there_in_most (file_place host.files.pages.journal c.args.inode) (record { start = c.args.offset; len = c.args.len }) in
    let out = c.load_into.new.out in
    let rest = drop c.args.len c.args.work.now in
    let long : length out ≡ c.args.len = c.load_into.auto.out ∙ asked in (
      read_answered now host _ c.load_into.new.self (Ok tt) name c.args.inode c.args.offset c.args.len _ (g.D.Lines.state c.args.device.now) (g.D.Lines.state c.load_into.new.dev) c.self.view_is
          (ap (λ m. record { geometry = c.self.inside.geometry; unit = c.self.inside.unit; mode = m; blocks = c.self.inside.blocks; volume = c.self.inside.volume; files = record { pages = c.load_into.new.self; mappings = c.self.inside.files.mappings; events = c.self.inside.files.events } }) (ap (λ k. k.mode) c.self.view_is ∙ c.requires.on))
          c.requires.on c.requires.serves here (subst (λ n. lines_there host.files.pages.journal c.args.inode c.args.offset n ≤ (units_of 64 (record { start = c.args.offset; len = c.args.len })).len) (sym asked) few) tt said.lines said.serves said.object said.runs _ c.requires.some c.requires.few
          (subst (λ (k : HostState). c.args.offset + c.args.len ≤ 4096 * pages_at k.files.pages.journal.tables.files c.args.inode) (sym c.self.view_is) c.requires.within)
          (λ files file at. subst (λ n. Answers page_says (read_refusal file.pages c.args.offset n) (Ok tt)) asked (said.refused files file at))
          (λ files file at. ap (λ bytes. Bytes bytes) (head_is c.args.len out rest long ∙ said.ok files file at ∙ ap (look file.pages c.args.offset) asked))
          (record { good = _; accepts = refl; is = refl }) tt (let short = head_short c.args.len out rest long in omega (arith, short, c.requires.few)),
      head_within c.args.len out rest long,
    )

pub returns-in-Err : goal.returns-in-Err
returns-in-Err g c =
    let said = c.in-Err.ensures in
    let now = c.args.self.now in
    let host = left_of c.self.view_is in
    let name = c.args.name.now in
    let asked : length (take c.args.len c.args.work.now) ≡ c.args.len = head_length c.args.len c.args.work.now c.requires.wide c.requires.few in
    let here : inode_of name host.files.pages.journal.tables.files ≡ Some c.args.inode = ap (λ (k : HostState). inode_of name k.files.pages.journal.tables.files) c.self.view_is ∙ c.requires.named in
    let few : lines_there host.files.pages.journal c.args.inode c.args.offset c.args.len ≤ (units_of 64 (record { start = c.args.offset; len = c.args.len })).len =
    there_in_most (file_place host.files.pages.journal c.args.inode) (record { start = c.args.offset; len = c.args.len }) in
    let told = sym c.page_fault.ensures.answer in
    let short = subst (λ a. most_of a ≤ 72) told (short_told (page_answer name) (pages_part name).short (page_says c.in-Err.fault)) in (
      read_answered now host _ c.load_into.new.self (Err c.in-Err.fault) name c.args.inode c.args.offset c.args.len _ (g.D.Lines.state c.args.device.now) (g.D.Lines.state c.load_into.new.dev) c.self.view_is
          (c.page_fault.ensures.state ∙ ap (λ m. record { geometry = c.self.inside.geometry; unit = c.self.inside.unit; mode = page_fault_mode m c.in-Err.fault; blocks = c.self.inside.blocks; volume = c.self.inside.volume; files = record { pages = c.load_into.new.self; mappings = c.self.inside.files.mappings; events = c.self.inside.files.events } }) (ap (λ k. k.mode) c.self.view_is ∙ c.requires.on))
          c.requires.on c.requires.serves here (subst (λ n. lines_there host.files.pages.journal c.args.inode c.args.offset n ≤ (units_of 64 (record { start = c.args.offset; len = c.args.len })).len) (sym asked) few)
          (λ refused. let same = said.untouched refused in (same.0, ap (λ d. g.D.Lines.state d) same.2)) said.lines said.serves said.object said.runs _ c.requires.some c.requires.few
          (subst (λ (k : HostState). c.args.offset + c.args.len ≤ 4096 * pages_at k.files.pages.journal.tables.files c.args.inode) (sym c.self.view_is) c.requires.within)
          (λ files file at. subst (λ n. Answers {T = Unit {0}} page_says (read_refusal file.pages c.args.offset n) (Err c.in-Err.fault)) asked (said.refused files file at))
          (λ files file at. c.page_fault.ensures.answer) (record { good = Done; accepts = refl; is = c.page_fault.ensures.answer })
          (subst IsPrintable told (printable_told (page_answer name) (pages_part name).printable (page_says c.in-Err.fault)))
          (omega (arith, short)),
      tt,
    )
