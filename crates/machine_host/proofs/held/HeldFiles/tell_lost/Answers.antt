use Rattle.std.proofs.Common.{All, sym, subst, arith}
use Rattle.inode_table.specs.Slots.{pages_at}
use Rattle.file_journal.specs.Object.{JournalServes}
use Rattle.flush_engine.specs.Spans.{IsWithin}
use Rattle.machine_host.specs.declared.held.HeldFiles.{HeldFiles}
use Rattle.machine_host.proofs.ToldLemmas.{after_those, all_told, none_told, one_told, room_for_one}
use Rattle.machine_host.proofs.held.HeldFiles.tell_lost.Goals as goal

pub loop-line-init : goal.loop-line-init
loop-line-init g c = none_told c.args.name.now c.args.inode c.args.spans.now (g.D.Lines.state c.args.device.now).medium c.args.self.now

pub next_bad-requires-clause-serves : goal.next_bad-requires-clause-serves
next_bad-requires-clause-serves g c = subst (λ (f : HeldFiles). JournalServes f.pages.journal (g.D.Lines.state c.args.device.now).medium) (sym c.loop-line.invariant.others) c.requires.serves

pub next_bad-requires-clause-within : goal.next_bad-requires-clause-within
next_bad-requires-clause-within g c = subst (λ (f : HeldFiles). All (IsWithin (pages_at f.pages.journal.tables.files c.args.inode)) c.args.spans.now) (sym c.loop-line.invariant.others) c.requires.within

pub tell_line-requires-clause-room : goal.tell_line-requires-clause-room
tell_line-requires-clause-room g c =
    room_for_one c.args.name.now c.args.inode c.args.spans.now (g.D.Lines.state c.args.device.now).medium c.args.self.now c.loop-line.self c.loop-line.from c.loop-line.invariant c.in-Some.line c.in-Some.ensures.next c.requires.room

pub loop-line-smaller : goal.loop-line-smaller
loop-line-smaller g c =
    let after = after_those c.args.name.now c.args.inode c.args.spans.now (g.D.Lines.state c.args.device.now).medium c.args.self.now c.loop-line.self c.loop-line.from c.loop-line.invariant c.in-Some.line c.in-Some.ensures.next c.requires.room in
    omega (arith, after, c.in-Some.ensures.below)

pub loop-line-preserved : goal.loop-line-preserved
loop-line-preserved g c =
    one_told c.args.name.now c.args.inode c.args.spans.now (g.D.Lines.state c.args.device.now).medium c.args.self.now c.loop-line.self c.loop-line.from c.loop-line.invariant c.in-Some.line c.in-Some.ensures.next c.requires.room
    c.in-Some.ensures.below c.tell_line.new.self c.tell_line.ensures.items c.tell_line.ensures.spare c.tell_line.ensures.others

pub returns : goal.returns
returns g c =
    all_told c.args.name.now c.args.inode c.args.spans.now (g.D.Lines.state c.args.device.now).medium c.args.self.now c.loop-line.self c.loop-line.from c.loop-line.invariant c.in_default.ensures.next
