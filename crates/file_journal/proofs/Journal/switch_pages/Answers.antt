use Rattle.std.proofs.Common.{rules}
use Rattle.file_journal.proofs.CallLemmas.{refused_changes}
use Rattle.file_journal.proofs.FillLemmas.{slot_holds, switched_are}
use Rattle.file_journal.proofs.Journal.switch_pages.Goals as goal

pub returns-in_err-check_room : goal.returns-in_err-check_room
returns-in_err-check_room g c = record { changes = refused_changes _ _ _ _ _ _ _ _ (search rules) (search rules) c.requires.ready }

pub returns-in_err-check_meta : goal.returns-in_err-check_meta
returns-in_err-check_meta g c = record { changes = refused_changes _ _ _ _ _ _ _ _ (search rules) (search rules) c.requires.ready }

pub change-requires-clause-set : goal.change-requires-clause-set
change-requires-clause-set g c = slot_holds _ _ _ c.in_ok-check_room.ensures.tables.names c.requires.can.below c.slot-slot.ensures

pub change-requires-clause-after : goal.change-requires-clause-after
change-requires-clause-after g c =
    let s = c.args.self.now in
    switched_are s.geo.fpages c.args.inode c.requires.can.below s.tables c.in_ok-check_room.ensures.tables c.args.pages.now c.requires.can.are s.free c.requires.within c.requires.can.held
    c.slot-slot.result c.slot-slot.ensures c.in_ok-check_room.ensures.room
