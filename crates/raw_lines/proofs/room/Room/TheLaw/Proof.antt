-- A `&` to the room reaches the bytes of each held line. Assumes `Logic`.
use denote.Param.Shared.{copy_shared}
use denote.Struct.Field.{RawPtr-field}
use denote.Struct.Laws.{RawPtr-copy}
use denote.Struct.Lending.{of_Lends}
use Rattle.raw_lines.specs.contracts.room.Room as C
use Rattle.raw_lines.proofs.room.Room.TheLaw.Statement.{statement}
use Rattle.raw_lines.proofs.Sharing.{room_lends_laws, Lends-room}

pub shares : statement
shares = of_Lends C.struct C.the_codes C.the_heap C.the_lent
    (λ d p. room_lends_laws d.start d.lines) (copy_shared RawPtr-field RawPtr-copy, tt)
    (λ M 𝓤 𝓛 d p. Lends-room 𝓛 (C.the_row).lives (λ k m. m) d.start d.lines)
