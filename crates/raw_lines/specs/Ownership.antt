-- What the room of a region owns, and what a `&` to it reaches.
use Rattle.std.specs.Prelude.{ℕ, ◌+◌, ◌*◌, ◌^◌, List, [], ◌∷◌, length, Option, Some, None}
use Rattle.std.specs.Borrow.{RattleType, Array, u8}
use base.Fraction.{full_share}
use base.Fml.{Lft, Fml, ftrue, ffalse, fsep, flt, froom}
use mir.Syntax.{Ty, ty_array}
use mir.Raw.{raw}
use denote.Memory.{lone, part_at, shared_of}
use denote.Sharing.{nothing, said, beside}
use denote.RawPtr.{Ptr, block_ptr, null_ptr}

-- the type of a line's bytes
abbrev pub Bytes : RattleType
Bytes = Array u8 64

-- at the offset o of the block b lie the bytes of a line, or else there is room for them
abbrev pub line_at : ℕ → ℕ → Option (List ℕ) → Fml
line_at b o (Some bytes) = part_at Bytes full_share bytes b o
line_at b o None = froom (raw (lone Bytes.mir)) b o

-- lines side by side
abbrev pub lines_at : ℕ → ℕ → List (Option (List ℕ)) → Fml
lines_at b o [] = ftrue
lines_at b o (line ∷ lines) = fsep (line_at b o line) (lines_at b (o + 64) lines)

-- a `&` to the bytes, where there are some
abbrev pub line_lent : ℕ → ℕ → Option (List ℕ) → Lft → Fml
line_lent b o (Some bytes) = shared_of Bytes bytes b o
line_lent b o None = nothing

-- a `&` to each line's bytes
abbrev pub lines_lent : ℕ → ℕ → List (Option (List ℕ)) → Lft → Fml
lines_lent b o [] = nothing
lines_lent b o (line ∷ lines) = beside (line_lent b o line) (lines_lent b (o + 64) lines)

-- the lines take fewer than 2 ^ 63 bytes
abbrev pub fit : List (Option (List ℕ)) → Fml
fit lines = flt (length lines * 64) (2 ^ 63)

-- the lines lie there, and nothing at null
abbrev pub room_owns : Ptr → List (Option (List ℕ)) → Fml
room_owns (block_ptr b o) lines = fsep (fit lines) (lines_at b o lines)
room_owns null_ptr lines = ffalse

-- what a `&` to such room reaches
abbrev pub room_lends : Ptr → List (Option (List ℕ)) → Lft → Fml
room_lends (block_ptr b o) lines = beside (said (fit lines)) (lines_lent b o lines)
room_lends null_ptr lines = said ffalse

-- the allocator's token for the room of n lines
abbrev pub lease_owns : (Ty → Ptr → Fml) → Ptr → ℕ → Fml
lease_owns token start n = token (raw (ty_array (lone Bytes.mir) n)) start
