-- A `&` to the room is made where one to a line's bytes is. Assumes `Logic`.
use mathlib.Core.Path.{refl}
use Prim.Native.Nat.{ℕ, ◌+◌}
use Rattle.std.specs.Prelude.{List, [], ◌∷◌, Option, Some, None}
use seplogic.Ra.Ura.{Ura}
use base.Fml.{Lft, Incl, ftrue, ffalse}
use types.Logic.{Logic}
use denote.Param.Laws.{Laws, of_field}
use denote.Param.Shared.{copy_shared}
use denote.RawPtr.{Ptr, block_ptr, null_ptr}
use denote.Sharing.{ShrLaws, said}
use denote.SharingLaws.{beside_shr_laws, nothing_shr_laws, said_shr_laws}
use denote.Shares.{Shares-less}
use denote.Struct.Field.{Field, u8-field, array_field}
use denote.Struct.Laws.{array_copy, array_laws, u8-copy, u8-laws}
use denote.Struct.Lending.{Lends, Lends-both, Lends-nothing, Lends-said, Lends-false}
use Rattle.raw_lines.specs.Ownership.{Bytes, fit, line_at, line_lent, lines_at, lines_lent, room_lends, room_owns}

abbrev bytes_field : Field
bytes_field = array_field u8-field 64

pub bytes_laws : Laws Bytes
bytes_laws = of_field bytes_field (array_laws u8-field u8-laws 64) refl (copy_shared bytes_field (array_copy u8-field u8-copy 64))

line_lent_laws : (b o : ℕ) (line : Option (List ℕ)) → ShrLaws (line_lent b o line)
line_lent_laws b o (Some bytes) = bytes_laws.shr_laws bytes b o
line_lent_laws b o None = nothing_shr_laws

lines_lent_laws : (b o : ℕ) (lines : List (Option (List ℕ))) → ShrLaws (lines_lent b o lines)
lines_lent_laws b o [] = nothing_shr_laws
lines_lent_laws b o (line ∷ lines) = beside_shr_laws _ _ (line_lent_laws b o line) (lines_lent_laws b (o + 64) lines)

pub room_lends_laws : (p : Ptr) (lines : List (Option (List ℕ))) → ShrLaws (room_lends p lines)
room_lends_laws (block_ptr b o) lines = beside_shr_laws _ _ (said_shr_laws (fit lines) tt) (lines_lent_laws b o lines)
room_lends_laws null_ptr lines = said_shr_laws ffalse tt

module _ {M : Type 1} {𝓤 : Ura M} (𝓛 : Logic 𝓤) (l : Lft) (inc : Incl l Bytes.lives) where
  Lends-line : (b o : ℕ) (line : Option (List ℕ)) → Lends 𝓛 (line_at b o line) (line_lent b o line) l
  Lends-line b o (Some bytes) = λ κ ts. Shares-less 𝓛 Bytes Bytes.lives l inc (bytes_laws.shares 𝓛) bytes κ ts b o
  Lends-line b o None = Lends-nothing 𝓛 (line_at b o None) l

  Lends-lines : (b o : ℕ) (lines : List (Option (List ℕ))) → Lends 𝓛 (lines_at b o lines) (lines_lent b o lines) l
  Lends-lines b o [] = Lends-nothing 𝓛 ftrue l
  Lends-lines b o (line ∷ lines) =
      Lends-both 𝓛 (line_at b o line) (lines_at b (o + 64) lines) (line_lent b o line) (lines_lent b (o + 64) lines) l (Lends-line b o line) (Lends-lines b (o + 64) lines)

  pub Lends-room : (p : Ptr) (lines : List (Option (List ℕ))) → Lends 𝓛 (room_owns p lines) (room_lends p lines) l
  Lends-room (block_ptr b o) lines = Lends-both 𝓛 (fit lines) (lines_at b o lines) (said (fit lines)) (lines_lent b o lines) l (Lends-said 𝓛 (fit lines) tt l) (Lends-lines b o lines)
  Lends-room null_ptr lines = Lends-false 𝓛 (said ffalse) l
