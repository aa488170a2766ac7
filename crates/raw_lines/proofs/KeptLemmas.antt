-- The table of held lines follows the room.
use Rattle.std.proofs.Common.{◌≡◌, ◌<◌, ℕ, zero, suc, List, [], ◌∷◌, Bool, true, false, Option, Some, None, get_or, length, map, replicate, set, is_some, refl, sym, ap, ◌∙◌, length-set, arith}
use Rattle.std.proofs.lemmas.List.{map-set}
use Rattle.std.proofs.Math.Seq.{map-set_same}
use Rattle.raw_lines.specs.Kept.{IsRegion, IsLeaseOf}
use Rattle.raw_lines.specs.Lines.{IsHeld}
use Rattle.raw_lines.specs.Lends.{with_bytes}
use Rattle.raw_lines.specs.declared.room.Lease.{Lease}
use Rattle.raw_lines.specs.declared.room.Room.{Room}

held_bytes : (lines : List (Option (List ℕ))) (i : ℕ) (b : Bool) → i < length lines → get_or (map is_some lines) i b ≡ true → IsHeld lines i
held_bytes [] i b lt e = absurd (omega arith)
held_bytes (None ∷ lines) zero b lt e = cc
held_bytes (Some bytes ∷ lines) zero b lt e = (bytes, refl)
held_bytes (line ∷ lines) (suc i) b lt e = held_bytes lines i b (omega arith) e

abbrev bare : ℕ → List (Option (List ℕ))
bare n = replicate n None

none_held : (n : ℕ) → replicate n false ≡ map is_some (bare n)
none_held zero = refl
none_held (suc n) = ap (λ l. false ∷ l) (none_held n)

-- in new room no line is held
pub kept_new : {A : Type 0} (room : Room) (held : List Bool) (lease : Lease A) (alloc : A) (n : ℕ) → held ≡ replicate n false
    → (room.lines ≡ replicate n None) × IsLeaseOf room lease alloc → IsRegion room held lease alloc
kept_new room held lease alloc n none is = record {
  table = none ∙ none_held n ∙ ap (map is_some) (sym is.0);
  leased = is.1;
}

module _ {A : Type 0} (room : Room) (held : List Bool) (lease : Lease A) (alloc : A) (kept : IsRegion room held lease alloc) (i : ℕ) where
  -- a line changes, and its place in the table with it
  pub kept_set : (line : _) (new : Room) → (new.start ≡ room.start) × (new.lines ≡ set room.lines i line) → IsRegion new (set held i (is_some line)) lease alloc
  kept_set line new is = record {
    table = ap (λ h. set h i (is_some line)) kept.table ∙ sym (map-set is_some room.lines i line) ∙ ap (map is_some) (sym is.1);
    leased = (kept.leased.0 ∙ sym is.0, kept.leased.1 ∙ sym (ap length is.1 ∙ length-set room.lines i line), kept.leased.2);
  }

  -- a held line has other bytes
  pub kept_lent : (old new : List ℕ) → get_or room.lines i None ≡ Some old → IsRegion (with_bytes room i new) held lease alloc
  kept_lent old new is = record {
    table = kept.table ∙ sym (map-set_same is_some room.lines i (Some new) None (sym (ap is_some is)));
    leased = (kept.leased.0, kept.leased.1 ∙ sym (length-set room.lines i (Some new)), kept.leased.2);
  }

  -- the table says of the line that it is held
  pub kept_held : (b : Bool) → i < length room.lines → b ≡ get_or held i b → b ≡ true → IsHeld room.lines i
  kept_held b within is says = held_bytes room.lines i b within (ap (λ h. get_or h i b) (sym kept.table) ∙ sym is ∙ says)
