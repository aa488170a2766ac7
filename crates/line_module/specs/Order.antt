-- How the dirty lines are kept: each once, with as many chains left as lines may still come.
use Rattle.std.specs.Prelude.{◌≡◌, ◌+◌, ◌≤◌, ℕ, false, List, [], ◌∷◌}
use Rattle.std.specs.Coded.{×_prop, Unit-prop, Coded-set, coded_bool}
use Rattle.std.specs.Vec.{vec_len, vec_capacity}
use Rattle.std.specs.Global.{Vec}
use Rattle.line_module.specs.Memory.{has}
use Rattle.line_module.specs.declared.chain.Chain.{Chain}

-- no line is listed twice
abbrev pub EachOnce : List ℕ → Type 0
EachOnce [] = Unit {0}
EachOnce (line ∷ lines) = (has line lines ≡ false) × EachOnce lines

pub EachOnce-prop : (lines : List ℕ) → IsProp (EachOnce lines)
EachOnce-prop [] = Unit-prop
EachOnce-prop (line ∷ lines) = ×_prop (Coded-set coded_bool (has line lines) false) (EachOnce-prop lines)

pub record IsOrder (lines : Vec ℕ) (free : Vec Chain) : Type 0 where
  pub once : EachOnce lines.items
  pub chains : vec_len free + vec_len lines ≡ 1024
  pub room : 1024 ≤ vec_capacity lines
  pub free_room : 1024 ≤ vec_capacity free
