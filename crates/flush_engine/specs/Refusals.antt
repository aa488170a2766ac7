-- When spans are refused, and why.
use Rattle.std.specs.Prelude.{◌+◌, ◌*◌, ◌==◌, ◌||◌, ℕ, Bool, List, length, nat_lt, Option, Some, None, option_map, Result, Ok, Err, if◌then◌else◌}
use Rattle.std.specs.List.{list_any}
use Rattle.nvm_base.specs.declared.units.Span.{Span}
use Rattle.line_words.specs.declared.interruption.Interruption.TheVariants as stop
use Rattle.line_words.specs.Told.{Told}
use Rattle.line_words.specs.Told.Told.{Refuses, Stops}
use Rattle.nvm_model.specs.Blocks.{first_there}
use Rattle.nvm_model.specs.Page.{Page}
use Rattle.nvm_model.specs.Touched.{next_bad_touched}
use Rattle.flush_engine.specs.declared.fault.FlushFault.{FlushFault}
use Rattle.flush_engine.specs.declared.fault.FlushFault.TheVariants as fault

-- why nothing is done, or that a line was lost; of a line its offset in the file is told
pub data FlushRefusal : Type 0 where
  Range : FlushRefusal
  Length : FlushRefusal
  Limit : FlushRefusal
  Poison : ℕ → FlushRefusal
  Verify : ℕ → FlushRefusal

-- what a fault tells
abbrev pub flush_says : FlushFault → Told FlushRefusal
flush_says fault.Range = Refuses Range
flush_says fault.Length = Refuses Length
flush_says fault.Limit = Refuses Limit
flush_says (fault.Poison offset) = Refuses (Poison offset)
flush_says (fault.Verify offset) = Refuses (Verify offset)
flush_says fault.Device = Stops stop.Failed
flush_says fault.PowerLost = Stops stop.PowerLost

-- one refusal where a condition holds
abbrev pub refused_if : Bool → FlushRefusal → Option FlushRefusal
refused_if holds why = if holds then Some why else None

-- of a file of so many pages: a span ends past it, or one has no bytes
abbrev pub extents_refusal : ℕ → List Span → Option FlushRefusal
extents_refusal pages spans =
    first_there (refused_if (list_any (λ (s : Span). nat_lt (4096 * pages) (s.start + s.len)) spans) Range)
    (refused_if (list_any (λ (s : Span). s.len == 0) spans) Length)

-- there are no spans, or too many
abbrev pub limit_refusal : List Span → Option FlushRefusal
limit_refusal spans = refused_if (length spans == 0 || nat_lt 8 (length spans)) Limit

-- the lowest bad line that they touch
abbrev pub poison_refusal : Option ℕ → Option FlushRefusal
poison_refusal line = option_map (λ n. Poison (64 * n)) line

abbrev pub flush_refusal : List Page → List Span → Option FlushRefusal
flush_refusal pages spans =
    first_there (extents_refusal (length pages) spans) (first_there (limit_refusal spans) (poison_refusal (next_bad_touched spans pages 0)))

-- how the flush ended, before its lines were looked at again
abbrev pub flushed : Result (Unit {0}) FlushFault → Result (Unit {0}) FlushFault
flushed (Ok done) = Ok done
flushed (Err fault.Range) = Err fault.Range
flushed (Err fault.Length) = Err fault.Length
flushed (Err fault.Limit) = Err fault.Limit
flushed (Err (fault.Poison offset)) = Err (fault.Poison offset)
flushed (Err (fault.Verify offset)) = Ok tt
flushed (Err fault.Device) = Err fault.Device
flushed (Err fault.PowerLost) = Err fault.PowerLost

-- what is answered then, where this is the lowest bad one
abbrev pub verified : Option ℕ → Result (Unit {0}) FlushFault
verified None = Ok tt
verified (Some n) = Err (fault.Verify (64 * n))
