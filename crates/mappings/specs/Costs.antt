-- What calls may spend of a device's calls.
use Rattle.std.specs.Prelude.{ℕ, if◌then◌else◌}
use Rattle.nvm_base.specs.Units.{units_of}
use Rattle.nvm_base.specs.declared.files.Kind.{Kind}
use Rattle.nvm_base.specs.declared.units.Span.{Span}
use Rattle.nvm_model.specs.Mappings.{is_shared}

-- a copy takes a call for each line; a shared mapping takes none
abbrev pub map_calls : Kind → Span → ℕ
map_calls kind span = if is_shared kind then 0 else (units_of 64 span).len
