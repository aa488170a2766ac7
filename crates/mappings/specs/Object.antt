-- What callers see of mappings.
use Rattle.std.specs.Prelude.{◌≡◌, ◌+◌, ◌^◌, ◌≤◌, ℕ, List, [], ◌∷◌, ◌++◌, length, All, if◌then◌else◌}
use Rattle.nvm_base.specs.declared.units.Span.{Span}
use Rattle.nvm_model.specs.Mappings.{is_shared, span_of}
use Rattle.nvm_model.specs.Storage.{Mapping}
use Rattle.mappings.specs.declared.info.MapInfo.{MapInfo}

-- the mappings, in order of handle, and the handle that the next one gets
pub record MappingsState : Type 0 where
  pub mappings : List Mapping
  pub next : ℕ

-- what is told of a mapping
abbrev pub info_of : Mapping → MapInfo
info_of m = record { name = m.name; span = span_of m; kind = m.kind }

-- some bytes, which end where those of a file may
pub record IsInReach (span : Span) : Type 0 where
  pub some : 1 ≤ span.len
  pub within : span.start + span.len ≤ 2 ^ 40

-- a mapping has some bytes of a file, and a private one as many of its own
pub record IsMapping (m : Mapping) : Type 0 where
  pub span : IsInReach (span_of m)
  pub copy : length m.copy ≡ (if is_shared m.kind then 0 else m.len)

-- handles rise, from one on and up to another, which none has
abbrev pub HandlesRise : ℕ → List Mapping → ℕ → Type 0
HandlesRise low [] high = low ≤ high
HandlesRise low (m ∷ ms) high = (low ≤ m.handle) × HandlesRise (m.handle + 1) ms high

-- what is true of mappings at any time
pub record AreMappings (s : MappingsState) : Type 0 where
  pub few : length s.mappings ≤ 256
  pub rise : HandlesRise 0 s.mappings s.next
  pub next : s.next ≤ 2 ^ 32
  pub each : All IsMapping s.mappings

-- one mapping more, under the next handle
abbrev pub with_mapping : Mapping → MappingsState → MappingsState
with_mapping m s = record { mappings = s.mappings ++ m ∷ []; next = s.next + 1 }
