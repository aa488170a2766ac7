-- How mappings are kept: by handle, in the order in which they were made.
use Rattle.std.specs.Prelude.{ℕ, Bool, List, map}
use Rattle.nvm_base.specs.declared.units.Span.{Span}
use Rattle.nvm_model.specs.Mappings.{shows}
use Rattle.nvm_model.specs.Storage as model
use Rattle.mappings.specs.declared.mapping.Mapping.{Mapping}

-- the mapping that is kept under a handle
abbrev pub mapping_under : ℕ → Mapping → model.Mapping
mapping_under handle kept = record {
  handle = handle;
  name = kept.info.name;
  start = kept.info.span.start;
  len = kept.info.span.len;
  kind = kept.info.kind;
  copy = kept.copy.items;
}

-- it shows a byte of that span, whatever its handle is
abbrev pub kept_shows : List ℕ → Span → Mapping → Bool
kept_shows name span kept = shows name span (mapping_under 0 kept)

abbrev pub listed : List (ℕ × Mapping) → List model.Mapping
listed entries = map (λ e. mapping_under e.0 e.1) entries
