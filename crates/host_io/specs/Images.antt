-- Images by name.
use Rattle.std.specs.Prelude.{◌≡◌, ℕ, ◌+◌, ◌<◌, ◌≤◌, List, length, Option, Some, None, Result, Ok, Err, IfSome, IsSomeAnd}
use Rattle.nvm_base.specs.Counts.{raised, Rose}
use Rattle.nvm_base.specs.declared.buffer.Buffer.{Buffer}
use Rattle.host_io.specs.declared.images.FetchFault.{FetchFault}
use Rattle.host_io.specs.declared.images.FetchFault.TheVariants.{Missing, Failed, TooLong, Memory}
use Rattle.host_io.specs.declared.images.ImageCounts.{ImageCounts}

-- the bytes held under a name
abbrev pub Held : Type 0
Held = List ℕ → Option (List ℕ)

-- what a fetch answers, of at most so many bytes, where it is told what is held
abbrev pub Fetches : Option Held → List ℕ → ℕ → Result (Buffer ℕ) FetchFault → Type 0
Fetches held name most (Ok bytes) = (length bytes.items ≤ most) × IfSome held (λ look. look name ≡ Some bytes.items)
Fetches held name most (Err Missing) = IsSomeAnd held (λ look. look name ≡ None)
Fetches held name most (Err TooLong) = IfSome held (λ look. IsSomeAnd (look name) (λ bytes. most < length bytes))
Fetches held name most (Err Failed) = Unit {0}
Fetches held name most (Err Memory) = Unit {0}

-- these names keep what is held under them
abbrev pub KeepsHeld : (List ℕ → Type 0) → Option Held → Option Held → Type 0
KeepsHeld which None after = Unit {0}
KeepsHeld which (Some look) None = ⊥
KeepsHeld which (Some look) (Some after) = (name : List ℕ) → which name → after name ≡ look name

-- what a fetch counts
pub record CountsFetch (failed : Type 0) (old new : ImageCounts) : Type 0 where
  pub fetches : new.fetches ≡ raised old.fetches
  pub later : old.fetch_faults ≤ new.fetch_faults
  pub most : new.fetch_faults ≤ old.fetch_faults + 1
  pub cause : failed → Rose old.fetch_faults new.fetch_faults
  pub replaces : new.replaces ≡ old.replaces
  pub replace_faults : new.replace_faults ≡ old.replace_faults

-- what a replace counts
pub record CountsReplace (failed : Type 0) (old new : ImageCounts) : Type 0 where
  pub replaces : new.replaces ≡ raised old.replaces
  pub later : old.replace_faults ≤ new.replace_faults
  pub most : new.replace_faults ≤ old.replace_faults + 1
  pub cause : failed → Rose old.replace_faults new.replace_faults
  pub fetches : new.fetches ≡ old.fetches
  pub fetch_faults : new.fetch_faults ≡ old.fetch_faults
