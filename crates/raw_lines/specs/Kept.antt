-- How a region is kept: the room of its lines, and a table of those that are held.
use Rattle.std.specs.Prelude.{◌≡◌, Bool, List, is_some, length, map}
use Rattle.raw_lines.specs.declared.room.Lease.{Lease}
use Rattle.raw_lines.specs.declared.room.Room.{Room}

-- by the lease the whole room goes back to the allocator
abbrev pub IsLeaseOf : {A : Type 0} → Room → Lease A → A → Type 0
IsLeaseOf room lease alloc = (lease.start ≡ room.start) × (lease.count ≡ length room.lines) × (lease.alloc ≡ alloc)

-- the table says of each line whether it has bytes, and the lease is the room's
pub record IsRegion {A : Type 0} (room : Room) (held : List Bool) (lease : Lease A) (alloc : A) : Type 0 where
  pub table : held ≡ map is_some room.lines
  pub leased : IsLeaseOf room lease alloc
