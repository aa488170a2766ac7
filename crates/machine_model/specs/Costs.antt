-- What commands and mounts may spend of a device's calls.
use Rattle.std.specs.Prelude.{◌+◌, ◌≤◌, ℕ}
use Rattle.line_device.specs.Panel.{Panel, ArmsNothing, SameOrders, with_unit}

-- counted calls and persists
pub record Spending : Type 0 where
  pub calls : ℕ
  pub persists : ℕ

abbrev pub no_spending : Spending
no_spending = record { calls = 0; persists = 0 }

-- so many lines made durable, each by one call
abbrev pub lines_persisted : ℕ → Spending
lines_persisted count = record { calls = count; persists = count }

-- one and another
abbrev pub spent_with : Spending → Spending → Spending
spent_with one other = record { calls = one.calls + other.calls; persists = one.persists + other.persists }

-- What a mount makes at most: it reads the superblock, looks into each log, makes logs and tables durable, replays, and reads the
-- tables.
abbrev pub mount_calls : ℕ
mount_calls = 9040

abbrev pub mount_persists : ℕ
mount_persists = 3408

-- What a mount does to a device's counts, also after it was set up: no more counted calls and persists than these, and no order.
-- No count falls.
pub record Opens (old new : Panel) : Type 0 where
  pub faults : old.counts.faults ≤ new.counts.faults
  pub cuts : old.counts.cuts ≤ new.counts.cuts
  pub calls : new.counts.calls ≤ old.counts.calls + mount_calls
  pub persists : new.counts.persists ≤ old.counts.persists + mount_persists
  pub setups : old.counts.setups ≤ new.counts.setups
  pub armed : ArmsNothing old new
  pub orders : SameOrders (with_unit old new.unit) new
