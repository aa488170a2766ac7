-- What is always true of what a module holds of its lines.
use Rattle.std.specs.Prelude.{◌≡◌, ◌<◌, ℕ, Bool, true, List, length, Option, Some, slice_get}
use Rattle.line_device.specs.Word.{word_at}
use Rattle.line_device.specs.History.{newest}
use Rattle.line_module.specs.Memory.{has}
use Rattle.line_module.specs.Chains.{is_dirty, is_listed, is_clean}
use Rattle.line_module.specs.Held.{is_bare, is_held, history_in}
use Rattle.line_module.specs.declared.state.State.{State}

-- The cache line is held exactly where the line is dirty, and has the last values. A listed line is dirty. A bad line has
-- no state, so that both its lines are bare.
pub record KeepsLine (durable cached : Option (Option (List ℕ))) (state : Option State) (listed : Bool) : Type 0 where
  pub held : is_held cached ≡ is_dirty state
  pub in_order : listed ≡ is_listed state
  pub dirty : is_listed state ≡ true → is_dirty state ≡ true
  pub lost : is_bare durable ≡ true → is_clean state ≡ true
  pub last : (bytes : List ℕ) → cached ≡ Some (Some bytes) → (w : ℕ) → w < 8 → word_at bytes w ≡ newest (history_in durable state w)

pub record KeepsLines (durable cached : List (Option (List ℕ))) (states : List State) (order : List ℕ) : Type 0 where
  pub caches : length cached ≡ length durable
  pub states_each : length states ≡ length durable
  pub each : (n : ℕ) → KeepsLine (slice_get durable n) (slice_get cached n) (slice_get states n) (has n order)
