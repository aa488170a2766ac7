-- What a growable list is to its callers.
use Rattle.std.specs.Prelude.{◌≡◌, ℕ, ◌+◌, ◌≤◌, List, ◌++◌, length, Result, IsOk, OnOk}

-- its items, and how many more it takes without asking for memory
pub record Stock (T : Type 0) : Type 0 where
  pub items : List T
  pub spare : ℕ

-- the new list is the old one with more behind it
pub record Extends {T : Type 0} (old new : List T) : Type 0 where
  pub more : List T
  pub is : new ≡ old ++ more

-- an appending call ends with all of that text, or for want of memory with a part of it
pub record Appends {T E : Type 0} (text : List T) (result : Result (Unit {0}) E) (old new : Stock T) : Type 0 where
  pub ok : OnOk result (new.items ≡ old.items ++ text)
  pub grows : Extends old.items new.items
  pub succeeds : length text ≤ old.spare → IsOk result
  pub room : old.spare + length old.items ≤ new.spare + length new.items
