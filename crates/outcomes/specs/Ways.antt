-- Units of storage, each as in one state or as in another: whether all that are looked at pass a test.
use Rattle.std.specs.Prelude.{◌==◌, ◌||◌, ℕ, Bool, List, not}
use Rattle.std.specs.List.{list_all}

-- each unit passes in that state
abbrev pub all_pass : {A : Type 0} → (ℕ → A → Bool) → (ℕ → A) → List ℕ → Bool
all_pass fits state units = list_all (λ n. fits n (state n)) units

-- each unit passes in the one or in the other
abbrev pub each_passes : {A : Type 0} → (ℕ → A → Bool) → (ℕ → A) → (ℕ → A) → List ℕ → Bool
each_passes fits one other units = list_all (λ n. fits n (one n) || fits n (other n)) units

-- the units of a group pass, whatever the others do
abbrev pub group_passes : {A : Type 0} → (ℕ → A → Bool) → (ℕ → ℕ) → ℕ → (ℕ → A) → List ℕ → Bool
group_passes fits group_of group state units = list_all (λ n. not (group_of n == group) || fits n (state n)) units

-- each group of units passes in the one or in the other
abbrev pub groups_pass : {A : Type 0} → (ℕ → A → Bool) → (ℕ → ℕ) → (ℕ → A) → (ℕ → A) → List ℕ → Bool
groups_pass fits group_of one other units =
    list_all (λ n. group_passes fits group_of (group_of n) one units || group_passes fits group_of (group_of n) other units) units
