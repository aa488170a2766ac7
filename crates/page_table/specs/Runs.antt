-- Stretches of pages that lie on units one after the other.
use Rattle.std.specs.Prelude.{◌≡◌, ◌+◌, ◌-◌, ◌*◌, ◌<◌, ◌≤◌, ◌==◌, ◌&&◌, ℕ, Bool, false, List, Option, Some, None, drop, length, option_map, slice_index, slice_index_or, take}
use Rattle.std.specs.List.{filter, list_all, range_with_len}
use Rattle.page_table.specs.declared.runs.Run.{Run}
use Rattle.page_table.specs.Pages.{IsOn}

-- whether a page is on the unit after that of another
abbrev pub is_next : Option ℕ → Option ℕ → Bool
is_next (Some unit) (Some after) = unit + 1 == after
is_next (Some unit) None = false
is_next None after = false

-- whether from one page to another each is on the unit after that of the page before it
abbrev pub are_joined : List (Option ℕ) → ℕ → ℕ → Bool
are_joined pages from to =
    list_all (λ n. is_next (slice_index_or pages n None) (slice_index_or pages (n + 1) None)) (range_with_len from (to - from))

-- the pages that are joined to a page, itself among them
abbrev pub joined_pages : List (Option ℕ) → ℕ → List ℕ
joined_pages pages page = filter (λ other. are_joined pages other page && are_joined pages page other) (range_with_len 0 (length pages))

-- the run that so many pages are
abbrev pub run_over : List (Option ℕ) → List ℕ → Option Run
run_over pages joined =
    let first = slice_index joined 0 in
    option_map (λ unit. record { page = first; unit = unit; len = length joined }) (slice_index_or pages first None)

-- the run of a page, among the pages of one inode
abbrev pub run_among : List (Option ℕ) → ℕ → Option Run
run_among pages page = run_over pages (joined_pages pages page)

-- the run of a page of an inode
unfoldable pub run_of : List (Option ℕ) → ℕ → ℕ → Option Run
run_of pages inode page = run_among (take 256 (drop (256 * inode) pages)) page

-- The pages of a run of that page: each is on the unit after that of the one before it, and no page beside them is.
pub record IsRun (pages : List (Option ℕ)) (inode page : ℕ) (run : Run) : Type 0 where
  pub from : run.page ≤ page
  pub to : page < run.page + run.len
  pub within : run.page + run.len ≤ 256
  pub on : (k : ℕ) → k < run.len → IsOn pages (256 * inode + (run.page + k)) (run.unit + k)
  pub first : (before unit : ℕ) → before + 1 ≡ run.page → unit + 1 ≡ run.unit → IsOn pages (256 * inode + before) unit → ⊥
  pub last : run.page + run.len < 256 → IsOn pages (256 * inode + (run.page + run.len)) (run.unit + run.len) → ⊥
