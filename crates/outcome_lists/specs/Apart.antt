-- A look at distinct words of the volume, told word by word: each alone where no command is interrupted, and else line by line,
-- page by page or all together as before the command or as after it.
use Rattle.std.specs.Prelude.{◌≡◌, ◌*◌, ◌/◌, ◌%◌, ◌<◌, ◌==◌, ◌||◌, ℕ, Bool, true, not, List, [], ◌∷◌, length, Some, None}
use Rattle.std.specs.List.{AllByRecursion, list_all}
use Rattle.word_tables.specs.declared.geometry.Geometry.{Geometry}
use Rattle.nvm_model.specs.Cell.{Cell}
use Rattle.nvm_model.specs.Page.{Page, cell_of}
use Rattle.script_text.specs.Action.{Action}
use Rattle.explorer.specs.MachineModel.Commands.{meaning}
use Rattle.explorer.specs.MachineModel.Meaning.{VolumeLeft}
use Rattle.explorer.specs.MachineModel.Meaning.VolumeLeft.{Kept, PartStored, PartSynced, AllOrNone, PageByPage}
use Rattle.explorer.specs.Durable.Durable.{HaveLines}
use Rattle.explorer.specs.Outcomes.Left.{volume_may_pass}
use Rattle.explorer.specs.Outcomes.Pages.{PageRead, PageReply, all_lines_read, line_fits}
use Rattle.explorer.specs.Outcomes.Pages.PageReply.{Shows, Poison, Refuses}
use Rattle.explorer.specs.SightsSeen.Seeing.{seen}
use Rattle.explorer.specs.ValueTables.Listed.{HasWords}

-- a test of groups: of all that go together with one of them all are old, or all are new
abbrev pub grouped : {A : Type 0} → (A → A → Bool) → (A → Bool) → (A → Bool) → List A → Bool
grouped together old new xs =
    list_all (λ x. list_all (λ y. not (together x y) || old y) xs || list_all (λ y. not (together x y) || new y) xs) xs

-- a read of one word: its line is bad, or it has these eight bytes
abbrev pub IsWordReply : ℕ → PageReply → Type 0
IsWordReply start (Shows bytes) = length bytes ≡ 8
IsWordReply start (Poison at) = at ≡ 64 * (start / 64)
IsWordReply start (Refuses why) = ⊥

pub record IsWordRead (r : PageRead) : Type 0 where
  pub place : r.start % 8 ≡ 0
  pub eight : r.len ≡ 8
  pub told : IsWordReply r.start r.reply

-- no two of them are of one word
abbrev pub IsApart : PageRead → PageRead → Type 0
IsApart r other = r.start ≡ other.start → ⊥

abbrev pub AreApart : List PageRead → Type 0
AreApart [] = Unit {0}
AreApart (r ∷ rs) = AllByRecursion (IsApart r) rs × AreApart rs

pub record AreWords (rs : List PageRead) : Type 0 where
  pub each : AllByRecursion IsWordRead rs
  pub apart : AreApart rs

-- the line of a read's word
abbrev pub line_of : PageRead → ℕ
line_of r = r.start / 64

-- each of them is of a line of these pages, and each such line has its words
abbrev pub IsInside : List Page → PageRead → Type 0
IsInside pages r = line_of r / 64 < length pages

pub record AreThere (pages : List Page) (rs : List PageRead) : Type 0 where
  pub inside : AllByRecursion (IsInside pages) rs
  pub words : (n : ℕ) → n / 64 < length pages → HasWords (seen pages n)

-- which reads go together: those of one line, of one page, or all
abbrev pub same_line : PageRead → PageRead → Bool
same_line x y = line_of y == line_of x

abbrev pub same_page : PageRead → PageRead → Bool
same_page x y = line_of y / 64 == line_of x / 64

abbrev pub always : PageRead → PageRead → Bool
always x y = true

-- one read alone, of pages as they are
abbrev pub fits_alone : List Page → PageRead → Bool
fits_alone pages r = line_fits (r ∷ []) (line_of r) (cell_of pages (line_of r))

-- reads of what may be left, where each alone fits what was there or what the command makes of it
abbrev pub groups_left : VolumeLeft → (PageRead → Bool) → (PageRead → Bool) → List PageRead → Bool
groups_left Kept old new rs = list_all old rs
groups_left (PartStored offset bytes) old new rs = grouped same_line old new rs
groups_left (PartSynced offset len) old new rs = grouped same_line old new rs
groups_left AllOrNone old new rs = grouped always old new rs
groups_left PageByPage old new rs = grouped same_page old new rs

-- One line: it may be read so as each read alone may, and a read of another line tells nothing of it.
abbrev pub LineAlone : Type 0
LineAlone = (rs : List PageRead) (n : ℕ) (cell : Cell) → AreWords rs → HasWords cell → line_fits rs n (Some cell) ≡ list_all (λ r. line_fits (r ∷ []) n (Some cell)) rs

abbrev pub OtherLine : Type 0
OtherLine = (r : PageRead) (n : ℕ) (cell : Cell) → IsWordRead r → (line_of r ≡ n → ⊥) → HasWords cell → line_fits (r ∷ []) n (Some cell) ≡ true

-- At rest: each word alone.
abbrev pub EachAlone : Type 0
EachAlone = (geo : Geometry) (rs : List PageRead) (pages : List Page) → AreWords rs → AreThere pages rs
    → volume_may_pass geo None (line_fits rs) pages (all_lines_read rs) ≡ list_all (λ r. volume_may_pass geo None (line_fits (r ∷ [])) pages (all_lines_read (r ∷ []))) rs

-- one read of that kind is of its line alone
abbrev pub OneAlone : Type 0
OneAlone = (geo : Geometry) (r : PageRead) (pages : List Page) → IsWordRead r
    → volume_may_pass geo None (line_fits (r ∷ [])) pages (all_lines_read (r ∷ [])) ≡ fits_alone pages r

-- Inside a command: each group as it was, or as the command makes it.
abbrev pub GroupsAlone : Type 0
GroupsAlone = (geo : Geometry) (action : Action) (rs : List PageRead) (pages : List Page) → AreWords rs → HaveLines pages → AreThere pages rs
    → volume_may_pass geo (Some action) (line_fits rs) pages (all_lines_read rs)
    ≡ groups_left ((meaning action).volume_left geo) (fits_alone pages) (fits_alone ((meaning action).volume geo pages)) rs
