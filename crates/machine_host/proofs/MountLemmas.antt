-- What a mount finds, and what it leaves.
use Rattle.std.proofs.Common.{◌≡◌, ℕ, ◌/◌, ◌<◌, ◌≤◌, Option, Some, None, option_map, [], map, Result, Ok, Err, inl, inr, refl, sym, ap, subst, ◌∙◌, arith}
use Rattle.std.specs.Prelude.{IfErr}
use Rattle.std.proofs.Math.Nat.{min-le_right}
use Rattle.std.proofs.lemmas.Bool.{cases_Bool}
use Rattle.nvm_base.proofs.FirstLemmas.{neither_there, not_mapped}
use Rattle.line_device.specs.History.{newest, IsIn}
use Rattle.line_device.specs.Medium.{Medium, IsSound, Survivors, last_image}
use Rattle.line_device.specs.Panel.{Panel, Outcome, Runs}
use Rattle.line_device.specs.declared.line.Choice.{Choice}
use Rattle.line_device.proofs.HistoryLemmas.{is_in-one}
use Rattle.line_device.proofs.TornLemmas.{torn-in}
use Rattle.line_device.proofs.PanelLemmas.{runs_within}
use Rattle.line_words.specs.Words.{IsOnly, WritesBackOutside}
use Rattle.word_tables.specs.declared.geometry.Geometry.{Geometry}
use Rattle.word_tables.specs.Bounds.{IsValid}
use Rattle.word_tables.specs.Words.{place, of_block}
use Rattle.word_log.specs.Replay.{first_wrong}
use Rattle.block_map.specs.States.{IsMap, word_of}
use Rattle.block_map.specs.Wrong as table
use Rattle.nvm_model.specs.Blocks.{first_there}
use Rattle.block_device.specs.Area.{block_area, IsBlockLine}
use Rattle.block_device.specs.Reading.{states_read}
use Rattle.block_device.specs.Images.{AreReadable}
use Rattle.block_device.specs.Mounting.{wrong_place}
use Rattle.block_device.proofs.FrameLemmas.{length-states_read}
use Rattle.block_device.proofs.MountedLemmas.{map_from_right}
use Rattle.block_device.proofs.PlaceLemmas.{area_is_block, data_on_device, named_is_data}
use Rattle.block_device.proofs.ReachLemmas.{reads_right}
use Rattle.block_device.proofs.RestartLemmas.{block_image-last, is_only-none}
use Rattle.recovery.specs.Fresh.{IsFresh, fresh_word}
use Rattle.recovery.specs.Findings.{geometry_told, early_finding, first_finding}
use Rattle.recovery.specs.Mounting.{Finds, HasDurableBlocks, IsInOrder, IsOfLogs, blocks_told, vpages_told, mount_calls_told, mount_persists_told}
use Rattle.std.proofs.lemmas.List.{length-map}
use Rattle.word_log.specs.Rest.{IsImageOn}
use Rattle.nvm_model.specs.Page.{is_present, presence_of}
use Rattle.pm_volume.specs.Area.{volume_area}
use Rattle.pm_volume.specs.Images.{ReadsPages, EachReadsPages}
use Rattle.pm_volume.proofs.AreaLemmas.{area_in_metadata}
use Rattle.pm_volume.specs.Presence.{wrong_volume_place}
use Rattle.pm_volume.proofs.StandingLemmas.{nothing_wrong}
use Rattle.file_journal.specs.Area.{IsOfFiles, file_area}
use Rattle.file_journal.specs.Reading.{tables_read, words_read, wrong_file_place, wrong_table}
use Rattle.file_journal.specs.Standing.{EachReadsFiles, ReadsFiles}
use Rattle.file_journal.specs.Tables.{AreTables}
use Rattle.file_journal.proofs.AreaLemmas as file
use Rattle.file_journal.proofs.FileLineLemmas.{area_of_files, files_within}
use Rattle.file_journal.proofs.TableReadLemmas.{length-words_read, no_wrong_file, right_tables}
use Rattle.recovery.specs.declared.fault.MountFault.{MountFault}
use Rattle.recovery.specs.declared.fault.MountFault.TheVariants as fault
use Rattle.recovery.proofs.FindingLemmas.{all_right, early_none as both_none, is_superblock, nothing_early, nothing_found}
use Rattle.recovery.proofs.SuperblockLemmas.{early_none, some_lines, some_meta, superblock_told, superblock-outside}
use Rattle.machine_host.specs.Lines.{HasLayout, MetadataStands}
use Rattle.machine_host.specs.Stands.{IsFlushed}
use Rattle.machine_model.specs.Costs.{mount_calls, mount_persists}
use Rattle.machine_host.proofs.LayoutLemmas.{IsGood, none_bad}
use Rattle.machine_host.proofs.ElsewhereLemmas.{area_of_volume, first_not_blocks, first_not_volume, volume_within}
use Rattle.machine_host.proofs.FilesAsideLemmas.{first_not_files}

-- there is a first line
pub line_zero : (geo : Geometry) (m : Medium) → HasLayout geo m → 1 ≤ m.count
line_zero geo m layout = omega (arith, layout.lines, some_lines geo)

-- each word has one value after a restart
pub flushed-restarted : (unit : ℕ) (choice : Choice) (old new : Medium) → IsSound old → Survivors unit choice old new → IsFlushed new
flushed-restarted unit choice old new sound x p there = elim (cases_Bool (old.is_bad (p / 8))) as (λ _. IsOnly (last_image new p) (new.history p)) [
  | inl bad ↦ is_only-none (last_image new p) (new.history p) (x.lost p (sound.lost p bad))
  | inr good ↦
      let word = x.words p (subst (λ c. p / 8 < c) x.count there, good) in
      let one = word.1.one in
      λ v at. is_in-one v word.0 (subst (IsIn v) one at) ∙ sym (ap newest one)
]

-- and on a device that was made anew
pub fresh_flushed : (geo : Geometry) (m : Medium) → IsFresh geo m → IsFlushed m
fresh_flushed geo m is p there =
    let one = is.words p there in
    λ v at. is_in-one v (fresh_word geo p) (subst (IsIn v) one at) ∙ sym (ap newest one)

-- where nothing is found, the map is one
pub found_map : (m : Medium) → first_finding m ≡ None → IsMap (states_read (geometry_told m) (last_image m))
found_map m none = by_log (first_wrong (block_area geo) (last_image m)) right
  where
    geo : Geometry
    geo = geometry_told m

    right : wrong_place geo (last_image m) ≡ None
    right = (nothing_found m none).1

    by_log : (o : Option ℕ) → first_there o (option_map (λ b. place geo (of_block b)) (table.first_wrong_entry (map word_of (states_read geo (last_image m))))) ≡ None
        → IsMap (states_read geo (last_image m))
    by_log None is =
        map_from_right (states_read geo (last_image m)) _ refl (not_mapped (λ b. place geo (of_block b)) (table.first_wrong_entry (map word_of (states_read geo (last_image m)))) is)
    by_log (Some at) is = cc is

-- and the words of inodes and page tables are tables
pub found_tables : (m : Medium) → first_finding m ≡ None → AreTables (geometry_told m).fpages (tables_read (geometry_told m) (last_image m))
found_tables m none =
    let geo = geometry_told m in
    let words = words_read geo (last_image m) in
    let is = is_superblock m (both_none m (nothing_early m none)).0 in
    right_tables geo words is.valid (length-words_read geo (last_image m)) (neither_there (first_wrong (file_area geo) (last_image m)) (wrong_table geo words) (nothing_found m none).3).1

-- so what the map names is on the device, and durable with all words
pub durable_flushed : (m : Medium) → IsFlushed m → HasDurableBlocks m
durable_flushed m flushed none block unit at p from to =
    let geo = geometry_told m in
    let states = states_read geo (last_image m) in
    let is = is_superblock m (both_none m (nothing_early m none)).0 in
    let unit_line = named_is_data geo is.valid states (p / 8) (length-states_read geo (last_image m)) (found_map m none) (record { block = block; unit = unit; at = at; from = from; to = to }) in
    flushed p (subst (λ c. p / 8 < c) (sym is.count) (data_on_device geo is.valid (p / 8) unit_line))

pub first_place : (p : ℕ) → p < 8 → p / 8 ≡ 0
first_place p below = omega arith

-- the first line has no word of logs and tables
pub first_not_area : (geo : Geometry) → IsValid geo → (p : ℕ) → p < 8 → IsOfLogs geo p → ⊥
first_not_area geo valid p below of =
    elim of as (λ _. ⊥) [
      | inl of_blocks ↦ first_not_blocks geo (subst (IsBlockLine geo) (first_place p below) (area_is_block geo valid p of_blocks))
      | inr more ↦ elim more as (λ _. ⊥) [
        | inl of_volume ↦ first_not_volume geo p below (area_of_volume geo p valid of_volume)
        | inr of_files ↦ first_not_files geo (subst (IsOfFiles geo) (first_place p below) (area_of_files geo p of_files))
      ]
    ]

-- of a device in order whose first line was durable, its metadata after a mount
pub metadata_mounted : (old new : Medium) → 1 ≤ old.count → IsFlushed old → first_finding old ≡ None → WritesBackOutside (IsOfLogs (geometry_told old)) old new
    → IsInOrder (geometry_told old) new → MetadataStands (geometry_told old) new []
metadata_mounted old new some flushed none x order =
    let geo = geometry_told old in
    let is = is_superblock old (both_none old (nothing_early old none)).0 in
    record {
      layout = record {
        valid = order.valid;
        lines = order.count;
        strong = order.strong;
        superblock = superblock-outside geo (IsOfLogs geo) old new x (first_not_area geo is.valid)
            (λ p below. subst (λ v. IsOnly v (old.history p)) (is.words p below) (flushed p (omega (arith, first_place p below, some))));
      };
      bad = none_bad geo new order.good;
    }

-- of a device that stands for a state, as a mount sees it: its sizes, and that nothing is found before the log
pub record IsTold (geo : Geometry) (m : Medium) : Type 0 where
  pub sizes : geometry_told m ≡ geo
  pub early : early_finding m ≡ None

pub is_told : (geo : Geometry) (m : Medium) → IsGood geo m → IsSound m → IsTold geo m
is_told geo m good sound =
    let layout = good.layout in
    record {
      sizes = superblock_told geo m sound (line_zero geo m layout) (good.good 0 (some_meta geo)) layout.superblock layout.valid;
      early = early_none geo m sound layout.valid layout.lines good.good layout.strong layout.superblock;
    }

-- a mount that was stopped, or had no memory
abbrev pub StopsMount : MountFault → Type 0
StopsMount (fault.Meta line) = ⊥
StopsMount (fault.Layout place) = ⊥
StopsMount fault.Device = Unit {0}
StopsMount fault.PowerLost = Unit {0}
StopsMount fault.Memory = Unit {0}

-- the last values are an image of log and presence words
pub volume_image-last : (geo : Geometry) (m : Medium) → IsSound m → IsGood geo m → IsImageOn (volume_area geo) m (last_image m)
volume_image-last geo m sound layout p of =
    let on : p / 8 < m.count = subst (λ c. p / 8 < c) (sym layout.lines) (volume_within geo (p / 8) (area_of_volume geo p layout.valid of)) in
    torn-in (last_image m p) (m.history p) (sound.last p (on, layout.good (p / 8) (area_in_metadata geo layout.valid p of)))

-- and of the files' log and tables
pub file_image-last : (geo : Geometry) (m : Medium) → IsSound m → IsGood geo m → IsImageOn (file_area geo) m (last_image m)
file_image-last geo m sound layout p of =
    let on : p / 8 < m.count = subst (λ c. p / 8 < c) (sym layout.lines) (files_within geo (p / 8) (area_of_files geo p of)) in
    torn-in (last_image m p) (m.history p) (sound.last p (on, layout.good (p / 8) (file.area_in_metadata geo layout.valid p of)))

-- Nothing is wrong with such a device.
pub nothing_wrong_there : (geo : Geometry) (m : Medium) → IsGood geo m → IsTold geo m → IsSound m → AreReadable geo m → EachReadsPages geo m (λ _. Unit {0})
    → EachReadsFiles geo m (λ _. Unit {0}) → first_finding m ≡ None
nothing_wrong_there geo m layout told sound readable each files =
    all_right m told.early (ap (λ g. wrong_place g (last_image m)) told.sizes ∙ none_wrong) (ap (λ g. wrong_volume_place g (last_image m)) told.sizes ∙ no_page_wrong)
    (ap (λ g. wrong_file_place g (last_image m)) told.sizes ∙ no_inode_wrong)
  where
    none_wrong : wrong_place geo (last_image m) ≡ None
    none_wrong = reads_right geo m (λ _. Unit {0}) (last_image m) (readable (last_image m) (block_image-last geo layout.valid m sound layout.lines))

    pages : ReadsPages geo m (λ _. Unit {0}) (last_image m)
    pages = each (last_image m) (volume_image-last geo m sound layout)

    no_page_wrong : wrong_volume_place geo (last_image m) ≡ None
    no_page_wrong = nothing_wrong geo (last_image m) (presence_of pages.pages) (length-map pages.pages is_present ∙ pages.all) pages.replays

    tables : ReadsFiles geo m (λ _. Unit {0}) (last_image m)
    tables = files (last_image m) (file_image-last geo m sound layout)

    no_inode_wrong : wrong_file_place geo (last_image m) ≡ None
    no_inode_wrong = no_wrong_file geo (last_image m) tables.word tables.tables tables.replays tables.holds tables.right

-- So a mount is refused by nothing but device, power and memory.
pub only_stops : {T : Type 0} (r : Result T MountFault) → Finds None r → IfErr r StopsMount
only_stops (Ok x) f = tt
only_stops (Err (fault.Meta line)) f = cc f
only_stops (Err (fault.Layout at)) f = cc f
only_stops (Err fault.Device) f = tt
only_stops (Err fault.PowerLost) f = tt
only_stops (Err fault.Memory) f = tt

pub mount_within : (m : Medium) (e : Outcome) (p q : Panel) → Runs (mount_calls_told m) (mount_persists_told m) e p q → Runs mount_calls mount_persists e p q
mount_within m e p q runs =
    let most : blocks_told m ≤ 4096 = min-le_right (geometry_told m).blocks 4096 in
    let most_pages : vpages_told m ≤ 256 = min-le_right (geometry_told m).vpages 256 in
    runs_within (mount_calls_told m) (mount_persists_told m) mount_calls mount_persists e p q runs (omega (arith, most, most_pages)) (omega (arith, most, most_pages))
