-- What a command that is cut may leave, kind by kind, is told by groups of parts that go together.
use Rattle.std.proofs.Common.{◌≡◌, ℕ, ◌/◌, ◌==◌, Bool, true, false, Option, Some, None, List, refl, sym}
use Rattle.std.specs.Str.{bytes_eq}
use Rattle.std.proofs.lemmas.Bool.{and_from, eq-eqb, eqb-true}
use Rattle.std.proofs.lemmas.Slice.Eq.{bytes_eq-Decides}
use Rattle.word_tables.specs.declared.geometry.Geometry.{Geometry}
use Rattle.script_text.specs.Action.{Action}
use Rattle.script_text.specs.Action.Action.{BWrite, VPSync}
use Rattle.pm_volume.specs.Refusals.{physical_offset}
use Rattle.explorer.specs.MachineModel.Commands.{meaning}
use Rattle.explorer.specs.MachineModel.Meaning.{BlocksLeft, FilesLeft, VolumeLeft}
use Rattle.explorer.specs.MachineModel.Meaning.BlocksLeft.{Same, Either, Mixed}
use Rattle.explorer.specs.MachineModel.Meaning.FilesLeft.{Unchanged, OldOrNew, StoredInPart, SyncedInPart}
use Rattle.explorer.specs.MachineModel.Meaning.VolumeLeft.{Kept, PartStored, PartSynced, AllOrNone, PageByPage}
use Rattle.explorer.specs.MachineModel.OnVolume.{part_synced_at}
use Rattle.explorer.specs.Outcomes.Blocks.{BlockRead}
use Rattle.explorer.specs.Outcomes.Files.{FileRead}
use Rattle.explorer.specs.Outcomes.Pages.{PageRead}
use Rattle.explorer.specs.Outcomes.Seen.Seen.{of_blocks, of_file, of_volume}
use Rattle.explorer.specs.AskedReads.declared.read.Read.{Read}
use Rattle.explorer.specs.AskedReads.declared.read.Read.TheVariants.{Volume, Blocks, File}
use Rattle.explorer.specs.SightsSeen.Ways.{blocks_way, lines_way}
use Rattle.explorer.specs.SightsSeen.declared.way.Way.{Way}
use Rattle.explorer.specs.SightsSeen.declared.way.Way.TheVariants.{Each, Together, ByPage}
use Rattle.explorer.specs.CutPlaces.FileMixing.{way_left}
use Rattle.explorer.proofs.CutPlaces.AllLemmas.{same_test}
use Rattle.outcome_lists.specs.Apart.{grouped, groups_left, line_of, same_line, same_page}
use Rattle.outcome_lists.specs.ApartBlocks.{blocks_apart, is_same_block}
use Rattle.outcome_lists.specs.ApartFiles.{is_same_word, words_apart}
use Rattle.outcome_lists.specs.declared.ways.Ways.{Ways}
use Rattle.outcome_lists.specs.Mixing.{same_kind, way_of}
use Rattle.outcome_lists.specs.Parts.{same_part}
use Rattle.outcome_lists.specs.Together.{goes_by, goes_with, new_by}
use Rattle.outcome_lists.proofs.ApartBlocksLemmas.{grouped_same, grouped_whole}
use Rattle.outcome_lists.proofs.GoingLemmas.{other_kind}
use Rattle.outcome_lists.proofs.PickedLemmas.{part_of}
use Rattle.outcome_lists.proofs.SplitLemmas.{grouped_alike}

-- numbers that are the same, either way round
turned : (a b : ℕ) → (a == b) ≡ (b == a)
turned a b = same_test (a == b) (b == a) (λ is. eq-eqb b a (sym (eqb-true a b is))) (λ is. eq-eqb a b (sym (eqb-true b a is)))

-- a part goes together with none of another kind
unlike_part : (p q : Read) → same_kind p q ≡ false → same_part p q ≡ false
unlike_part (Volume start len) (Volume other others) unlike = cc unlike
unlike_part (Volume start len) (Blocks first count) unlike = refl
unlike_part (Volume start len) (File name other others) unlike = refl
unlike_part (Blocks first count) (Volume start len) unlike = refl
unlike_part (Blocks first count) (Blocks other others) unlike = cc unlike
unlike_part (Blocks first count) (File name start len) unlike = refl
unlike_part (File name start len) (Volume other others) unlike = refl
unlike_part (File name start len) (Blocks first count) unlike = refl
unlike_part (File name start len) (File text other others) unlike = cc unlike

pub goes_beside : (ways : Ways) (p q : Read) → same_kind p q ≡ false → goes_with ways p q ≡ false
goes_beside ways p q unlike = other_kind (way_of ways p) p q (unlike_part p q unlike) unlike

-- How what may be left mixes old and new.
abbrev pub volume_way : VolumeLeft → Option Way
volume_way Kept = None
volume_way (PartStored offset bytes) = Some Each
volume_way (PartSynced offset len) = Some Each
volume_way AllOrNone = Some Together
volume_way PageByPage = Some ByPage

abbrev pub each_way : BlocksLeft → Option Way
each_way Same = None
each_way Either = Some Together
each_way Mixed = Some Each

synced_way : (o : Option ℕ) (len : ℕ) → Some Each ≡ volume_way (part_synced_at o len)
synced_way None len = refl
synced_way (Some offset) len = refl

pub lines_way_is : (geo : Geometry) (action : Action) → lines_way action ≡ volume_way ((meaning action).volume_left geo)
lines_way_is geo (VPSync address len) = synced_way (physical_offset geo address len) len
lines_way_is geo action = refl

pub blocks_way_is : (action : Action) → blocks_way action ≡ each_way (meaning action).blocks_left
blocks_way_is (BWrite block bytes) = refl
blocks_way_is action = refl

-- a word of a file is one with itself
own_word : (r : FileRead) → is_same_word r r ≡ true
own_word r = and_from (bytes_eq r.name r.name) (r.pages.start == r.pages.start) ((bytes_eq-Decides r.name r.name).1 refl) (eq-eqb r.pages.start r.pages.start refl)

-- Groups of what may be left are those of parts that go together.
pub words_in_groups : (old new : PageRead → Bool) (rs : List PageRead) (left : VolumeLeft)
    → groups_left left old new rs ≡ grouped (λ r q. goes_by (volume_way left) (part_of (of_volume r)) (part_of (of_volume q))) old (new_by (volume_way left) old new) rs
words_in_groups old new rs Kept = sym (grouped_same (λ r q. r.start == q.start) (λ r. eq-eqb r.start r.start refl) old rs)
words_in_groups old new rs (PartStored offset bytes) =
    grouped_alike same_line (λ r q. line_of r == line_of q) old new old new rs (λ r q. turned (line_of q) (line_of r)) (λ r is. refl) (λ r is. refl)
words_in_groups old new rs (PartSynced offset len) =
    grouped_alike same_line (λ r q. line_of r == line_of q) old new old new rs (λ r q. turned (line_of q) (line_of r)) (λ r is. refl) (λ r is. refl)
words_in_groups old new rs AllOrNone = refl
words_in_groups old new rs PageByPage =
    grouped_alike same_page (λ r q. line_of r / 64 == line_of q / 64) old new old new rs (λ r q. turned (line_of q / 64) (line_of r / 64)) (λ r is. refl) (λ r is. refl)

pub blocks_in_groups : (old new : BlockRead → Bool) (rs : List BlockRead) (left : BlocksLeft)
    → blocks_apart left old new rs ≡ grouped (λ r q. goes_by (each_way left) (part_of (of_blocks r)) (part_of (of_blocks q))) old (new_by (each_way left) old new) rs
blocks_in_groups old new rs Same = sym (grouped_same is_same_block (λ r. eq-eqb r.first r.first refl) old rs)
blocks_in_groups old new rs Either = sym (grouped_whole old new rs)
blocks_in_groups old new rs Mixed = refl

pub file_words_in_groups : (old new : FileRead → Bool) (rs : List FileRead) (left : FilesLeft)
    → words_apart left old new rs ≡ grouped (λ r q. goes_by (way_left left) (part_of (of_file r)) (part_of (of_file q))) old (new_by (way_left left) old new) rs
file_words_in_groups old new rs Unchanged = sym (grouped_same is_same_word own_word old rs)
file_words_in_groups old new rs OldOrNew = sym (grouped_whole old new rs)
file_words_in_groups old new rs (StoredInPart name offset bytes) = refl
file_words_in_groups old new rs (SyncedInPart name spans) = refl
