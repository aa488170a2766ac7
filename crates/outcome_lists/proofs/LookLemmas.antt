-- The look that a question's reads are.
use Rattle.std.proofs.Common.{◌≡◌, List, [], ◌∷◌, ◌++◌, map, refl, ap, ◌∙◌, append-nil}
use Rattle.explorer.specs.Outcomes.Blocks.{BlockRead}
use Rattle.explorer.specs.Outcomes.Files.{FileRead}
use Rattle.explorer.specs.Outcomes.Pages.{PageRead}
use Rattle.explorer.specs.Outcomes.Seen.{Seen, block_reads, file_reads, volume_reads}
use Rattle.explorer.specs.Outcomes.Seen.Seen.{of_blocks, of_file, of_volume}
use Rattle.explorer.specs.AskedReads.declared.question.Question.{Question}
use Rattle.explorer.specs.AskedReads.Asking.{IsLook}
use Rattle.outcome_lists.specs.Asking.{asked}
use Rattle.outcome_lists.specs.Outcomes.{Asked, look_of}

-- reads of one kind, before others
volume_of_volume : (rs : List PageRead) (others : List Seen) → volume_reads (map of_volume rs ++ others) ≡ rs ++ volume_reads others
volume_of_volume [] others = refl
volume_of_volume (r ∷ rs) others = ap (λ xs. r ∷ xs) (volume_of_volume rs others)

volume_of_blocks : (rs : List BlockRead) (others : List Seen) → volume_reads (map of_blocks rs ++ others) ≡ volume_reads others
volume_of_blocks [] others = refl
volume_of_blocks (r ∷ rs) others = volume_of_blocks rs others

volume_of_files : (rs : List FileRead) → volume_reads (map of_file rs) ≡ []
volume_of_files [] = refl
volume_of_files (r ∷ rs) = volume_of_files rs

blocks_of_volume : (rs : List PageRead) (others : List Seen) → block_reads (map of_volume rs ++ others) ≡ block_reads others
blocks_of_volume [] others = refl
blocks_of_volume (r ∷ rs) others = blocks_of_volume rs others

blocks_of_blocks : (rs : List BlockRead) (others : List Seen) → block_reads (map of_blocks rs ++ others) ≡ rs ++ block_reads others
blocks_of_blocks [] others = refl
blocks_of_blocks (r ∷ rs) others = ap (λ xs. r ∷ xs) (blocks_of_blocks rs others)

blocks_of_files : (rs : List FileRead) → block_reads (map of_file rs) ≡ []
blocks_of_files [] = refl
blocks_of_files (r ∷ rs) = blocks_of_files rs

files_of_volume : (rs : List PageRead) (others : List Seen) → file_reads (map of_volume rs ++ others) ≡ file_reads others
files_of_volume [] others = refl
files_of_volume (r ∷ rs) others = files_of_volume rs others

files_of_blocks : (rs : List BlockRead) (others : List Seen) → file_reads (map of_blocks rs ++ others) ≡ file_reads others
files_of_blocks [] others = refl
files_of_blocks (r ∷ rs) others = files_of_blocks rs others

files_of_files : (rs : List FileRead) → file_reads (map of_file rs) ≡ rs
files_of_files [] = refl
files_of_files (r ∷ rs) = ap (λ xs. r ∷ xs) (files_of_files rs)

-- all that is asked is a look
pub volume_back : (a : Asked) → volume_reads (look_of a) ≡ a.volume
volume_back a =
    volume_of_volume a.volume (map of_blocks a.blocks ++ map of_file a.files)
    ∙ ap (λ rs. a.volume ++ rs) (volume_of_blocks a.blocks (map of_file a.files) ∙ volume_of_files a.files)
    ∙ append-nil a.volume

pub blocks_back : (a : Asked) → block_reads (look_of a) ≡ a.blocks
blocks_back a =
    blocks_of_volume a.volume (map of_blocks a.blocks ++ map of_file a.files)
    ∙ blocks_of_blocks a.blocks (map of_file a.files)
    ∙ ap (λ rs. a.blocks ++ rs) (blocks_of_files a.files)
    ∙ append-nil a.blocks

pub files_back : (a : Asked) → file_reads (look_of a) ≡ a.files
files_back a =
    files_of_volume a.volume (map of_blocks a.blocks ++ map of_file a.files)
    ∙ files_of_blocks a.blocks (map of_file a.files)
    ∙ files_of_files a.files

pub is_look : (q : Question) → IsLook (look_of (asked q)) q
is_look q = record { volume = volume_back (asked q); blocks = blocks_back (asked q); files = files_back (asked q) }
