-- Some storage, and words of its image.
use Rattle.std.specs.Prelude.{◌≡◌, ◌+◌, ◌*◌, true, false, List, [], ◌∷◌, Some, None, replicate}
use Rattle.line_device.specs.Panel.{Image}
use Rattle.word_tables.specs.declared.geometry.Geometry.{Geometry}
use Rattle.word_tables.specs.Layout.{block_line, file_line, volume_line}
use Rattle.word_tables.specs.Words.{place, of_block, of_file_page, of_inode, of_volume_page}
use Rattle.nvm_model.specs.Cell.{zero_cell}
use Rattle.nvm_model.specs.Cell.Cell.{Bad, Kept}
use Rattle.nvm_model.specs.Page.{Page}
use Rattle.nvm_model.specs.Page.Page.{Absent, Present}
use Rattle.nvm_model.specs.Storage.{Block, File}
use Rattle.nvm_model.specs.Storage.Block.{Absent as AbsentBlock, Scarred, Data}
use Rattle.state_images.specs.Images.{image_of}
use Rattle.state_images.specs.Storable.{IsStorable}

abbrev pub small : Geometry
small = record { blocks = 8; vpages = 2; fpages = 32 }

-- a block with a bad line among others
abbrev pub some_blocks : List Block
some_blocks = AbsentBlock ∷ Scarred ∷ Data (None ∷ replicate 7 (Some (replicate 64 7))) ∷ replicate 5 AbsentBlock

-- a page with a bad line, a weak one of fives, and zeros
abbrev pub some_page : Page
some_page = Present (Bad ∷ Kept true (replicate 8 (5 ∷ [])) ∷ replicate 62 zero_cell)

abbrev pub some_volume : List Page
some_volume = Absent ∷ some_page ∷ []

-- two files with holes
abbrev pub some_files : List File
some_files =
    record { name = 97 ∷ []; pages = Absent ∷ some_page ∷ [] }
    ∷ record { name = 98 ∷ []; pages = some_page ∷ Absent ∷ some_page ∷ [] }
    ∷ []

abbrev pub some_image : Image
some_image = image_of small some_blocks some_volume some_files

-- Such storage has an image, and what stands there.
pub record ImageRows : Type 0 where
  pub storable : IsStorable small some_blocks some_volume some_files
  pub absent_block : some_image.word (place small (of_block 0)) ≡ 0
  pub scarred_block : some_image.word (place small (of_block 1)) ≡ 1
  pub block_on_its_unit : some_image.word (place small (of_block 2)) ≡ 4
  pub bad_line_of_a_block : some_image.is_bad (block_line small 2) ≡ true
  pub bytes_of_a_block : some_image.word (8 * block_line small 2 + 63) ≡ 506381209866536711
  pub absent_page : some_image.word (place small (of_volume_page 0)) ≡ 0
  pub present_page : some_image.word (place small (of_volume_page 1)) ≡ 1
  pub bad_line_of_the_volume : some_image.is_bad (volume_line small 64) ≡ true
  pub weak_line_of_the_volume : some_image.is_weak (volume_line small 65) ≡ true
  pub word_of_the_volume : some_image.word (8 * volume_line small 65 + 3) ≡ 5
  pub pages_of_a_file : some_image.word (place small (of_inode 1 0)) ≡ 4
  pub name_of_a_file : some_image.word (place small (of_inode 1 1)) ≡ 98
  pub free_inode : some_image.word (place small (of_inode 2 0)) ≡ 0
  pub hole : some_image.word (place small (of_file_page 1 1)) ≡ 0
  pub third_page_there_is : some_image.word (place small (of_file_page 1 2)) ≡ 3
  pub bad_line_of_a_file : some_image.is_bad (file_line small 2) ≡ true
  pub word_of_a_file : some_image.word (8 * (file_line small 2 + 1) + 7) ≡ 5
  pub no_fourth_page : some_image.is_bad (file_line small 3) ≡ false
