use Rattle.std.proofs.Common.{Some, ℕ, zero, suc, replicate, refl, lit<, arith}
use Rattle.word_tables.specs.Layout.{first_line, size, volume_line}
use Rattle.line_device.specs.Word.{word_from}
use Rattle.inode_table.specs.Words.{name_word}
use Rattle.nvm_model.specs.Cell.{zero_cell}
use Rattle.state_images.specs.Examples.{some_page}
use Rattle.state_images.specs.Images.{line_of}
use Rattle.state_images.specs.Lines.{laid, words_line}
use Rattle.state_images.specs.Storable.{AreBytes, AreSettled, IsLineOfBytes, IsPageSettled}
use Rattle.state_images.proofs.laws.worked_image.Goals as goal

zeros-settled : (n : ℕ) → AreSettled (replicate n zero_cell)
zeros-settled zero = tt
zeros-settled (suc n) = ((refl, (tt, (tt, (tt, (tt, (tt, (tt, (tt, (tt, tt))))))))), zeros-settled n)

page-settled : IsPageSettled some_page
page-settled = (refl, (tt, ((refl, (tt, (tt, (tt, (tt, (tt, (tt, (tt, (tt, tt))))))))), zeros-settled 62)))

sevens : (n : ℕ) → AreBytes (replicate n 7)
sevens zero = tt
sevens (suc n) = (lit< tt, sevens n)

pub returns : goal.returns
unfolding laid words_line line_of first_line size volume_line word_from name_word
returns c = record {
  storable = record {
    of_blocks = record {
      all = refl;
      whole = (tt, (tt, ((refl, (tt, (line, (line, (line, (line, (line, (line, (line, tt))))))))), (tt, (tt, (tt, (tt, (tt, tt))))))));
    };
    of_volume = record { all = refl; pages = (tt, (page-settled, tt)) };
    of_files = record {
      few = omega arith;
      each = (
        record { name = refl; few = omega arith; pages = (tt, (page-settled, tt)) },
        (record { name = refl; few = omega arith; pages = (page-settled, (tt, (page-settled, tt))) }, tt),
      );
      in_order = refl;
      room = omega arith;
    };
  };
  absent_block = refl;
  scarred_block = refl;
  block_on_its_unit = refl;
  bad_line_of_a_block = refl;
  bytes_of_a_block = refl;
  absent_page = refl;
  present_page = refl;
  bad_line_of_the_volume = refl;
  weak_line_of_the_volume = refl;
  word_of_the_volume = refl;
  pages_of_a_file = refl;
  name_of_a_file = refl;
  free_inode = refl;
  hole = refl;
  third_page_there_is = refl;
  bad_line_of_a_file = refl;
  word_of_a_file = refl;
  no_fourth_page = refl;
}
  where
    line : IsLineOfBytes (Some (replicate 64 7))
    line = (refl, sevens 64)
