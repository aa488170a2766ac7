-- Each is computed.
use Rattle.std.proofs.Common.{refl}
use Rattle.std.specs.Fmt.{digits}
use Rattle.line_device.specs.Word.{byte_over, reaches, word_from, word_over}
use Rattle.nvm_base.specs.Data.{data_text}
use Rattle.witnesses.specs.Asked.{file_head}
use Rattle.witnesses.specs.Texts.{bad_text, pages_text, word_text}
use Rattle.witnesses.proofs.laws.worked_file_witnesses.Goals as goal

pub returns : goal.returns
unfolding digits byte_over reaches word_from word_over data_text file_head bad_text pages_text word_text
returns c = record {
  before = refl;
  inside = refl;
  first_of_two = refl;
  both = refl;
  none = refl;
  made = refl;
  renamed = refl;
  not_renamed = refl;
  not_removed = refl;
  worn = refl;
  each = refl;
  settled = refl;
  once = refl;
  looked_missing = refl;
  looked_there = refl;
  looked_short = refl;
  looked_word = refl;
  looked_made = refl;
  looked_settled = refl;
}
