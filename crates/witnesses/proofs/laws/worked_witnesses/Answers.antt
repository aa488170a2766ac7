-- Each is computed.
use Rattle.std.proofs.Common.{refl}
use Rattle.std.specs.Fmt.{digits}
use Rattle.line_device.specs.Word.{byte_over, reaches, word_from, word_over}
use Rattle.nvm_base.specs.Data.{data_text}
use Rattle.witnesses.specs.Asked.{volume_head}
use Rattle.witnesses.specs.Texts.{bad_text, whole_text, word_text}
use Rattle.witnesses.proofs.laws.worked_witnesses.Goals as goal

pub returns : goal.returns
unfolding digits byte_over reaches word_from word_over data_text volume_head bad_text whole_text word_text
returns c = record {
  flag_alone_before = refl;
  flag_alone_inside = refl;
  stored = refl;
  second_of_three = refl;
  worn = refl;
  not_reached = refl;
  both_gone = refl;
  both_there = refl;
  one_gone = refl;
  marked = refl;
  settled = refl;
  once = refl;
  one_of_two = refl;
  scarred = refl;
}
