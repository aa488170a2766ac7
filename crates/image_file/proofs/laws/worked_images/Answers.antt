-- The definitions compute.
use Rattle.std.proofs.Common.{◌++◌, refl, arith}
use Rattle.image_file.specs.declared.Units.{Units}
use Rattle.image_file.specs.declared.Units.TheVariants.{Words, All}
use Rattle.image_file.specs.Text.{image_magic, image_text, number_text}
use Rattle.image_file.specs.WrongField.{wrong_in_lines, first_wrong_offset}
use Rattle.image_file.specs.Laws.{ImageRows}
use Rattle.image_file.proofs.TextLemmas.{not_found}
use Rattle.image_file.proofs.laws.worked_images.Goals as goal

rows : (units : Units) → ImageRows units
unfolding image_text wrong_in_lines first_wrong_offset
rows Words = record {
  right = refl;
  nothing = refl;
  first_byte = refl;
  magic_cut = refl;
  no_unit = refl;
  unit_of_0 = refl;
  unit_of_2 = refl;
  unit_of_9 = refl;
  large_unit = refl;
  count_cut = refl;
  no_lines = refl;
  too_many_lines = refl;
  no_tag = refl;
  tag_of_3 = refl;
  no_bytes = refl;
  last_byte_cut = refl;
  weak = refl;
  weak_without_bytes = refl;
  weak_cut_short = refl;
  bad = refl;
  bad_with_a_byte = refl;
  bad_with_bytes = refl;
  second_line_missing = refl;
  byte_too_many = refl;
  all_three = refl;
  second_of_three_missing = refl;
  second_of_three_cut = refl;
  second_of_three_bad = refl;
  third_of_three_missing = refl;
  third_of_three_cut = refl;
  tag_of_255 = refl;
  byte_behind_three = refl;
}
rows All = record {
  right = refl;
  nothing = refl;
  first_byte = refl;
  magic_cut = refl;
  no_unit = refl;
  unit_of_0 = refl;
  unit_of_2 = refl;
  unit_of_9 = refl;
  large_unit = refl;
  count_cut = refl;
  no_lines = refl;
  too_many_lines = refl;
  no_tag = refl;
  tag_of_3 = refl;
  no_bytes = refl;
  last_byte_cut = refl;
  weak = refl;
  weak_without_bytes = refl;
  weak_cut_short = refl;
  bad = refl;
  bad_with_a_byte = refl;
  bad_with_bytes = refl;
  second_line_missing = refl;
  byte_too_many = refl;
  all_three = refl;
  second_of_three_missing = refl;
  second_of_three_cut = refl;
  second_of_three_bad = refl;
  third_of_three_missing = refl;
  third_of_three_cut = refl;
  tag_of_255 = refl;
  byte_behind_three = refl;
}

pub returns-clause-rows : goal.returns-clause-rows
returns-clause-rows c = rows

pub returns-clause-units : goal.returns-clause-units
unfolding image_text wrong_in_lines first_wrong_offset
returns-clause-units c = record {
  right = refl;
  unit_cut = refl;
  large_unit = refl;
  no_count = refl;
  byte_too_many = refl;
  not_taken = refl;
  not_with_any = λ rest. rw (not_found (image_magic ++ number_text 1 ++ rest) 8 8 8 1 refl (omega arith)) refl;
}
