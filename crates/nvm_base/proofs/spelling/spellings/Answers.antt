use Rattle.std.proofs.Common.{refl}
use Rattle.std.specs.Fmt.{digits}
use Rattle.nvm_base.specs.Numbers.{number_of}
use Rattle.nvm_base.specs.Data.{runs_of, data_of, data_within, data_text}
use Rattle.nvm_base.proofs.spelling.spellings.Goals as goal

pub returns : goal.returns
unfolding number_of runs_of data_of data_within data_text digits
returns c = record {
  leading_zeros = refl;
  greatest = refl;
  too_great = refl;
  eleven_digits = refl;
  no_digits = refl;
  zeros = refl;
  items = refl;
  no_count = refl;
  odd = refl;
  two_pairs_repeated = refl;
  empty_item = refl;
  empty = refl;
  much = refl;
  much_and_bad = refl;
  run = refl;
  singles = refl;
  runs = refl;
  nothing = refl;
}
