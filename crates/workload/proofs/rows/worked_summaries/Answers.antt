-- The definitions compute.
use Rattle.std.proofs.Common.{refl}
use Rattle.nvm_base.specs.Data.{runs_of, data_of}
use Rattle.nvm_base.specs.Numbers.{number_of}
use Rattle.workload.specs.Summary.{told}
use Rattle.workload.proofs.rows.worked_summaries.Goals as goal

pub returns : goal.returns
unfolding runs_of data_of number_of told
returns c = record {
  first_round = refl;
  cut = refl;
  cut_refused = refl;
  armed_cut = refl;
  read = refl;
  runs = refl;
  run_of_the_greatest = refl;
  word_alone = refl;
  numbers_stand = refl;
  sum_wraps = refl;
}
