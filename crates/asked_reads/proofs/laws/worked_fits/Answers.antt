use Rattle.std.proofs.Common.{refl}
use Rattle.asked_reads.proofs.laws.worked_fits.Goals as goal

pub returns : goal.returns
returns c = record {
  first = refl;
  last = refl;
  other = refl;
  named = refl;
  good = refl;
  hidden = refl;
  scar = refl;
  unscarred = refl;
  lower = refl;
  behind = refl;
  bad = refl;
  other_line = refl;
}
