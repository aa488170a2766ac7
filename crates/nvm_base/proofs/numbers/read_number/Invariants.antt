use Rattle.std.proofs.Common.{◌≡◌, ◌^◌, ◌<◌, ◌≤◌, length, drop}
use Rattle.nvm_base.specs.Numbers.{digits_after}
use Rattle.nvm_base.proofs.numbers.read_number.Given as goal

abbrev pub invariant-loop-c : goal.invariant-loop-c
invariant-loop-c l = record {
  rest : digits_after l.value (drop l.c-index l.text) ≡ digits_after 0 l.text;
  below : l.value < 10 ^ l.c-index;
  some : 0 < length l.text;
  short : length l.text ≤ 10;
}
