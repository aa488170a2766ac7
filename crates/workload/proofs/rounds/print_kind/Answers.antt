use Rattle.std.proofs.Common.{◌≡◌, ◌%◌, arith}
use Rattle.workload.proofs.RoundLemmas.{kind-is}
use Rattle.workload.proofs.rounds.print_kind.Goals as goal

pub returns-in-0 : goal.returns-in-0
returns-in-0 c = rw (kind-is c.args.k c.args.a c.args.b 0 c.in-0.is) c.print_equal.ensures

pub returns-in-1 : goal.returns-in-1
returns-in-1 c = rw (kind-is c.args.k c.args.a c.args.b 1 c.in-1.is) c.print_equal-in-1.ensures

pub returns-in-2 : goal.returns-in-2
returns-in-2 c = rw (kind-is c.args.k c.args.a c.args.b 2 c.in-2.is) c.print_line.ensures

pub returns-in-3 : goal.returns-in-3
returns-in-3 c = rw (kind-is c.args.k c.args.a c.args.b 3 c.in-3.is) c.print_line-in-3.ensures

pub returns-in-4 : goal.returns-in-4
returns-in-4 c = rw (kind-is c.args.k c.args.a c.args.b 4 c.in-4.is) c.print_equal-in-4.ensures

pub returns-in-5 : goal.returns-in-5
returns-in-5 c = rw (kind-is c.args.k c.args.a c.args.b 5 c.in-5.is) c.print_line-in-5.ensures

pub returns-in-6 : goal.returns-in-6
returns-in-6 c = rw (kind-is c.args.k c.args.a c.args.b 6 c.in-6.is) c.print_equal-in-6.ensures

pub returns-in-7 : goal.returns-in-7
returns-in-7 c = rw (kind-is c.args.k c.args.a c.args.b 7 c.in-7.is) c.print_line-in-7.ensures

pub returns-in-8 : goal.returns-in-8
returns-in-8 c = rw (kind-is c.args.k c.args.a c.args.b 8 c.in-8.is) c.print_equal-in-8.ensures

pub returns-in_default : goal.returns-in_default
returns-in_default c =
    let nine : c.args.k % 10 ≡ 9 = omega arith in
    rw (kind-is c.args.k c.args.a c.args.b 9 nine) c.print_line-in_default.ensures
