use Rattle.std.proofs.Common.{Ok}
use Rattle.std.proofs.lemmas.Result.{err_from_is_err_and}
use Rattle.host_program.proofs.GivenLemmas.{line_read, long_read}
use Rattle.host_program.proofs.LineLemmas.{line_goes-overlong, overlong-line}
use Rattle.host_program.proofs.TellLemmas.{unanswered-none}
use Rattle.host_program.proofs.running.answer_next.Goals as goal

pub returns-in_err-print-in-TooLong-clause-answers : goal.returns-in_err-print-in-TooLong-clause-answers
returns-in_err-print-in-TooLong-clause-answers g c =
    let p = err_from_is_err_and c.from_residual-in_err-print-in-TooLong.result c.from_residual-in_err-print-in-TooLong.ensures.1 in
    rw (p.1, p.2) (record {
      next = Ok c.in_ok-next.field-0;
      reads = c.in_ok-next.ensures.reads;
      comes = record { out = c.in_err-print-in-TooLong.ensures.err; left = unanswered-none _ };
    })

pub returns-in_ok-perform_line-in-Line-clause-answers : goal.returns-in_ok-perform_line-in-Line-clause-answers
returns-in_ok-perform_line-in-Line-clause-answers g c = record {
  next = Ok c.in_ok-next.field-0;
  reads = c.in_ok-next.ensures.reads;
  comes = record {
    line = c.line.result.now;
    first = line_read _ _ _ _ _ c.in_ok-next.ensures.reads c.in-Line.is c.line.result.now c.line.ensures;
    goes = c.in_ok-perform_line-in-Line.ensures.goes;
  };
}

pub returns-in_ok-print-in-TooLong-clause-answers : goal.returns-in_ok-print-in-TooLong-clause-answers
returns-in_ok-print-in-TooLong-clause-answers g c =
    let long = long_read _ _ _ _ _ c.in_ok-next.ensures.reads c.in-TooLong.is in
    record {
      next = Ok c.in_ok-next.field-0;
      reads = c.in_ok-next.ensures.reads;
      comes = record {
        line = long.line;
        first = long.first;
        goes = λ h stands. line_goes-overlong h _ _ _ _ _ (overlong-line long.line long.long) stands c.in_ok-print-in-TooLong.ensures.ok;
      };
    }
