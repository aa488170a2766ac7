use Rattle.outcome_lists.specs.AskedReads.Program.{inputs_of_lines}
use Rattle.outcome_lists.specs.CutPlaces.Places.{found_stop}
use Rattle.image_file.specs.Text.{snapshot_of}
use Rattle.program_base.specs.Opening.{opened}
use Rattle.explore_program.specs.Showing.{begun_at}
use Rattle.explore_program.proofs.AnswerLemmas.{Goes}
use Rattle.explore_program.proofs.answering.answer_all.Given as goal

abbrev pub invariant-loop-asking : goal.invariant-loop-asking
invariant-loop-asking g l = Goes (opened (snapshot_of l.image)).geometry l.exploration.reads.items (found_stop (begun_at (opened (snapshot_of l.image)) (inputs_of_lines l.exploration.first.items)) (inputs_of_lines l.exploration.program.items)) l.exploration.questions.items l.asking-index l.missed
    (g.K.Sink.written l.fn.answers) (g.K.Sink.written l.answers) (g.K.Sink.count l.fn.answers) (g.K.Sink.count l.answers) (g.D.Lines.state l.fn.device).panel (g.D.Lines.state l.device).panel
