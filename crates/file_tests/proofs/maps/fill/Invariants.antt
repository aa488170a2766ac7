use Rattle.file_pages.specs.Object.{PagesServe}
use Rattle.file_tests.proofs.maps.fill.Given as goal

abbrev pub invariant-loop-k : goal.invariant-loop-k
invariant-loop-k g l = PagesServe l.files (g.L.Lines.state l.dev).medium
