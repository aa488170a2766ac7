use Rattle.std.proofs.Common.{◌≤◌, Ok}
use Rattle.line_words.specs.Words.{WritesBackOutside}
use Rattle.word_log.specs.Area.{IsOf}
use Rattle.pm_volume.specs.Area.{volume_area}
use Rattle.pm_volume.proofs.DiscardLemmas.{DiscardsUpTo}
use Rattle.pm_volume.proofs.Volume.discard_apart.Given as goal

abbrev pub invariant-loop-page : goal.invariant-loop-page
invariant-loop-page g l = record {
  from : l.fn.pages.start ≤ l.page;
  works : DiscardsUpTo l.initial.self l.self (g.L.Lines.state l.initial.dev) (g.L.Lines.state l.dev) (Ok tt) l.fn.pages.start l.fn.pages.len l.page;
  outside : WritesBackOutside (IsOf (volume_area l.initial.self.geo)) (g.L.Lines.state l.initial.dev).medium (g.L.Lines.state l.dev).medium;
}
