use Rattle.std.proofs.Common.{◌≡◌, ◌+◌, ◌-◌, sym, ◌∙◌, ap, arith}
use Rattle.std.specs.Prelude.{slice_get}
use Rattle.line_module.specs.Memory.{with_back}
use Rattle.line_module.specs.Cells.{memory_in}
use Rattle.line_module.proofs.OrderLemmas.{has_first}
use Rattle.line_module.proofs.WayLemmas.{listed-within, listed-good, memory_after_evict-none, memory_after_evict-one}
use Rattle.line_module.proofs.cells.Cells.evict.Goals as goal

pub write_back-requires-clause-within : goal.write_back-requires-clause-within
write_back-requires-clause-within c =
    let s = c.loop.self in listed-within s.durable s.cached s.states.items s.order c.in-Some.line s.kept (has_first c.in-Some.line s.order (sym c.first.ensures ∙ c.in-Some.is))

pub write_back-requires-clause-good : goal.write_back-requires-clause-good
write_back-requires-clause-good c =
    let s = c.loop.self in listed-good s.durable s.cached s.states.items s.order c.in-Some.line s.kept (has_first c.in-Some.line s.order (sym c.first.ensures ∙ c.in-Some.is))

pub returns-in-None : goal.returns-in-None
returns-in-None c = sym (memory_after_evict-none (memory_in c.loop.self) (c.args.lines - c.loop.counter) (sym c.first.ensures ∙ c.in-None.is)) ∙ c.loop.invariant

pub loop-preserved : goal.loop-preserved
loop-preserved c =
    let s = memory_in c.loop.self in
    let t = memory_in c.write_back.new.self in
    let step : with_back s (slice_get s.order 0) ≡ t = ap (with_back s) (sym c.first.ensures ∙ c.in-Some.is) ∙ sym c.write_back.ensures in
    memory_after_evict-one s t (c.args.lines - c.loop.counter) (c.args.lines - (c.loop.counter + 1)) (omega arith) step ∙ c.loop.invariant
