use Rattle.std.proofs.Common.{◌≡◌, inl, inr, ◌<◌, ℕ, true, false, length, sym, ◌∙◌, ap, subst, arith}
use Rattle.std.specs.Prelude.{Some, slice_get}
use Rattle.line_module.specs.Memory.{Memory, has, without, in_the_way}
use Rattle.line_module.specs.Held.{is_bare}
use Rattle.line_module.specs.Cells.{cells_medium, memory_in}
use Rattle.line_module.specs.declared.cells.Cells.{Cells}
use Rattle.line_module.proofs.OrderLemmas.{has_first}
use Rattle.line_module.proofs.WayLemmas.{in_the_way-is, in_the_way-none, shorter_by_one, full-listed, listed-within, listed-good}
use Rattle.line_module.proofs.cells.Cells.make_way.Goals as goal

other_is : (s : Cells) (line at len other : ℕ) → in_the_way (memory_in s) line at len ≡ Some other → line < length s.durable → is_bare (slice_get s.durable line) ≡ false → (other < length s.durable) × (is_bare (slice_get s.durable other) ≡ false)
other_is s line at len other is within good =
    elim (in_the_way-is (memory_in s) line at len other is) as (λ _. (other < length s.durable) × (is_bare (slice_get s.durable other) ≡ false)) [
      | inl same ↦ (subst (λ n. n < length s.durable) (sym same.0) within, ap (λ n. is_bare (slice_get s.durable n)) same.0 ∙ good)
      | inr oldest ↦
          let there = has_first other s.order oldest in
          (listed-within s.durable s.cached s.states.items s.order other s.kept there, listed-good s.durable s.cached s.states.items s.order other s.kept there)
    ]

pub write_back-requires-clause-within : goal.write_back-requires-clause-within
write_back-requires-clause-within c = (other_is c.args.self.now c.args.line.0 c.args.at c.args.len c.in-Some.other (sym c.in_the_way.ensures.line ∙ c.in-Some.is) c.requires.within c.requires.good).0

pub write_back-requires-clause-good : goal.write_back-requires-clause-good
write_back-requires-clause-good c = (other_is c.args.self.now c.args.line.0 c.args.at c.args.len c.in-Some.other (sym c.in_the_way.ensures.line ∙ c.in-Some.is) c.requires.within c.requires.good).1

pub returns-in-Some-clause-good : goal.returns-in-Some-clause-good
returns-in-Some-clause-good c =
    let good : (cells_medium c.write_back.new.self).is_bad c.args.line.0 ≡ (cells_medium c.args.self.now).is_bad c.args.line.0 = ap (λ (m : Memory). m.medium.is_bad c.args.line.0) c.write_back.ensures in
    good ∙ c.requires.good

pub returns-in-Some-clause-room : goal.returns-in-Some-clause-room
returns-in-Some-clause-room c strong new =
    let s = c.args.self.now in
    let line = c.args.line.0 in
    let other = c.in-Some.other in
    let order : c.write_back.new.self.order ≡ without other s.order = ap (λ (m : Memory). m.order) c.write_back.ensures in
    let weak : (cells_medium s).is_weak line ≡ false = sym (ap (λ (m : Memory). m.medium.is_weak line) c.write_back.ensures) ∙ strong in
    let there : has other s.order ≡ true =
    elim (in_the_way-is (memory_in s) line c.args.at c.args.len other (sym c.in_the_way.ensures.line ∙ c.in-Some.is)) as (λ _. has other s.order ≡ true) [
      | inl same ↦ ap (λ n. has n s.order) same.0 ∙ full-listed s.durable s.cached s.states.items s.order line c.args.at c.args.len s.kept c.requires.within c.requires.good weak same.1
      | inr oldest ↦ has_first other s.order oldest
    ] in
    omega (arith, ap length order, shorter_by_one other s.order there, c.in_the_way.ensures.few)

pub returns-in_default-clause-room : goal.returns-in_default-clause-room
returns-in_default-clause-room c strong new = in_the_way-none (memory_in c.args.self.now) c.args.line.0 c.args.at c.args.len (sym c.in_the_way.ensures.line ∙ c.in_default.is) strong new c.in_the_way.ensures.few
