-- Lines of a stretch lie where those of the storage do.
use Rattle.std.proofs.Common.{◌≡◌, ℕ, ◌+◌, ◌-◌, ◌<◌, ◌≤◌, Bool, true, Option, Some, None, option_map, if◌then◌else◌, sym, ap, ap₂, subst, ◌∙◌, inl, inr, arith}
use Rattle.std.proofs.lemmas.Bool.{and_from, and_parts, cases_Bool, le-leb, leb-true, lt-ltb, ltb-true}
use Rattle.std.proofs.lemmas.Option.{none-some}
use Rattle.line_device.specs.Medium.{Medium}
use Rattle.page_lines.specs.declared.stretch.Stretch.{Stretch}
use Rattle.page_lines.specs.Placed.{AreApart}
use Rattle.page_lines.specs.Stretches.{IsStretchOf, has_line, stretch_place}
use Rattle.page_lines.specs.Turns.{WritesBackOthers}

-- a stretch of so many lines from one on
module _ (s : Stretch) (start len : ℕ) (starts : s.start ≡ start) (long : s.len ≡ len) (n : ℕ) where
  pub line_within : start ≤ n → n < start + len → has_line s n ≡ true
  line_within from below = and_from _ _ (le-leb s.start n (omega (arith, starts, from))) (lt-ltb (n - s.start) s.len (omega (arith, starts, long, from, below)))

  pub within_line : has_line s n ≡ true → (start ≤ n) × (n < start + len)
  within_line is =
      let parts = and_parts _ _ is in
      let low = leb-true s.start n parts.0 in
      let high = ltb-true (n - s.start) s.len parts.1 in
      (omega (arith, starts, low), omega (arith, starts, long, low, high))

  -- of which the first lies there, or nowhere
  pub line_along : (line : Option ℕ) → s.line ≡ line → has_line s n ≡ true → stretch_place s n ≡ option_map (λ l. l + (n - start)) line
  line_along line lies is =
      ap (λ (b : Bool). if b then option_map (λ (l : ℕ). l + (n - s.start)) s.line else None) is
      ∙ ap₂ (λ (first : ℕ) (at : Option ℕ). option_map (λ (l : ℕ). l + (n - first)) at) starts lies

module _ (place : ℕ → Option ℕ) (s : Stretch) (along : IsStretchOf place s) where
  pub placed_along : (n line : ℕ) → stretch_place s n ≡ Some line → place n ≡ Some line
  placed_along n line at =
      elim (cases_Bool (has_line s n)) as (λ _. place n ≡ Some line) [
        | inl inside ↦ sym (along n inside) ∙ at
        | inr outside ↦
            let nowhere = ap (λ (b : Bool). if b then option_map (λ (l : ℕ). l + (n - s.start)) s.line else None) outside in
            absurd (none-some line (sym nowhere ∙ at))
      ]

  -- on a device that has as many lines as before
  pub apart_along : (old new : ℕ) → new ≡ old → AreApart place old → AreApart (stretch_place s) new
  apart_along old new same apart = record {
    on = λ n line at. subst (λ (count : ℕ). line < count) (sym same) (apart.on n line (placed_along n line at));
    once = λ n other line one two. apart.once n other line (placed_along n line one) (placed_along other line two);
  }

-- the others of a line that lies there
pub others_along : (at there : Option ℕ) (a b : Medium) → at ≡ there → WritesBackOthers (λ line. at ≡ Some line) a b → WritesBackOthers (λ line. there ≡ Some line) a b
others_along at there a b same x = subst (λ (o : Option ℕ). WritesBackOthers (λ line. o ≡ Some line) a b) same x
