-- Lines of storage that are apart.
use Rattle.std.proofs.Common.{◌≡◌, ℕ, ◌+◌, ◌*◌, ◌/◌, ◌%◌, ◌<◌, ◌≤◌, Bool, true, false, Option, Some, None, option_map, if◌then◌else◌, refl, sym, ap, subst, ◌∙◌, arith}
use Rattle.line_device.specs.Medium.{Medium}
use Rattle.page_lines.specs.Placed.{AreApart}
use Rattle.page_lines.specs.Turns.{WritesBackOthers}

present_is : (there : Bool) (x line : ℕ) → (if there then Some x else None) ≡ Some line → (there ≡ true) × (x ≡ line)
present_is true x line at = (refl, cc)
present_is false x line at = cc

-- lines some of which are there, at places that are apart
pub apart-present : (there : ℕ → Bool) (at : ℕ → ℕ) (count : ℕ) → ((n : ℕ) → there n ≡ true → at n < count)
    → ((n other : ℕ) → there n ≡ true → there other ≡ true → at n ≡ at other → n ≡ other) → AreApart (λ n. if there n then Some (at n) else None) count
apart-present there at count on once = record {
  on = λ n line is.
      let p = present_is (there n) (at n) line is in
      subst (λ l. l < count) p.1 (on n p.0);
  once = λ n other line one two.
      let p = present_is (there n) (at n) line one in
      let q = present_is (there other) (at other) line two in
      once n other p.0 q.0 (p.1 ∙ sym q.1);
}

frame_is : (page : Option ℕ) (i line : ℕ) → option_map (λ frame. 64 * frame + i) page ≡ Some line → (frame : ℕ) × (page ≡ Some frame) × (64 * frame + i ≡ line)
frame_is None i line at = cc
frame_is (Some frame) i line at = (frame, refl, cc)

-- lines of pages, each at a frame of 64 lines or nowhere, no two at the same frame
pub apart-pages : (frame_of : ℕ → Option ℕ) (count : ℕ) → ((i frame : ℕ) → frame_of i ≡ Some frame → 64 * frame + 64 ≤ count)
    → ((i other frame : ℕ) → frame_of i ≡ Some frame → frame_of other ≡ Some frame → i ≡ other)
    → AreApart (λ n. option_map (λ frame. 64 * frame + n % 64) (frame_of (n / 64))) count
apart-pages frame_of count on once = record {
  on = λ n line at.
      let p = frame_is (frame_of (n / 64)) (n % 64) line at in
      omega (arith, on (n / 64) p.0 p.1, p.2);
  once = λ n other line one two.
      let p = frame_is (frame_of (n / 64)) (n % 64) line one in
      let q = frame_is (frame_of (other / 64)) (other % 64) line two in
      let same : q.0 ≡ p.0 = omega (arith, p.2, q.2) in
      let page = once (n / 64) (other / 64) p.0 p.1 (q.1 ∙ ap (λ f. Some f) same) in
      omega (arith, page, p.2, q.2, same);
}

-- lines stay apart on a device of as many lines
pub apart-others : (place : ℕ → Option ℕ) (lines : ℕ → Type 0) (a b : Medium) → WritesBackOthers lines a b → AreApart place a.count → AreApart place b.count
apart-others place lines a b x apart = subst (AreApart place) (sym x.count) apart
