-- The marks of the metadata stay.
use Rattle.std.proofs.Common.{ℕ, refl, ◌∙◌, arith}
use Rattle.line_device.specs.Medium.{Medium}
use Rattle.line_words.specs.Words.{WritesBackOutside}
use Rattle.word_tables.specs.declared.geometry.Geometry.{Geometry}
use Rattle.word_tables.specs.Bounds.{IsValid}
use Rattle.word_tables.specs.Layout.{IsVolumeLine}
use Rattle.page_lines.specs.Turns.{WritesBackOthers}
use Rattle.pm_volume.specs.Object.{KeepsMarks}
use Rattle.pm_volume.proofs.PlaceLemmas.{volume_behind_metadata}

pub marks-refl : (geo : Geometry) (m : Medium) → KeepsMarks geo m m
marks-refl geo m n below = refl

pub marks-trans : (geo : Geometry) (a b c : Medium) → KeepsMarks geo a b → KeepsMarks geo b c → KeepsMarks geo a c
marks-trans geo a b c x y n below = y n below ∙ x n below

-- words alone change
pub marks-outside : (geo : Geometry) (inside : ℕ → Type 0) (old new : Medium) → WritesBackOutside inside old new → KeepsMarks geo old new
marks-outside geo inside old new x n below = x.bad n

-- lines of pages alone are worked on
pub marks-others : (geo : Geometry) (old new : Medium) (lines : ℕ → Type 0) → IsValid geo → ((n : ℕ) → lines n → IsVolumeLine geo n) → WritesBackOthers lines old new → KeepsMarks geo old new
marks-others geo old new lines valid are x n below =
    x.bad n (λ is. let from = (volume_behind_metadata geo valid n (are n is)).0 in absurd (omega (arith, from, below)))
