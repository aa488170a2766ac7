-- The lines of an image's bytes have bytes.
use Rattle.std.proofs.Common.{◌≡◌, ℕ, zero, suc, List, [], ◌∷◌, ◌++◌, take, drop, take-append-drop, sym, subst, arith}
use Rattle.std.specs.List.{flat_map, AllByRecursion}
use Rattle.line_device.specs.declared.line.LineState.{LineState}
use Rattle.line_device.specs.declared.line.LineState.TheVariants.{Healthy, Weak, Bad}
use Rattle.image_file.specs.Text.{AreFileBytes, IsOfBytes, line_text}

bytes-front : (xs ys : List ℕ) → AreFileBytes (xs ++ ys) → AreFileBytes xs
bytes-front [] ys small i = omega arith
bytes-front (x ∷ xs) ys small zero = small 0
bytes-front (x ∷ xs) ys small (suc i) = bytes-front xs ys (λ k. small (suc k)) i

bytes-back : (xs ys : List ℕ) → AreFileBytes (xs ++ ys) → AreFileBytes ys
bytes-back [] ys small i = small i
bytes-back (x ∷ xs) ys small i = bytes-back xs ys (λ k. small (suc k)) i

line_bytes : (line : LineState) → AreFileBytes (line_text line) → IsOfBytes line
line_bytes (Healthy bytes) small = λ i. small (suc i)
line_bytes (Weak bytes) small = λ i. small (suc i)
line_bytes Bad small = tt

lines_bytes : (lines : List LineState) → AreFileBytes (flat_map line_text lines) → AllByRecursion IsOfBytes lines
lines_bytes [] small = tt
lines_bytes (line ∷ lines) small =
    (line_bytes line (bytes-front (line_text line) (flat_map line_text lines) small), lines_bytes lines (bytes-back (line_text line) (flat_map line_text lines) small))

-- the lines that stand behind some bytes
pub bytes_behind : (n : ℕ) (bytes : List ℕ) (lines : List LineState) → AreFileBytes bytes → drop n bytes ≡ flat_map line_text lines → AllByRecursion IsOfBytes lines
bytes_behind n bytes lines small is =
    lines_bytes lines (subst AreFileBytes is (bytes-back (take n bytes) (drop n bytes) (subst AreFileBytes (sym (take-append-drop n bytes)) small)))
