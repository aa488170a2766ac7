-- Bytes at the head of the work buffer.
use Rattle.std.proofs.Common.{◌≡◌, ◌+◌, ◌*◌, ◌≤◌, ◌++◌, ◌∙◌, ℕ, List, length, take, sym, ap, arith, length-append, length-take}
use Rattle.std.proofs.Math.Seq.{take-append_seam}
use Rattle.reply_text.specs.Answer.Answer.{Bytes}
use Rattle.reply_text.specs.Room.{most_of}

-- so many of a buffer that is this wide
pub head_length : (n : ℕ) (work : List ℕ) → length work ≡ 65536 → n ≤ 65536 → length (take n work) ≡ n
head_length n work wide few = omega (arith, length-take n work, wide, few)

-- what was written there is what stands there
pub head_is : (n : ℕ) (out rest : List ℕ) → length out ≡ n → take n (out ++ rest) ≡ out
head_is n out rest long = ap (λ m. take m (out ++ rest)) (sym long) ∙ take-append_seam out rest

pub head_within : (n : ℕ) (out rest : List ℕ) → length out ≡ n → n ≤ length (out ++ rest)
head_within n out rest long = omega (arith, length-append out rest, long)

-- the line of so many bytes is this short
pub head_short : (n : ℕ) (out rest : List ℕ) → length out ≡ n → most_of (Bytes (take n (out ++ rest))) ≤ 72 + 3 * n
head_short n out rest long = let is : length (take n (out ++ rest)) ≡ n = ap length (head_is n out rest long) ∙ long in omega (arith, is)
