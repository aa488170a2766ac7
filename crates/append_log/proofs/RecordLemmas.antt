-- A number at the start of a line.
use Rattle.std.proofs.Common.{◌≡◌, ℕ, ◌+◌, ◌*◌, ◌<◌, ◌^◌, List, ◌++◌, get_or, refl, ◌∙◌}
use Rattle.std.specs.Int.{byte_at, to_le_bytes, w64}
use Rattle.line_device.specs.Word.{word_at}
use Rattle.line_device.proofs.WordLemmas.{below_eight, word_from-byte_at, word_from-cong}

pub count-spelled : (v : ℕ) (rest : List ℕ) → v < 2 ^ 64 → word_at (to_le_bytes w64 v ++ rest) 0 ≡ v
count-spelled v rest small =
    word_from-cong _ (λ k. byte_at k v) (below_eight (λ k. get_or (to_le_bytes w64 v ++ rest) (8 * 0 + k) 0 ≡ byte_at k v) refl refl refl refl refl refl refl refl)
    ∙ word_from-byte_at v small
