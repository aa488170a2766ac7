-- Words of printed text.
use Rattle.std.proofs.Common.{◌≡◌, ℕ, ◌<◌, Bool, true, List, [], ◌∷◌, ◌++◌, length, filter, nat_lt, refl, ap, ◌∙◌}
use Rattle.std.specs.List.{slice_split}
use Rattle.nvm_base.proofs.SplitLemmas.{has_none, split-alone, split-before}
use Rattle.script_text.specs.Script.{is_blank, words_of}
use Rattle.script_text.proofs.WordLemmas.{full as kept}

-- text without blanks
abbrev pub is_word : List ℕ → Bool
is_word text = has_none is_blank text

-- a word alone, and one before a space
pub words_of-alone : (word : List ℕ) → is_word word ≡ true → 0 < length word → words_of word ≡ word ∷ []
unfolding words_of
words_of-alone word solid some = ap (filter (λ w. nat_lt 0 (length w))) (split-alone is_blank word solid) ∙ kept word [] some

pub words_of-before : (word rest : List ℕ) → is_word word ≡ true → 0 < length word → words_of (word ++ 32 ∷ rest) ≡ word ∷ words_of rest
unfolding words_of
words_of-before word rest solid some =
    ap (filter (λ w. nat_lt 0 (length w))) (split-before is_blank word 32 rest solid refl) ∙ kept word (slice_split is_blank rest) some
